-- An option with bounds: each use that passes leaves a number within them.
use Rattle.std.proofs.Common.{◌≡◌, ◌∙◌, ◌≤◌, ◌<◌, ◌^◌, ◌||◌, ◌++◌, length, ℕ, Bool, cond, true, false, refl, sym, ap, ap₂, List, [], ◌∷◌, Option, Some, None, true≢false}
use Rattle.std.specs.Prelude.{find, option_map, option_and_then, slice_get, pos}
use Rattle.std.specs.Option.{option_map_or}
use Rattle.std.specs.Str.{bytes_eq}
use Rattle.clap.specs.Values.{Accepts, read_as, refused_kind}
use Rattle.clap.specs.ValueTests.{accepts}
use Rattle.clap.specs.Walk.{Row, Rule, Text, has_row, more_values, one_of, row_text, used, values_or_missing, with_default, with_values, without}
use Rattle.clap.specs.Simple.{filled, new_rule}
use Rattle.clap.specs.Kinds.{range_kinds, value_kinds}
use Rattle.clap.specs.Faults.{repeat_fault, use_fault}
use Rattle.clap.specs.declared.builder.value_parser.Reading.{Reading}
use Rattle.clap.specs.declared.builder.value_parser.Reading.TheVariants as reading
use Rattle.clap.specs.declared.builder.value_parser.ValueParser.TheVariants as parser
use Rattle.clap.specs.declared.parser.matches.ValueSource.{ValueSource}
use Rattle.clap.specs.declared.parser.matches.ValueSource.TheVariants.{CommandLine, DefaultValue}
use Rattle.clap.proofs.ValueTestLemmas.{accepts-Accepts}
use Rattle.lab_words.specs.Words.{number_in}
use Rattle.lab_words.proofs.Faultless.{neither, not_none}
use Rattle.lab_words.proofs.Numbers.{number_within}

-- the built rule of an option with bounds
abbrev pub bounded : Text → ℕ → ℕ → Text → Rule
bounded id low high default = filled (record (new_rule id) {
  long = Some id;
  parser = Some (parser.Signed (pos low) (pos high));
  defaults = default ∷ [];
})

module _ (id : Text) (low high : ℕ) where
  -- the first value passed the bounds
  abbrev FirstPasses : Reading → List Text → Type 0
  FirstPasses how values = (v : Text) × (slice_get values 0 ≡ Some v) × (how ≡ reading.WithoutMinus) × Accepts false (parser.Signed (pos low) (pos high)) v

  -- the rows of the option have such a value
  abbrev pub IsBounded : List Row → Type 0
  IsBounded [] = Unit
  IsBounded (r ∷ rs) = (bytes_eq r.id id ≡ true → FirstPasses r.reading r.values) × IsBounded rs

  without_bounded : (key : Text) (rows : List Row) → IsBounded rows → IsBounded (without key rows)
  without_bounded key [] ok = tt
  without_bounded key (r ∷ rs) ok = go (bytes_eq r.id key) (without_bounded key rs ok.1)
    where
      go : (b : Bool) → IsBounded (without key rs) → IsBounded (cond b rs (r ∷ without key rs))
      go true rest = ok.1
      go false rest = (ok.0, rest)

  still_first : (v : Text) (old new : List Text) → slice_get old 0 ≡ Some v → slice_get (old ++ new) 0 ≡ Some v
  still_first v [] new e = let bad : None ≡ Some v = e in cc
  still_first v (x ∷ xs) new e = e

  values_bounded : (key : Text) (how : Reading) (source : ValueSource) (values : List Text) (rows : List Row)
      → (bytes_eq key id ≡ true → FirstPasses how values) → IsBounded rows → IsBounded (with_values key how source values rows)
  values_bounded key how source values [] new ok = (new, tt)
  values_bounded key how source values (r ∷ rs) new ok = go (bytes_eq r.id key) (values_bounded key how source values rs new ok.1)
    where
      more : FirstPasses r.reading r.values → FirstPasses r.reading (r.values ++ values)
      more first = (first.0, still_first first.0 r.values values first.1, first.2, first.3)

      go : (b : Bool) → IsBounded (with_values key how source values rs)
          → IsBounded (cond b (more_values source values r ++ rs) (r ∷ with_values key how source values rs))
      go true rest = ((λ same. more (ok.0 same)), ok.1)
      go false rest = (ok.0, rest)

  -- a use of another argument
  pub other_used : (key : Text) (how : Reading) (values : List Text) (rows : List Row) → bytes_eq key id ≡ false → IsBounded rows
      → IsBounded (with_values key how CommandLine values (without key rows))
  other_used key how values rows other ok =
      values_bounded key how CommandLine values (without key rows) (λ same. absurd (true≢false (sym same ∙ other))) (without_bounded key rows ok)

  accepted : (text : Text) → value_kinds false (parser.Signed (pos low) (pos high)) text ≡ [] → Accepts false (parser.Signed (pos low) (pos high)) text
  accepted text e = accepts-Accepts false (parser.Signed (pos low) (pos high)) text (go (accepts false (parser.Signed (pos low) (pos high)) text) e)
    where
      go : (b : Bool) → cond b [] (refused_kind (parser.Signed (pos low) (pos high)) ∷ []) ≡ [] → b ≡ true
      go true e = refl
      go false e = not_none _ _ e

  given : (default : Text) (values : List Text) (rows : List Row) → use_fault false (bounded id low high default) values rows ≡ []
      → FirstPasses reading.WithoutMinus (values_or_missing (bounded id low high default) values)
  given default [] rows e = not_none _ _ e
  given default (v ∷ vs) rows e =
      let counted = neither (range_kinds 1 1 (length (v ∷ vs))) _ e in
      let repeated = neither (repeat_fault false id rows) _ counted.1 in
      let first = neither (value_kinds false (parser.Signed (pos low) (pos high)) v) _ repeated.1 in
      (v, refl, refl, accepted v first.0)

  -- its own use
  pub own_used : (default : Text) (values : List Text) (rows : List Row) → use_fault false (bounded id low high default) values rows ≡ [] → IsBounded rows
      → IsBounded (used (bounded id low high default) values rows)
  own_used default values rows e ok =
      values_bounded id reading.WithoutMinus CommandLine (values_or_missing (bounded id low high default) values) (without id rows)
      (λ same. given default values rows e) (without_bounded id rows ok)

  -- ---- defaults

  pub other_default : (key : Text) (how : Reading) (values : List Text) (rows : List Row) → bytes_eq key id ≡ false → IsBounded rows
      → IsBounded (cond (has_row key rows) rows (with_values key how DefaultValue values rows))
  other_default key how values rows other ok = go (has_row key rows)
    where
      go : (b : Bool) → IsBounded (cond b rows (with_values key how DefaultValue values rows))
      go true = ok
      go false = values_bounded key how DefaultValue values rows (λ same. absurd (true≢false (sym same ∙ other))) ok

  pub own_default : (default : Text) (rows : List Row) → accepts false (parser.Signed (pos low) (pos high)) default ≡ true → IsBounded rows
      → IsBounded (with_default rows (bounded id low high default))
  own_default default rows passes ok = go (has_row id rows)
    where
      go : (b : Bool) → IsBounded (cond b rows (with_values id reading.WithoutMinus DefaultValue (default ∷ []) rows))
      go true = ok
      go false = values_bounded id reading.WithoutMinus DefaultValue (default ∷ []) rows
          (λ same. (default, refl, refl, accepts-Accepts false (parser.Signed (pos low) (pos high)) default passes)) ok

  has_new : bytes_eq id id ≡ true → (how : Reading) (source : ValueSource) (values : List Text) (rows : List Row) → has_row id (with_values id how source values rows) ≡ true
  has_new same how source values [] = rw same refl
  has_new same how source values (r ∷ rs) = go (bytes_eq r.id id) refl (has_new same how source values rs)
    where
      go : (b : Bool) → bytes_eq r.id id ≡ b → has_row id (with_values id how source values rs) ≡ true
          → has_row id (cond b (more_values source values r ++ rs) (r ∷ with_values id how source values rs)) ≡ true
      go true is rest = rw is refl
      go false is rest = rw is rest

  -- after its default the option has a row
  pub default_has : bytes_eq id id ≡ true → (default : Text) (rows : List Row) → has_row id (with_default rows (bounded id low high default)) ≡ true
  default_has same default rows = go (has_row id rows) refl
    where
      go : (b : Bool) → has_row id rows ≡ b → has_row id (cond b rows (with_values id reading.WithoutMinus DefaultValue (default ∷ []) rows)) ≡ true
      go true is = is
      go false is = has_new same reading.WithoutMinus DefaultValue (default ∷ []) rows

  has_more : (key : Text) (how : Reading) (source : ValueSource) (values : List Text) (rows : List Row) → has_row id rows ≡ true
      → has_row id (with_values key how source values rows) ≡ true
  has_more key how source values [] has = absurd (true≢false (sym has))
  has_more key how source values (r ∷ rs) has = go (bytes_eq r.id key) (λ e. has_more key how source values rs e)
    where
      later : (own : Bool) → (own || has_row id rs) ≡ true → (has_row id rs ≡ true → has_row id (with_values key how source values rs) ≡ true)
          → (own || has_row id (with_values key how source values rs)) ≡ true
      later true has rest = refl
      later false has rest = rest has

      go : (b : Bool) → (has_row id rs ≡ true → has_row id (with_values key how source values rs) ≡ true)
          → has_row id (cond b (more_values source values r ++ rs) (r ∷ with_values key how source values rs)) ≡ true
      go true rest = has
      go false rest = later (bytes_eq r.id id) has rest

  -- which another default keeps
  pub default_keeps : (key : Text) (how : Reading) (values : List Text) (rows : List Row) → has_row id rows ≡ true
      → has_row id (cond (has_row key rows) rows (with_values key how DefaultValue values rows)) ≡ true
  default_keeps key how values rows has = go (has_row key rows)
    where
      go : (b : Bool) → has_row id (cond b rows (with_values key how DefaultValue values rows)) ≡ true
      go true = has
      go false = has_more key how DefaultValue values rows has

  -- ---- what is read

  -- the row that is looked up
  found : (rows : List Row) → IsBounded rows → has_row id rows ≡ true
      → (r : Row) × (find (λ x. bytes_eq x.id id) rows ≡ Some r) × FirstPasses r.reading r.values
  found [] ok has = absurd (true≢false (sym has))
  found (r ∷ rs) ok has = go (bytes_eq r.id id) refl (λ e. found rs ok.1 e) has
    where
      go : (b : Bool) → bytes_eq r.id id ≡ b → (has_row id rs ≡ true → (x : Row) × (find (λ x. bytes_eq x.id id) rs ≡ Some x) × FirstPasses x.reading x.values)
          → (b || has_row id rs) ≡ true → (x : Row) × (cond b (Some r) (find (λ x. bytes_eq x.id id) rs) ≡ Some x) × FirstPasses x.reading x.values
      go true is rest has = (r, refl, ok.0 is)
      go false is rest has = rest has

  -- the number that is read lies within the bounds
  pub read_within : (rows : List Row) → high < 2 ^ 32 → IsBounded rows → has_row id rows ≡ true
      → (low ≤ option_map_or number_in (one_of id rows) 0) × (option_map_or number_in (one_of id rows) 0 ≤ high)
  read_within rows fits ok has =
      let at = found rows ok has in
      let text : one_of id rows ≡ Some (read_as reading.WithoutMinus at.2.0) =
      ap (option_and_then row_text) at.1 ∙ ap₂ (λ (how : Reading) (o : Option Text). option_map (read_as how) o) at.2.2 at.2.1 in
      rw text (number_within low high at.2.0 fits at.2.3)
