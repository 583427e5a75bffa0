-- The command line reads words alike wherever the names of its modes stand, and its options stay in their bounds.
use Rattle.std.proofs.Common.{◌≡◌, ◌∙◌, ◌==◌, ◌&&◌, arith, Bool, cond, true, false, refl, sym, ap, ap₂, subst, List, [], ◌∷◌, map, length, codes, Option, Some, None}
use Rattle.std.specs.Prelude.{fold, unwrap_or}
use Rattle.std.specs.Borrow.{Bor}
use Rattle.std.specs.Option.{option_map_or}
use Rattle.std.specs.List.{list_any}
use Rattle.std.specs.Str.{bytes_eq}
use Rattle.clap.specs.Values.{refused_kind, same_text}
use Rattle.clap.specs.ValueTests.{accepts}
use Rattle.clap.specs.Walk.{Held, Row, Rule, Text, Walk, arg_by_id, arg_by_index, arg_by_long, has_row, is_pending, option_word, pushed, settled, settled_rows, takes_several, to_positional, used, used_by_id, values_or_missing, with_default}
use Rattle.clap.specs.Simple.{Shape, built, filled, with_index}
use Rattle.clap.specs.Kinds.{Kinds, or_else, range_kinds, values_kinds}
use Rattle.clap.specs.Faults.{defaults_fault, positional_fault, repeat_fault, settle_fault, stray_fault, use_fault}
use Rattle.clap.specs.declared.builder.value_parser.ValueParser.TheVariants as parser
use Rattle.clap.proofs.WalkLemmas.{list_any-map}
use Rattle.lab_words.specs.Command.{command_with, mode_rule, trace_rule}
use Rattle.lab_words.specs.Words.{IsInRange, asked_in}
use Rattle.lab_words.proofs.Faultless.{StandsFor, pending_fault, place_fault}
use Rattle.lab_words.proofs.Options.{IsBounded, bounded, default_has, default_keeps, other_default, other_used, own_default, own_used, read_within}

-- the built command line
abbrev pub top : Bor (List (Bor Text)) → Shape
top names = (built (command_with names)).top

-- its rules, in order
abbrev workers : Rule
workers = bounded (codes "workers") 1 64 (codes "2")

abbrev size : Rule
size = bounded (codes "size") 2 8 (codes "3")

abbrev trace : Rule
trace = filled trace_rule

abbrev mode : Bor (List (Bor Text)) → Rule
mode names = with_index 1 (filled (mode_rule names))

-- the rule that these tests pick
abbrev picked : Bor (List (Bor Text)) → Bool → Bool → Bool → Bool → Option Rule
picked names a b c d = cond a (Some workers) (cond b (Some size) (cond c (Some trace) (cond d (Some (mode names)) None)))

-- each row of an option has a number within its bounds
abbrev pub AreBounded : List Row → Type 0
AreBounded rows = IsBounded (codes "workers") 1 64 rows × IsBounded (codes "size") 2 8 rows

abbrev Keeps : Rule → Type 0
Keeps a = (values : List Text) (rows : List Row) → AreBounded rows → use_fault false a values rows ≡ [] → AreBounded (used a values rows)

workers_keep : Keeps workers
workers_keep values rows ok e = (
  own_used (codes "workers") 1 64 (codes "2") values rows e ok.0,
  other_used (codes "size") 2 8 (codes "workers") _ (values_or_missing workers values) rows refl ok.1,
)

size_keeps : Keeps size
size_keeps values rows ok e = (
  other_used (codes "workers") 1 64 (codes "size") _ (values_or_missing size values) rows refl ok.0,
  own_used (codes "size") 2 8 (codes "3") values rows e ok.1,
)

trace_keeps : Keeps trace
trace_keeps values rows ok e = (
  other_used (codes "workers") 1 64 (codes "trace") _ (values_or_missing trace values) rows refl ok.0,
  other_used (codes "size") 2 8 (codes "trace") _ (values_or_missing trace values) rows refl ok.1,
)

-- the same names at two places
module _ (names others : Bor (List (Bor Text))) (same : map (λ s. s.now) names.now ≡ map (λ s. s.now) others.now) where
  mode_keeps : Keeps (mode names)
  mode_keeps values rows ok e = (
    other_used (codes "workers") 1 64 (codes "mode") _ (values_or_missing (mode names) values) rows refl ok.0,
    other_used (codes "size") 2 8 (codes "mode") _ (values_or_missing (mode names) values) rows refl ok.1,
  )

  -- ---- a use of the mode

  accepts_alike : (text : Text) → accepts false (parser.Names others) text ≡ accepts false (parser.Names names) text
  accepts_alike text =
      list_any-map (λ (name : Text). same_text false name text) (λ (s : Bor Text). s.now) others.now
      ∙ ap (list_any (λ (name : Text). same_text false name text)) (sym same)
      ∙ sym (list_any-map (λ (name : Text). same_text false name text) (λ (s : Bor Text). s.now) names.now)

  values_alike : (values : List Text) → values_kinds false (parser.Names others) values ≡ values_kinds false (parser.Names names) values
  values_alike [] = refl
  values_alike (v ∷ vs) = ap₂ or_else (ap (λ (b : Bool). cond b [] (refused_kind (parser.Names names) ∷ [])) (accepts_alike v)) (values_alike vs)

  mode_fault : (values : List Text) (rows : List Row) → use_fault false (mode others) values rows ≡ use_fault false (mode names) values rows
  mode_fault [] rows = refl
  mode_fault (v ∷ vs) rows = ap (λ (k : Kinds). or_else (range_kinds 1 1 (length (v ∷ vs))) (or_else (repeat_fault false (codes "mode") rows) k)) (values_alike (v ∷ vs))

  mode_used : (values : List Text) (rows : List Row) → used (mode others) values rows ≡ used (mode names) values rows
  mode_used [] rows = refl
  mode_used (v ∷ vs) rows = refl

  -- ---- each step, by the rule that it picks

  settles : (p : Option (Text × List Text)) (rows : List Row) → AreBounded rows → pending_fault false (top names).rules p rows ≡ []
      → (settled_rows (top others).rules p rows ≡ settled_rows (top names).rules p rows) × (pending_fault false (top others).rules p rows ≡ []) × AreBounded (settled_rows (top names).rules p rows)
  settles None rows ok e = (refl, refl, ok)
  settles (Some p) rows ok e =
      go (bytes_eq (codes "workers") p.0) (bytes_eq (codes "size") p.0) (bytes_eq (codes "trace") p.0) (bytes_eq (codes "mode") p.0) e
    where
      go : (a b c d : Bool) → option_map_or (λ r. use_fault false r p.1 rows) (picked names a b c d) [] ≡ []
          → (used_by_id (picked others a b c d) p.1 rows ≡ used_by_id (picked names a b c d) p.1 rows)
          × (option_map_or (λ r. use_fault false r p.1 rows) (picked others a b c d) [] ≡ [])
          × AreBounded (used_by_id (picked names a b c d) p.1 rows)
      go true b c d e = (refl, e, workers_keep p.1 rows ok e)
      go false true c d e = (refl, e, size_keeps p.1 rows ok e)
      go false false true d e = (refl, e, trace_keeps p.1 rows ok e)
      go false false false true e = (mode_used p.1 rows, mode_fault p.1 rows ∙ e, mode_keeps p.1 rows ok e)
      go false false false false e = (refl, refl, ok)

  uses : (name : Text) (a : Rule) → arg_by_long (top names).rules name ≡ Some a → Keeps a
  uses name r is = go _ _ _ is
    where
      go : (a b c : Bool) → cond a (Some workers) (cond b (Some size) (cond c (Some trace) None)) ≡ Some r → Keeps r
      go true b c is = subst Keeps (ap (λ o. unwrap_or o r) is) workers_keep
      go false true c is = subst Keeps (ap (λ o. unwrap_or o r) is) size_keeps
      go false false true is = subst Keeps (ap (λ o. unwrap_or o r) is) trace_keeps
      go false false false is = let bad : None ≡ Some r = is in cc

  waits_for : (id word : Text) (h : Held) → option_word (arg_by_id (top others).rules id) id word h ≡ option_word (arg_by_id (top names).rules id) id word h
  waits_for id word h = go (bytes_eq (codes "workers") id) (bytes_eq (codes "size") id) (bytes_eq (codes "trace") id) (bytes_eq (codes "mode") id)
    where
      go : (a b c d : Bool) → option_word (picked others a b c d) id word h ≡ option_word (picked names a b c d) id word h
      go true b c d = refl
      go false true c d = refl
      go false false true d = refl
      go false false false true = refl
      go false false false false = refl

  -- what takes a word to the positional
  abbrev Takes : Option Rule → Option Rule → Text → Walk → Held → Type 0
  Takes o o2 word w h =
      (to_positional (top others).rules o2 word w h ≡ to_positional (top names).rules o word w h)
      × (option_map_or (λ a. positional_fault (top others).rules false a h) o2 (stray_fault (top names)) ≡ [])
      × AreBounded (to_positional (top names).rules o word w h).held.rows

  places : (word : Text) (w : Walk) (h : Held) → AreBounded h.rows → place_fault (top names) (top names).rules w h ≡ []
      → Takes (arg_by_index (top names).rules w.position) (arg_by_index (top others).rules w.position) word w h
  places word w h ok e = go (1 == w.position) e
    where
      held : (b : Bool) → cond b [] (settle_fault (top names).rules false h) ≡ []
          → (cond b h (settled (top others).rules h) ≡ cond b h (settled (top names).rules h))
          × (cond b [] (settle_fault (top others).rules false h) ≡ []) × AreBounded (cond b h (settled (top names).rules h)).rows
      held true e = (refl, refl, ok)
      held false e =
          let r = settles h.pending h.rows ok e in
          (ap (λ rows. record h { rows = rows; pending = None }) r.0, r.1, r.2)

      go : (b : Bool) → option_map_or (λ a. positional_fault (top names).rules false a h) (cond b (Some (mode names)) None) (stray_fault (top names)) ≡ []
          → Takes (cond b (Some (mode names)) None) (cond b (Some (mode others)) None) word w h
      go false e = (refl, e, ok)
      go true e =
          let r = held (is_pending (mode names) h.pending && takes_several (mode names)) e in
          (ap (λ (k : Held). record (to_positional (top names).rules (Some (mode names)) word w h) { held = pushed (codes "mode") word k }) r.0, r.1, r.2)

  default_faults : (rows : List Row) → defaults_fault rows (top others).rules ≡ defaults_fault rows (top names).rules
  unfolding defaults_fault
  default_faults rows = refl

  pub stands : StandsFor (top names) (top others).rules AreBounded
  stands = record {
    settles = settles;
    uses = uses;
    long = λ name. refl;
    short = λ x. refl;
    waits_for = waits_for;
    places = places;
    defaults = λ rows. refl;
    default_faults = default_faults;
    checks = λ rows has. refl;
  }

-- ---- after the defaults

unchanged : (b : Bool) (rows : List Row) → cond b rows rows ≡ rows
unchanged true rows = refl
unchanged false rows = refl

-- the numbers that are read lie within their bounds
pub within : (names : Bor (List (Bor Text))) (rows : List Row) → AreBounded rows → IsInRange (asked_in (fold with_default rows (top names).rules))
within names rows ok =
    let one : List Row = with_default rows workers in
    let two : List Row = with_default one size in
    let three : List Row = with_default two trace in
    let absent : List Text = codes "false" ∷ [] in
    let w = read_within (codes "workers") 1 64 three (omega arith)
    (other_default (codes "workers") 1 64 (codes "trace") _ absent two refl
    (other_default (codes "workers") 1 64 (codes "size") _ (codes "3" ∷ []) one refl (own_default (codes "workers") 1 64 (codes "2") rows refl ok.0)))
    (default_keeps (codes "workers") 1 64 (codes "trace") _ absent two
    (default_keeps (codes "workers") 1 64 (codes "size") _ (codes "3" ∷ []) one (default_has (codes "workers") 1 64 refl (codes "2") rows))) in
    let s = read_within (codes "size") 2 8 three (omega arith)
    (other_default (codes "size") 2 8 (codes "trace") _ absent two refl
    (own_default (codes "size") 2 8 (codes "3") one refl (other_default (codes "size") 2 8 (codes "workers") _ (codes "2" ∷ []) rows refl ok.1)))
    (default_keeps (codes "size") 2 8 (codes "trace") _ absent two (default_has (codes "size") 2 8 refl (codes "3") one)) in
    subst (λ all. IsInRange (asked_in all)) (sym (unchanged (has_row (codes "mode") three) three)) (w.0, w.1, s.0, s.1)
