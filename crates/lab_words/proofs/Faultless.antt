-- Two lists of rules that use their arguments alike walk alike over words in which the first finds no fault: the
-- second finds none either, both hold the same rows, and what each use keeps of the rows holds at the end.
use Rattle.std.proofs.Common.{◌≡◌, ◌∙◌, ℕ, Bool, cond, true, false, zero, suc, refl, sym, ap, ap₂, List, [], ◌∷◌, length, drop, Option, Some, None, true≢false}
use Rattle.std.specs.Prelude.{fold, encode_utf8, slice_get, is_some}
use Rattle.std.specs.Option.{option_map_or}
use Rattle.std.specs.Str.{bytes_eq, chars}
use Rattle.clap.specs.Lexer.{long_of, short_of}
use Rattle.clap.specs.Walk.{Held, Names, Outcome, Row, Rule, Step, Text, Waiting, Walk, next, trailing, subcommand, value, done, waits, plain, refused, idle, option, positional}
use Rattle.clap.specs.Walk.{after_flag, after_step, arg_by_id, arg_by_index, arg_by_long, arg_by_short, bundle_met, bundle_step, finished, flag_met, long_met, long_or_other, nothing_held, option_met, option_word, plain_word, reacted, rows_after, settled, settled_rows, short_or_plain, subcommand_met, subcommand_or_other, takes_values, to_positional, used, walk, walk_from, walked, walked_from, with_default, word_met}
use Rattle.clap.specs.Simple.{Shape}
use Rattle.clap.specs.Kinds.{Kinds, or_else}
use Rattle.clap.specs.Faults.{bundle_fault, bundle_step_fault, check_fault, defaults_fault, flag_word_fault, flags_fault, level_fault, long_fault, option_fault, other_fault, positional_fault, react_fault, settle_fault, short_fault, step_fault, stray_fault, turn_fault, use_fault, walk_fault, word_fault}
use Rattle.clap.specs.declared.error.kind.ErrorKind.{ErrorKind}
use Rattle.clap.specs.declared.error.kind.ErrorKind.TheVariants.{TooManyValues}

abbrev is_nil : Kinds → Bool
is_nil [] = true
is_nil (k ∷ ks) = false

pub not_none : {A : Type 0} (k : ErrorKind) (ks : Kinds) → k ∷ ks ≡ [] → A
not_none k ks e = absurd (true≢false (sym (ap is_nil e)))

-- no fault in two steps is none in each
pub neither : (a b : Kinds) → or_else a b ≡ [] → (a ≡ []) × (b ≡ [])
neither [] b e = (refl, e)
neither (k ∷ ks) b e = not_none k ks e

-- the fault of using what is pending
abbrev pub pending_fault : Bool → List Rule → Option (Text × List Text) → List Row → Kinds
pending_fault again c p rows = option_map_or (λ p. option_map_or (λ a. use_fault again a p.1 rows) (arg_by_id c p.0) []) p []

-- the fault of giving a word to the positional
abbrev pub place_fault : Shape → List Rule → Walk → Held → Kinds
place_fault s c w h = option_map_or (λ a. positional_fault c s.args_override_self a h) (arg_by_index c w.position) (stray_fault s)

-- the rules d stand for those of s, and each use that has no fault keeps P
pub record StandsFor (s : Shape) (d : List Rule) (P : List Row → Type 0) : Type 0 where
  pub settles : (p : Option (Text × List Text)) (rows : List Row) → P rows → pending_fault s.args_override_self s.rules p rows ≡ []
      → (settled_rows d p rows ≡ settled_rows s.rules p rows) × (pending_fault s.args_override_self d p rows ≡ []) × P (settled_rows s.rules p rows)
  pub uses : (name : Text) (a : Rule) → arg_by_long s.rules name ≡ Some a
      → (vs : List Text) (rows : List Row) → P rows → use_fault s.args_override_self a vs rows ≡ [] → P (used a vs rows)
  pub long : (name : Text) → arg_by_long d name ≡ arg_by_long s.rules name
  pub short : (x : ℕ) → arg_by_short s.rules x ≡ None
  pub waits_for : (id word : Text) (h : Held) → option_word (arg_by_id d id) id word h ≡ option_word (arg_by_id s.rules id) id word h
  pub places : (word : Text) (w : Walk) (h : Held) → P h.rows → place_fault s s.rules w h ≡ []
      → (to_positional d (arg_by_index d w.position) word w h ≡ to_positional s.rules (arg_by_index s.rules w.position) word w h)
      × (place_fault s d w h ≡ []) × P (to_positional s.rules (arg_by_index s.rules w.position) word w h).held.rows
  pub defaults : (rows : List Row) → fold with_default rows d ≡ fold with_default rows s.rules
  pub default_faults : (rows : List Row) → defaults_fault rows d ≡ defaults_fault rows s.rules
  pub checks : (rows : List Row) (has : Bool) → check_fault (record s { rules = d }) rows has ≡ check_fault s rows has

module _ (s : Shape) (d : List Rule) (P : List Row → Type 0) (by : StandsFor s d P) where
  abbrev c : List Rule
  c = s.rules

  abbrev again : Bool
  again = s.args_override_self

  abbrev t : Shape
  t = record s { rules = d }

  -- d comes to r2 where the first rules come to r, and has no fault
  abbrev Alike : {X : Type 0} → (X → Held) → X → X → Kinds → Type 0
  Alike held r r2 fault = (r2 ≡ r) × (fault ≡ []) × P (held r).rows

  abbrev first : {X : Type 0} → Held × X → Held
  first r = r.0

  settled_alike : (h : Held) → P h.rows → settle_fault c again h ≡ [] → Alike (λ k. k) (settled c h) (settled d h) (settle_fault d again h)
  settled_alike h ok e =
      let settling = by.settles h.pending h.rows ok e in
      (ap (λ rows. record h { rows = rows; pending = None }) settling.0, settling.1, settling.2)

  reacted_alike : (name : Text) (a : Rule) → arg_by_long c name ≡ Some a → (vs : List Text) (h : Held) → P h.rows → react_fault c again a vs h ≡ []
      → Alike (λ k. k) (reacted c a vs h) (reacted d a vs h) (react_fault d again a vs h)
  reacted_alike name a is vs h ok e =
      let parts = neither (settle_fault c again h) (use_fault again a vs (settled c h).rows) e in
      let before = settled_alike h ok parts.0 in (
        ap (λ (k : Held). record h { rows = used a vs k.rows; pending = None }) before.0,
        ap₂ or_else before.1 (ap (λ (k : Held). use_fault again a vs k.rows) before.0 ∙ parts.1),
        by.uses name a is vs (settled c h).rows before.2 parts.1,
      )

  long_alike : (name : Text) (o : Option Rule) → arg_by_long c name ≡ o → (v : Option Text) (h : Held) → P h.rows → long_fault c again o v h ≡ []
      → Alike first (long_met c o v h) (long_met d o v h) (long_fault d again o v h)
  long_alike name None is v h ok e = not_none _ _ e
  long_alike name (Some a) is v h ok e = go (takes_values a) v e
    where
      go : (b : Bool) (v : Option Text)
          → cond b (option_fault c again a v h) (cond (is_some v) (TooManyValues ∷ []) (react_fault c again a [] h)) ≡ []
          → Alike first (cond b (option_met c a v h) (flag_met c a v h)) (cond b (option_met d a v h) (flag_met d a v h))
          (cond b (option_fault d again a v h) (cond (is_some v) (TooManyValues ∷ []) (react_fault d again a [] h)))
      go true None e =
          let r = settled_alike h ok e in
          (ap (λ (k : Held). (record k { pending = Some (a.id, []) }, waits a.id)) r.0, r.1, r.2)
      go true (Some x) e =
          let r = reacted_alike name a is (x ∷ []) h ok e in
          (ap (λ (k : Held). (k, done)) r.0, r.1, r.2)
      go false None e =
          let r = reacted_alike name a is [] h ok e in
          (ap (λ (k : Held). (k, done)) r.0, r.1, r.2)
      go false (Some x) e = not_none _ _ e

  -- no rule has a short name: a bundle without a fault is passed over
  bundle_alike : (k : ℕ) (flags : Text) (skip : ℕ) (so_far : Outcome) (h : Held) → P h.rows → flags_fault c again k flags skip h ≡ []
      → Alike first (bundle_met c k flags skip so_far h) (bundle_met d k flags skip so_far h) (flags_fault d again k flags skip h)
  unfolding bundle_met flags_fault
  bundle_alike zero flags skip so_far h ok e = (refl, refl, ok)
  bundle_alike (suc k) flags skip so_far h ok e = go (λ fl sk none. bundle_alike k fl sk so_far h ok none) (slice_get (chars flags) 0) skip e
    where
      go : ((fl : Text) (sk : ℕ) → flags_fault c again k fl sk h ≡ [] → Alike first (bundle_met c k fl sk so_far h) (bundle_met d k fl sk so_far h) (flags_fault d again k fl sk h))
          → (o : Option ℕ) (skip : ℕ) → bundle_step_fault c again o flags skip h (flags_fault c again k) ≡ []
          → Alike first (bundle_step c o flags skip so_far h (bundle_met c k)) (bundle_step d o flags skip so_far h (bundle_met d k)) (bundle_step_fault d again o flags skip h (flags_fault d again k))
      go rest None skip e = (refl, refl, ok)
      go rest (Some x) zero e =
          let left = drop (length (encode_utf8 x)) flags in
          not_none _ _ (ap (λ o. short_fault c again o left h (flags_fault c again k left 0)) (sym (by.short x)) ∙ e)
      go rest (Some x) (suc skip) e = rest (drop (length (encode_utf8 x)) flags) skip e

  plain_keeps : (waiting : Waiting) (word : Text) (h : Held) → P h.rows
      → (plain_word d waiting word h ≡ plain_word c waiting word h) × P (plain_word c waiting word h).0.rows
  plain_keeps idle word h ok = (refl, ok)
  plain_keeps positional word h ok = (refl, ok)
  plain_keeps (option id) word h ok =
      (ap (λ (r : Held × Waiting). (r.0, next r.1)) (by.waits_for id word h), go (arg_by_id c id))
    where
      go : (o : Option Rule) → P (option_word o id word h).0.rows
      go None = ok
      go (Some a) = ok

  after_flag_keeps : (waiting : Waiting) (word : Text) (r r2 : Held × Outcome) → r2 ≡ r → P r.0.rows
      → (after_flag d waiting word r2.0 r2.1 ≡ after_flag c waiting word r.0 r.1) × P (after_flag c waiting word r.0 r.1).0.rows
  after_flag_keeps waiting word r r2 same ok =
      let one = go r.1 in
      (ap (λ (x : Held × Outcome). after_flag d waiting word x.0 x.1) same ∙ one.0, one.1)
    where
      go : (o : Outcome) → (after_flag d waiting word r.0 o ≡ after_flag c waiting word r.0 o) × P (after_flag c waiting word r.0 o).0.rows
      go done = (refl, ok)
      go (waits id) = (refl, ok)
      go plain = plain_keeps waiting word r.0 ok
      go refused = plain_keeps waiting word r.0 ok

  flag_word_alike : (waiting : Waiting) (word : Text) (o : Option (Text × Option Text)) (h : Held) → P h.rows → flag_word_fault c again o word h ≡ []
      → Alike first (long_or_other c waiting word o h) (long_or_other d waiting word o h) (flag_word_fault d again o word h)
  flag_word_alike waiting word (Some p) h ok e =
      let met = long_alike p.0 (arg_by_long c p.0) refl p.1 h ok e in
      let after = after_flag_keeps waiting word (long_met c (arg_by_long c p.0) p.1 h) (long_met d (arg_by_long d p.0) p.1 h)
      (ap (λ o. long_met d o p.1 h) (by.long p.0) ∙ met.0) met.2 in
      (after.0, ap (λ o. long_fault d again o p.1 h) (by.long p.0) ∙ met.1, after.1)
  flag_word_alike waiting word None h ok e = go (short_of word) e
    where
      go : (o : Option Text) → option_map_or (λ flags. bundle_fault c again flags h) o [] ≡ []
          → Alike first (short_or_plain c waiting word o h) (short_or_plain d waiting word o h) (option_map_or (λ flags. bundle_fault d again flags h) o [])
      go None e =
          let r = plain_keeps waiting word h ok in
          (r.0, refl, r.1)
      go (Some flags) e =
          let met = bundle_alike (length flags) flags h.skip plain (record h { skip = 0 }) ok e in
          let after = after_flag_keeps waiting word _ _ met.0 met.2 in
          (after.0, met.1, after.1)

  word_alike : (names : Names) (is_trailing : Bool) (waiting : Waiting) (position : ℕ) (word : Text) (h : Held) → P h.rows → word_fault s names is_trailing waiting word h ≡ []
      → Alike first (word_met c names is_trailing waiting position word h) (word_met d names is_trailing waiting position word h) (word_fault t names is_trailing waiting word h)
  word_alike names true waiting position word h ok e = (refl, refl, ok)
  word_alike names false waiting position word h ok e = go (subcommand_met names waiting word) e
    where
      dashes : (b : Bool) → cond b [] (flag_word_fault c again (long_of word) word h) ≡ []
          → Alike first (cond b (h, trailing position) (long_or_other c waiting word (long_of word) h)) (cond b (h, trailing position) (long_or_other d waiting word (long_of word) h))
          (cond b [] (flag_word_fault d again (long_of word) word h))
      dashes true e = (refl, refl, ok)
      dashes false e = flag_word_alike waiting word (long_of word) h ok e

      go : (o : Option Text) → other_fault s o word h ≡ []
          → Alike first (subcommand_or_other c o waiting position word h) (subcommand_or_other d o waiting position word h) (other_fault t o word h)
      go (Some name) e = (refl, e, ok)
      go None e = dashes (bytes_eq word (45 ∷ 45 ∷ [])) e

  step_alike : (word : Text) (w : Walk) (h : Held) (x : Step) → P h.rows → step_fault s w.position h x ≡ []
      → Alike (λ (v : Walk). v.held) (after_step c word w h x) (after_step d word w h x) (step_fault t w.position h x)
  step_alike word w h (next waiting) ok e = (refl, refl, ok)
  step_alike word w h (trailing p) ok e = (refl, refl, ok)
  step_alike word w h (subcommand n) ok e = (refl, refl, ok)
  step_alike word w h value ok e = by.places word w h ok e

  turn_alike : (names : Names) (w : Walk) (word : Text) → P w.held.rows → turn_fault s names w word ≡ []
      → Alike (λ (v : Walk). v.held) (walked c names w word) (walked d names w word) (turn_fault t names w word)
  unfolding walked
  turn_alike names w word ok e = go w.stopped e
    where
      go : (o : Option (Text × List Text))
          → cond (is_some o) [] (or_else (word_fault s names w.is_trailing w.waiting word w.held) (step_fault s w.position (word_met c names w.is_trailing w.waiting w.position word w.held).0 (word_met c names w.is_trailing w.waiting w.position word w.held).1)) ≡ []
          → Alike (λ (v : Walk). v.held) (walked_from c names o w word) (walked_from d names o w word)
          (cond (is_some o) [] (or_else (word_fault t names w.is_trailing w.waiting word w.held) (step_fault t w.position (word_met d names w.is_trailing w.waiting w.position word w.held).0 (word_met d names w.is_trailing w.waiting w.position word w.held).1)))
      go (Some p) e = (refl, refl, ok)
      go None e =
          let r = word_met c names w.is_trailing w.waiting w.position word w.held in
          let parts = neither (word_fault s names w.is_trailing w.waiting word w.held) (step_fault s w.position r.0 r.1) e in
          let read = word_alike names w.is_trailing w.waiting w.position word w.held ok parts.0 in
          let after = step_alike word w r.0 r.1 read.2 parts.1 in (
            ap (λ (x : Held × Step). after_step d word w x.0 x.1) read.0 ∙ after.0,
            ap₂ or_else read.1 (ap (λ (x : Held × Step). step_fault t w.position x.0 x.1) read.0 ∙ after.1),
            after.2,
          )

  walk_alike : (names : Names) (w : Walk) (words : List Text) → P w.held.rows → walk_fault s names w words ≡ []
      → Alike (λ (v : Walk). v.held) (fold (walked c names) w words) (fold (walked d names) w words) (walk_fault t names w words)
  unfolding walk_fault
  walk_alike names w [] ok e = (refl, refl, ok)
  walk_alike names w (word ∷ rest) ok e =
      let parts = neither (turn_fault s names w word) (walk_fault s names (walked c names w word) rest) e in
      let turn = turn_alike names w word ok parts.0 in
      let later = walk_alike names (walked c names w word) rest turn.2 parts.1 in (
        ap (λ (v : Walk). fold (walked d names) v rest) turn.0 ∙ later.0,
        ap₂ or_else turn.1 (ap (λ (v : Walk). walk_fault t names v rest) turn.0 ∙ later.1),
        later.2,
      )

  -- all of it: no fault, the same rows, and these are the defaults after rows that have P
  pub level_alike : (names : Names) (words : List Text) → P [] → level_fault s names nothing_held words false [] ≡ []
      → (level_fault t names nothing_held words false [] ≡ []) × (rows_after d names words ≡ rows_after c names words)
      × (rows : List Row) × P rows × (rows_after c names words ≡ fold with_default rows c)
  level_alike names words ok e =
      let end = (walk c names nothing_held words).held in
      let after_walk = neither (walk_fault s names (walk_from nothing_held) words) _ e in
      let after_settling = neither (settle_fault c again end) _ after_walk.1 in
      let after_defaults = neither (defaults_fault (settled c end).rows c) _ after_settling.1 in
      let walks = walk_alike names (walk_from nothing_held) words ok after_walk.0 in
      let settling = settled_alike end walks.2 after_settling.0 in
      let end_is : (walk d names nothing_held words).held ≡ end = ap (λ (w : Walk). w.held) walks.0 in
      let settled_is : settled d (walk d names nothing_held words).held ≡ settled c end = ap (settled d) end_is ∙ settling.0 in
      let rows_are : rows_after d names words ≡ rows_after c names words =
      ap (λ (h : Held). fold with_default h.rows d) settled_is ∙ by.defaults (settled c end).rows in (
        ap₂ or_else walks.1 (ap₂ or_else (ap (settle_fault d again) end_is ∙ settling.1)
            (ap₂ or_else (ap (λ (h : Held). defaults_fault h.rows d) settled_is ∙ by.default_faults (settled c end).rows ∙ after_defaults.0)
            (ap (λ rows. check_fault t rows false) rows_are ∙ by.checks (finished c end) false ∙ after_defaults.1))),
        rows_are,
        (settled c end).rows,
        settling.2,
        refl,
      )
