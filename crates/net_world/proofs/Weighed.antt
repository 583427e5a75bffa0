-- The weight that a world keeps is that of its turns and settles.
use Rattle.std.proofs.Common.{◌≡◌, ℕ, ◌+◌, List, [], ◌∷◌, ◌++◌, nat_lt, inl, inr, refl, sym, ap, ◌∙◌, arith}
use Rattle.std.specs.Prelude.{sum_by}
use Rattle.std.proofs.lemmas.Bool.{cases_lt, lt-ltb, le-ltb}
use Rattle.std.proofs.lemmas.List.Sums.{sum_by_push}
use Rattle.or_base.specs.TurnDone.{TurnDone}
use Rattle.net_record.specs.declared.record.SettleDone.{SettleDone}
use Rattle.or_base.specs.Counting.{saturate}
use Rattle.net_record.specs.Weight.{item_weight, turn_weight, settle_weight, weight_of}
use Rattle.net_record.specs.World.{WorldState}
use Rattle.net_record.specs.Budget.{most_weight, is_too_heavy}
use Rattle.net_record.specs.Given.{is_heavy}

-- nothing weighs nothing
pub weighs_nothing : (turns : List TurnDone) (settles : List SettleDone) → turns ≡ [] → settles ≡ [] → 0 ≡ saturate (weight_of turns settles)
unfolding weight_of
weighs_nothing turns settles e h = rw (e, h) refl

-- a turn more
pub weighs_turn : (before : List TurnDone) (settles : List SettleDone) (t : TurnDone) (turns : List TurnDone) (weight after : ℕ)
    → weight ≡ saturate (weight_of before settles) → turns ≡ before ++ t ∷ [] → after ≡ saturate (weight + item_weight t.item)
    → after ≡ saturate (weight_of turns settles)
unfolding weight_of
weighs_turn before settles t turns weight after was is added =
    omega (arith, was, added, ap (sum_by turn_weight) is, sum_by_push turn_weight before t)

-- a settle more
pub weighs_settle : (turns : List TurnDone) (before : List SettleDone) (s : SettleDone) (settles : List SettleDone) (weight after : ℕ)
    → weight ≡ saturate (weight_of turns before) → settles ≡ before ++ s ∷ [] → after ≡ saturate (weight + settle_weight s)
    → after ≡ saturate (weight_of turns settles)
unfolding weight_of
weighs_settle turns before s settles weight after was is added =
    omega (arith, was, added, ap (sum_by settle_weight) is, sum_by_push settle_weight before s)

over_weight : (n : ℕ) → nat_lt most_weight (saturate n) ≡ nat_lt most_weight n
over_weight n =
    elim (cases_lt most_weight n) [
      | inl over ↦ lt-ltb most_weight (saturate n) (omega (arith, over)) ∙ sym (lt-ltb most_weight n over)
      | inr within ↦ le-ltb most_weight (saturate n) (omega (arith, within)) ∙ sym (le-ltb most_weight n within)
    ]

-- the weight that is kept tells whether what was done weighs too much
pub heavy_by : (w : WorldState) (weight : ℕ) → weight ≡ saturate (weight_of w.turns w.settles) → nat_lt most_weight weight ≡ is_heavy w
unfolding is_too_heavy
heavy_by w weight e = rw e (over_weight (weight_of w.turns w.settles))
