-- Tests that hold together.
use Rattle.std.proofs.Common.{◌≡◌, Bool, true, false, refl, ◌&&◌, ◌||◌, not, Option, Some, None, is_some, is_none, List, [], ◌∷◌}
use Rattle.net_scenario.specs.Seen.{has_none}

pub both : (a b : Bool) → (a && b) ≡ true → (a ≡ true) × (b ≡ true)
both true b h = (refl, h)
both false b h = absurd cc

pub and_true : (a b : Bool) → a ≡ true → b ≡ true → (a && b) ≡ true
and_true true b ha hb = hb
and_true false b ha hb = absurd cc

pub or_right : (a b : Bool) → a ≡ false → (a || b) ≡ true → b ≡ true
or_right true b ha h = absurd cc
or_right false b ha h = h

pub or_true : (a b : Bool) → b ≡ true → (a || b) ≡ true
or_true true b h = refl
or_true false b h = h

pub or_more : (a b c : Bool) → (b ≡ true → c ≡ true) → (a || b) ≡ true → (a || c) ≡ true
or_more true b c step h = refl
or_more false b c step h = step h

pub not_true : (a : Bool) → not a ≡ true → a ≡ false
not_true true h = absurd cc
not_true false h = refl

pub none_not_some : {X : Type 0} (o : Option X) → is_none o ≡ true → is_some o ≡ false
none_not_some None h = refl
none_not_some (Some x) h = absurd cc

pub empty_is_nil : {X : Type 0} (xs : List X) → has_none xs ≡ true → xs ≡ []
empty_is_nil [] h = refl
empty_is_nil (x ∷ xs) h = absurd cc

-- what holds on the left of an `&&`
pub under : {a b : Bool} (c : Bool) → (a ≡ true → b ≡ true) → (a && c) ≡ true → (b && c) ≡ true
under {a} {b} c step h = let parts = both a c h in and_true b c (step parts.0) parts.1

pub or_left : (a b : Bool) → a ≡ true → (a || b) ≡ true
or_left true b h = refl
or_left false b h = absurd cc
