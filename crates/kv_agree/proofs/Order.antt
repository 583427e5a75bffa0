-- The order of what may be held: nothing is less than every value. And when what may be held is the same.
use Rattle.std.proofs.Common.{◌≡◌, ℕ, Bool, true, false, Option, Some, None, refl, ◌∙◌}
use Rattle.std.specs.Option.{option_map}
use Rattle.std.proofs.lemmas.Cmp.{tied_itself, tied_back}
use Rattle.or_base.specs.declared.value.KvValue.{KvValue}
use Rattle.or_base.specs.Order.{value_cmp, is_below}
use Rattle.or_base.specs.Journal.{exceeds}
use Rattle.or_base.specs.Law.{AreSame}
use Rattle.or_base.proofs.Ordered.{value_cmp_total, not_below_itself, not_below_trans, below_not_above, same_from_neither}

abbrev pub is_less : Option KvValue → Option KvValue → Bool
is_less v None = false
is_less None (Some w) = true
is_less (Some v) (Some w) = is_below v w

abbrev pub IsAtLeast : Option KvValue → Option KvValue → Type 0
IsAtLeast v w = is_less v w ≡ false

pub at_least_itself : (v : Option KvValue) → IsAtLeast v v
at_least_itself None = refl
at_least_itself (Some v) = not_below_itself v

pub at_least_trans : (v w x : Option KvValue) → IsAtLeast v w → IsAtLeast w x → IsAtLeast v x
at_least_trans v w None f g = refl
at_least_trans v None (Some x) f g = cc
at_least_trans None (Some w) (Some x) f g = cc
at_least_trans (Some v) (Some w) (Some x) f g = not_below_trans x w v g f

pub same_from_both : (v w : Option KvValue) → IsAtLeast v w → IsAtLeast w v → AreSame v w
same_from_both None None f g = tt
same_from_both None (Some w) f g = cc
same_from_both (Some v) None f g = cc
same_from_both (Some v) (Some w) f g = same_from_neither v w f g

-- to be the same is an equivalence
pub same_itself : (v : Option KvValue) → AreSame v v
same_itself None = tt
same_itself (Some v) = tied_itself value_cmp_total v

pub same_back : (v w : Option KvValue) → AreSame v w → AreSame w v
same_back None None same = tt
same_back None (Some w) same = absurd same
same_back (Some v) None same = absurd same
same_back (Some v) (Some w) same = tied_back value_cmp_total v w same

pub same_trans : (v w x : Option KvValue) → AreSame v w → AreSame w x → AreSame v x
same_trans None None x first second = second
same_trans None (Some w) x first second = absurd first
same_trans (Some v) None x first second = absurd first
same_trans (Some v) (Some w) None first second = absurd second
same_trans (Some v) (Some w) (Some x) first second = value_cmp_total.congr v w x first ∙ second

-- what is held, without the moment of its merge
abbrev pub value_in : Option (KvValue × ℕ) → Option KvValue
value_in held = option_map (λ h. h.0) held

-- a value exceeds what is held where that is less, whatever lifetime the value has
pub exceeds-is_less : (v : KvValue) (ttl : Option ℕ) (held : Option (KvValue × ℕ)) → exceeds (record v { ttl = ttl }) held ≡ is_less (value_in held) (Some v)
unfolding value_cmp
exceeds-is_less v ttl None = refl
exceeds-is_less v ttl (Some h) = refl

pub at_least_where_exceeds : (v : KvValue) (held : Option (KvValue × ℕ)) → exceeds v held ≡ true → IsAtLeast (Some v) (value_in held)
at_least_where_exceeds v None exceeded = refl
at_least_where_exceeds v (Some h) exceeded = below_not_above v h.0 exceeded
