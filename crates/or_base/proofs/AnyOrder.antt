-- Offers in any order leave the same values: the greatest of the same values is the same.
use Rattle.std.proofs.Common.{◌≡◌, ℕ, List, [], ◌∷◌, ◌++◌, Bool, true, false, cond, Option, Some, None, refl, ap, subst, ◌⊎◌, inl, inr, arith}
use Rattle.std.specs.Option.{option_to_list}
use Rattle.std.specs.List.{Contains, AllByRecursion}
use Rattle.std.proofs.lemmas.List.Elements.{Contains-append_cases, Contains-append_left, Contains-append_right, All-from_recursion, All-contains}
use Rattle.or_base.specs.declared.value.KvValue.{KvValue}
use Rattle.or_base.specs.Order.{is_below}
use Rattle.or_base.specs.Journal.{held_value}
use Rattle.or_base.specs.Law.{Offer, after_offers, is_for, offered_values, IsGreatestOf, AreSame, LeavesSameInAnyOrder}
use Rattle.or_base.proofs.Ordered.{same_from_neither}
use Rattle.or_base.proofs.Members.{Contains-first, Contains-later, Contains-cases}
use Rattle.or_base.proofs.Offers.{holds_greatest}

-- an offer of the list that gives the value
pub record Gives (key : List ℕ) (os : List Offer) (v : KvValue) : Type 0 where
  pub offer : Offer
  pub among : Contains os offer
  pub counts : is_for key offer ≡ true
  pub value : offer.pair.value ≡ v

later : (key : List ℕ) (o : Offer) (os : List Offer) (v : KvValue) → Gives key os v → Gives key (o ∷ os) v
later key o os v g = record { offer = g.offer; among = Contains-later o os g.offer g.among; counts = g.counts; value = g.value }

offer_of_value_if : (key : List ℕ) (o : Offer) (os : List Offer) (v : KvValue) (counts : Bool) → is_for key o ≡ counts
    → (Contains (offered_values key os) v → Gives key os v)
    → Contains (cond counts (o.pair.value ∷ offered_values key os) (offered_values key os)) v → Gives key (o ∷ os) v
offer_of_value_if key o os v true e rest h =
    elim (Contains-cases o.pair.value (offered_values key os) v h) [
      | inl same ↦ record { offer = o; among = Contains-first o os; counts = e; value = same }
      | inr there ↦ later key o os v (rest there)
    ]
offer_of_value_if key o os v false e rest h = later key o os v (rest h)

-- each offered value is given by an offer
offer_of_value : (key : List ℕ) (os : List Offer) (v : KvValue) → Contains (offered_values key os) v → Gives key os v
offer_of_value key [] v h = absurd (omega (arith, h.1))
offer_of_value key (o ∷ os) v h = offer_of_value_if key o os v (is_for key o) refl (offer_of_value key os v) h

gives_value_if : (key : List ℕ) (o p : Offer) (os : List Offer) (counts : Bool) → is_for key o ≡ counts → is_for key p ≡ true
    → (Contains os p → Contains (offered_values key os) p.pair.value)
    → (o ≡ p) ⊎ Contains os p
    → Contains (cond counts (o.pair.value ∷ offered_values key os) (offered_values key os)) p.pair.value
gives_value_if key o p os true e f rest (inl same) = (0, omega arith, ap (λ q. q.pair.value) same)
gives_value_if key o p os true e f rest (inr there) = Contains-later o.pair.value (offered_values key os) p.pair.value (rest there)
gives_value_if key o p os false e f rest (inl same) = cc (ap (is_for key) same)
gives_value_if key o p os false e f rest (inr there) = rest there

-- each offer gives its value
gives_value : (key : List ℕ) (os : List Offer) (p : Offer) → is_for key p ≡ true → Contains os p → Contains (offered_values key os) p.pair.value
gives_value key [] p f h = absurd (omega (arith, h.1))
gives_value key (o ∷ os) p f h =
    gives_value_if key o p os (is_for key o) refl f (gives_value key os p f) (Contains-cases o os p h)

-- the offered values of a list are among those of one that has its offers
same_values : (key : List ℕ) (os qs : List Offer) → ((o : Offer) → Contains os o → Contains qs o) → (held : List KvValue) (v : KvValue)
    → Contains (held ++ offered_values key os) v → Contains (held ++ offered_values key qs) v
same_values key os qs sub held v h =
    elim (Contains-append_cases held (offered_values key os) v h) [
      | inl here ↦ Contains-append_left held (offered_values key qs) v here
      | inr there ↦
          let g = offer_of_value key os v there in
          let w = gives_value key qs g.offer g.counts (sub g.offer g.among) in
          Contains-append_right held (offered_values key qs) v (subst (λ x. Contains (offered_values key qs) x) g.value w)
    ]

not_exceeded : (v w : KvValue) (values : List KvValue) → AllByRecursion (λ x. is_below v x ≡ false) values → Contains values w → is_below v w ≡ false
not_exceeded v w values all among = All-contains (λ x. is_below v x ≡ false) values w (All-from_recursion (λ x. is_below v x ≡ false) values all) among

-- the greatest of lists with the same values is the same
same_greatest : (s t : Option KvValue) (xs ys : List KvValue) → IsGreatestOf s xs → IsGreatestOf t ys
    → ((v : KvValue) → Contains xs v → Contains ys v) → ((v : KvValue) → Contains ys v → Contains xs v) → AreSame s t
same_greatest None None xs ys g h forth back = tt
same_greatest None (Some w) xs ys g h forth back =
    let none : Contains [] w = subst (λ zs. Contains zs w) g (back w h.0) in absurd (omega (arith, none.1))
same_greatest (Some v) None xs ys g h forth back =
    let none : Contains [] v = subst (λ zs. Contains zs v) h (forth v g.0) in absurd (omega (arith, none.1))
same_greatest (Some v) (Some w) xs ys g h forth back =
    same_from_neither v w (not_exceeded v w xs g.1 (back w h.0)) (not_exceeded w v ys h.1 (forth v g.0))

pub leaves_same_in_any_order : LeavesSameInAnyOrder
leaves_same_in_any_order journal os qs key same =
    let held = option_to_list (held_value journal key) in
    same_greatest (held_value (after_offers journal os) key) (held_value (after_offers journal qs) key)
    (held ++ offered_values key os) (held ++ offered_values key qs)
    (holds_greatest journal os key) (holds_greatest journal qs key)
    (same_values key os qs same.forth held) (same_values key qs os same.back held)
