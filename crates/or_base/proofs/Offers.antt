-- What is held after one more entry, and after a list of offers.
use Rattle.std.proofs.Common.{◌≡◌, ℕ, List, [], ◌∷◌, ◌++◌, Bool, true, false, ◌&&◌, cond, Option, Some, None, refl, sym, ◌∙◌, ap, subst, reverse}
use Rattle.std.specs.Str.{bytes_eq}
use Rattle.std.specs.Option.{option_map, option_to_list}
use Rattle.std.proofs.lemmas.List.{reverse-append}
use Rattle.std.proofs.lemmas.Slice.Eq.{bytes_eq-Decides}
use Rattle.or_base.specs.declared.value.KvValue.{KvValue}
use Rattle.or_base.specs.declared.value.Pair.{Pair}
use Rattle.or_base.specs.declared.origin.Origin.{Origin}
use Rattle.or_base.specs.declared.entry.JournalEntry.{JournalEntry}
use Rattle.or_base.specs.declared.entry.JournalEntry.TheVariants.{Merged}
use Rattle.or_base.specs.Order.{is_below}
use Rattle.or_base.specs.Limits.{is_valid_pair}
use Rattle.or_base.specs.Journal.{latest, holds, held_value, exceeds, is_taken, offer}
use Rattle.or_base.specs.Law.{after_offers, is_for, offered_values, IsGreatestOf, HoldsGreatest}
use Rattle.or_base.proofs.Ordered.{not_below_trans, below_not_above, not_below_itself}
use Rattle.or_base.proofs.Members.{Contains-first, Contains-later, Contains-second}

-- what is held after one more entry
pub holds_push : (journal : List JournalEntry) (entry : JournalEntry) (key : List ℕ) → holds (journal ++ entry ∷ []) key ≡ latest (entry ∷ reverse journal) key
holds_push journal entry key = ap (λ entries. latest entries key) (reverse-append journal (entry ∷ []))

-- nothing, or what the value exceeds
abbrev beats : KvValue → Option KvValue → Bool
beats v None = true
beats v (Some w) = is_below w v

exceeds-beats : (v : KvValue) (held : Option (KvValue × ℕ)) → exceeds v held ≡ beats v (option_map (λ h. h.0) held)
exceeds-beats v None = refl
exceeds-beats v (Some h) = refl

abbrev value_in : Option (KvValue × ℕ) → Option KvValue
value_in held = option_map (λ h. h.0) held

-- an entry is appended or not
push_if : (taken : Bool) (journal : List JournalEntry) (entry : JournalEntry) (key : List ℕ)
    → value_in (holds (cond taken (journal ++ entry ∷ []) journal) key)
    ≡ cond taken (value_in (latest (entry ∷ reverse journal) key)) (held_value journal key)
push_if true journal entry key = ap value_in (holds_push journal entry key)
push_if false journal entry key = refl

-- the three tests of an offer, in either order: this key, a valid pair, a value that exceeds what is held
by_tests : (this valid won won_here : Bool) (held : Option (KvValue × ℕ)) (v : KvValue × ℕ) → (this ≡ true → won ≡ won_here)
    → cond (valid && won) (value_in (cond this (Some v) held)) (value_in held)
    ≡ cond (this && valid) (cond won_here (Some v.0) (value_in held)) (value_in held)
by_tests true true true won_here held v same = rw (sym (same refl)) refl
by_tests true true false won_here held v same = rw (sym (same refl)) refl
by_tests true false won won_here held v same = refl
by_tests false true true won_here held v same = refl
by_tests false true false won_here held v same = refl
by_tests false false won won_here held v same = refl

held_value-offer : (journal : List JournalEntry) (pair : Pair) (now : ℕ) (origin : Origin) (key : List ℕ)
    → held_value (offer journal pair now origin) key
    ≡ cond (bytes_eq pair.key key && is_valid_pair pair) (cond (beats pair.value (held_value journal key)) (Some pair.value) (held_value journal key)) (held_value journal key)
held_value-offer journal pair now origin key =
    push_if (is_taken journal pair) journal (Merged pair now origin) key
    ∙ by_tests (bytes_eq pair.key key) (is_valid_pair pair) (exceeds pair.value (holds journal pair.key)) (beats pair.value (held_value journal key)) (holds journal key) (pair.value, now)
    (λ same. ap (λ k. exceeds pair.value (holds journal k)) ((bytes_eq-Decides pair.key key).0 same) ∙ exceeds-beats pair.value (holds journal key))

-- the greatest of the greater of two values and others is the greatest of them all
with_lesser : (held v : KvValue) (below : Bool) → is_below held v ≡ below → (top : Option KvValue) (others : List KvValue)
    → IsGreatestOf top (option_to_list (cond below (Some v) (Some held)) ++ others) → IsGreatestOf top (held ∷ v ∷ others)
with_lesser held v true e None others g = cc
with_lesser held v true e (Some t) others g =
    (Contains-later held (v ∷ others) t g.0, (not_below_trans held v t (below_not_above v held e) g.1.0, g.1))
with_lesser held v false e None others g = cc
with_lesser held v false e (Some t) others g =
    (Contains-second held v others t g.0, (g.1.0, (not_below_trans v held t e g.1.0, g.1.1)))

one_offer : (held : Option KvValue) (v : KvValue) (counts : Bool) (top : Option KvValue) (others : List KvValue)
    → IsGreatestOf top (option_to_list (cond counts (cond (beats v held) (Some v) held) held) ++ others)
    → IsGreatestOf top (option_to_list held ++ cond counts (v ∷ others) others)
one_offer held v false top others g = g
one_offer None v true top others g = g
one_offer (Some w) v true top others g = with_lesser w v (is_below w v) refl top others g

no_offer : (held : Option KvValue) → IsGreatestOf held (option_to_list held ++ [])
no_offer None = refl
no_offer (Some v) = (Contains-first v [], (not_below_itself v, tt))

pub holds_greatest : HoldsGreatest
holds_greatest journal [] key = no_offer (held_value journal key)
holds_greatest journal (o ∷ os) key =
    one_offer (held_value journal key) o.pair.value (is_for key o) (held_value (after_offers journal (o ∷ os)) key) (offered_values key os)
    (subst (λ held. IsGreatestOf (held_value (after_offers journal (o ∷ os)) key) (option_to_list held ++ offered_values key os))
    (held_value-offer journal o.pair o.now o.origin key)
    (holds_greatest (offer journal o.pair o.now o.origin) os key))
