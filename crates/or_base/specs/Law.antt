use Rattle.std.specs.Prelude.{◌≡◌, ℕ, List, [], ◌∷◌, ◌++◌, Option, Some, None, Bool, false, if◌then◌else◌, ◌&&◌, true, Contains, is_some}
use Rattle.std.specs.Str.{bytes_eq}
use Rattle.std.specs.Option.{option_to_list}
use Rattle.std.specs.List.{AllByRecursion}
use Rattle.or_base.specs.declared.value.KvValue.{KvValue}
use Rattle.or_base.specs.declared.value.Pair.{Pair}
use Rattle.or_base.specs.declared.origin.Origin.{Origin}
use Rattle.or_base.specs.declared.entry.JournalEntry.{JournalEntry}
use Rattle.std.specs.declared.cmp.Ordering.TheVariants.{Less}
use Rattle.or_base.specs.Order.{bytes_cmp, is_below, IsSame}
use Rattle.or_base.specs.Limits.{is_valid_pair}
use Rattle.or_base.specs.Journal.{holds, held_value, held_keys, offer}

-- a pair that is offered, the moment, and how it came
pub record Offer : Type 0 where
  pub pair : Pair
  pub now : ℕ
  pub origin : Origin

-- the journal after offers, in order
abbrev pub after_offers : List JournalEntry → List Offer → List JournalEntry
after_offers journal [] = journal
after_offers journal (o ∷ os) = after_offers (offer journal o.pair o.now o.origin) os

-- the offer is of a valid pair under the key
abbrev pub is_for : List ℕ → Offer → Bool
is_for key o = bytes_eq o.pair.key key && is_valid_pair o.pair

-- the valid values that were offered under a key
abbrev pub offered_values : List ℕ → List Offer → List KvValue
offered_values key [] = []
offered_values key (o ∷ os) = if is_for key o then o.pair.value ∷ offered_values key os else offered_values key os

-- the greatest of no values is nothing; else it is one of them that none of them exceeds
abbrev pub IsGreatestOf : Option KvValue → List KvValue → Type 0
IsGreatestOf None values = values ≡ []
IsGreatestOf (Some v) values = Contains values v × AllByRecursion (λ w. is_below v w ≡ false) values

-- what is held under a key after offers is the greatest of what was held and of the valid values offered under it
abbrev pub HoldsGreatest : Type 0
HoldsGreatest =
    (journal : List JournalEntry) (os : List Offer) (key : List ℕ)
    → IsGreatestOf (held_value (after_offers journal os) key) (option_to_list (held_value journal key) ++ offered_values key os)

-- both are nothing, or both are values that are the same but for their lifetime
abbrev pub AreSame : Option KvValue → Option KvValue → Type 0
AreSame None None = Unit {0}
AreSame None (Some w) = ⊥
AreSame (Some v) None = ⊥
AreSame (Some v) (Some w) = IsSame v w

-- each offer of one list is in the other
pub record HaveSameOffers (os qs : List Offer) : Type 0 where
  pub forth : (o : Offer) → Contains os o → Contains qs o
  pub back : (o : Offer) → Contains qs o → Contains os o

-- offers in any order, each any number of times, leave the same values
abbrev pub LeavesSameInAnyOrder : Type 0
LeavesSameInAnyOrder =
    (journal : List JournalEntry) (os qs : List Offer) (key : List ℕ)
    → HaveSameOffers os qs
    → AreSame (held_value (after_offers journal os) key) (held_value (after_offers journal qs) key)

-- a key stands before every other one, in byte order
abbrev pub IsBeforeAll : List ℕ → List (List ℕ) → Type 0
IsBeforeAll key keys = AllByRecursion (λ other. bytes_cmp key other ≡ Less) keys

-- keys in byte order, each once
abbrev pub AreInByteOrder : List (List ℕ) → Type 0
AreInByteOrder [] = Unit {0}
AreInByteOrder (key ∷ keys) = IsBeforeAll key keys × AreInByteOrder keys

-- what is said of the keys that a journal holds: they are in byte order, each once, and are exactly those under which
-- something is held
pub record HoldsKeys (journal : List JournalEntry) (keys : List (List ℕ)) : Type 0 where
  pub ordered : AreInByteOrder keys
  pub held : (key : List ℕ) → Contains keys key → is_some (holds journal key) ≡ true
  pub all : (key : List ℕ) → is_some (holds journal key) ≡ true → Contains keys key

abbrev pub HeldKeysAreThese : Type 0
HeldKeysAreThese = (journal : List JournalEntry) → HoldsKeys journal (held_keys journal)
