-- What a full sync exchanges, and what holds after it.
use Rattle.std.specs.Prelude.{◌≡◌, ℕ, ◌≤◌, List, [], ◌∷◌, length, take, drop, reverse, true, false}
use Rattle.std.specs.List.{Contains, AllByRecursion}
use Rattle.or_base.specs.declared.value.Pair.{Pair}
use Rattle.or_base.specs.declared.entry.JournalEntry.{JournalEntry}
use Rattle.or_base.specs.declared.entry.JournalEntry.TheVariants.{Merged, Expired, Cleared}
use Rattle.or_base.specs.Limits.{is_valid_pair}
use Rattle.or_base.specs.Journal.{latest, holds, exceeds}
use Rattle.kv_table.specs.Digest.{digest}
use Rattle.kv_table.specs.Sending.{sent_pairs, withheld_count}
use Rattle.kv_sync.specs.Difference.{better_keys, wanted_keys}
use Rattle.kv_agree.specs.Agreement.{Agree, NoCollision}

-- ---- journals as offers make them

-- Of entries from the newest to the oldest: each pair that was merged is within the limits, and its value exceeded what was
-- held then.
abbrev pub IsMadeFrom : List JournalEntry → Type 0
IsMadeFrom [] = Unit {0}
IsMadeFrom (Merged pair at origin ∷ older) = (is_valid_pair pair ≡ true) × (exceeds pair.value (latest older pair.key) ≡ true) × IsMadeFrom older
IsMadeFrom (Expired key at ∷ older) = IsMadeFrom older
IsMadeFrom (Cleared at ∷ older) = IsMadeFrom older

-- a journal that offers, expiries and restarts made
abbrev pub IsMade : List JournalEntry → Type 0
IsMade journal = IsMadeFrom (reverse journal)

-- what is held under the pair's key is at least the pair's value, so that an offer of the pair changes nothing
abbrev pub Covers : List JournalEntry → Pair → Type 0
Covers journal pair = exceeds pair.value (holds journal pair.key) ≡ false

-- the entry merged one of these pairs
abbrev pub MergesOneOf : List Pair → JournalEntry → Type 0
MergesOneOf pairs (Merged pair at origin) = Contains pairs pair
MergesOneOf pairs (Expired key at) = ⊥
MergesOneOf pairs (Cleared at) = ⊥

-- ---- one full sync

-- What a full sync was made from. Its starter made the digest when its journal had a0 entries, and the push when it had a1 and
-- had offered the reply's pairs; its peer made the reply when its journal had b0. The two moments are those of the reply and of
-- the push, by which lifetimes are told.
pub record Exchange : Type 0 where
  pub a0 : ℕ
  pub b0 : ℕ
  pub a1 : ℕ
  pub reply_moment : ℕ
  pub push_moment : ℕ

-- the keys that the peer holds better than the digest says, and those that it wants
abbrev pub keys_better : List JournalEntry → List JournalEntry → Exchange → List (List ℕ)
keys_better a b x = better_keys (digest (take x.a0 a)) (take x.b0 b)

abbrev pub keys_wanted : List JournalEntry → List JournalEntry → Exchange → List (List ℕ)
keys_wanted a b x = wanted_keys (digest (take x.a0 a)) (take x.b0 b)

-- the pairs of the reply, and those of the push
abbrev pub reply_pairs : List JournalEntry → List JournalEntry → Exchange → List Pair
reply_pairs a b x = sent_pairs (take x.b0 b) x.reply_moment (keys_better a b x)

abbrev pub push_pairs : List JournalEntry → List JournalEntry → Exchange → List Pair
push_pairs a b x = sent_pairs (take x.a1 a) x.push_moment (keys_wanted a b x)

-- how many pairs the reply withheld, and how many the push
abbrev pub reply_withheld : List JournalEntry → List JournalEntry → Exchange → ℕ
reply_withheld a b x = withheld_count (take x.b0 b) x.reply_moment (keys_better a b x)

abbrev pub push_withheld : List JournalEntry → List JournalEntry → Exchange → ℕ
push_withheld a b x = withheld_count (take x.a1 a) x.push_moment (keys_wanted a b x)

-- the reply has arrived: the starter, with journal a, offered its pairs before it made the push
pub record HasReplied (a b : List JournalEntry) (x : Exchange) : Type 0 where
  pub after : x.a0 ≤ x.a1
  pub starter : x.a1 ≤ length a
  pub peer : x.b0 ≤ length b
  pub covered : AllByRecursion (Covers (take x.a1 a)) (reply_pairs a b x)

-- the push has arrived: the peer, with journal b, offered its pairs, and had b1 entries then
pub record HasPushed (a b : List JournalEntry) (x : Exchange) : Type 0 where
  pub b1 : ℕ
  pub after : x.b0 ≤ b1
  pub within : b1 ≤ length b
  pub covered : AllByRecursion (Covers (take b1 b)) (push_pairs a b x)

-- Nothing disturbed the full sync: all that either journal has past its first lengths is what the full sync itself merged there.
pub record IsUndisturbed (a b : List JournalEntry) (x : Exchange) : Type 0 where
  pub whole : x.a1 ≡ length a
  pub starter : AllByRecursion (MergesOneOf (reply_pairs a b x)) (drop x.a0 a)
  pub peer : AllByRecursion (MergesOneOf (push_pairs a b x)) (drop x.b0 b)

-- One round is enough: after a full sync that nothing disturbed and of which nothing was withheld, the two journals agree.
abbrev pub ExchangesAgree : Type 0
ExchangesAgree =
    (a b : List JournalEntry) (x : Exchange) → IsMade a → IsMade b → NoCollision a b
    → HasReplied a b x → HasPushed a b x → reply_withheld a b x ≡ 0 → push_withheld a b x ≡ 0 → IsUndisturbed a b x → Agree a b
