-- When the journals of two stores agree, and when hashes tell values apart.
use Rattle.std.specs.Prelude.{◌≡◌, ℕ, List}
use Rattle.std.specs.List.{Contains}
use Rattle.or_base.specs.declared.value.KvValue.{KvValue}
use Rattle.or_base.specs.declared.value.Pair.{Pair}
use Rattle.or_base.specs.declared.origin.Origin.{Origin}
use Rattle.or_base.specs.declared.entry.JournalEntry.{JournalEntry}
use Rattle.or_base.specs.declared.entry.JournalEntry.TheVariants.{Merged}
use Rattle.or_base.specs.Journal.{held_value}
use Rattle.or_base.specs.Law.{AreSame}
use Rattle.kv_value.specs.Hashing.{hash_of}

-- Two journals agree: under each key both hold nothing, or both hold values that are the same but for their lifetime.
abbrev pub Agree : List JournalEntry → List JournalEntry → Type 0
Agree a b = (key : List ℕ) → AreSame (held_value a key) (held_value b key)

-- the journal merged a pair with this value, at some moment and from somewhere
pub record HasMerged (journal : List JournalEntry) (v : KvValue) : Type 0 where
  pub pair : Pair
  pub at : ℕ
  pub origin : Origin
  pub among : Contains journal (Merged pair at origin)
  pub value : pair.value ≡ v

-- values of one version and one originator whose hashes are equal have equal bytes
abbrev pub AreToldApart : KvValue → KvValue → Type 0
AreToldApart v w = v.version ≡ w.version → v.originator ≡ w.originator → hash_of v ≡ hash_of w → v.value ≡ w.value

-- no collision: hashes tell apart what the one journal merged and what the other merged
abbrev pub NoCollision : List JournalEntry → List JournalEntry → Type 0
NoCollision a b = (v w : KvValue) → HasMerged a v → HasMerged b w → AreToldApart v w
