-- A node that owns no key writes none.
use Rattle.std.proofs.Common.{◌≡◌, ℕ, List, [], ◌∷◌, refl}
use Rattle.or_base.specs.declared.entry.JournalEntry.{JournalEntry}
use Rattle.kv_store.specs.Own.{OwnedKeys, write_each}

none_written : (me : List ℕ) (now : ℕ) (journal : List JournalEntry) (keys : List (List ℕ)) → write_each me [] now journal keys ≡ journal
none_written me now journal [] = refl
none_written me now journal (key ∷ keys) = none_written me now journal keys

pub nothing_written : (me : List ℕ) (owned : OwnedKeys) (now : ℕ) (journal : List JournalEntry) (keys : List (List ℕ)) → owned ≡ [] → write_each me owned now journal keys ≡ journal
nothing_written me owned now journal keys e = rw e (none_written me now journal keys)
