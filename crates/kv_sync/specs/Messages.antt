-- The messages of a full sync, as functions of a store's journal.
use Rattle.std.specs.Prelude.{ℕ, List, length}
use Rattle.or_base.specs.declared.digest.DigestRow.{DigestRow}
use Rattle.or_base.specs.declared.entry.JournalEntry.{JournalEntry}
use Rattle.or_base.specs.declared.message.Msg.{Msg}
use Rattle.or_base.specs.declared.message.Msg.TheVariants.{Dump, Reply, Push, Ack}
use Rattle.kv_table.specs.Digest.{digest}
use Rattle.kv_table.specs.Sending.{sent_pairs, withheld_count}
use Rattle.kv_sync.specs.Difference.{better_keys, wanted_keys}

-- the first message: the digest
unfoldable pub dump_message : ℕ → List JournalEntry → Msg
dump_message session journal = Dump session (digest journal)

-- The second: what is better here and isn't withheld, and which keys are wanted, with the length of the sender's journal and how
-- many pairs are withheld.
unfoldable pub reply_message : List JournalEntry → ℕ → ℕ → List DigestRow → Msg
reply_message journal now session rows =
    let better = better_keys rows journal in
    Reply session (length journal) (sent_pairs journal now better) (wanted_keys rows journal) (withheld_count journal now better)

-- the third: what was wanted, is held and isn't withheld
unfoldable pub push_message : List JournalEntry → ℕ → ℕ → List (List ℕ) → Msg
push_message journal now session wanted = Push session (sent_pairs journal now wanted)

-- the last
abbrev pub ack_message : ℕ → Msg
ack_message session = Ack session
