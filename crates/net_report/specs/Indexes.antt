-- What the indexes that a report keeps are of.
use Rattle.std.specs.Prelude.{List, map}
use Rattle.or_base.specs.declared.entry.JournalEntry.{JournalEntry}
use Rattle.kv_table.specs.Index.{Taken}

-- the journals of indexes, whatever they have taken of them
abbrev pub journals_of : List Taken → List (List JournalEntry)
journals_of indexes = map (λ index. index.journal) indexes
