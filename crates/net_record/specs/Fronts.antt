-- The front of each journal that a settle tells of.
use Rattle.std.specs.Prelude.{List, [], ◌∷◌, take}
use Rattle.or_base.specs.declared.entry.JournalEntry.{JournalEntry}
use Rattle.net_record.specs.declared.record.NodeMark.{NodeMark}

-- of each journal the first entries, as many as its mark tells
abbrev pub fronts : List NodeMark → List (List JournalEntry) → List (List JournalEntry)
fronts [] journals = []
fronts (mark ∷ marks) [] = []
fronts (mark ∷ marks) (journal ∷ journals) = take mark.entries journal ∷ fronts marks journals
