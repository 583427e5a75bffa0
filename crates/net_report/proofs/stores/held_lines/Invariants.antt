use Rattle.std.proofs.Common.{◌≡◌, ◌++◌, map}
use Rattle.std.specs.Prelude.{string_bytes}
use Rattle.kv_table.specs.Index.{told_at, entries_taken}
use Rattle.net_report.specs.Report.{held_lines}
use Rattle.net_report.proofs.Places.{lines_of}
use Rattle.net_report.proofs.stores.held_lines.Given as goal

-- what is written and the lines of the keys that are left
abbrev pub invariant-loop-key : goal.invariant-loop-key
invariant-loop-key l =
    string_bytes l.out ++ lines_of (map (told_at l.journal) l.key-iterator) l.moment ≡ string_bytes l.fn.out ++ held_lines (entries_taken l.index) l.moment
