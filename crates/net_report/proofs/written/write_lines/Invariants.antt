use Rattle.std.proofs.Common.{◌≡◌, ◌++◌, drop}
use Rattle.std.specs.Prelude.{string_bytes}
use Rattle.std.specs.List.{flat_map}
use Rattle.net_report.proofs.written.write_lines.Given as goal

-- the lines so far, and those that are left
abbrev pub invariant-loop-item : goal.invariant-loop-item
invariant-loop-item g l = string_bytes l.out ++ flat_map g.T.ReportLine.line (drop l.item-index l.items) ≡ string_bytes l.fn.out ++ flat_map g.T.ReportLine.line l.items
