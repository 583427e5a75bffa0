use Rattle.std.proofs.Common.{◌≡◌, ◌++◌}
use Rattle.std.specs.Prelude.{string_bytes}
use Rattle.net_report.specs.Report.{routes_text}
use Rattle.net_report.proofs.Hops.{routes_left}
use Rattle.net_report.proofs.text.routes_text.Given as goal

-- what is written and the routes that are left
abbrev pub invariant-loop-node : goal.invariant-loop-node
invariant-loop-node l = string_bytes l.out ++ routes_left l.node-iterator ≡ string_bytes l.fn.out ++ routes_text l.nodes l.marks
