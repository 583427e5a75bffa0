use Rattle.std.proofs.Common.{◌≡◌, ◌*◌, ◌-◌, ◌^◌, ◌≤◌, take}
use Rattle.net_report.specs.Summary.{routes_of_nodes}
use Rattle.net_report.proofs.counted.routes_of_nodes.Given as goal

-- the routes of the nodes so far, and a bound by which the sum fits
abbrev pub invariant-loop-mark : goal.invariant-loop-mark
invariant-loop-mark l = record {
  counted : l.count ≡ routes_of_nodes (take l.mark-index l.marks);
  few : l.count ≤ l.mark-index * (2 ^ 64 - 1);
}
