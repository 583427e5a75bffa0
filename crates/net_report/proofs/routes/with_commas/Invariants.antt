use Rattle.std.proofs.Common.{◌≡◌, ◌++◌, drop, string_bytes}
use Rattle.net_report.specs.Report.{with_commas}
use Rattle.net_report.proofs.Hops.{texts_behind}
use Rattle.net_report.proofs.routes.with_commas.Given as goal

-- what is left gives what all of it gives
abbrev pub invariant-loop-hop : goal.invariant-loop-hop
invariant-loop-hop l = string_bytes l.out ++ texts_behind (drop l.hop-index l.others) ≡ string_bytes l.fn.out ++ with_commas l.hops
