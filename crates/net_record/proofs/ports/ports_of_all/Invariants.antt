use Rattle.std.proofs.Common.{take}
use Rattle.net_record.specs.Ports.{ArePortsOf}
use Rattle.net_record.proofs.ports.ports_of_all.Given as goal

-- the ports among the lanes so far
abbrev pub invariant-loop-number : goal.invariant-loop-number
invariant-loop-number l = ArePortsOf (take l.number l.wires) l.ports.items
