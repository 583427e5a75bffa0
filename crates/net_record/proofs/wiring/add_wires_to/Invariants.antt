use Rattle.std.proofs.Common.{◌≡◌, ◌+◌, ◌≤◌, ◌++◌, drop, vec_len}
use Rattle.std.specs.List.{flat_map, enumerate_from}
use Rattle.net_record.specs.Wires.{wire_between, wires_to}
use Rattle.net_record.proofs.wiring.add_wires_to.Given as goal

-- the lanes so far and those from the writers that are left
abbrev pub invariant-loop-writer : goal.invariant-loop-writer
invariant-loop-writer l = record {
  added : l.lanes.items ++ flat_map (wire_between (l.reader, l.to)) (enumerate_from l.writer (drop l.writer l.all)) ≡ l.fn.lanes.items ++ wires_to l.all (l.reader, l.to);
  len : vec_len l.lanes ≤ vec_len l.fn.lanes + l.writer;
}
