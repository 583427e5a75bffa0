use Rattle.std.proofs.Common.{◌≡◌, ◌*◌, ◌≤◌, ◌++◌, drop, vec_len}
use Rattle.std.specs.List.{flat_map, enumerate_from}
use Rattle.net_record.specs.Roles.{most_actors}
use Rattle.net_record.specs.Wires.{wires_to, wires}
use Rattle.net_record.proofs.wiring.lanes_among.Given as goal

-- the lanes so far and those to the readers that are left
abbrev pub invariant-loop-reader : goal.invariant-loop-reader
invariant-loop-reader l = record {
  added : l.lanes.items ++ flat_map (wires_to l.all) (enumerate_from l.reader (drop l.reader l.all)) ≡ wires l.all;
  len : vec_len l.lanes ≤ most_actors * l.reader;
}
