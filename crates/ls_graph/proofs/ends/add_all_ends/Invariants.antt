use Rattle.std.proofs.Common.{take}
use Rattle.std.specs.List.{flat_map}
use Rattle.ls_graph.specs.Places.{ends_of, AreJoined}
use Rattle.ls_graph.proofs.ends.add_all_ends.Given as goal

-- the ends of the adjacencies so far are among the places
abbrev pub invariant-loop-a : goal.invariant-loop-a
invariant-loop-a l = AreJoined l.fn.places.keys (flat_map (ends_of l.x) (take l.a-index l.adjacencies)) l.places.keys
