use Rattle.std.proofs.Common.{◌≡◌, ◌+◌, ◌<◌, ◌^◌, length}
use Rattle.std.specs.Prelude.{All}
use Rattle.std.specs.Vec.Iter.{into_iter_items}
use Rattle.net_record.specs.Small.{IssuesSmallLinks}
use Rattle.net_record.proofs.Counted.{rounds_from}
use Rattle.net_world.proofs.rounds.MarkedWorld.run_phases.Given as goal

-- the phases that are left give what all of them give
abbrev pub invariant-loop-phase : goal.invariant-loop-phase
invariant-loop-phase l = record {
  rest : rounds_from l.number l.self (into_iter_items l.phase-iterator) ≡ rounds_from 1 l.fn.self (into_iter_items l.initial.phase-iterator);
  small : All IssuesSmallLinks (into_iter_items l.phase-iterator);
  few : l.number + length (into_iter_items l.phase-iterator) < 2 ^ 64;
}
