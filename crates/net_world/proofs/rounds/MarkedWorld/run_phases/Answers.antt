use Rattle.std.proofs.Common.{◌≡◌, ◌∷◌, length, ap, ◌∙◌, rules, arith}
use Rattle.std.specs.Vec.Iter.{into_iter_items}
use Rattle.std.proofs.lemmas.List.Elements.{All-rest}
use Rattle.net_record.specs.Small.{IssuesSmallLinks}
use Rattle.net_world.proofs.Rounding.{phases_step}
use Rattle.net_world.proofs.rounds.MarkedWorld.run_phases.Goals as goal

pub loop-phase-preserved : goal.loop-phase-preserved
loop-phase-preserved c =
    let left = into_iter_items c.loop-phase.phase-iterator in
    let others = into_iter_items c.next.new.self in
    let e : left ≡ c.in-Some.phase ∷ others = search rules in
    record {
      rest =
          phases_step c.loop-phase.number c.loop-phase.self c.run_phase.new.self c.in-Some.phase others left e (search rules) (search rules)
          ∙ c.loop-phase.invariant.rest;
      small = All-rest IssuesSmallLinks c.in-Some.phase others left e c.loop-phase.invariant.small;
      few = omega (arith, ap length e);
    }
