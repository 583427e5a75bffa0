use Rattle.std.proofs.Common.{◌<◌, length, map, set, ◌∙◌, rules, arith, length-set}
use Rattle.std.proofs.lemmas.List.{get_or_read}
use Rattle.net_record.specs.Actors.{no_actor, actor_after_settle}
use Rattle.net_world.proofs.Settled.{map_next, map_end}
use Rattle.net_world.proofs.clocks.settle_each.Goals as goal

pub index_mut-actor-requires : goal.index_mut-actor-requires
index_mut-actor-requires c =
    omega (arith, c.loop-number.actors.ok.0, c.args.actors.now.ok.0, c.loop-number.invariant.len, c.loop-number-test.true, c.len-number-end.ensures)

pub loop-number-preserved : goal.loop-number-preserved
loop-number-preserved c = record {
  len = length-set c.loop-number.actors.items c.loop-number.number c.settle.new.self ∙ c.loop-number.invariant.len;
  settled =
      let within : c.loop-number.number < length c.loop-number.actors.items =
      omega (arith, c.args.actors.now.ok.0, c.loop-number.invariant.len, c.loop-number-test.true, c.len-number-end.ensures) in
      map_next (actor_after_settle c.args.clock c.args.counts.now) c.loop-number.number c.loop-number.actors.items (set c.loop-number.actors.items c.loop-number.number c.settle.new.self)
      c.index_mut-actor.result.now c.settle.new.self no_actor (map (actor_after_settle c.args.clock c.args.counts.now) c.args.actors.now.items) within
      (get_or_read c.loop-number.actors.items c.loop-number.number c.index_mut-actor.result.now within c.index_mut-actor.ensures.value no_actor)
      c.settle.ensures (search rules) c.loop-number.invariant.settled;
}

pub returns : goal.returns
returns c =
    map_end (actor_after_settle c.args.clock c.args.counts.now) c.loop-number.number c.loop-number.actors.items (map (actor_after_settle c.args.clock c.args.counts.now) c.args.actors.now.items)
    (omega (arith, c.args.actors.now.ok.0, c.loop-number.invariant.len, c.loop-number-test.false, c.len-number-end.ensures)) c.loop-number.invariant.settled
