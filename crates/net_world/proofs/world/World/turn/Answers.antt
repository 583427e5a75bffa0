-- In each answer: i is the world's fields and w the world as it was.
use Rattle.std.proofs.Common.{[], ◌-◌, ◌^◌, drop, get_or, length, sym, ap, ◌∙◌, rules, arith}
use Rattle.net_record.specs.World.{WorldState, turn}
use Rattle.net_world.specs.Sound.{done_in}
use Rattle.net_world.proofs.Acted.{clocks_weaker}
use Rattle.net_world.proofs.Soundness.{within_waiting, taken_sound, reader_there, sound_kept, sound_turn}
use Rattle.net_world.proofs.Weighed.{weighs_turn}
use Rattle.net_world.proofs.Turning.{turn_empty, turn_is_made}
use Rattle.net_world.proofs.world.World.turn.Goals as goal

pub returns-then-is_lane_empty : goal.returns-then-is_lane_empty
returns-then-is_lane_empty c =
    let i = c.self.inside in
    let w : WorldState = record { wires = i.wiring; lanes = i.lanes; actors = i.actors.items; turns = i.turns.items; settles = i.settles.items } in
    sym c.self.view_is ∙ sym (turn_empty w c.args.lane c.args.at (search rules)) ∙ ap (λ v. turn v c.args.lane c.args.at) c.self.view_is

pub act-requires-clause-there : goal.act-requires-clause-there
act-requires-clause-there c =
    let i = c.self.inside in
    let w : WorldState = record { wires = i.wiring; lanes = i.lanes; actors = i.actors.items; turns = i.turns.items; settles = i.settles.items } in
    reader_there w c.args.lane c.reader-reader.result (record { writer = 0; port = 0; reader = 0 }) c.self.invariant.sound (within_waiting i.lanes c.args.lane (search rules)) (c.reader-reader.ensures (record { writer = 0; port = 0; reader = 0 }))

pub act-requires-clause-item : goal.act-requires-clause-item
act-requires-clause-item c =
    let i = c.self.inside in
    let w : WorldState = record { wires = i.wiring; lanes = i.lanes; actors = i.actors.items; turns = i.turns.items; settles = i.settles.items } in
    (taken_sound (done_in w) c.args.lane i.lanes c.take-taken.result (drop 1 (get_or i.lanes c.args.lane [])) c.take-taken.ensures.front c.self.invariant.sound.items).1

pub act-requires-clause-stamp : goal.act-requires-clause-stamp
act-requires-clause-stamp c =
    let i = c.self.inside in
    let w : WorldState = record { wires = i.wiring; lanes = i.lanes; actors = i.actors.items; turns = i.turns.items; settles = i.settles.items } in
    omega (
      arith,
      (taken_sound (done_in w) c.args.lane i.lanes c.take-taken.result (drop 1 (get_or i.lanes c.args.lane [])) c.take-taken.ensures.front c.self.invariant.sound.items).0,
      i.turns.small,
      i.settles.small,
    )

pub act-requires-clause-clocks : goal.act-requires-clause-clocks
act-requires-clause-clocks c =
    let i = c.self.inside in
    let w : WorldState = record { wires = i.wiring; lanes = i.lanes; actors = i.actors.items; turns = i.turns.items; settles = i.settles.items } in
    clocks_weaker (done_in w) (2 ^ 64 - 2) i.actors.items (omega (arith, i.turns.small, i.settles.small)) c.self.invariant.sound.clocks

pub invariant_of-self-in_err-stamp : goal.invariant_of-self-in_err-stamp
invariant_of-self-in_err-stamp c =
    let i = c.self.inside in
    let w : WorldState = record { wires = i.wiring; lanes = i.lanes; actors = i.actors.items; turns = i.turns.items; settles = i.settles.items } in
    record {
      sound =
          sound_kept w c.args.lane c.take-taken.result (drop 1 (get_or i.lanes c.args.lane [])) c.take-taken.new.self c.reserve.new.self.items c.act.new.actors.items
          c.self.invariant.sound c.take-taken.ensures.front c.take-taken.ensures.left (ap length c.reserve.ensures.items) (search rules);
      weighed = search (rules, c.self.invariant.weighed);
    }

pub invariant_of-self-in_err-deliver : goal.invariant_of-self-in_err-deliver
invariant_of-self-in_err-deliver c =
    let i = c.self.inside in
    let w : WorldState = record { wires = i.wiring; lanes = i.lanes; actors = i.actors.items; turns = i.turns.items; settles = i.settles.items } in
    let there = reader_there w c.args.lane c.reader-reader.result (record { writer = 0; port = 0; reader = 0 }) c.self.invariant.sound (within_waiting i.lanes c.args.lane (search rules)) (c.reader-reader.ensures (record { writer = 0; port = 0; reader = 0 })) in
    record {
      sound =
          sound_turn w c.args.lane c.reader-reader.result c.take-taken.result (drop 1 (get_or i.lanes c.args.lane [])) c.take-taken.new.self c.deliver.new.lanes c.push_reserved.new.self.items
          c.act.new.actors.items c.args.at c.in_ok-stamp.stamp c.self.invariant.sound c.take-taken.ensures.front c.take-taken.ensures.left (search rules) there (search rules)
          (search rules) (search rules) (search rules);
      weighed =
          weighs_turn w.turns w.settles (record { lane = c.args.lane; at = c.args.at; stamp = c.in_ok-stamp.stamp; item = c.of-item.result.value }) c.push_reserved.new.self.items i.weight
          c.add_item-weight.result c.self.invariant.weighed (search rules) (search rules);
    }

pub invariant_of-self-2 : goal.invariant_of-self-2
invariant_of-self-2 c =
    let i = c.self.inside in
    let w : WorldState = record { wires = i.wiring; lanes = i.lanes; actors = i.actors.items; turns = i.turns.items; settles = i.settles.items } in
    let there = reader_there w c.args.lane c.reader-reader.result (record { writer = 0; port = 0; reader = 0 }) c.self.invariant.sound (within_waiting i.lanes c.args.lane (search rules)) (c.reader-reader.ensures (record { writer = 0; port = 0; reader = 0 })) in
    record {
      sound =
          sound_turn w c.args.lane c.reader-reader.result c.take-taken.result (drop 1 (get_or i.lanes c.args.lane [])) c.take-taken.new.self c.deliver.new.lanes c.push_reserved.new.self.items
          c.act.new.actors.items c.args.at c.in_ok-stamp.stamp c.self.invariant.sound c.take-taken.ensures.front c.take-taken.ensures.left (search rules) there (search rules)
          (search rules) (search rules) (search rules);
      weighed =
          weighs_turn w.turns w.settles (record { lane = c.args.lane; at = c.args.at; stamp = c.in_ok-stamp.stamp; item = c.of-item.result.value }) c.push_reserved.new.self.items i.weight
          c.add_item-weight.result c.self.invariant.weighed (search rules) (search rules);
    }

pub returns : goal.returns
returns c =
    let i = c.self.inside in
    let w : WorldState = record { wires = i.wiring; lanes = i.lanes; actors = i.actors.items; turns = i.turns.items; settles = i.settles.items } in
    let within = within_waiting i.lanes c.args.lane (search rules) in
    let there = reader_there w c.args.lane c.reader-reader.result (record { writer = 0; port = 0; reader = 0 }) c.self.invariant.sound within (c.reader-reader.ensures (record { writer = 0; port = 0; reader = 0 })) in
    turn_is_made w c.args.lane c.args.at c.reader-reader.result (record { writer = 0; port = 0; reader = 0 }) c.take-taken.result (drop 1 (get_or i.lanes c.args.lane []))
    c.in_ok-stamp.stamp c.act.new.out c.of-item.result.value c.act.new.actors.items c.take-taken.new.self c.deliver.new.lanes c.push_reserved.new.self.items
    (omega (arith, within, c.self.invariant.sound.wired.as_many)) (c.reader-reader.ensures (record { writer = 0; port = 0; reader = 0 })) c.take-taken.ensures.front there (search rules) (search rules) (search rules)
    (search rules) c.take-taken.ensures.left (search rules) (search rules)
    ∙ ap (λ v. turn v c.args.lane c.args.at) c.self.view_is
