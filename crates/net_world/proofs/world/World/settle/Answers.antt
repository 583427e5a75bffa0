use Rattle.std.proofs.Common.{◌≡◌, ◌+◌, length, ap, subst, ◌∙◌, rules, arith}
use Rattle.net_record.specs.World.{WorldState, greatest_clock, settle}
use Rattle.net_world.specs.Sound.{done_in, StayClocked}
use Rattle.net_world.proofs.Soundness.{greatest_below, sound_giving, sound_settle}
use Rattle.net_world.proofs.Weighed.{weighs_settle}
use Rattle.net_world.proofs.Turning.{settle_is_made}
use Rattle.net_world.proofs.world.World.settle.Goals as goal

pub overflow_add-clock : goal.overflow_add-clock
overflow_add-clock c =
    let i = c.self.inside in
    let w : WorldState = record { wires = i.wiring; lanes = i.lanes; actors = i.actors.items; turns = i.turns.items; settles = i.settles.items } in
    let is : c.greatest_clock-clock.result ≡ greatest_clock w.actors = search rules in
    omega (arith, is, greatest_below (done_in w) w.actors c.self.invariant.sound.clocks, i.turns.small, i.settles.small)

pub invariant_of-self-in_err-answers : goal.invariant_of-self-in_err-answers
invariant_of-self-in_err-answers c =
    let i = c.self.inside in
    let w : WorldState = record { wires = i.wiring; lanes = i.lanes; actors = i.actors.items; turns = i.turns.items; settles = i.settles.items } in
    record {
      sound = sound_giving w c.give_all.new.actors.items c.reserve.new.self.items c.self.invariant.sound (search rules) (ap length c.reserve.ensures.items);
      weighed = search (rules, c.self.invariant.weighed);
    }

pub invariant_of-self-in_err-settle_all : goal.invariant_of-self-in_err-settle_all
invariant_of-self-in_err-settle_all c =
    let i = c.self.inside in
    let w : WorldState = record { wires = i.wiring; lanes = i.lanes; actors = i.actors.items; turns = i.turns.items; settles = i.settles.items } in
    let stays : StayClocked w.actors c.settle_all.new.actors.items = subst (StayClocked w.actors) (search rules) c.give_all.ensures.clocks in
    record {
      sound = sound_giving w c.settle_all.new.actors.items c.reserve.new.self.items c.self.invariant.sound stays (ap length c.reserve.ensures.items);
      weighed = search (rules, c.self.invariant.weighed);
    }

pub invariant_of-self-2 : goal.invariant_of-self-2
invariant_of-self-2 c =
    let i = c.self.inside in
    let w : WorldState = record { wires = i.wiring; lanes = i.lanes; actors = i.actors.items; turns = i.turns.items; settles = i.settles.items } in
    let is : c.greatest_clock-clock.result ≡ greatest_clock w.actors = search rules in
    record {
      sound = sound_settle w (c.greatest_clock-clock.result + 1) c.give_all.new.actors.items c.settle_all.new.actors.items c.push_reserved.new.self.items c.self.invariant.sound (omega (arith, is)) (search rules) (search rules) (search rules);
      weighed = weighs_settle w.turns w.settles (record { turns = length w.turns; moment = c.args.moment; nodes = c.in_ok-nodes.nodes.items; answers = c.in_ok-answers.answers.items }) c.push_reserved.new.self.items i.weight c.add_settle-weight.result c.self.invariant.weighed (search rules) (search rules);
    }

pub returns : goal.returns
returns c =
    let i = c.self.inside in
    let w : WorldState = record { wires = i.wiring; lanes = i.lanes; actors = i.actors.items; turns = i.turns.items; settles = i.settles.items } in
    let is : c.greatest_clock-clock.result ≡ greatest_clock w.actors = search rules in
    settle_is_made w c.args.moment (c.greatest_clock-clock.result + 1) c.args.asked.now c.args.shows c.in_ok-nodes.nodes.items c.give_all.new.actors.items c.settle_all.new.actors.items c.in_ok-answers.answers.items c.push_reserved.new.self.items
    (omega (arith, is)) (search rules) (search rules) (search rules) (search rules)
    ∙ ap (settle c.args.moment c.args.asked.now c.args.shows) c.self.view_is
