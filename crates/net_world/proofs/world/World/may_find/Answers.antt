-- In each answer: i is the world's fields and w the world.
use Rattle.std.proofs.Common.{◌≡◌, ◌<◌, Some, [], get_or, length, ap, ◌∙◌, rules, arith}
use Rattle.std.specs.Prelude.{slice_get}
use Rattle.net_record.specs.World.{WorldState}
use Rattle.std.proofs.lemmas.List.{get_or_read}
use Rattle.net_record.specs.declared.actor.ActorState.{ActorState}
use Rattle.net_record.specs.Actors.{no_actor, range_for, is_in_range}
use Rattle.net_world.specs.Replaying.{may_find}
use Rattle.net_world.proofs.Soundness.{within_front, reader_there}
use Rattle.net_world.proofs.Turning.{found_none, found_made}
use Rattle.net_world.proofs.world.World.may_find.Goals as goal

pub returns-in-None : goal.returns-in-None
returns-in-None c =
    let i = c.self.inside in
    let w : WorldState = record { wires = i.wiring; lanes = i.lanes; actors = i.actors.items; turns = i.turns.items; settles = i.settles.items } in
    found_none w c.args.lane c.args.at (rw c.in-None.is at c.front.ensures) ∙ ap (λ v. may_find v c.args.lane c.args.at) c.self.view_is

pub index-reader-requires : goal.index-reader-requires
index-reader-requires c =
    let i = c.self.inside in
    let w : WorldState = record { wires = i.wiring; lanes = i.lanes; actors = i.actors.items; turns = i.turns.items; settles = i.settles.items } in
    let first : Some c.in-Some.front.now ≡ slice_get (get_or i.lanes c.args.lane []) 0 = rw c.in-Some.is at c.front.ensures in
    let within = within_front i.lanes c.args.lane c.in-Some.front.now first in
    let there : c.reader.result < length i.actors.items = reader_there w c.args.lane c.reader.result (record { writer = 0; port = 0; reader = 0 }) c.self.invariant.sound within (c.reader.ensures (record { writer = 0; port = 0; reader = 0 })) in
    omega (arith, there, i.actors.ok.0)

pub returns-in-Some : goal.returns-in-Some
returns-in-Some c =
    let i = c.self.inside in
    let w : WorldState = record { wires = i.wiring; lanes = i.lanes; actors = i.actors.items; turns = i.turns.items; settles = i.settles.items } in
    let first : Some c.in-Some.front.now ≡ slice_get (get_or i.lanes c.args.lane []) 0 = rw c.in-Some.is at c.front.ensures in
    let within = within_front i.lanes c.args.lane c.in-Some.front.now first in
    let there = reader_there w c.args.lane c.reader.result (record { writer = 0; port = 0; reader = 0 }) c.self.invariant.sound within (c.reader.ensures (record { writer = 0; port = 0; reader = 0 })) in
    let same = get_or_read i.actors.items c.reader.result c.index-reader.result.now there (search rules) no_actor in
    found_made w c.args.lane c.args.at c.reader.result (record { writer = 0; port = 0; reader = 0 }) c.in-Some.front.now (omega (arith, within, c.self.invariant.sound.wired.as_many))
    (c.reader.ensures (record { writer = 0; port = 0; reader = 0 })) first there
    ((rw c.as_slice.ensures.value at c.is_in_range.ensures) ∙ ap (λ (a : ActorState). is_in_range (range_for i.actors.items a.part c.in-Some.front.now.item) c.args.at) same)
    ∙ ap (λ v. may_find v c.args.lane c.args.at) c.self.view_is
