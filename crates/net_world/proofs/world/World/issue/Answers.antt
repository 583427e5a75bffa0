use Rattle.std.proofs.Common.{ap, ◌∙◌, rules}
use Rattle.net_record.specs.World.{WorldState, issue}
use Rattle.net_world.proofs.Soundness.{sound_issue}
use Rattle.net_world.proofs.Turning.{issue_is_made}
use Rattle.net_world.proofs.world.World.issue.Goals as goal

pub invariant_of-self : goal.invariant_of-self
invariant_of-self c =
    let i = c.self.inside in
    let w : WorldState = record { wires = i.wiring; lanes = i.lanes; actors = i.actors.items; turns = i.turns.items; settles = i.settles.items } in
    record {
      sound = sound_issue w c.driver_clock-stamp.result c.deliver.new.lanes c.self.invariant.sound (search rules) (search rules) (search rules);
      weighed = c.self.invariant.weighed;
    }

pub invariant_of-self-2 : goal.invariant_of-self-2
invariant_of-self-2 c =
    let i = c.self.inside in
    let w : WorldState = record { wires = i.wiring; lanes = i.lanes; actors = i.actors.items; turns = i.turns.items; settles = i.settles.items } in
    record {
      sound = sound_issue w c.driver_clock-stamp.result c.deliver.new.lanes c.self.invariant.sound (search rules) (search rules) (search rules);
      weighed = c.self.invariant.weighed;
    }

pub returns : goal.returns
returns c =
    let i = c.self.inside in
    let w : WorldState = record { wires = i.wiring; lanes = i.lanes; actors = i.actors.items; turns = i.turns.items; settles = i.settles.items } in
    issue_is_made w c.driver_clock-stamp.result c.args.issues.items c.deliver.new.lanes (search rules) (search rules) ∙ ap (λ v. issue v c.args.issues.items) c.self.view_is
