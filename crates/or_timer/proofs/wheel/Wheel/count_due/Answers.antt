use Rattle.std.proofs.Common.{length, ap, sym, ◌∙◌}
use Rattle.or_timer.specs.Deadlines.{due}
use Rattle.or_timer.proofs.DueKeys.{due_until}
use Rattle.or_timer.proofs.wheel.Wheel.count_due.Goals as goal

pub returns : goal.returns
returns c =
    let i = c.self.inside in
    c.count_until.ensures
    ∙ sym (ap length (due_until c.args.now i.timers.keys i.deadlines.entries c.self.invariant))
    ∙ ap (λ entries. length (due entries c.args.now)) c.self.view_is
