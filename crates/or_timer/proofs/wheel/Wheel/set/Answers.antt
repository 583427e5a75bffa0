use Rattle.std.proofs.Common.{◌≡◌, Some, ap, sym, ◌∙◌, rules}
use Rattle.or_timer.specs.Deadlines.{deadline_in, with_deadline}
use Rattle.or_timer.proofs.Entries.{insert_same}
use Rattle.or_timer.proofs.wheel.Wheel.set.Goals as goal

pub returns-then-old-deadline-clause-ok : goal.returns-then-old-deadline-clause-ok
returns-then-old-deadline-clause-ok c =
    let i = c.self.inside in
    let same : c.in-Some.old.now ≡ c.args.deadline = c.if-old-deadline.true in
    let found : deadline_in i.deadlines.entries c.args.key ≡ Some c.in-Some.old.now = search rules in
    sym (insert_same c.args.key c.args.deadline i.deadlines.entries (found ∙ ap Some same) c.self.invariant.keys_ordered ∙ c.self.view_is)
    ∙ ap (λ entries. with_deadline entries c.args.key c.args.deadline) c.self.view_is
