use Rattle.std.proofs.Common.{◌≡◌, true, Some, ap, subst, ◌∙◌, rules}
use Rattle.std.specs.Prelude.{IfSome}
use Rattle.or_timer.specs.Deadlines.{deadline_in, with_deadline}
use Rattle.or_timer.proofs.Timers.{HasTimer, timers_replaced}
use Rattle.or_timer.proofs.wheel.Wheel.replace.Goals as goal

pub invariant_of-self-2 : goal.invariant_of-self-2
invariant_of-self-2 c =
    let i = c.self.inside in
    let known : deadline_in i.deadlines.entries c.args.key ≡ Some c.args.old = ap (λ entries. deadline_in entries c.args.key) c.self.view_is ∙ c.requires.known in
    let written : c.write_over.new.deadlines.entries ≡ with_deadline i.deadlines.entries c.args.key c.args.deadline =
    subst (λ found. IfSome found (λ old. c.write_over.new.deadlines.entries ≡ with_deadline i.deadlines.entries c.args.key c.args.deadline)) known c.write_over.ensures in
    timers_replaced i.deadlines.entries c.write_over.new.deadlines.entries i.timers.keys c.insert.new.self.keys c.remove-was_there.new.self.keys c.args.key c.args.old c.args.deadline
    c.self.invariant known c.requires.other written (search rules)
    (subst (λ k. HasTimer i.timers.keys c.insert.new.self.keys (c.args.deadline, k) true) c.in_ok-again.ensures c.in_ok-_is_new.ensures.updates.0)
    c.remove-was_there.ensures.updates.0

pub returns-clause-ok : goal.returns-clause-ok
returns-clause-ok c =
    let i = c.self.inside in
    let known : deadline_in i.deadlines.entries c.args.key ≡ Some c.args.old = ap (λ entries. deadline_in entries c.args.key) c.self.view_is ∙ c.requires.known in
    let written : c.write_over.new.deadlines.entries ≡ with_deadline i.deadlines.entries c.args.key c.args.deadline =
    subst (λ found. IfSome found (λ old. c.write_over.new.deadlines.entries ≡ with_deadline i.deadlines.entries c.args.key c.args.deadline)) known c.write_over.ensures in
    written ∙ ap (λ entries. with_deadline entries c.args.key c.args.deadline) c.self.view_is
