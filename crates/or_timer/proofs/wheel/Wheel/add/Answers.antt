use Rattle.std.proofs.Common.{◌≡◌, true, false, None, ap, subst, ◌∙◌, rules}
use Rattle.or_timer.specs.Deadlines.{deadline_in}
use Rattle.or_timer.proofs.Timers.{HasTimer, timers_added, timers_put_back}
use Rattle.or_timer.proofs.wheel.Wheel.add.Goals as goal

pub invariant_of-self-in-Ok : goal.invariant_of-self-in-Ok
invariant_of-self-in-Ok c =
    let i = c.self.inside in
    let none : deadline_in i.deadlines.entries c.args.key ≡ None = ap (λ entries. deadline_in entries c.args.key) c.self.view_is ∙ c.requires in
    timers_added i.deadlines.entries c.insert-2.new.self.entries i.timers.keys c.insert.new.self.keys c.args.key c.args.deadline c.self.invariant none
    (search rules) (search rules) c.in-Ok.ensures.updates.0
    (subst (λ k. HasTimer i.timers.keys c.insert.new.self.keys (c.args.deadline, k) true) c.in_ok-again.ensures c.in_ok-_is_new.ensures.updates.0)

pub invariant_of-self-in-Err : goal.invariant_of-self-in-Err
invariant_of-self-in-Err c =
    let i = c.self.inside in
    let none : deadline_in i.deadlines.entries c.args.key ≡ None = ap (λ entries. deadline_in entries c.args.key) c.self.view_is ∙ c.requires in
    timers_put_back i.deadlines.entries c.insert-2.new.self.entries i.timers.keys c.insert.new.self.keys c.remove-was_there.new.self.keys c.args.key c.args.deadline
    c.self.invariant none (search rules) (search rules)
    (subst (λ k. HasTimer i.timers.keys c.insert.new.self.keys (c.args.deadline, k) true) c.in_ok-again.ensures c.in_ok-_is_new.ensures.updates.0)
    (subst (λ pair. HasTimer c.insert.new.self.keys c.remove-was_there.new.self.keys (pair.1, pair.0) false) c.in-Err.ensures.value_returned c.remove-was_there.ensures.updates.0)
