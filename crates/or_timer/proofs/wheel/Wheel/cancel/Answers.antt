use Rattle.std.proofs.Common.{◌≡◌, false, Some, sym, subst, rules}
use Rattle.std.proofs.lemmas.Map.Lookups.{exact_bytes}
use Rattle.or_timer.specs.Deadlines.{deadline_in}
use Rattle.or_timer.proofs.Timers.{HasTimer, timers_removed}
use Rattle.or_timer.proofs.wheel.Wheel.cancel.Goals as goal

pub invariant_of-self : goal.invariant_of-self
invariant_of-self c =
    let i = c.self.inside in
    let known : deadline_in i.deadlines.entries c.args.key.now ≡ Some c.in-Some.deadline = search rules in
    let same : c.args.key.now ≡ c.in-Some.key = exact_bytes c.args.key.now c.in-Some.key (search rules) in
    timers_removed i.deadlines.entries c.remove_entry.new.self.entries i.timers.keys c.remove-was_there.new.self.keys c.args.key.now c.in-Some.deadline c.self.invariant known
    (search rules) (search rules) c.remove_entry.ensures.updates.0
    (subst (λ k. HasTimer i.timers.keys c.remove-was_there.new.self.keys (c.in-Some.deadline, k) false) (sym same) c.remove-was_there.ensures.updates.0)
