use Rattle.std.proofs.Common.{◌≡◌, ◌<◌, ◌≤◌, ◌∷◌, [], List, ℕ, ap, sym, subst, ◌∙◌, rules}
use Rattle.or_timer.specs.Deadlines.{due, after_due, AreTimersOf}
use Rattle.or_timer.proofs.DueKeys.{no_first, none_due_of_none, none_due_yet, first_taken, first_due, left_once_taken, reached_first}
use Rattle.or_timer.proofs.wheel.Wheel.take_first.Goals as goal

pub returns-in-None-clause-none : goal.returns-in-None-clause-none
returns-in-None-clause-none c =
    let i = c.self.inside in
    let none : i.timers.keys ≡ [] = no_first c.first.result i.timers.keys c.in-None.is c.first.ensures.variant in
    sym (ap (λ entries. due entries c.args.now) c.self.view_is) ∙ (none_due_of_none i.deadlines.entries i.timers.keys c.args.now c.self.invariant none).0

pub returns-in-None-clause-all_left : goal.returns-in-None-clause-all_left
returns-in-None-clause-all_left c =
    let i = c.self.inside in
    let none : i.timers.keys ≡ [] = no_first c.first.result i.timers.keys c.in-None.is c.first.ensures.variant in
    sym c.self.view_is ∙ (none_due_of_none i.deadlines.entries i.timers.keys c.args.now c.self.invariant none).1 ∙ ap (λ entries. after_due entries c.args.now) c.self.view_is

pub returns-then-timer-from-clause-none : goal.returns-then-timer-from-clause-none
returns-then-timer-from-clause-none c =
    let i = c.self.inside in
    let later : c.args.now < c.in-Some.timer.now.0 = search rules in
    sym (ap (λ entries. due entries c.args.now) c.self.view_is)
    ∙ (none_due_yet i.deadlines.entries i.timers.keys c.in-Some.timer.now c.args.now c.self.invariant c.in-Some.ensures.first later).0

pub returns-then-timer-from-clause-all_left : goal.returns-then-timer-from-clause-all_left
returns-then-timer-from-clause-all_left c =
    let i = c.self.inside in
    let later : c.args.now < c.in-Some.timer.now.0 = search rules in
    sym c.self.view_is
    ∙ (none_due_yet i.deadlines.entries i.timers.keys c.in-Some.timer.now c.args.now c.self.invariant c.in-Some.ensures.first later).1
    ∙ ap (λ entries. after_due entries c.args.now) c.self.view_is

pub invariant_of-self-2 : goal.invariant_of-self-2
invariant_of-self-2 c =
    let i = c.self.inside in
    let timer : ℕ × List ℕ = (c.in_ok-key.field-0-0, c.in_ok-key.key) in
    let sound : AreTimersOf i.deadlines.entries (timer ∷ c.pop_first.new.self.keys) = subst (AreTimersOf i.deadlines.entries) c.in_ok-key.ensures.removal c.self.invariant in
    subst (λ entries. AreTimersOf entries c.pop_first.new.self.keys) (sym c.remove-deadline.ensures.entries)
    (first_taken i.deadlines.entries timer c.pop_first.new.self.keys sound)

pub returns-clause-first : goal.returns-clause-first
returns-clause-first c =
    let i = c.self.inside in
    let timer : ℕ × List ℕ = (c.in_ok-key.field-0-0, c.in_ok-key.key) in
    let sound : AreTimersOf i.deadlines.entries (timer ∷ c.pop_first.new.self.keys) = subst (AreTimersOf i.deadlines.entries) c.in_ok-key.ensures.removal c.self.invariant in
    let reached : timer.0 ≤ c.args.now =
    reached_first i.timers.keys timer c.in-Some.timer.now c.pop_first.new.self.keys c.args.now c.in_ok-key.ensures.removal c.in-Some.ensures.first (search rules) in
    sym (ap (λ entries. due entries c.args.now) c.self.view_is)
    ∙ first_due i.deadlines.entries timer c.pop_first.new.self.keys c.args.now sound reached
    ∙ ap (λ entries. timer.1 ∷ due entries c.args.now) (sym c.remove-deadline.ensures.entries)

pub returns-clause-left : goal.returns-clause-left
returns-clause-left c =
    let i = c.self.inside in
    let timer : ℕ × List ℕ = (c.in_ok-key.field-0-0, c.in_ok-key.key) in
    let sound : AreTimersOf i.deadlines.entries (timer ∷ c.pop_first.new.self.keys) = subst (AreTimersOf i.deadlines.entries) c.in_ok-key.ensures.removal c.self.invariant in
    let reached : timer.0 ≤ c.args.now =
    reached_first i.timers.keys timer c.in-Some.timer.now c.pop_first.new.self.keys c.args.now c.in_ok-key.ensures.removal c.in-Some.ensures.first (search rules) in
    ap (λ entries. after_due entries c.args.now) c.remove-deadline.ensures.entries
    ∙ left_once_taken i.deadlines.entries timer c.pop_first.new.self.keys c.args.now sound reached
    ∙ ap (λ entries. after_due entries c.args.now) c.self.view_is
