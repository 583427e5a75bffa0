use Rattle.std.proofs.Common.{Ok, sym, ◌∙◌, ap}
use Rattle.std.specs.Map.{lookup}
use Rattle.std.specs.Ordering.{nat_cmp}
use Rattle.std.specs.BTreeMap.{is_at}
use Rattle.kv_sync.specs.declared.session.SyncPhase.TheVariants.{Pushed}
use Rattle.std.specs.Result.{result_map_both}
use Rattle.kv_sync.specs.declared.session.Stale.{Stale}
use Rattle.kv_sync.specs.Sessions.{current, done_of}
use Rattle.kv_sync.proofs.Current.{IsCurrent, told, found_current, none_runs, ack_answer}
use Rattle.kv_sync.proofs.Numbers.{numbered_without}
use Rattle.kv_sync.proofs.sessions.Sessions.take_ack.Goals.{in-Some, in-None}
use Rattle.kv_sync.proofs.sessions.Sessions.take_ack.Goals as goal

-- the message is of the running session
is_current : (c : goal.Joined-remove) → IsCurrent (lookup (is_at (nat_cmp c.args.link)) c.self.inside.running.entries) c.args.session Pushed
unfolding current
is_current c =
    found_current (lookup (is_at (nat_cmp c.args.link)) c.self.inside.running.entries) c.args.session Pushed
    (ap (λ s. told (current s c.args.link c.args.session Pushed)) c.self.view_is ∙ sym c.check.ensures ∙ c.in_ok-check.was)

pub invariant_of-self : goal.invariant_of-self
invariant_of-self c =
    numbered_without c.self.inside.last (is_at (nat_cmp c.args.link)) c.self.inside.running.entries c.remove.new.self.entries
    c.remove.ensures.entries c.self.invariant

pub returns-clause-answer : goal.returns-clause-answer
returns-clause-answer c =
    let found = c.remove.ensures.value in
    elim c.match-remove.branch [
      | in-Some w ↦ w.result-is ∙ ap Ok w.done_of.ensures
          ∙ ack_answer (record { last = c.self.inside.last; running = c.self.inside.running.entries }) c.args.link c.args.session w.in-Some.session
          (is_current c) (sym found ∙ w.in-Some.is)
          ∙ ap (λ s. result_map_both {E = Stale} {D = Stale} (done_of c.args.link) (λ stale. stale) (current s c.args.link c.args.session Pushed)) c.self.view_is
      | in-None w ↦ absurd (none_runs _ c.args.session Pushed (sym found ∙ w.in-None.is) (is_current c))
    ]
