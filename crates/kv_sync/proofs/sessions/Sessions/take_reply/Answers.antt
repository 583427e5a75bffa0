use Rattle.std.proofs.Common.{sym, ◌∙◌, ap}
use Rattle.std.specs.Map.{lookup}
use Rattle.std.specs.Ordering.{nat_cmp}
use Rattle.std.specs.BTreeMap.{is_at}
use Rattle.kv_sync.specs.declared.session.SyncPhase.TheVariants.{Dumped}
use Rattle.kv_sync.specs.Sessions.{current, after_reply}
use Rattle.kv_sync.proofs.Current.{IsCurrent, told, found_current, reply_numbered, reply_state}
use Rattle.kv_sync.proofs.sessions.Sessions.take_reply.Goals as goal

-- the message is of the running session
is_current : (c : goal.After-mark_pushed) → IsCurrent (lookup (is_at (nat_cmp c.args.link)) c.self.inside.running.entries) c.args.session Dumped
unfolding current
is_current c =
    found_current (lookup (is_at (nat_cmp c.args.link)) c.self.inside.running.entries) c.args.session Dumped
    (ap (λ s. told (current s c.args.link c.args.session Dumped)) c.self.view_is ∙ sym c.check.ensures ∙ c.in_ok-check.was)

pub invariant_of-self : goal.invariant_of-self
invariant_of-self c =
    reply_numbered c.self.inside.last c.args.link c.args.session c.args.b0 c.args.withheld c.self.inside.running.entries c.mark_pushed.new.running.entries
    (is_current c) c.mark_pushed.ensures c.self.invariant

pub returns-clause-state : goal.returns-clause-state
returns-clause-state c =
    reply_state (record { last = c.self.inside.last; running = c.self.inside.running.entries }) c.args.link c.args.session c.args.b0 c.args.withheld
    c.mark_pushed.new.running.entries (is_current c) c.mark_pushed.ensures
    ∙ ap (λ s. after_reply s c.args.link c.args.b0 c.args.withheld (current s c.args.link c.args.session Dumped)) c.self.view_is
