use Rattle.std.specs.Ordering.{nat_cmp}
use Rattle.std.specs.BTreeMap.{is_at}
use Rattle.kv_sync.proofs.Numbers.{numbered_without}
use Rattle.kv_sync.proofs.sessions.Sessions.drop_link.Goals as goal

pub invariant_of-self : goal.invariant_of-self
invariant_of-self c =
    numbered_without c.self.inside.last (is_at (nat_cmp c.args.link)) c.self.inside.running.entries c.remove-session.new.self.entries
    c.remove-session.ensures.entries c.self.invariant
