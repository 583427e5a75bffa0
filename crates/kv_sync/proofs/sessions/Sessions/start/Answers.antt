use Rattle.std.proofs.Common.{refl, rules}
use Rattle.kv_sync.proofs.Numbers.{numbered_started}
use Rattle.kv_sync.proofs.sessions.Sessions.start.Goals as goal

pub invariant_of-self-2 : goal.invariant_of-self-2
invariant_of-self-2 c =
    numbered_started c.self.inside.last c.saturating_add-number.result c.args.link _ c.self.inside.running.entries c.insert.new.self.entries (search rules)
    c.in_ok-insert.ensures.entries c.self.invariant refl
