use Rattle.kv_sync.proofs.Current.{push_numbered}
use Rattle.kv_sync.proofs.sessions.Sessions.push_for.Goals as goal

pub invariant_of-self : goal.invariant_of-self
invariant_of-self c =
    push_numbered c.self.inside.last c.args.link c.withheld_count-more.result c.index.result.now c.self.inside.running.entries
    c.add_withheld.new.running.entries c.index.ensures c.add_withheld.ensures c.self.invariant
