use Rattle.std.proofs.Common.{◌≡◌, length, rules}
use Rattle.ls_records.specs.Change.{known_after}
use Rattle.decision_core.specs.History.{TellRoutes}
use Rattle.decision_core.proofs.Kept.{tell_after}
use Rattle.decision_core.proofs.decision.DecisionModule.take.Goals as goal

pub invariant_of-self-2 : goal.invariant_of-self-2
invariant_of-self-2 c =
    let i = c.self.inside in
    let was : (c.in-Some.routing ≡ known_after i.me i.taken.items) × TellRoutes i.history i.me i.taken.items = search rules in
    let number : c.len-entries.result ≡ length i.taken.items = search rules in
    let now : c.in_ok-after.after ≡ known_after i.me c.push.new.self.items = search rules in (
      now,
      tell_after i.history c.with_entry.new.history i.me i.taken.items c.push.new.self.items c.args.entry c.len-entries.result c.in-Some.routing c.in_ok-after.after c.in_ok-after.delta
          was.1 c.in_ok-push.ensures.items number was.0 now c.in_ok-after.ensures.delta c.in_ok-after.ensures.kept,
    )
