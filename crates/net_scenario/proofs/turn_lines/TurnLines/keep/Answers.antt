use Rattle.std.proofs.Common.{ℕ, List, sym, subst}
use Rattle.net_scenario.specs.TurnLines.{SaysTurn}
use Rattle.net_scenario.proofs.TurnLines.{keeps_turns}
use Rattle.net_scenario.proofs.turn_lines.TurnLines.keep.Goals as goal

pub invariant_of-self : goal.invariant_of-self
invariant_of-self c =
    let says = subst (λ (text : List ℕ). SaysTurn text c.args.turn) (sym c.in-Some.ensures.text) c.requires in
    keeps_turns c.in-Some.text.now c.self.inside.turns c.insert.new.self c.args.turn c.self.invariant says c.in_ok-insert.ensures.updates
