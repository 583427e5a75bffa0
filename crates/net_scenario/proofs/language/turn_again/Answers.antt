use Rattle.std.proofs.Common.{◌≡◌, ◌∙◌, sym, true}
use Rattle.net_laboratory.specs.declared.schedule.Turn.{Turn}
use Rattle.net_scenario.specs.declared.statement.Statement.TheVariants as says
use Rattle.net_scenario.specs.Seen.{admits}
use Rattle.net_scenario.specs.Tallied.{seen_in, line_at}
use Rattle.net_scenario.proofs.TurnLines.{admits_turn, of_any}
use Rattle.net_scenario.proofs.language.turn_again.Goals as goal

pub returns-clause-admitted : goal.returns-clause-admitted
returns-clause-admitted c =
    let seen = seen_in c.args.draft.now in
    let line = c.args.line.now in
    of_any c.turn_of.result (λ (turn : Turn). admits seen (says.Turn turn) ≡ true)
    (λ (turn : Turn). admits_turn seen line.turns (line_at line) turn (sym c.takes_turn.ensures ∙ c.if-not-takes_turn.false))
