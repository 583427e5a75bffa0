use Rattle.net_scenario.specs.Tallied.{seen_in, line_at}
use Rattle.net_scenario.proofs.TurnLines.{told_turn}
use Rattle.net_scenario.proofs.language.read_statement.Goals as goal

pub keep_turn-requires : goal.keep_turn-requires
keep_turn-requires c = told_turn (seen_in c.args.draft.now) c.args.line.now.turns (line_at c.args.line.now) c.in-Ok.statement c.requires.filled c.in-Ok.ensures.gives
