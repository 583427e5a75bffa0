use Rattle.std.proofs.Common.{◌≡◌, drop}
use Rattle.net_record.specs.Given.{given_from}
use Rattle.net_record.specs.Given.Stage.{GoesOn}
use Rattle.net_world.proofs.given.GivenRun.run_turns.Given as goal

-- the turns that are left give what all of them give
abbrev pub invariant-loop-turn : goal.invariant-loop-turn
invariant-loop-turn l = given_from (GoesOn l.self) (drop l.turn-index l.turns) ≡ given_from (GoesOn l.fn.self) l.turns
