use Rattle.std.proofs.Common.{◌≡◌, ◌-◌}
use Rattle.net_record.specs.Rounds.{rounds_of}
use Rattle.net_world.proofs.rounds.MarkedWorld.run_rounds.Given as goal

-- the rounds that are left give what all of them give
abbrev pub invariant-loop-round : goal.invariant-loop-round
invariant-loop-round l = rounds_of l.self (l.count - l._round) ≡ rounds_of l.fn.self l.count
