use Rattle.std.proofs.Common.{◌≡◌, ◌-◌}
use Rattle.net_record.specs.Rounds.{turns_on}
use Rattle.net_world.proofs.rounds.turns_on.Given as goal

-- the turns that are left give what all of them give
abbrev pub invariant-loop-turn : goal.invariant-loop-turn
invariant-loop-turn l = turns_on l.world l.lane (l.count - l._turn) ≡ turns_on l.fn.world l.lane l.count
