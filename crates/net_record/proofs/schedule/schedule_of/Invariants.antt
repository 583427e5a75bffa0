use Rattle.std.proofs.Common.{◌≡◌, ◌++◌, drop}
use Rattle.net_record.specs.Run.{schedule_of}
use Rattle.net_record.proofs.schedule.schedule_of.Given as goal

-- the turns so far and those that are left
abbrev pub invariant-loop-turn : goal.invariant-loop-turn
invariant-loop-turn l = l.turns.items ++ schedule_of (drop l.turn-index l.turn-items) ≡ schedule_of l.turn-items
