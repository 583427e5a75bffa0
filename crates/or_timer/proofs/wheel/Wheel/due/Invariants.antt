use Rattle.std.proofs.Common.{◌≡◌, ◌++◌, ◌+◌, ◌≤◌, length}
use Rattle.std.specs.Vec.{vec_capacity}
use Rattle.or_timer.specs.Deadlines.{due, after_due}
use Rattle.or_timer.proofs.wheel.Wheel.due.Given as goal

-- the keys found so far, with those that are due still, are all that are due, and there is room for them
abbrev pub invariant-loop-key : goal.invariant-loop-key
invariant-loop-key l = record {
  keys : l.found.items ++ due l.self l.now ≡ due l.fn.self l.now;
  left : after_due l.self l.now ≡ after_due l.fn.self l.now;
  room : length l.found.items + length (due l.self l.now) ≤ vec_capacity l.found;
}

abbrev pub decreases-loop-key : goal.decreases-loop-key
decreases-loop-key l = length (due l.self l.now)
