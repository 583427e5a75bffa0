use Rattle.std.proofs.Common.{◌≡◌, ◌+◌, ◌≤◌, length}
use Rattle.or_timer.specs.Deadlines.{keys_until}
use Rattle.or_timer.proofs.wheel.count_until.Given as goal

-- those counted so far, and those among the timers that are left
abbrev pub invariant-loop-timer : goal.invariant-loop-timer
invariant-loop-timer l = record {
  counted : l.count + length (keys_until l.now l.timer-iterator) ≡ length (keys_until l.now l.timers.keys);
  within : l.count + length l.timer-iterator ≤ length l.timers.keys;
}
