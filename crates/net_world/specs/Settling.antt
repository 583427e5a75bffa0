-- How a phase ends, in two parts: what is left after it, and whether the run goes on.
use Rattle.std.specs.Prelude.{Bool, ◌&&◌, ◌||◌, not, if◌then◌else◌}
use Rattle.net_record.specs.declared.phase.Phase.{Phase}
use Rattle.net_record.specs.World.{is_drained}
use Rattle.net_record.specs.Budget.{is_over}
use Rattle.net_record.specs.Rounds.{Marked, settle_after}

-- after the rounds of a phase: its settle, where no item waits and the budget isn't exceeded
abbrev pub after_phase : Phase → Marked → Marked
after_phase phase done = if is_over done.world || not (is_drained done.world) then done else settle_after phase done

-- the phase comes to its settle, and the budget isn't exceeded by it either
abbrev pub settles_phase : Phase → Marked → Bool
settles_phase phase done = not (is_over done.world || not (is_drained done.world)) && not (is_over (settle_after phase done).world)
