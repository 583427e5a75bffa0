use Rattle.std.proofs.Common.{◌≡◌, ℕ, ◌+◌, ◌-◌, [], length, get_or}
use Rattle.net_record.proofs.ports.reach.Given as goal

-- the ports so far
abbrev pub invariant-loop-alloc : goal.invariant-loop-alloc
invariant-loop-alloc l = (other : ℕ) → get_or l.ports.items other [] ≡ get_or l.fn.ports.items other []

-- how many places are missing
abbrev pub decreases-loop-alloc : goal.decreases-loop-alloc
decreases-loop-alloc l = l.writer + 1 - length l.ports.items
