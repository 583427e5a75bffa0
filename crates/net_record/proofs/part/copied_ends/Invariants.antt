use Rattle.std.proofs.Common.{◌≡◌, take}
use Rattle.net_record.proofs.part.copied_ends.Given as goal

-- the copies so far are the ends so far
abbrev pub invariant-loop-end : goal.invariant-loop-end
invariant-loop-end l = l.copies.items ≡ take l.end-index l.ends
