use Rattle.std.proofs.Common.{◌≡◌, length}
use Rattle.net_record.specs.Given.{settles_within}
use Rattle.net_world.proofs.given.GivenRun.settle_due.Given as goal

abbrev pub decreases-loop-self : goal.decreases-loop-self
decreases-loop-self l = length l.self.unsettled

-- the settles that are left give what all of them give
abbrev pub invariant-loop-self : goal.invariant-loop-self
invariant-loop-self l = settles_within l.self.world l.self.unsettled ≡ settles_within l.fn.self.world l.fn.self.unsettled
