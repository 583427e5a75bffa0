use Rattle.std.proofs.Common.{◌≡◌, true, length}
use Rattle.or_actor.specs.Fits.{have_small_links}
use Rattle.net_record.specs.World.{deliver}
use Rattle.net_world.specs.Sound.{StaySound}
use Rattle.net_world.proofs.delivery.deliver.Given as goal

abbrev pub decreases-loop-output : goal.decreases-loop-output
decreases-loop-output l = length l.out

-- delivering what is left gives what delivering all of it gives
abbrev pub invariant-loop-output : goal.invariant-loop-output
invariant-loop-output l = record {
  rest : deliver l.wiring l.writer l.stamp l.lanes l.out ≡ deliver l.wiring l.writer l.stamp l.fn.lanes l.fn.out;
  len : length l.lanes ≡ length l.fn.lanes;
  small : have_small_links l.out ≡ true;
  sound : StaySound l.stamp l.fn.lanes l.lanes;
}
