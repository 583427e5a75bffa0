use Rattle.std.proofs.Common.{◌≡◌, ◌++◌, drop, true}
use Rattle.std.specs.List.{flat_map, enumerate_from}
use Rattle.or_actor.specs.Fits.{have_small_links}
use Rattle.net_record.specs.Phases.{restart_for, restarts}
use Rattle.net_record.proofs.phasing.add_restarts.Given as goal

-- the restarts so far and those for the actors that are left
abbrev pub invariant-loop-number : goal.invariant-loop-number
invariant-loop-number l = record {
  added : l.issues.items ++ flat_map (restart_for l.name) (enumerate_from l.number (drop l.number l.all)) ≡ l.fn.issues.items ++ restarts l.all l.name;
  small : have_small_links l.fn.issues.items ≡ true → have_small_links l.issues.items ≡ true;
}
