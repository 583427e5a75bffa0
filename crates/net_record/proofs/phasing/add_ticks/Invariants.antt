use Rattle.std.proofs.Common.{◌≡◌, ◌++◌, drop, true}
use Rattle.std.specs.List.{flat_map, enumerate_from}
use Rattle.or_actor.specs.Fits.{have_small_links}
use Rattle.net_record.specs.Phases.{tick_for, ticks}
use Rattle.net_record.proofs.phasing.add_ticks.Given as goal

-- the ticks so far and those for the actors that are left
abbrev pub invariant-loop-number : goal.invariant-loop-number
invariant-loop-number l = record {
  added : l.issues.items ++ flat_map (tick_for l.at) (enumerate_from l.number (drop l.number l.all)) ≡ l.fn.issues.items ++ ticks l.all l.at;
  small : have_small_links l.fn.issues.items ≡ true → have_small_links l.issues.items ≡ true;
}
