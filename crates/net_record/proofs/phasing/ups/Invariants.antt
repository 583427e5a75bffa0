use Rattle.std.proofs.Common.{◌≡◌, ◌++◌, drop, map, true}
use Rattle.std.specs.List.{enumerate_from}
use Rattle.or_base.specs.declared.item.Item.TheVariants.{Up}
use Rattle.or_actor.specs.declared.output.Output.TheVariants.{To}
use Rattle.or_actor.specs.Fits.{have_small_links}
use Rattle.net_record.specs.Roles.{link_number}
use Rattle.net_record.specs.Phases.{ups}
use Rattle.net_record.proofs.phasing.ups.Given as goal

-- the items so far and those of the links that are left
abbrev pub invariant-loop-number : goal.invariant-loop-number
invariant-loop-number l = record {
  issues : l.issues.items ++ map (λ link. To (link_number l.all link.0) Up) (enumerate_from l.number (drop l.number l.links)) ≡ ups l.all l.links;
  small : have_small_links l.issues.items ≡ true;
}
