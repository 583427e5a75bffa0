use Rattle.std.proofs.Common.{◌≡◌, ◌++◌, drop, true}
use Rattle.std.specs.Prelude.{All}
use Rattle.or_actor.specs.Fits.{have_small_links}
use Rattle.net_record.specs.Phases.{phases_from}
use Rattle.net_record.specs.Small.{IssuesSmallLinks}
use Rattle.net_record.proofs.phasing.phases_from.Given as goal

-- the phases so far, and those that the items so far and the commands that are left give
abbrev pub invariant-loop-command : goal.invariant-loop-command
invariant-loop-command l = record {
  phases : l.phases.items ++ phases_from l.all l.moment l.issues.items (drop l.command-index l.commands) ≡ phases_from l.all 0 l.fn.first.items l.commands;
  small : All IssuesSmallLinks l.phases.items;
  issues : have_small_links l.issues.items ≡ true;
}
