use Rattle.std.proofs.Common.{◌≡◌, ◌+◌, ◌-◌, ◌≤◌, length}
use Rattle.net_scenario.specs.Seen.{nothing_seen}
use Rattle.net_scenario.specs.Language.{lines_in, lines_of, lines_from, after_lines}
use Rattle.net_scenario.specs.Tallied.{seen_in, IsTallied}
use Rattle.net_scenario.proofs.language.read_scenario.Given as goal

abbrev pub invariant-loop-left : goal.invariant-loop-left
invariant-loop-left l = record {
  within : length l.left ≤ length l.bytes;
  counted : l.number + length l.left ≤ length l.bytes + 1;
  tallied : IsTallied l.draft;
  same : after_lines (seen_in l.draft) l.turns (lines_from (length l.bytes) l.number (length l.bytes - length l.left) (lines_in l.left)) ≡ after_lines nothing_seen l.turns (lines_of l.bytes);
}

abbrev pub decreases-loop-left : goal.decreases-loop-left
decreases-loop-left l = length l.left
