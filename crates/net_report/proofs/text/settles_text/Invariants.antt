use Rattle.std.proofs.Common.{◌≡◌, ◌≤◌, ◌+◌, ◌++◌, drop}
use Rattle.std.specs.Prelude.{string_bytes}
use Rattle.std.specs.List.{flat_map, filter_map, enumerate_from}
use Rattle.net_report.specs.Report.{settle_show, shown_after, phase_text, settles_text}
use Rattle.net_report.specs.Indexes.{journals_of}
use Rattle.net_report.proofs.text.settles_text.Given as goal

-- what is written, and what the settles that are left give; the number counts no more than the commands; the indexes are those of
-- the record's journals
abbrev pub invariant-loop-command : goal.invariant-loop-command
invariant-loop-command l = record {
  text : string_bytes l.out ++ flat_map (phase_text l.done l.scenario l.trace) (enumerate_from l.k (shown_after l.before (filter_map settle_show (drop l.command-index l.scenario.commands)) l.left))
      ≡ string_bytes l.fn.out ++ settles_text l.done l.scenario l.trace;
  few : l.k ≤ l.command-index + 1;
  journals : journals_of l.indexes.items ≡ l.done.journals;
}
