use Rattle.std.proofs.Common.{◌≡◌, drop, fold}
use Rattle.ls_records.specs.Index.{with_changed}
use Rattle.ls_records.proofs.index.add_all_changed.Given as goal

abbrev pub invariant-loop-entry : goal.invariant-loop-entry
invariant-loop-entry l =
    fold (with_changed l.index.entries l.node) l.prefixes.keys (drop l.entry-index l.entries) ≡ fold (with_changed l.index.entries l.node) l.fn.prefixes.keys l.entries
