use Rattle.std.proofs.Common.{◌≡◌, ◌++◌, drop}
use Rattle.std.specs.Prelude.{string_bytes}
use Rattle.net_report.specs.Report.{stores_text}
use Rattle.net_report.specs.Indexes.{journals_of}
use Rattle.net_report.proofs.stores.stores_text.Given as goal

-- what is written and the stores that are left
abbrev pub invariant-loop-place : goal.invariant-loop-place
invariant-loop-place l = record {
  text :
      string_bytes l.out ++ stores_text (drop l.place l.nodes) (drop l.place (journals_of l.indexes.items)) (drop l.place l.marks) l.moment
      ≡ string_bytes l.fn.out ++ stores_text l.nodes (journals_of l.fn.indexes.items) l.marks l.moment;
  journals : journals_of l.indexes.items ≡ journals_of l.fn.indexes.items;
}
