use Rattle.std.proofs.Common.{cond, Some, ◌∙◌, ap}
use Rattle.std.specs.Map.{lookup}
use Rattle.std.specs.BTreeMap.{is_at}
use Rattle.or_base.specs.Order.{bytes_cmp}
use Rattle.ls_records.proofs.Told.{told_added}
use Rattle.ls_records.proofs.index.add.Goals as goal

pub returns : goal.returns
returns c =
    told_added c.args.index.now.entries c.take_all-all.new.index.entries c.insert-2.new.self.entries c.args.node.now c.args.entry.now c.take_all-all.result c.insert.new.self
    c.take_all-all.ensures.own c.take_all-all.ensures.left
    (λ n. c.in_ok-insert.ensures.updates.0 n ∙ ap (λ k. cond (is_at (bytes_cmp k) n) (Some c.args.entry.now) (lookup (is_at (bytes_cmp n)) c.take_all-all.result.entries)) c.in_ok-copied.ensures)
    c.in_ok-insert.ensures.ordered c.in_ok-insert-2.ensures.updates.0
