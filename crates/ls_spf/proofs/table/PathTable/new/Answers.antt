use Rattle.std.proofs.Common.{rules}
use Rattle.ls_spf.proofs.Alone.{alone}
use Rattle.ls_spf.proofs.table.PathTable.new.Goals as goal

pub returns-clause-right : goal.returns-clause-right
returns-clause-right c = record {
  row = λ q.
      alone c.args.me c.in_ok-copied.field-0 q c.new-rows.result c.set_row.new.rows c.from_vec.result c.from_vec-2.result c.in_ok-copied.ensures
      (search rules) (search rules) c.new-rows.ensures.empty (c.in_ok-set_row.ensures q);
}
