use Rattle.std.proofs.Common.{rules}
use Rattle.std.specs.Ordering.{is_lt}
use Rattle.std.proofs.lemmas.List.Sorted.{answers_always}
use Rattle.or_base.specs.Order.{bytes_cmp}
use Rattle.kv_sync.proofs.InOrder.{in_key_order}
use Rattle.kv_sync.proofs.rows.are_in_key_order.Goals as goal

pub returns : goal.returns
returns c =
    in_key_order c.args.rows.now c.is_sorted_by.result
    (c.is_sorted_by.ensures.cases (λ row next. is_lt (bytes_cmp row.key next.key)) (answers_always _ _ _ (λ f a r f' k. search rules)))
