use Rattle.std.proofs.Common.{ap, sym, ◌∙◌}
use Rattle.kv_sync.specs.Rows.{row_key}
use Rattle.kv_sync.specs.Walk.{held_key, left_of}
use Rattle.kv_sync.proofs.Walking.{better_step, wanted_step, ordered_left, hashes_left, put_behind, all_behind, none_held, no_rows}
use Rattle.kv_sync.proofs.difference.difference_of.Goals.{then-loop-held_row-test+else-not-is_empty, else-loop-held_row-test}
use Rattle.kv_sync.proofs.difference.difference_of.Goals as goal

pub loop-held_row-preserved : goal.loop-held_row-preserved
loop-held_row-preserved c =
    let held = c.loop-held_row.held_left.now in
    let rows = c.loop-held_row.rows_left.now in
    let some = sym c.is_empty.ensures ∙ c.loop-held_row-test.true in
    let some_rows = sym c.is_empty-in-loop-held_row.ensures ∙ c.if-not-is_empty.true in
    let left = c.left_of-held_left.ensures ∙ ap (λ o. left_of o held) c.is_le.ensures in
    let left_rows = c.left_of-rows_left.ensures ∙ ap (λ o. left_of o rows) c.is_ge.ensures in
    let order = c.loop-held_row.invariant.held_order in
    let rows_order = c.loop-held_row.invariant.rows_order in
    record {
      better = put_behind _ _ _ _ _ _ c.in_ok-add_if.ensures
          (better_step held rows _ _ c.cmp-order.result c.compare_firsts-is_better.result.0 _ _ some some_rows c.index-held_left-0.is c.index-rows_left-0.is order rows_order
          c.cmp-order.ensures (ap (λ t. t.0) c.compare_firsts-is_better.ensures) left left_rows)
          c.loop-held_row.invariant.better;
      wanted = put_behind _ _ _ _ _ _ c.in_ok-add_if-2.ensures
          (wanted_step held rows _ _ c.cmp-order.result c.compare_firsts-is_better.result.1 _ _ some some_rows c.index-held_left-0.is c.index-rows_left-0.is order rows_order
          c.cmp-order.ensures (ap (λ t. t.1) c.compare_firsts-is_better.ensures) left left_rows)
          c.loop-held_row.invariant.wanted;
      held_order = rw c.left_of-held_left.ensures (ordered_left held_key c.is_le.result held order);
      rows_order = rw c.left_of-rows_left.ensures (ordered_left row_key c.is_ge.result rows rows_order);
      hashes = rw c.left_of-held_left.ensures (hashes_left c.is_le.result held c.loop-held_row.invariant.hashes);
    }

pub returns-clause-better : goal.returns-clause-better
returns-clause-better c =
    elim c.loop-held_row-test.branch [
      | then-loop-held_row-test+else-not-is_empty w ↦
          all_behind _ _ _ _ _ c.in_ok-add_held.ensures (no_rows c.loop-held_row.held_left.now c.loop-held_row.rows_left.now (sym w.is_empty-in-loop-held_row.ensures ∙ w.if-not-is_empty.false)).0
          c.loop-held_row.invariant.better
      | else-loop-held_row-test w ↦
          all_behind _ _ _ _ _ c.in_ok-add_held.ensures (none_held c.loop-held_row.held_left.now c.loop-held_row.rows_left.now (sym c.is_empty.ensures ∙ w.loop-held_row-test.false)).0
          c.loop-held_row.invariant.better
    ]

pub returns-clause-wanted : goal.returns-clause-wanted
returns-clause-wanted c =
    elim c.loop-held_row-test.branch [
      | then-loop-held_row-test+else-not-is_empty w ↦
          all_behind _ _ _ _ _ c.in_ok-add_rows.ensures (no_rows c.loop-held_row.held_left.now c.loop-held_row.rows_left.now (sym w.is_empty-in-loop-held_row.ensures ∙ w.if-not-is_empty.false)).1
          c.loop-held_row.invariant.wanted
      | else-loop-held_row-test w ↦
          all_behind _ _ _ _ _ c.in_ok-add_rows.ensures (none_held c.loop-held_row.held_left.now c.loop-held_row.rows_left.now (sym c.is_empty.ensures ∙ w.loop-held_row-test.false)).1
          c.loop-held_row.invariant.wanted
    ]
