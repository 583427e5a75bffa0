use Rattle.std.proofs.Common.{◌∙◌, ◌++◌, ◌∷◌, ℕ, List, map, ap, sym, rules}
use Rattle.std.specs.List.{filter_map}
use Rattle.std.specs.Map.Iter.{deref_pair}
use Rattle.std.proofs.lemmas.List.{append-nil}
use Rattle.std.proofs.lemmas.List.Elements.{All-same, All-head, All-rest}
use Rattle.std.proofs.lemmas.Map.Iter.{rest_more, rest_all}
use Rattle.kv_table.specs.declared.slot.Slot.{Slot}
use Rattle.kv_table.specs.Held.{row_shown}
use Rattle.kv_table.specs.Slots.{row_in}
use Rattle.kv_table.proofs.Rows.{SlotHasItsHash, all_hashes, one_row_more, rows_are}
use Rattle.kv_table.proofs.held.held_rows.Goals as goal

pub loop-key-init : goal.loop-key-init
loop-key-init c = record {
  rest = search rules;
  hashes =
      All-same (SlotHasItsHash c.args.journal.now) c.into_iter-key-iterator.result c.args.slots.now.entries (search rules)
      (all_hashes c.args.journal.now c.args.slots.now.entries c.requires);
}

pub add_row-requires : goal.add_row-requires
add_row-requires c =
    let slotted : List ℕ × Slot = (c.in-Some.key.now, c.in-Some.slot.now) in
    let turn = rest_more deref_pair c.loop-key.key-iterator c.next.new.self c.next.result (c.in-Some.key, c.in-Some.slot) c.in-Some.is c.next.ensures.steps in
    All-head (SlotHasItsHash c.args.journal.now) slotted c.next.new.self
    (All-same (SlotHasItsHash c.args.journal.now) (slotted ∷ c.next.new.self) c.loop-key.key-iterator (sym turn) c.loop-key.invariant.hashes)

pub loop-key-preserved : goal.loop-key-preserved
loop-key-preserved c =
    let slotted : List ℕ × Slot = (c.in-Some.key.now, c.in-Some.slot.now) in
    let turn = rest_more deref_pair c.loop-key.key-iterator c.next.new.self c.next.result (c.in-Some.key, c.in-Some.slot) c.in-Some.is c.next.ensures.steps in
    record {
      rest =
          one_row_more (row_in c.args.journal.now) (map row_shown c.add_row.new.rows.items) (map row_shown c.loop-key.rows.items) slotted c.loop-key.key-iterator c.next.new.self
          (filter_map (row_in c.args.journal.now) c.args.slots.now.entries) turn c.in_ok-add_row.ensures c.loop-key.invariant.rest;
      hashes = All-rest (SlotHasItsHash c.args.journal.now) slotted c.next.new.self c.loop-key.key-iterator turn c.loop-key.invariant.hashes;
    }

pub returns : goal.returns
returns c =
    let none = rest_all deref_pair c.loop-key.key-iterator c.next.new.self c.next.result c.in-None.is c.next.ensures.steps in
    let shown = map row_shown c.loop-key.rows.items in
    sym (append-nil shown)
    ∙ ap (λ slots. shown ++ filter_map (row_in c.args.journal.now) slots) (sym none)
    ∙ c.loop-key.invariant.rest
    ∙ rows_are c.args.journal.now c.args.slots.now.entries c.requires
