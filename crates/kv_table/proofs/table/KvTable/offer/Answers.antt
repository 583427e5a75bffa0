use Rattle.std.proofs.Common.{rules, ◌≡◌, length, refl, ap, ◌∙◌}
use Rattle.kv_table.specs.Slots.{deadlines_with}
use Rattle.kv_table.proofs.Changes.{kept_same, kept_over}
use Rattle.kv_table.proofs.table.KvTable.offer.Goals as goal

pub invariant_of-self-then-not-exceeds : goal.invariant_of-self-then-not-exceeds
invariant_of-self-then-not-exceeds c =
    let i = c.self.inside in
    let slot = c.in-Some.slot.now in
    kept_same i.entries.items i.entries.items i.slots.entries (c.get_mut.follows.lender slot).entries i.wheel i.wheel c.args.pair.now.key slot slot
    c.self.invariant (search rules) (c.get_mut.follows.holds slot).0 refl refl refl

pub invariant_of-self-in_ok-merge_over-in-Some : goal.invariant_of-self-in_ok-merge_over-in-Some
invariant_of-self-in_ok-merge_over-in-Some c =
    let i = c.self.inside in
    let slot = c.merge_over.new.slot in
    let made = c.in_ok-merge_over-in-Some.ensures in
    kept_over i.entries.items c.merge_over.new.entries.items i.slots.entries (c.get_mut.follows.lender slot).entries i.wheel c.merge_over.new.wheel c.args.pair.now c.args.now c.args.origin c.in-Some.slot.now slot
    c.self.invariant (search rules) (c.get_mut.follows.holds slot).0 made.slot made.entries made.wheel

pub invariant_of-self-in_err-merge_over-in-Some : goal.invariant_of-self-in_err-merge_over-in-Some
invariant_of-self-in_err-merge_over-in-Some c =
    let i = c.self.inside in
    let slot = c.merge_over.new.slot in
    let made = c.in_err-merge_over-in-Some.ensures in
    kept_same i.entries.items c.merge_over.new.entries.items i.slots.entries (c.get_mut.follows.lender slot).entries i.wheel c.merge_over.new.wheel c.args.pair.now.key c.in-Some.slot.now slot
    c.self.invariant (search rules) (c.get_mut.follows.holds slot).0 made.slot_err made.entries_err made.wheel_err
