use Rattle.std.proofs.Common.{◌≡◌, ◌++◌, length, map, ap, sym, subst, ◌∙◌, arith, rules}
use Rattle.std.specs.Vec.Iter.{into_iter_items}
use Rattle.std.proofs.lemmas.Grind.{common_steps}
use Rattle.or_base.specs.declared.entry.JournalEntry.TheVariants.{Expired}
use Rattle.kv_table.specs.Expiry.{keys_lost, expire}
use Rattle.kv_table.specs.Slots.{AreSlotsOf, AreDeadlinesOf}
use Rattle.kv_table.proofs.Changes.{slots_expired}
use Rattle.kv_table.proofs.Expiring.{due_in_wheel, deadlines_expired}
use Rattle.kv_table.proofs.table.KvTable.expire.Goals as goal

pub loop-key-init : goal.loop-key-init
loop-key-init c =
    let i = c.self.inside in
    let left : into_iter_items c.into_iter-key-iterator.result ≡ c.in_ok-key-items.key-items.items = search rules in
    let lost : c.in_ok-key-items.key-items.items ≡ keys_lost c.args.self.now c.args.now =
    c.in_ok-key-items.ensures.keys ∙ due_in_wheel i.entries.items i.wheel c.args.now c.self.invariant.of_lifetimes ∙ ap (λ journal. keys_lost journal c.args.now) c.self.view_is in
    let counted : length (into_iter_items c.into_iter-key-iterator.result) ≡ c.count_due-count.result = ap length (left ∙ c.in_ok-key-items.ensures.keys) ∙ sym c.count_due-count.ensures in
    record {
      rest =
          ap (λ entries. entries ++ map (λ key. Expired key c.args.now) (into_iter_items c.into_iter-key-iterator.result)) (c.reserve.ensures.items ∙ c.self.view_is)
          ∙ ap (λ keys. c.args.self.now ++ map (λ key. Expired key c.args.now) keys) (left ∙ lost);
      room = omega (arith, counted, c.in_ok-reserve.ensures.ok);
      slots = subst (λ items. AreSlotsOf items i.slots.entries) (sym c.reserve.ensures.items) c.self.invariant.of_keys;
      deadlines =
          subst (λ journal. AreDeadlinesOf (expire journal c.args.now) c.due.new.self) c.self.view_is
          (deadlines_expired i.entries.items i.wheel c.due.new.self c.args.now c.self.invariant.of_lifetimes c.in_ok-key-items.ensures.left);
    }

pub loop-key-preserved : goal.loop-key-preserved
loop-key-preserved c =
    let l = c.loop-key.self-inside in
    record {
      rest = grind (arith, common_steps);
      room = grind (arith, common_steps);
      slots =
          subst (λ items. AreSlotsOf items c.remove-slot.new.self.entries) (sym c.push_reserved.ensures.items)
          (slots_expired l.entries.items l.slots.entries c.remove-slot.new.self.entries c.in-Some.key c.args.now c.loop-key.invariant.slots c.remove-slot.ensures.entries);
      deadlines = c.loop-key.invariant.deadlines;
    }

pub returns-clause-count : goal.returns-clause-count
returns-clause-count c =
    let i = c.self.inside in
    c.count_due-count.ensures
    ∙ ap length (due_in_wheel i.entries.items i.wheel c.args.now c.self.invariant.of_lifetimes ∙ ap (λ journal. keys_lost journal c.args.now) c.self.view_is)
