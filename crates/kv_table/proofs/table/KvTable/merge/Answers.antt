use Rattle.std.proofs.Common.{◌≡◌, ◌++◌, ◌∷◌, [], length, ap, sym, subst, ◌∙◌, rules}
use Rattle.or_base.specs.declared.entry.JournalEntry.{JournalEntry}
use Rattle.or_base.specs.declared.entry.JournalEntry.TheVariants.{Merged}
use Rattle.kv_table.specs.Slots.{IsKeptFor, deadlines_with}
use Rattle.kv_table.proofs.Changes.{kept_merged}
use Rattle.kv_table.proofs.table.KvTable.merge.Goals as goal

pub invariant_of-self-2 : goal.invariant_of-self-2
invariant_of-self-2 c =
    let i = c.self.inside in
    let entry : JournalEntry = Merged c.args.pair c.args.now c.args.origin in
    let pushed : c.push_reserved.new.self.items ≡ i.entries.items ++ entry ∷ [] = c.push_reserved.ensures.items ∙ ap (λ es. es ++ entry ∷ []) c.reserve.ensures.items in
    let place : c.len.result ≡ length i.entries.items = search rules in
    subst (λ items. IsKeptFor items c.keep.new.slots.entries c.keep.new.wheel) (sym pushed)
    (kept_merged i.entries.items i.slots.entries c.keep.new.slots.entries i.wheel c.keep.new.wheel c.args.pair c.args.now c.args.origin c.len.result c.self.invariant place
    c.in_ok-keep.ensures.slots (c.in_ok-keep.ensures.wheel ∙ ap (deadlines_with i.wheel c.args.pair.key) c.deadline_from-deadline.ensures))
