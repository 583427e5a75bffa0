use Rattle.std.proofs.Common.{◌≡◌, ◌++◌, [], Some, ap, ◌∙◌, rules}
use Rattle.std.specs.Map.{keys_of}
use Rattle.or_base.specs.Journal.{held_keys}
use Rattle.kv_table.specs.Slots.{slot_reads}
use Rattle.kv_table.proofs.Found.{keys_held}
use Rattle.kv_table.proofs.table.KvTable.held_keys.Goals as goal

pub loop-key-init : goal.loop-key-init
loop-key-init c =
    let i = c.self.inside in
    let none : c.new-keys.result.items ≡ [] = search rules in
    let all : c.into_iter-key-iterator.result ≡ keys_of i.slots.entries = search rules in
    ap (λ ks. ks ++ c.into_iter-key-iterator.result) none ∙ all ∙ keys_held (slot_reads i.entries.items) (λ held. Some held) i.entries.items i.slots.entries c.self.invariant.of_keys.places ∙ ap held_keys c.self.view_is
