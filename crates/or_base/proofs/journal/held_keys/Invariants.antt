use Rattle.std.proofs.Common.{◌≡◌, ◌++◌}
use Rattle.std.specs.Prelude.{filter, is_some}
use Rattle.std.specs.Vec.Iter.{into_iter_items}
use Rattle.or_base.specs.Journal.{holds, held_keys}
use Rattle.or_base.proofs.journal.held_keys.Given as goal

-- the held keys so far, and those that are left
abbrev pub invariant-loop-key : goal.invariant-loop-key
invariant-loop-key l = l.held.items ++ filter (λ key. is_some (holds l.journal key)) (into_iter_items l.key-iterator) ≡ held_keys l.journal
