-- A turn of a module only adds to its entries: a store to its journal, and Decision to what it took; every other kind has none.
use Rattle.std.proofs.Common.{ℕ, ◌≤◌, [], ◌∷◌, Option, Some, None, length, refl}
use Rattle.or_base.specs.declared.item.Item.{Item}
use Rattle.or_base.specs.declared.item.Item.TheVariants.{Entry}
use Rattle.decision_core.specs.Decision.{DecisionState, decision_step}
use Rattle.kv_store.specs.Growth.{IsFront}
use Rattle.kv_store.specs.Store.{StoreState}
use Rattle.kv_store.proofs.Growth.{front_same, front_shorter, journals_grow}
use Rattle.net_record.specs.declared.kinds.AnyModule.{AnyModule}
use Rattle.net_record.specs.declared.kinds.AnyModule.TheVariants.{Store, Decision}
use Rattle.net_record.specs.declared.part.Part.{Part}
use Rattle.net_record.specs.declared.part.Part.TheVariants.{Driver, Desk, Module}
use Rattle.net_record.specs.Kinds.{module_step, store_in, entries_in}
use Rattle.net_record.specs.Actors.{part_step, store_of, entries_of}

-- both are no store, or both are one, and the second has the journal of the first and then more
abbrev pub Grows : Option StoreState → Option StoreState → Type 0
Grows None None = Unit {0}
Grows None (Some t) = ⊥
Grows (Some s) None = ⊥
Grows (Some s) (Some t) = IsFront s.journal t.journal

module_grows : (m : AnyModule) (lane : ℕ) (item : Item) → Grows (store_in m) (store_in (module_step m lane item).0)
unfolding module_step
module_grows (Store s) lane item = journals_grow s item
module_grows _ lane item = tt

pub part_grows : (part : Part) (lane : ℕ) (item : Item) (at : ℕ) → Grows (store_of part) (store_of (part_step part lane item at).0)
unfolding part_step
part_grows Driver lane item at = tt
part_grows (Desk d) lane item at = tt
part_grows (Module m) lane item at = module_grows m lane item

-- Decision takes an entry behind those that it took
decision_grows : (s : DecisionState) (item : Item) → IsFront s.taken (decision_step s item).0.taken
unfolding decision_step
decision_grows s (Entry entry) = record { more = entry ∷ []; is = refl }
decision_grows s _ = front_same s.taken

module_adds : (m : AnyModule) (lane : ℕ) (item : Item) → IsFront (entries_in m) (entries_in (module_step m lane item).0)
unfolding module_step
module_adds (Store s) lane item = journals_grow s item
module_adds (Decision s) lane item = decision_grows s item
module_adds _ lane item = front_same []

-- an actor's entries before a turn are the first of those after it
pub part_adds : (part : Part) (lane : ℕ) (item : Item) (at : ℕ) → IsFront (entries_of part) (entries_of (part_step part lane item at).0)
unfolding part_step
part_adds Driver lane item at = front_same []
part_adds (Desk d) lane item at = front_same []
part_adds (Module m) lane item at = module_adds m lane item

-- and so no fewer
pub part_longer : (part : Part) (lane : ℕ) (item : Item) (at : ℕ) → length (entries_of part) ≤ length (entries_of (part_step part lane item at).0)
part_longer part lane item at = front_shorter (entries_of part) (entries_of (part_step part lane item at).0) (part_adds part lane item at)
