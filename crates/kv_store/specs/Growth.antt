use Rattle.std.specs.Prelude.{◌≡◌, List, ◌++◌}
use Rattle.or_base.specs.declared.item.Item.{Item}
use Rattle.kv_store.specs.Store.{StoreState, store_step}

-- a list is the front of another, like a journal of a longer one: the other has these elements, and then more
pub record IsFront {X : Type 0} (front whole : List X) : Type 0 where
  pub more : List X
  pub is : whole ≡ front ++ more

-- a turn only adds to a store's journal
abbrev pub JournalsGrow : Type 0
JournalsGrow = (s : StoreState) (item : Item) → IsFront s.journal (store_step s item).0.journal
