-- The full syncs that a store started have numbers of their own.
use Rattle.std.specs.Prelude.{ℕ, ◌+◌, ◌-◌, ◌*◌, ◌^◌, ◌<◌, ◌≤◌, List, length, AllPairs}
use Rattle.or_base.specs.declared.item.Item.{Item}
use Rattle.or_base.specs.declared.kind.Kind.{Kind}
use Rattle.kv_sync.specs.Running.{AreAllNumbered}
pub use Rattle.kv_sync.specs.Running.{HaveOwnNumbers}
use Rattle.kv_store.specs.Growth.{IsFront}
use Rattle.kv_store.specs.Store.{StoreState, new_store, store_step}

-- What is kept of a store after so many turns. A turn brings at most one peer, and starts at most one full sync with
-- each, so that the counter of numbers stays far from its greatest number where turns are few.
pub record IsNumbered (turns : ℕ) (s : StoreState) : Type 0 where
  pub peers : length s.peers ≤ turns
  pub last : s.sessions.last ≤ turns * turns
  pub syncs : AreAllNumbered s.sessions s.done

pub record NumbersStayApart : Type 0 where
  pub start : (kind : Kind) (me : List ℕ) → IsNumbered 0 (new_store kind me)
  pub turn : (turns : ℕ) (s : StoreState) (item : Item) → IsNumbered turns s → IsNumbered (turns + 1) (store_step s item).0
  -- where turns are so few that the counter doesn't saturate, no two full syncs that were finished share a number
  pub differ : (turns : ℕ) (s : StoreState) → IsNumbered turns s → turns * turns < 2 ^ 64 - 1 → AllPairs HaveOwnNumbers s.done
  -- a full sync that was finished stays so, and later ones come behind it
  pub finished : (s : StoreState) (item : Item) → IsFront s.done (store_step s item).0.done
