-- What holds of every store whose ticks don't go back, and of the pairs that it sends.
use Rattle.std.specs.Prelude.{◌≡◌, ℕ, ◌≤◌, List, true}
use Rattle.std.specs.List.{Contains, AllByRecursion}
use Rattle.or_base.specs.declared.value.Pair.{Pair}
use Rattle.or_base.specs.declared.entry.JournalEntry.{JournalEntry}
use Rattle.or_base.specs.declared.entry.JournalEntry.TheVariants.{Merged, Expired, Cleared}
use Rattle.or_base.specs.declared.kind.Kind.{Kind}
use Rattle.or_base.specs.declared.message.Msg.{Msg}
use Rattle.or_base.specs.declared.message.Msg.TheVariants.{Reply, Push}
use Rattle.or_base.specs.declared.item.Item.{Item}
use Rattle.or_base.specs.declared.item.Item.TheVariants.{Tick, Net}
use Rattle.or_base.specs.Limits.{is_valid_pair}
use Rattle.or_actor.specs.declared.output.Output.{Output}
use Rattle.or_actor.specs.declared.output.Output.TheVariants.{To}
use Rattle.kv_store.specs.Store.{StoreState, new_store, store_step}
use Rattle.kv_agree.specs.Exchange.{IsMade}

-- the entry was made at the moment or before it
abbrev pub IsBy : ℕ → JournalEntry → Type 0
IsBy moment (Merged pair at origin) = at ≤ moment
IsBy moment (Expired key at) = at ≤ moment
IsBy moment (Cleared at) = at ≤ moment

-- A store's journal is made of offers, expiries and restarts, none of them later than its moment.
pub record IsOrderly (s : StoreState) : Type 0 where
  pub made : IsMade s.journal
  pub timely : AllByRecursion (IsBy s.moment) s.journal

-- a tick doesn't go back behind the store's moment
abbrev pub IsNotBefore : ℕ → Item → Type 0
IsNotBefore moment item = (at : ℕ) → item ≡ Tick at → moment ≤ at

abbrev pub AreValid : List Pair → Type 0
AreValid pairs = AllByRecursion (λ pair. is_valid_pair pair ≡ true) pairs

-- of these messages, the pairs of each reply and of each push are within the limits
pub record CarryValid (msgs : List Msg) : Type 0 where
  pub replies : (session b0 : ℕ) (pairs : List Pair) (wanted : List (List ℕ)) (withheld : ℕ) → Contains msgs (Reply session b0 pairs wanted withheld) → AreValid pairs
  pub pushes : (session : ℕ) (pairs : List Pair) → Contains msgs (Push session pairs) → AreValid pairs

-- the message is among those that a turn sends to the port
abbrev pub IsSentTo : ℕ → ℕ → List ℕ → List Output → Msg → Type 0
IsSentTo port link me sent msg = Contains sent (To port (Net link me msg))

-- A new store is orderly. An orderly store stays so over a turn with an item that doesn't go back, and the pairs of the replies
-- and pushes that the turn sends are within the limits.
pub record StaysOrderly : Type 0 where
  pub starts : (kind : Kind) (me : List ℕ) → IsOrderly (new_store kind me)
  pub goes_on : (s : StoreState) (item : Item) → IsNotBefore s.moment item → IsOrderly s → IsOrderly (store_step s item).0
  pub replies : (s : StoreState) (item : Item) (port link session b0 : ℕ) (pairs : List Pair) (wanted : List (List ℕ)) (withheld : ℕ) → IsNotBefore s.moment item → IsOrderly s
      → IsSentTo port link s.me (store_step s item).1 (Reply session b0 pairs wanted withheld) → AreValid pairs
  pub pushes : (s : StoreState) (item : Item) (port link session : ℕ) (pairs : List Pair) → IsNotBefore s.moment item → IsOrderly s
      → IsSentTo port link s.me (store_step s item).1 (Push session pairs) → AreValid pairs
