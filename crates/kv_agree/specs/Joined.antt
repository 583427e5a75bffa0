-- When the stores of joined nodes agree.
use Rattle.std.specs.Prelude.{◌≡◌, ℕ, List, length, ◌⊎◌}
use Rattle.std.specs.List.{Contains}
use Rattle.or_base.specs.declared.entry.JournalEntry.{JournalEntry}
use Rattle.or_base.specs.declared.item.Item.{Item}
use Rattle.or_base.specs.declared.session.SyncDone.{SyncDone}
use Rattle.kv_agree.specs.Agreement.{Agree, NoCollision}
use Rattle.kv_agree.specs.Traced.{TracedStore, Trace}
use Rattle.kv_agree.specs.Paired.{OnWay, IsPaired, IsOneRound}

-- A store as a settle sees it: its node's name, its journal, for each entry the item in whose turn it was made, and the full syncs that it
-- started and that were finished so far.
pub record StoreSeen : Type 0 where
  pub name : List ℕ
  pub journal : List JournalEntry
  pub makers : List Item
  pub syncs : List SyncDone

-- ---- joined parts

-- A full sync that the one started with the other was finished: nothing was withheld, and its lengths are those that the two journals have.
pub record IsSyncedBy (starter peer : StoreSeen) : Type 0 where
  pub sync : SyncDone
  pub finished : Contains starter.syncs sync
  pub with : sync.peer ≡ peer.name
  pub a0 : sync.a0 ≡ length starter.journal
  pub b0 : sync.b0 ≡ length peer.journal
  pub nothing_withheld : sync.withheld ≡ 0

-- two stores are synced, by a full sync that either started
abbrev pub AreSynced : StoreSeen → StoreSeen → Type 0
AreSynced a b = IsSyncedBy a b ⊎ IsSyncedBy b a

-- two of these stores are in one joined part: a chain of synced stores joins them
pub data AreJoined (stores : List StoreSeen) : StoreSeen → StoreSeen → Type 0 where
  alone : (a : StoreSeen) → Contains stores a → AreJoined stores a a
  next : (a b c : StoreSeen) → AreJoined stores a b → Contains stores c → AreSynced b c → AreJoined stores a c

-- no two values that these stores merged collide
abbrev pub NoneCollide : List StoreSeen → Type 0
NoneCollide stores = (a b : StoreSeen) → Contains stores a → Contains stores b → NoCollision a.journal b.journal

-- ---- one round

abbrev pub trace_seen : StoreSeen → Trace
trace_seen s = record { journal = s.journal; makers = s.makers }

-- A full sync of a with b was finished and withheld nothing, and all that either journal has past its lengths came in it.
pub record IsOneRoundOf (d : SyncDone) (a b : StoreSeen) : Type 0 where
  pub finished : Contains a.syncs d
  pub with : d.peer ≡ b.name
  pub nothing_withheld : d.withheld ≡ 0
  pub round : IsOneRound d.link d (trace_seen a) (trace_seen b)

-- ---- stores that are paired

-- the two are a starter and its peer over the link
pub record IsPairOn (link : ℕ) (a b : StoreSeen) : Type 0 where
  pub starter : TracedStore
  pub peer : TracedStore
  pub out : OnWay
  pub back : OnWay
  pub paired : IsPaired link starter peer out back
  pub journal_a : starter.store.journal ≡ a.journal
  pub makers_a : starter.makers ≡ a.makers
  pub syncs_a : starter.store.done ≡ a.syncs
  pub journal_b : peer.store.journal ≡ b.journal
  pub makers_b : peer.makers ≡ b.makers

-- each full sync that was finished is of a pair
abbrev pub ArePaired : List StoreSeen → Type 0
ArePaired stores = (d : SyncDone) (a b : StoreSeen) → Contains stores a → Contains stores b → Contains a.syncs d → d.peer ≡ b.name → IsPairOn d.link a b

-- ---- what is promised

-- Quiet agreement: all stores of a joined part agree.
abbrev pub QuietlyAgree : List StoreSeen → Type 0
QuietlyAgree stores = NoneCollide stores → (a b : StoreSeen) → AreJoined stores a b → Agree a.journal b.journal

-- One round is enough: the two agree.
abbrev pub AgreeAfterOneRound : List StoreSeen → Type 0
AgreeAfterOneRound stores = NoneCollide stores → (d : SyncDone) (a b : StoreSeen) → Contains stores a → Contains stores b → IsOneRoundOf d a b → Agree a.journal b.journal

-- stores that are paired agree so
pub record PairedStoresAgree : Type 0 where
  pub quiet : (stores : List StoreSeen) → ArePaired stores → QuietlyAgree stores
  pub one_round : (stores : List StoreSeen) → ArePaired stores → AgreeAfterOneRound stores
