-- Ticks never go back.
use Rattle.std.specs.Prelude.{◌≡◌, ℕ, ◌≤◌, ◌≢◌, List, ◌∷◌, Some, slice_get, IsTrue, All, AllPairs}
use Rattle.std.specs.List.{Contains}
use Rattle.or_base.specs.declared.item.Item.TheVariants.{Tick}
use Rattle.or_base.specs.declared.item.Stamped.{Stamped}
use Rattle.kv_store.specs.Store.{StoreState}
use Rattle.net_laboratory.specs.Scenario.{Laboratory}
use Rattle.net_laboratory.specs.Sound.{is_sound}
use Rattle.net_record.specs.declared.phase.Phase.{Phase}
use Rattle.net_record.specs.declared.wire.Wire.{Wire}
use Rattle.net_record.specs.World.{WorldState, waiting}
use Rattle.net_record.specs.Reached.{IsReached}
use Rattle.net_agree.specs.Routed.{IsStoreAt}

-- a tick is to this moment or to a later one, and to this moment or to an earlier one
abbrev pub IsFrom : ℕ → Stamped → Type 0
IsFrom moment s = (at : ℕ) → s.item ≡ Tick at → moment ≤ at

abbrev pub IsUntil : ℕ → Stamped → Type 0
IsUntil moment s = (at : ℕ) → s.item ≡ Tick at → at ≤ moment

-- of two ticks the later isn't to an earlier moment
abbrev pub DoesNotGoBack : Stamped → Stamped → Type 0
DoesNotGoBack s later = (at : ℕ) → s.item ≡ Tick at → IsFrom at later

-- the items are no ticks
abbrev pub AreNoTicks : List Stamped → Type 0
AreNoTicks items = (s : Stamped) → Contains items s → (at : ℕ) → s.item ≢ Tick at

-- In a world with these phases not settled yet: ticks come from the driver alone; those that wait on a lane don't go back, nor behind the moment of a
-- store that reads from it; and none is past the moment of the phase that has begun.
pub record IsTimed (w : WorldState) (later : List Phase) : Type 0 where
  pub driven : (lane : ℕ) (wire : Wire) → slice_get w.wires lane ≡ Some wire → wire.writer ≢ 0 → AreNoTicks (waiting w lane)
  pub in_order : (lane : ℕ) → AllPairs DoesNotGoBack (waiting w lane)
  pub from_moment : (lane : ℕ) (wire : Wire) (s : StoreState) → slice_get w.wires lane ≡ Some wire → IsStoreAt w wire.reader s → All (IsFrom s.moment) (waiting w lane)
  pub until : (phase : Phase) (others : List Phase) → later ≡ phase ∷ others → (lane : ℕ) → All (IsUntil phase.moment) (waiting w lane)
  pub stores : (phase : Phase) (others : List Phase) → later ≡ phase ∷ others → (number : ℕ) (s : StoreState) → IsStoreAt w number s → s.moment ≤ phase.moment

-- in every run ticks never go back
abbrev pub RunsAreTimed : Type 0
RunsAreTimed = (lab : Laboratory) (w : WorldState) (later : List Phase) → IsTrue (is_sound lab) → IsReached lab w later → IsTimed w later
