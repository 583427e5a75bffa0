-- The lanes on which an item waits: a round goes through these alone.
use Rattle.std.specs.Prelude.{◌≡◌, ℕ, List, [], ◌∷◌, Bool, length, map, if◌then◌else◌, slice_index_or}
use Rattle.std.specs.List.{enumerate_from}
use Rattle.std.specs.Ordering.{nat_cmp}
use Rattle.std.specs.BTreeSet.{insert_key}
use Rattle.std.specs.BTreeMap.{is_at}
use Rattle.std.specs.Set.{remove_key}
use Rattle.or_base.specs.declared.item.Stamped.{Stamped}
use Rattle.net_record.specs.World.{WorldState, is_empty}
use Rattle.net_record.specs.Rounds.{turns_on}
use Rattle.net_world.specs.declared.lanes.Busy.{Busy}

-- of lanes that are given with their numbers, the numbers of those on which an item waits
abbrev pub busy_among : List (ℕ × List Stamped) → List ℕ
busy_among [] = []
busy_among (lane ∷ lanes) = if is_empty lane.1 then busy_among lanes else lane.0 ∷ busy_among lanes

-- the numbers of the lanes on which an item waits
abbrev pub busy_numbers : List (List Stamped) → List ℕ
busy_numbers lanes = busy_among (enumerate_from 0 lanes)

-- a lane, and how many items wait on it
abbrev pub busy_at : List (List Stamped) → ℕ → Busy
busy_at lanes lane = record { lane = lane; count = length (slice_index_or lanes lane []) }

-- the lanes on which an item waits, with how many do
abbrev pub busy_lanes : List (List Stamped) → List Busy
busy_lanes lanes = map (busy_at lanes) (busy_numbers lanes)

-- of each of these lanes as many turns as items waited on it
abbrev pub turns_on_each : WorldState → List Busy → WorldState
turns_on_each w [] = w
turns_on_each w (busy ∷ others) = turns_on_each (turns_on w busy.lane busy.count) others

-- these are the numbers of the lanes on which an item waits
abbrev pub AreBusy : List (List Stamped) → List ℕ → Type 0
AreBusy lanes busy = busy ≡ busy_numbers lanes

-- the numbers with that of a lane on which an item waits now, where none did
abbrev pub with_busy : Bool → ℕ → List ℕ → List ℕ
with_busy was_empty lane busy = if was_empty then insert_key nat_cmp busy lane else busy

-- the numbers without that of a lane on which no item waits now
abbrev pub without_busy : Bool → ℕ → List ℕ → List ℕ
without_busy is_empty lane busy = if is_empty then remove_key (is_at (nat_cmp lane)) busy else busy
