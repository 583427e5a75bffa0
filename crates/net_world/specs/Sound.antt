use Rattle.std.specs.Prelude.{◌≡◌, ℕ, ◌+◌, ◌<◌, ◌≤◌, ◌^◌, length, List, All, IsTrue}
use Rattle.or_base.specs.declared.item.Stamped.{Stamped}
use Rattle.or_actor.specs.Fits.{has_small_link}
use Rattle.net_record.specs.declared.actor.ActorState.{ActorState}
use Rattle.net_record.specs.World.{WorldState}
use Rattle.net_record.specs.Wired.{IsWired}
use Rattle.or_base.specs.Counting.{saturate}
use Rattle.net_record.specs.Weight.{weight_of}

-- the stamp is at most n, and a link that the item names has a number below 2^31
abbrev pub IsSoundItem : ℕ → Stamped → Type 0
IsSoundItem n s = (s.stamp ≤ n) × IsTrue (has_small_link s.item)

abbrev pub IsSoundLane : ℕ → List Stamped → Type 0
IsSoundLane n items = All (IsSoundItem n) items

abbrev pub IsAtMost : ℕ → ℕ → Type 0
IsAtMost n stamp = stamp ≤ n

-- an actor's clock and the stamps of its journal's entries are at most n
abbrev pub IsClockedBelow : ℕ → ActorState → Type 0
IsClockedBelow n actor = (actor.clock ≤ n) × All (IsAtMost n) actor.made

-- where lanes are sound up to a bound that the stamp keeps, they are so after items with the stamp are put on them
pub record StaySound (stamp : ℕ) (before after : List (List Stamped)) : Type 0 where
  pub sound : (most : ℕ) → stamp ≤ most → All (IsSoundLane most) before → All (IsSoundLane most) after

-- as many actors as before, with clocks and stamps that are at most what those before keep
pub record StayClocked (before after : List ActorState) : Type 0 where
  pub len : length after ≡ length before
  pub clocks : (most : ℕ) → All (IsClockedBelow most) before → All (IsClockedBelow most) after

-- how many turns and settles are done
abbrev pub done_in : WorldState → ℕ
done_in w = length w.turns + length w.settles

-- Lanes and their ends are there, lanes have 32-bit numbers, every stamp and clock is at most the turns and settles done,
-- and every link that an item names has a small number. Each turn keeps this.
pub record IsSound (w : WorldState) : Type 0 where
  pub wired : IsWired w
  pub few : length w.wires < 2 ^ 32
  pub items : All (IsSoundLane (done_in w)) w.lanes
  pub clocks : All (IsClockedBelow (done_in w)) w.actors

-- what a world keeps: it is sound, and it has the weight of its turns and settles
pub record IsKept (w : WorldState) (weight : ℕ) : Type 0 where
  pub sound : IsSound w
  pub weighed : weight ≡ saturate (weight_of w.turns w.settles)
