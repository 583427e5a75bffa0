-- When the stores of a run agree at a settle.
use Rattle.std.specs.Prelude.{◌≡◌, ℕ, ◌^◌, ◌<◌, List, ◌∷◌, length, true, option_map, option_to_list, IsTrue}
use Rattle.std.specs.List.{flat_map, enumerate_from}
use Rattle.kv_store.specs.Store.{StoreState}
use Rattle.kv_agree.specs.Joined.{StoreSeen, QuietlyAgree, AgreeAfterOneRound}
use Rattle.net_laboratory.specs.Scenario.{Laboratory}
use Rattle.net_laboratory.specs.Sound.{is_sound}
use Rattle.net_record.specs.declared.phase.Phase.{Phase}
use Rattle.net_record.specs.declared.actor.ActorState.{ActorState}
use Rattle.net_record.specs.Actors.{store_of}
use Rattle.net_record.specs.World.{WorldState, is_drained}
use Rattle.net_record.specs.Reached.{IsReached}
use Rattle.net_agree.specs.Lifted.{trace_at}

-- a store as a settle sees it, by its number
abbrev pub store_seen : WorldState → ℕ → StoreState → StoreSeen
store_seen w number s = record { name = s.me; journal = s.journal; makers = (trace_at w number s).makers; syncs = s.done }

-- the stores in a world, in the order of their nodes
abbrev pub stores_seen : WorldState → List StoreSeen
stores_seen w = flat_map (λ (n : ℕ × ActorState). option_to_list (option_map (store_seen w n.0) (store_of n.1.part))) (enumerate_from 0 w.actors)

-- the stores of each joined part agree, and so do two after one round
pub record AgreesAtSettle (w : WorldState) : Type 0 where
  pub quiet : QuietlyAgree (stores_seen w)
  pub one_round : AgreeAfterOneRound (stores_seen w)

-- So it is at every settle of any run of a laboratory that is shorter than 2^31 turns, under any legal schedule.
abbrev pub RunsAgree : Type 0
RunsAgree =
    (lab : Laboratory) (w : WorldState) (phase : Phase) (later : List Phase) → IsTrue (is_sound lab) → IsReached lab w (phase ∷ later) → is_drained w ≡ true
    → length w.turns < 2 ^ 31 → AgreesAtSettle w
