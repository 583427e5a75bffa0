-- How many peers and sessions a store may have after so many turns.
use Rattle.std.specs.Prelude.{ℕ, ◌*◌, ◌≤◌, List, length}
use Rattle.kv_store.specs.Store.{StoreState}
use Rattle.net_laboratory.specs.Scenario.{Laboratory}
use Rattle.net_record.specs.declared.phase.Phase.{Phase}
use Rattle.net_record.specs.World.{WorldState}
use Rattle.net_record.specs.Reached.{IsReached}
use Rattle.net_agree.specs.Routed.{IsStoreAt}

-- after so many turns a store has no more peers than turns, and gave each turn at most as many numbers
pub record IsFewAfter (turns : ℕ) (s : StoreState) : Type 0 where
  pub peers : length s.peers ≤ turns
  pub numbers : s.sessions.last ≤ turns * turns

-- so it is in every run
abbrev pub RunsAreCounted : Type 0
RunsAreCounted = (lab : Laboratory) (w : WorldState) (later : List Phase) (number : ℕ) (s : StoreState) → IsReached lab w later → IsStoreAt w number s → IsFewAfter (length w.turns) s
