-- What the record of a run tells, under any legal schedule, whether every phase was settled or not.
use Rattle.std.specs.Prelude.{◌≡◌, ℕ, List, ◌∷◌, ◌++◌, length, take, true, AllPairs}
use Rattle.kv_store.specs.Numbered.{HaveOwnNumbers}
use Rattle.net_laboratory.specs.Scenario.{Laboratory}
use Rattle.net_record.specs.declared.phase.Phase.{Phase}
use Rattle.net_record.specs.declared.record.Record.{Record}
use Rattle.net_record.specs.declared.record.SettleDone.{SettleDone}
use Rattle.net_record.specs.Answers.{desks_asked, giving_of}
use Rattle.net_record.specs.Fronts.{fronts}
use Rattle.net_record.specs.Reached.{IsReached, IsOfARun}
use Rattle.net_record.specs.Records.{journals_of}
use Rattle.net_record.specs.Syncs.{syncs_told}
use Rattle.net_record.specs.World.{WorldState, is_drained, settle_done}

-- A settle of a record, behind those before, was done in a world of a run in which no item waited: that of the turns that the record
-- has until then. It tells what was there, and the journals there are the entries that it tells of, the first of those in the record.
pub record IsToldAtSettle (lab : Laboratory) (done : Record) (before : List SettleDone) (s : SettleDone) : Type 0 where
  pub world : WorldState
  pub phase : Phase
  pub later : List Phase
  pub reached : IsReached lab world (phase ∷ later)
  pub drained : is_drained world ≡ true
  pub settles : world.settles ≡ before
  pub turns : world.turns ≡ take s.turns done.turns
  pub tells : s ≡ settle_done phase.moment (length world.turns) world.actors phase.shows_routes (giving_of world.actors (desks_asked phase.issues)).answers
  pub stores : journals_of world.actors ≡ fronts s.nodes done.journals

-- what the settles of a record tell of stores and of finished full syncs
pub record RecordTells (lab : Laboratory) (done : Record) : Type 0 where
  -- each settle tells what was there
  pub settles : (before later : List SettleDone) (s : SettleDone) → done.settles ≡ before ++ s ∷ later → IsToldAtSettle lab done before s
  -- no two full syncs of one store that are told as finished have one number
  pub syncs : (place : ℕ) → AllPairs HaveOwnNumbers (syncs_told place done.settles)

-- So it is of every record of every run.
abbrev pub RunsTell : Type 0
RunsTell = (lab : Laboratory) (done : Record) → IsOfARun lab done → RecordTells lab done
