-- The worlds to which a run of a laboratory comes, under any legal schedule, and the records of such runs.
use Rattle.std.specs.Prelude.{◌≡◌, ◌≤◌, List, ◌∷◌, length, true}
use Rattle.net_laboratory.specs.Limits.{most_turns}
use Rattle.net_laboratory.specs.Scenario.{Laboratory}
use Rattle.net_laboratory.specs.declared.schedule.Turn.{Turn}
use Rattle.net_record.specs.declared.phase.Phase.{Phase}
use Rattle.net_record.specs.declared.record.Record.{Record}
use Rattle.net_record.specs.Phases.{phases}
use Rattle.net_record.specs.Answers.{desks_asked}
use Rattle.net_record.specs.World.{WorldState, start, turn, settle, is_drained}
use Rattle.net_record.specs.Records.{record_of}
use Rattle.net_record.specs.Run.{begin, is_legal}

-- A run of the laboratory comes to the world with these phases not settled yet, of which the first has begun: as it starts, by a legal turn of a
-- phase, or by the settle of a phase once no item waits, behind which the next phase begins.
pub data IsReached (lab : Laboratory) : WorldState → List Phase → Type 0 where
  starts : IsReached lab (begin (start lab) (phases lab)) (phases lab)
  turns : (w : WorldState) (phase : Phase) (later : List Phase) (t : Turn) → IsReached lab w (phase ∷ later) → is_legal w t ≡ true
      → IsReached lab (turn w t.lane t.at) (phase ∷ later)
  settles : (w : WorldState) (phase : Phase) (later : List Phase) → IsReached lab w (phase ∷ later) → is_drained w ≡ true
      → IsReached lab (begin (settle phase.moment (desks_asked phase.issues) phase.shows_routes w) later) later

-- The record is that of a run of the laboratory as far as it came, under some legal schedule of no more turns than the budget allows.
pub record IsOfARun (lab : Laboratory) (done : Record) : Type 0 where
  pub world : WorldState
  pub later : List Phase
  pub reached : IsReached lab world later
  pub few : length done.turns ≤ most_turns
  pub is : done ≡ record_of world done.marks
