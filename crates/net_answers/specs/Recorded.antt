-- What the record of a run tells of answers and of routes.
use Rattle.std.specs.Prelude.{◌≡◌, false, IsTrue}
use Rattle.net_laboratory.specs.Scenario.{Laboratory}
use Rattle.net_laboratory.specs.Sound.{is_sound}
use Rattle.net_record.specs.declared.record.Record.{Record}
use Rattle.net_record.specs.Reached.{IsOfARun}
use Rattle.net_record.specs.Roles.{node_names}
use Rattle.net_answers.specs.Answered.{AreAnswered, AreCurrent, asks_for_routes}
use Rattle.net_answers.specs.Routed.{AreRouted}

pub record RecordAnswers (lab : Laboratory) (done : Record) : Type 0 where
  -- each answer is what the first entries of its node's journal tell
  pub answers : AreAnswered (node_names lab) done.settles done.journals
  -- where no route is asked for, no desk is behind
  pub current : asks_for_routes lab ≡ false → AreCurrent done.settles
  -- the routes at settles are those from scratch
  pub routes : AreRouted lab done.journals done.settles

-- So it is of every record of every run of a sound laboratory.
abbrev pub RecordsAnswer : Type 0
RecordsAnswer = (lab : Laboratory) (done : Record) → IsTrue (is_sound lab) → IsOfARun lab done → RecordAnswers lab done
