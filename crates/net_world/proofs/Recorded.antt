-- What the laws of runs say of the record of a run by round robin, and of one under given turns.
use Rattle.std.proofs.Common.{◌≡◌, ℕ, List, [], Some, None, Err, refl, sym, ap, ◌∙◌, subst}
use Rattle.std.specs.Prelude.{IsTrue}
use Rattle.net_laboratory.specs.Scenario.{Laboratory}
use Rattle.net_laboratory.specs.Sound.{is_sound}
use Rattle.net_laboratory.specs.declared.schedule.Turn.{Turn}
use Rattle.net_record.specs.declared.record.Record.{Record}
use Rattle.net_record.specs.Rounds.{round_robin}
use Rattle.net_record.specs.Run.{run, schedule_of, RoundsAreARun}
use Rattle.net_record.specs.Records.{record_of, IsSettled, IsRecordOf}
use Rattle.net_record.specs.Reached.{IsOfARun}
use Rattle.net_record.specs.Given.{run_given, GivenIsARun, GivenAreDone, RoundsAreReached, GivenIsReached}
use Rattle.net_record.specs.Ends.{EndsDrained, SettledRoundsEndDrained, GivenEndsDrained}
use Rattle.net_record.specs.Tells.{RecordTells, RunsTell}
use Rattle.net_answers.specs.Recorded.{RecordAnswers, RecordsAnswer}
use Rattle.net_agree.specs.Recorded.{RecordAgrees, RecordsAgree}
use Rattle.net_world.specs.declared.fault.RunFault.{RunFault}
use Rattle.net_world.specs.declared.fault.RunFault.TheVariants.{Unsettled, NoMemory}
use Rattle.net_world.specs.declared.fault.ReplayFault.{ReplayFault}
use Rattle.net_world.specs.declared.fault.ReplayFault.TheVariants.{BadTurn as NamesTurn, Unsettled as NamesPhase, NoMemory as GivenNoMemory}
use Rattle.net_world.specs.Fault.{IsFaultOf, FaultTells, FaultAnswers, FaultAgrees}
use Rattle.net_world.specs.Given.{IsGivenRecord, IsGivenFault, NamesBadTurn}

-- ---- round robin

-- the record is that of the run under the schedule of its own turns
pub recorded_run : (lab : Laboratory) (done : Record) → RoundsAreARun → IsSettled (round_robin lab) done → IsRecordOf (run lab (schedule_of done.turns)) done
recorded_run lab done law settled =
    subst (λ (d : Record). IsRecordOf (run lab (schedule_of d.turns)) d) (sym settled.all)
    (rw (law lab settled.settled) refl)

-- no item waits, and each phase has its settle
pub recorded_end : (lab : Laboratory) (done : Record) → SettledRoundsEndDrained → IsSettled (round_robin lab) done → EndsDrained lab (round_robin lab).last.world
recorded_end lab done law settled = law lab settled.settled

-- what the record tells
pub recorded_tells : (lab : Laboratory) (done : Record) → RunsTell → RoundsAreReached → IsSettled (round_robin lab) done → RecordTells lab done
recorded_tells lab done law reached settled = law lab done (subst (IsOfARun lab) (sym settled.all) (reached lab))

-- and that of a run that is unsettled
pub fault_tells : (lab : Laboratory) (fault : RunFault) → RunsTell → RoundsAreReached → IsFaultOf (round_robin lab) fault → FaultTells lab fault
fault_tells lab (Unsettled settle done) law reached unsettled = law lab done (subst (IsOfARun lab) (sym unsettled.all) (reached lab))
fault_tells lab NoMemory law reached unsettled = tt

-- its answers and routes are what its journals tell
pub recorded_answers : (lab : Laboratory) (done : Record) → RecordsAnswer → RoundsAreReached → IsTrue (is_sound lab) → IsSettled (round_robin lab) done → RecordAnswers lab done
recorded_answers lab done law reached sound settled = law lab done sound (subst (IsOfARun lab) (sym settled.all) (reached lab))

pub fault_answers : (lab : Laboratory) (fault : RunFault) → RecordsAnswer → RoundsAreReached → IsTrue (is_sound lab) → IsFaultOf (round_robin lab) fault → FaultAnswers lab fault
fault_answers lab (Unsettled settle done) law reached sound unsettled = law lab done sound (subst (IsOfARun lab) (sym unsettled.all) (reached lab))
fault_answers lab NoMemory law reached sound unsettled = tt

-- the stores of the record agree
pub recorded_agrees : (lab : Laboratory) (done : Record) → RecordsAgree → RoundsAreReached → IsTrue (is_sound lab) → IsSettled (round_robin lab) done → RecordAgrees lab done
recorded_agrees lab done law reached sound settled = law lab done sound (subst (IsOfARun lab) (sym settled.all) (reached lab))

pub fault_agrees : (lab : Laboratory) (fault : RunFault) → RecordsAgree → RoundsAreReached → IsTrue (is_sound lab) → IsFaultOf (round_robin lab) fault → FaultAgrees lab fault
fault_agrees lab (Unsettled settle done) law reached sound unsettled = law lab done sound (subst (IsOfARun lab) (sym unsettled.all) (reached lab))
fault_agrees lab NoMemory law reached sound unsettled = tt

pub ruleset recorded = (recorded_run, recorded_end, recorded_tells, fault_tells, recorded_answers, fault_answers, recorded_agrees, fault_agrees)

-- ---- given turns

given_of_a_run : (lab : Laboratory) (turns : List Turn) (done : Record) → GivenIsReached → IsGivenRecord (run_given lab turns) done → IsOfARun lab done
given_of_a_run lab turns done reached given = subst (IsOfARun lab) (sym given.all) (reached lab turns)

pub given_done : (lab : Laboratory) (turns : List Turn) (done : Record) → GivenAreDone → IsGivenRecord (run_given lab turns) done → schedule_of done.turns ≡ turns
given_done lab turns done law given = ap (λ (d : Record). schedule_of d.turns) given.all ∙ law lab turns given.settled

pub given_run : (lab : Laboratory) (turns : List Turn) (done : Record) → GivenIsARun → GivenAreDone → IsGivenRecord (run_given lab turns) done
    → IsRecordOf (run lab (schedule_of done.turns)) done
given_run lab turns done law did given =
    subst (λ ts. IsRecordOf (run lab ts) done) (sym (given_done lab turns done did given))
    (subst (λ (d : Record). IsRecordOf (run lab turns) d) (sym given.all) (rw ((law lab turns).0 given.settled) refl))

pub given_end : (lab : Laboratory) (turns : List Turn) (done : Record) → GivenEndsDrained → IsGivenRecord (run_given lab turns) done → EndsDrained lab (run_given lab turns).last
given_end lab turns done law given = law lab turns given.settled

pub given_tells : (lab : Laboratory) (turns : List Turn) (done : Record) → RunsTell → GivenIsReached → IsGivenRecord (run_given lab turns) done → RecordTells lab done
given_tells lab turns done law reached given = law lab done (given_of_a_run lab turns done reached given)

pub given_answers : (lab : Laboratory) (turns : List Turn) (done : Record) → RecordsAnswer → GivenIsReached → IsTrue (is_sound lab) → IsGivenRecord (run_given lab turns) done → RecordAnswers lab done
given_answers lab turns done law reached sound given = law lab done sound (given_of_a_run lab turns done reached given)

pub given_agrees : (lab : Laboratory) (turns : List Turn) (done : Record) → RecordsAgree → GivenIsReached → IsTrue (is_sound lab) → IsGivenRecord (run_given lab turns) done → RecordAgrees lab done
given_agrees lab turns done law reached sound given = law lab done sound (given_of_a_run lab turns done reached given)

-- a turn that is bad within the budget is bad without one
pub given_bad : (lab : Laboratory) (turns : List Turn) (fault : ReplayFault) → GivenIsARun → IsGivenFault (run_given lab turns) fault → NamesBadTurn (run lab turns) fault
given_bad lab turns (NamesTurn index) law bad = (law lab turns).1 index bad
given_bad lab turns (NamesPhase settle) law bad = tt
given_bad lab turns GivenNoMemory law bad = tt

pub ruleset given_recorded = (given_done, given_run, given_end, given_tells, given_answers, given_agrees, given_bad)
