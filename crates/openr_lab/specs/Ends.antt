-- What each end of the program says of the words, the bytes read, the bytes written and the record.
use Rattle.std.specs.Prelude.{◌≡◌, ◌⊎◌, ℕ, List, [], Bool, true, false, ◌||◌, ◌==◌, if◌then◌else◌, Option, Some, None, Ok, Err, codes, String, string_bytes, map}
use Rattle.std.specs.declared.alloc.Global.{Global}
use Rattle.lab_words.specs.declared.words.Mode.TheVariants.{Replay, Gen}
use Rattle.lab_words.specs.declared.words.Words.{Words}
use Rattle.lab_words.specs.Words.{words_of}
use Rattle.net_laboratory.specs.Scenario.{Laboratory}
use Rattle.net_laboratory.specs.declared.schedule.Schedule.{Schedule}
use Rattle.net_laboratory.specs.declared.schedule.Turn.{Turn}
use Rattle.net_scenario.specs.Language.{scenario_of}
use Rattle.net_record.specs.declared.record.Record.{Record}
use Rattle.net_record.specs.World.{WorldState}
use Rattle.net_record.specs.Rounds.{round_robin}
use Rattle.net_record.specs.Given.{run_given}
use Rattle.net_record.specs.Given.GivenFault.{BadTurn, OverBudget}
use Rattle.net_record.specs.Run.{run as run_of, schedule_of}
use Rattle.net_record.specs.Records.{IsSettled, IsUnsettled, IsRecordOf}
use Rattle.net_record.specs.Ends.{EndsDrained}
use Rattle.net_record.specs.Tells.{RecordTells}
use Rattle.net_answers.specs.Recorded.{RecordAnswers}
use Rattle.net_agree.specs.Recorded.{RecordAgrees}
use Rattle.net_world.specs.Given.{IsGivenRecord}
use Rattle.net_report.specs.Report.{line, report as report_of}
use Rattle.net_report.specs.Summary.{summary}
use Rattle.openr_lab.specs.declared.answer.Answer.{Answer}
use Rattle.openr_lab.specs.Streams.{read_limit, ReadWhole, WroteWhole, WroteFront}
use Rattle.openr_lab.specs.Built.{is_mode_built, is_built}
use Rattle.openr_lab.specs.Answer.{answer_to, answer_grid, grid_of, not_built_line, unsettled_line, bad_turn_line}

-- the statuses: done, wrong words, no scenario, unsettled, out of memory, a read that failed, a write that failed, a bad turn
abbrev pub is_status : ℕ → Bool
is_status n = n == 0 || n == 2 || n == 3 || n == 4 || n == 5 || n == 6 || n == 7 || n == 8

-- the statuses at which the answer to the bytes was written
abbrev pub IsAnswerStatus : ℕ → Type 0
IsAnswerStatus n = (n ≡ 0) ⊎ ((n ≡ 3) ⊎ ((n ≡ 4) ⊎ (n ≡ 8)))

-- what the words ask for
abbrev pub asked_by : List (String Global) → Option Words
asked_by words = words_of (map string_bytes words)

abbrev pub usage : List ℕ
usage = line (codes "usage: openr_lab [--workers n] [--size n] [--trace] replay|live|gen|check")

-- All that was left was read: these bytes. A source that doesn't tell goes on not telling.
abbrev pub ReadToEnd : Option (List ℕ) → Option (List ℕ) → List ℕ → Type 0
ReadToEnd None after bytes = after ≡ None
ReadToEnd (Some left) after bytes = (after ≡ Some []) × (bytes ≡ left)

-- In what follows the bytes left in the source and those taken by the sink are given before and after.

-- Nothing was read, and this text was written whole.
pub record Refused (text : List ℕ) (left left' taken taken' : Option (List ℕ)) (run : Option Record) : Type 0 where
  pub unread : left' ≡ left
  pub written : WroteWhole taken taken' text
  pub no_record : run ≡ None

-- Nothing was read, and the writing of this text failed.
pub record RefusalFailed (text : List ℕ) (left left' taken taken' : Option (List ℕ)) (run : Option Record) : Type 0 where
  pub unread : left' ≡ left
  pub written : WroteFront taken taken' text
  pub no_record : run ≡ None

-- The source was read to its end, or to the limit where the bytes are no scenario, and the answer to them was written
-- whole.
pub record Read (words : Words) (left left' taken taken' : Option (List ℕ)) (status : ℕ) (run : Option Record) : Type 0 where
  pub replays : words.mode ≡ Replay
  pub bytes : List ℕ
  pub read : ReadWhole read_limit left left' bytes
  pub to_end : (status ≡ 3) ⊎ ReadToEnd left left' bytes
  pub answer : status ≡ (answer_to words bytes).status
  pub written : WroteWhole taken taken' (answer_to words bytes).text
  pub recorded : run ≡ (answer_to words bytes).run

-- The mode isn't built: the status is 3, before anything is read.
pub record NotBuilt (words : Words) (left left' taken taken' : Option (List ℕ)) (status : ℕ) (run : Option Record) : Type 0 where
  pub unbuilt : is_mode_built words.mode ≡ false
  pub status_is : status ≡ 3
  pub refused : Refused not_built_line left left' taken taken' run

-- A grid was run, and the answer was written whole.
pub record GridAnswered (words : Words) (taken taken' : Option (List ℕ)) (status : ℕ) (run : Option Record) : Type 0 where
  pub gen : words.mode ≡ Gen
  pub answer : status ≡ (answer_grid words.size).status
  pub written : WroteWhole taken taken' (answer_grid words.size).text
  pub recorded : run ≡ (answer_grid words.size).run

-- In mode gen nothing is read.
abbrev pub Answered : Words → Option (List ℕ) → Option (List ℕ) → Option (List ℕ) → Option (List ℕ) → ℕ → Option Record → Type 0
Answered words left left' taken taken' status run =
    Read words left left' taken taken' status run
    ⊎ (NotBuilt words left left' taken taken' status run ⊎ ((left' ≡ left) × GridAnswered words taken taken' status run))

-- the record that is there where the writing of an answer failed: that of a finished run
abbrev pub finished_run : Answer → Option Record
finished_run answer = if answer.status == 0 then answer.run else None

-- The source was read, and the writing of the answer failed.
pub record ReadFailed (words : Words) (left left' taken taken' : Option (List ℕ)) (run : Option Record) : Type 0 where
  pub replays : words.mode ≡ Replay
  pub bytes : List ℕ
  pub read : ReadWhole read_limit left left' bytes
  pub written : WroteFront taken taken' (answer_to words bytes).text
  pub recorded : run ≡ finished_run (answer_to words bytes)

-- The mode isn't built, and the writing of that failed.
pub record NotBuiltFailed (words : Words) (left left' taken taken' : Option (List ℕ)) (run : Option Record) : Type 0 where
  pub unbuilt : is_mode_built words.mode ≡ false
  pub refused : RefusalFailed not_built_line left left' taken taken' run

-- A grid was run, and the writing of the answer failed.
pub record GridFailed (words : Words) (taken taken' : Option (List ℕ)) (run : Option Record) : Type 0 where
  pub gen : words.mode ≡ Gen
  pub written : WroteFront taken taken' (answer_grid words.size).text
  pub recorded : run ≡ finished_run (answer_grid words.size)

abbrev pub AnswerFailed : Words → Option (List ℕ) → Option (List ℕ) → Option (List ℕ) → Option (List ℕ) → Option Record → Type 0
AnswerFailed words left left' taken taken' run =
    ReadFailed words left left' taken taken' run
    ⊎ (NotBuiltFailed words left left' taken taken' run ⊎ ((left' ≡ left) × GridFailed words taken taken' run))

-- the record is that of the run that the laboratory asks for, which settled every phase: by round robin, or under the
-- turns that it gives
abbrev pub IsSettledBy : Option Schedule → Laboratory → Record → Type 0
IsSettledBy None lab done = IsSettled (round_robin lab) done
IsSettledBy (Some schedule) lab done = IsGivenRecord (run_given lab schedule.turns) done × (schedule_of done.turns ≡ schedule.turns)

-- the world in which that run ends
abbrev pub last_by : Option Schedule → Laboratory → WorldState
last_by None lab = (round_robin lab).last.world
last_by (Some schedule) lab = (run_given lab schedule.turns).last

-- What status 0 says of the run of a laboratory: the record is that of its run by round robin, or under the turns that it
-- gives, which settled every phase and left no item. But for its marks it is the record of the run under the schedule of
-- its own turns. What it tells of stores and full syncs holds (`RecordTells`); its answers are what journals hold, or the routes
-- from scratch over them, and so are the routes that it tells of (`RecordAnswers`); and stores that full syncs join agree at its
-- settles (`RecordAgrees`). The text is its report.
pub record IsReplay (lab : Laboratory) (trace : Bool) (text : List ℕ) (run : Option Record) : Type 0 where
  pub done : Record
  pub recorded : run ≡ Some done
  pub settled : IsSettledBy lab.turns lab done
  pub drained : EndsDrained lab (last_by lab.turns lab)
  pub is_run : IsRecordOf (run_of lab (schedule_of done.turns)) done
  pub tells : RecordTells lab done
  pub answers : RecordAnswers lab done
  pub agrees : RecordAgrees lab done
  pub report : text ≡ report_of done lab trace

-- What status 0 says of the run of a grid: all that it says of a replay, of the record of that run. The text is its summary.
pub record IsSummed (size : ℕ) (text : List ℕ) (run : Option Record) : Type 0 where
  pub done : Record
  pub recorded : run ≡ Some done
  pub replay : IsReplay (grid_of size) false (report_of done (grid_of size) false) run
  pub summed : text ≡ summary done (grid_of size) size

-- Round robin left the phase with this number unsettled. The record is that of the run as far as it came, and what it tells
-- holds all the same.
pub record IsUnsettledRounds (lab : Laboratory) (phase : ℕ) (run : Option Record) : Type 0 where
  pub done : Record
  pub recorded : run ≡ Some done
  pub rounds : IsUnsettled (round_robin lab) phase done
  pub tells : RecordTells lab done
  pub answers : RecordAnswers lab done
  pub agrees : RecordAgrees lab done

-- Under given turns the budget is exceeded in this phase. There is no record.
pub record IsOverBudget (lab : Laboratory) (turns : List Turn) (phase : ℕ) (run : Option Record) : Type 0 where
  pub over : (run_given lab turns).fault ≡ Some (OverBudget phase)
  pub no_record : run ≡ None

abbrev pub IsUnsettledBy : Option Schedule → Laboratory → ℕ → Option Record → Type 0
IsUnsettledBy None lab phase run = IsUnsettledRounds lab phase run
IsUnsettledBy (Some schedule) lab phase run = IsOverBudget lab schedule.turns phase run

-- What status 4 says of the run of a laboratory: the text names the phase that is unsettled.
pub record IsUnsettledRun (lab : Laboratory) (text : List ℕ) (run : Option Record) : Type 0 where
  pub phase : ℕ
  pub unsettled : IsUnsettledBy lab.turns lab phase run
  pub named : text ≡ unsettled_line phase

-- What status 8 says of the run of a laboratory: the text names the first given turn that isn't legal, comes after the last
-- settle or is missing before it, and before it the budget isn't exceeded. There is no record.
pub record IsBadTurn (lab : Laboratory) (text : List ℕ) (run : Option Record) : Type 0 where
  pub schedule : Schedule
  pub given : lab.turns ≡ Some schedule
  pub index : ℕ
  pub bad : run_of lab schedule.turns ≡ Err index
  pub first : (run_given lab schedule.turns).fault ≡ Some (BadTurn index)
  pub named : text ≡ bad_turn_line index
  pub no_record : run ≡ None

-- these bytes are a scenario that the program runs under these words, and this holds of its laboratory
abbrev pub IsRun : Words → List ℕ → (Laboratory → Type 0) → Type 0
IsRun words bytes holds = (lab : Laboratory) × (scenario_of bytes true ≡ Ok lab) × (is_built words lab ≡ true) × holds lab

-- A call that ran a laboratory: the source was read to its end, its bytes are the laboratory's scenario, which the program runs, and
-- the text was written whole.
pub record RunAnswered (words : Words) (left left' taken taken' : Option (List ℕ)) (lab : Laboratory) (text : List ℕ) : Type 0 where
  pub bytes : List ℕ
  pub read : ReadToEnd left left' bytes
  pub scenario : scenario_of bytes true ≡ Ok lab
  pub built : is_built words lab ≡ true
  pub written : WroteWhole taken taken' text

-- What status 0 says of the whole call: the text is the report of the scenario's run.
pub record Done (words : Words) (left left' taken taken' : Option (List ℕ)) (run : Option Record) : Type 0 where
  pub lab : Laboratory
  pub text : List ℕ
  pub ran : RunAnswered words left left' taken taken' lab text
  pub replay : IsReplay lab words.trace text run

-- What status 4 says of the whole call: the text names the phase of the scenario's run that is unsettled.
pub record AnsweredUnsettled (words : Words) (left left' taken taken' : Option (List ℕ)) (run : Option Record) : Type 0 where
  pub lab : Laboratory
  pub text : List ℕ
  pub ran : RunAnswered words left left' taken taken' lab text
  pub unsettled : IsUnsettledRun lab text run

-- What status 0 says of a whole call in mode gen: the text is the summary of the run of a grid.
pub record GridDone (words : Words) (taken taken' : Option (List ℕ)) (run : Option Record) : Type 0 where
  pub gen : words.mode ≡ Gen
  pub text : List ℕ
  pub written : WroteWhole taken taken' text
  pub summed : IsSummed words.size text run

-- What status 4 says of a whole call in mode gen: the text names the phase of the grid's run that is unsettled.
pub record GridUnsettled (words : Words) (taken taken' : Option (List ℕ)) (run : Option Record) : Type 0 where
  pub gen : words.mode ≡ Gen
  pub text : List ℕ
  pub written : WroteWhole taken taken' text
  pub unsettled : IsUnsettledRun (grid_of words.size) text run

-- status 0 of a whole call, in either mode; in mode gen nothing is read
abbrev pub AnsweredDone : Words → Option (List ℕ) → Option (List ℕ) → Option (List ℕ) → Option (List ℕ) → Option Record → Type 0
AnsweredDone words left left' taken taken' run = Done words left left' taken taken' run ⊎ ((left' ≡ left) × GridDone words taken taken' run)

-- status 4 of a whole call, in either mode
abbrev pub LeftUnsettled : Words → Option (List ℕ) → Option (List ℕ) → Option (List ℕ) → Option (List ℕ) → Option Record → Type 0
LeftUnsettled words left left' taken taken' run =
    AnsweredUnsettled words left left' taken taken' run ⊎ ((left' ≡ left) × GridUnsettled words taken taken' run)

-- What status 8 says of the whole call: the text names the bad one of the turns that the scenario gives.
pub record AnsweredBadTurn (words : Words) (left left' taken taken' : Option (List ℕ)) (run : Option Record) : Type 0 where
  pub lab : Laboratory
  pub text : List ℕ
  pub ran : RunAnswered words left left' taken taken' lab text
  pub bad : IsBadTurn lab text run

-- ---- the same of the words as they are given

-- The words are wrong: the usage line was written.
pub record RefusedWords (words : List (String Global)) (left left' taken taken' : Option (List ℕ)) (run : Option Record) : Type 0 where
  pub wrong : asked_by words ≡ None
  pub refused : Refused usage left left' taken taken' run

pub record UsageFailed (words : List (String Global)) (left left' taken taken' : Option (List ℕ)) (run : Option Record) : Type 0 where
  pub wrong : asked_by words ≡ None
  pub refused : RefusalFailed usage left left' taken taken' run

-- the words ask for something of which this is true
abbrev pub IsAsked : List (String Global) → (Words → Type 0) → Type 0
IsAsked words holds = (asked : Words) × (asked_by words ≡ Some asked) × holds asked
