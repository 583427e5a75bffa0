-- What the program answers to the bytes that it has read.
use Rattle.std.specs.Prelude.{◌≡◌, ℕ, List, [], ◌++◌, Option, Some, None, Result, Ok, Err, Bool, true, if◌then◌else◌, codes}
use Rattle.std.specs.Fmt.{decimal}
use Rattle.lab_words.specs.declared.words.Words.{Words}
use Rattle.net_scenario.specs.declared.fault.ScenarioFault.{ScenarioFault}
use Rattle.net_laboratory.specs.Scenario.{Laboratory}
use Rattle.net_laboratory.specs.declared.schedule.Schedule.{Schedule}
use Rattle.net_laboratory.specs.declared.schedule.Turn.{Turn}
use Rattle.net_laboratory.specs.declared.show.Show.TheVariants.{Routes}
use Rattle.net_grid.specs.Grid.{grid_scenario}
use Rattle.net_scenario.specs.FaultKinds.{fault_number, fault_name}
use Rattle.net_scenario.specs.Language.{scenario_of}
use Rattle.net_record.specs.declared.record.Record.{Record}
use Rattle.net_record.specs.Rounds.{round_robin}
use Rattle.net_record.specs.Records.{record_of}
use Rattle.net_record.specs.Run.{schedule_of}
use Rattle.net_record.specs.Given.{GivenFault, run_given}
use Rattle.net_record.specs.Given.GivenFault.{BadTurn, OverBudget}
use Rattle.net_report.specs.Report.{line, report}
use Rattle.net_report.specs.Summary.{summary}
use Rattle.openr_lab.specs.declared.answer.Answer.{Answer}
use Rattle.openr_lab.specs.Built.{is_built}

-- `fault line <line> number <number> <name>`
abbrev pub fault_text : ℕ → ℕ → List ℕ → List ℕ
fault_text at number name = line (codes "fault line " ++ decimal at ++ codes " number " ++ decimal number ++ codes " " ++ name)

unfoldable pub fault_line : ScenarioFault → List ℕ
fault_line fault = fault_text fault.line (fault_number fault.kind) (fault_name fault.kind)

abbrev pub not_built_line : List ℕ
not_built_line = line (codes "not built")

-- `unsettled in settle <k>`: an item still waits after the last round of that settle, or there the run passed its budget
abbrev pub unsettled_line : ℕ → List ℕ
unsettled_line settle = line (codes "unsettled in settle " ++ decimal settle)

-- `bad turn <index>`: the given turn with this index, from 0, can't be done
abbrev pub bad_turn_line : ℕ → List ℕ
bad_turn_line index = line (codes "bad turn " ++ decimal index)

-- the answer to a laboratory whose run by round robin ended so, with this record: its report, with a trace or without, or
-- which settle failed
abbrev pub answer_after : Option ℕ → Record → Laboratory → Bool → Answer
answer_after None done lab trace = record { status = 0; text = report done lab trace; run = Some done }
answer_after (Some settle) done lab trace = record { status = 4; text = unsettled_line settle; run = Some done }

-- the answer to a laboratory that is run by round robin
unfoldable pub answer_by_rounds : Bool → Laboratory → Answer
answer_by_rounds trace lab =
    let ended = round_robin lab in
    answer_after ended.unsettled (record_of ended.last.world ended.last.marks) lab trace

-- the answer to a laboratory whose run under given turns ended so, with this record: its report, which turn is bad, or
-- in which settle the budget is exceeded
abbrev pub answer_after_given : Option GivenFault → Record → Laboratory → Bool → Answer
answer_after_given None done lab trace = record { status = 0; text = report done lab trace; run = Some done }
answer_after_given (Some (BadTurn index)) done lab trace = record { status = 8; text = bad_turn_line index; run = None }
answer_after_given (Some (OverBudget settle)) done lab trace = record { status = 4; text = unsettled_line settle; run = None }

-- the answer to a laboratory that is run under given turns
unfoldable pub answer_given : Bool → Laboratory → List Turn → Answer
answer_given trace lab turns =
    let ended = run_given lab turns in
    answer_after_given ended.fault (record_of ended.last []) lab trace

-- the laboratory that mode gen runs: a grid of this size, whose settle shows routes
abbrev pub grid_of : ℕ → Laboratory
grid_of size = grid_scenario size Routes

-- the answer to a grid whose run ended so, with this record: its summary, or which settle failed
abbrev pub answer_summed : Option ℕ → Record → ℕ → Answer
answer_summed None done size = record { status = 0; text = summary done (grid_of size) size; run = Some done }
answer_summed (Some settle) done size = record { status = 4; text = unsettled_line settle; run = Some done }

-- the answer of mode gen: a grid of this size is run by round robin
unfoldable pub answer_grid : ℕ → Answer
answer_grid size =
    let ended = round_robin (grid_of size) in
    answer_summed ended.unsettled (record_of ended.last.world ended.last.marks) size

-- by round robin, unless turns are given
abbrev pub answer_under : Option Schedule → Bool → Laboratory → Answer
answer_under None trace lab = answer_by_rounds trace lab
answer_under (Some schedule) trace lab = answer_given trace lab schedule.turns

-- the answer to a laboratory that is run
abbrev pub answer_ran : Bool → Laboratory → Answer
answer_ran trace lab = answer_under lab.turns trace lab

-- the answer to bytes that are a scenario, or have a fault
unfoldable pub answer_for : Words → Result Laboratory ScenarioFault → Answer
answer_for words (Err fault) = record { status = 3; text = fault_line fault; run = None }
answer_for words (Ok lab) =
    if is_built words lab then answer_ran words.trace lab else record { status = 3; text = not_built_line; run = None }

-- What the program answers to the bytes that it has read: a status, a text and the record of the run. Turn lines may
-- stand in a scenario that is replayed.
abbrev pub answer_to : Words → List ℕ → Answer
answer_to words bytes = answer_for words (scenario_of bytes true)

-- the laboratory with these turns given
abbrev pub with_turns : Laboratory → List Turn → Laboratory
with_turns lab turns = record lab { turns = Some (record { turns = turns }) }

-- Where round robin settles every phase, the turns that it did, given to the same laboratory, have the same report.
abbrev pub RoundsAreAnsweredAgain : Type 0
RoundsAreAnsweredAgain =
    (trace : Bool) (lab : Laboratory) → (round_robin lab).unsettled ≡ None
    → let again = answer_ran trace (with_turns lab (schedule_of (round_robin lab).last.world.turns)) in
    (again.status ≡ 0) × (again.text ≡ (answer_by_rounds trace lab).text)
