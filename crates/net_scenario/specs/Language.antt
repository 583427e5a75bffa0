-- A scenario as bytes: lines ended by LF, of which the last may lack it.
use Rattle.std.specs.Prelude.{ℕ, ◌+◌, min, List, [], ◌∷◌, length, Result, Ok, Err, Bool, ◌||◌, ◌==◌, if◌then◌else◌}
use Rattle.std.specs.List.{list_all}
use Rattle.net_scenario.specs.declared.fault.FaultKind.{FaultKind}
use Rattle.net_scenario.specs.declared.fault.FaultKind.TheVariants as fault
use Rattle.net_scenario.specs.declared.statement.Statement.{Statement}
use Rattle.net_scenario.specs.declared.fault.ScenarioFault.{ScenarioFault}
use Rattle.net_laboratory.specs.Scenario.{Laboratory}
use Rattle.net_scenario.specs.Seen.{Seen, nothing_seen, with_line, scenario_in}
use Rattle.net_scenario.specs.Faults.{Line, is_late, line_of}

-- a byte more in front of the first line
abbrev pub with_first : ℕ → List (List ℕ) → List (List ℕ)
with_first b [] = (b ∷ []) ∷ []
with_first b (text ∷ texts) = (b ∷ text) ∷ texts

-- the lines without their LF
abbrev pub lines_in : List ℕ → List (List ℕ)
lines_in [] = []
lines_in (b ∷ bytes) = if b == 10 then [] ∷ lines_in bytes else with_first b (lines_in bytes)

-- The lines with their places, of bytes that are so many in all, where the first line begins behind so many bytes. A
-- line ends with its LF; the last, where it lacks one, with the bytes.
abbrev pub lines_from : ℕ → ℕ → ℕ → List (List ℕ) → List Line
lines_from total number at [] = []
lines_from total number at (text ∷ texts) =
    record { text = text; number = number; end = min (at + length text + 1) total } ∷ lines_from total (number + 1) (at + length text + 1) texts

abbrev pub lines_of : List ℕ → List Line
lines_of bytes = lines_from (length bytes) 1 0 (lines_in bytes)

-- space, tab and CR
abbrev pub is_blank_byte : ℕ → Bool
is_blank_byte b = b == 32 || b == 9 || b == 13

abbrev pub is_blank : List ℕ → Bool
is_blank text = list_all is_blank_byte text

abbrev pub fault_at : ℕ → FaultKind → ScenarioFault
fault_at line kind = record { line = line; kind = kind }

-- what is seen with one more line, or its fault
abbrev pub after_line : Seen → ℕ → Result Statement FaultKind → Result Seen ScenarioFault
after_line seen line (Ok statement) = Ok (with_line seen statement)
after_line seen line (Err kind) = Err (fault_at line kind)

-- one line; a blank one says nothing, and is too long only where it ends too late
unfoldable pub line_step : Seen → Bool → Line → Result Seen ScenarioFault
line_step seen turns line =
    if is_blank line.text then (if is_late line then Err (fault_at line.number fault.TooLong) else Ok seen)
    else after_line seen line.number (line_of seen turns line)

abbrev pub and_then : Result Seen ScenarioFault → (Seen → Result Seen ScenarioFault) → Result Seen ScenarioFault
and_then (Ok seen) next = next seen
and_then (Err e) next = Err e

-- the lines one after another, up to the first that has a fault
abbrev pub after_lines : Seen → Bool → List Line → Result Seen ScenarioFault
after_lines seen turns [] = Ok seen
after_lines seen turns (line ∷ lines) = and_then (line_step seen turns line) (λ next. after_lines next turns lines)

-- every line is blank
abbrev pub is_all_blank : List ℕ → Bool
is_all_blank bytes = list_all (λ b. is_blank_byte b || b == 10) bytes

abbrev pub whole : Result Seen ScenarioFault → Result Laboratory ScenarioFault
whole (Ok seen) = Ok (scenario_in seen)
whole (Err e) = Err e

-- The scenario that bytes are, or the first faulty line with the lowest number of a fault. `turns` says whether turn
-- lines may stand.
unfoldable pub scenario_of : List ℕ → Bool → Result Laboratory ScenarioFault
scenario_of bytes turns = if is_all_blank bytes then Err (fault_at 1 fault.NoLab) else whole (after_lines nothing_seen turns (lines_of bytes))
