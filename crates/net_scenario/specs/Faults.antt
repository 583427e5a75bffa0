-- The fourteen faults of a line, as a table. The fault of a line is the one with the lowest number whose condition holds.
use Rattle.std.specs.Prelude.{ℕ, List, [], ◌∷◌, length, map, drop, Option, Some, None, is_none, option_and_then, option_map, Result, Ok, Err, Bool, false, not, ◌&&◌, ◌||◌, nat_lt, if◌then◌else◌}
use Rattle.std.specs.Option.{option_map_or}
use Rattle.std.specs.Str.{is_utf8}
use Rattle.serde_json.specs.Data.{Data}
use Rattle.net_laboratory.specs.Limits.{most_scenario_bytes, most_line_bytes}
use Rattle.net_fields.specs.declared.word.Word.{Word}
use Rattle.net_fields.specs.Objects.{object_in, word_in, is_lab, is_field_missing, has_long_field, has_bad_prefix, has_bad_script}
use Rattle.net_scenario.specs.declared.fault.FaultKind.{FaultKind}
use Rattle.net_scenario.specs.declared.fault.FaultKind.TheVariants as fault
use Rattle.net_scenario.specs.declared.statement.Statement.{Statement}
use Rattle.net_scenario.specs.Seen.{Seen}
use Rattle.net_scenario.specs.Conditions.{is_bad_field, is_unknown_name, is_repeated, has_two_owners, is_too_many, is_misplaced}
use Rattle.net_scenario.specs.Statement.{statement_of}

-- a line without its LF, its number from 1, and where it ends with its LF
pub record Line : Type 0 where
  pub text : List ℕ
  pub number : ℕ
  pub end : ℕ

-- the line ends past the greatest size of a scenario
abbrev pub is_late : Line → Bool
is_late line = nat_lt most_scenario_bytes line.end

-- a name, a key, a value or the line is too long, or the line ends too late
unfoldable pub is_too_long : Line → Word → Data → Bool
is_too_long line w d = nat_lt most_line_bytes (length line.text) || is_late line || has_long_field w d

-- what is asked of the texts of a line and of its place, as the conditions below
abbrev pub text_and_place_conditions : Seen → Bool → Line → List (FaultKind × (Word → Data → Bool))
text_and_place_conditions seen turns line =
    (fault.TooLong, is_too_long line)
    ∷ (fault.BadPrefix, has_bad_prefix)
    ∷ (fault.BadScript, has_bad_script)
    ∷ (fault.WrongKind, λ w d. is_misplaced seen turns w)
    ∷ []

-- The conditions on a line that is an object d and names the command w. `turns` says whether turn lines may stand.
abbrev pub command_conditions : Seen → Bool → Line → List (FaultKind × (Word → Data → Bool))
command_conditions seen turns line =
    (fault.MissingField, is_field_missing)
    ∷ (fault.BadField, is_bad_field seen)
    ∷ (fault.UnknownName, is_unknown_name seen)
    ∷ (fault.RepeatedName, is_repeated seen)
    ∷ (fault.TwoOwners, has_two_owners seen)
    ∷ (fault.TooMany, is_too_many seen)
    ∷ text_and_place_conditions seen turns line

-- a condition on the command that an object names; a line that can't be read so far doesn't meet it
abbrev pub on_command : (Word → Data → Bool) → Option Data → Bool
on_command test object = option_map_or (λ d. option_map_or (λ w. test w d) (word_in d) false) object false

-- The table, in the order of the numbers: each fault with whether its condition holds of a line and of the object that it
-- is, if it is one.
abbrev pub conditions : Seen → Bool → Line → Option Data → List (FaultKind × Bool)
conditions seen turns line object =
    (fault.NotText, not (is_utf8 line.text))
    ∷ (fault.BadJson, is_none object)
    ∷ (fault.NoLab, is_none seen.kind && not (option_map_or is_lab object false))
    ∷ (fault.UnknownCommand, is_none (option_and_then word_in object))
    ∷ map (λ row. (row.0, on_command row.1 object)) (command_conditions seen turns line)

-- the first fault whose condition holds
abbrev pub first_fault : List (FaultKind × Bool) → Option FaultKind
first_fault [] = None
first_fault (row ∷ rows) = if row.1 then Some row.0 else first_fault rows

-- what an object says, if it names a command
abbrev pub statement_in : Option Data → Option Statement
statement_in object = option_and_then (λ d. option_map (λ w. statement_of w d) (word_in d)) object

-- the fault, or else what the line says; a line without either doesn't exist
abbrev pub outcome : Option FaultKind → Option Statement → Result Statement FaultKind
outcome (Some kind) statement = Err kind
outcome None (Some statement) = Ok statement
outcome None None = Err fault.BadJson

-- what a line that isn't blank says, or its fault
unfoldable pub line_of : Seen → Bool → Line → Result Statement FaultKind
line_of seen turns line = outcome (first_fault (conditions seen turns line (object_in line.text))) (statement_in (object_in line.text))

-- ---- the same, of a line of which more is known

-- of a line that is the object d
unfoldable pub object_line : Seen → Bool → Line → Data → Result Statement FaultKind
object_line seen turns line d = outcome (first_fault (drop 2 (conditions seen turns line (Some d)))) (statement_in (Some d))

-- of a line that is the object d and names the command w: its fault
unfoldable pub command_fault : Seen → Bool → Line → Word → Data → Option FaultKind
command_fault seen turns line w d = first_fault (map (λ row. (row.0, row.1 w d)) (command_conditions seen turns line))

-- the fault of its texts or its place
unfoldable pub text_or_place_fault : Seen → Bool → Line → Word → Data → Option FaultKind
text_or_place_fault seen turns line w d = first_fault (map (λ row. (row.0, row.1 w d)) (text_and_place_conditions seen turns line))

-- and its fault, or what it says
unfoldable pub command_line : Seen → Bool → Line → Word → Data → Result Statement FaultKind
command_line seen turns line w d = outcome (command_fault seen turns line w d) (Some (statement_of w d))
