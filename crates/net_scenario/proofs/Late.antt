-- The bytes of a scenario are within the greatest size: its last line ends with them, and no line ends later.
use Rattle.std.proofs.Common.{◌≡◌, ℕ, ◌+◌, ◌<◌, ◌≤◌, ◌==◌, nat_lt, min, cond, List, [], ◌∷◌, length, Bool, true, false, ◌||◌, Result, Ok, Err, refl, arith}
use Rattle.std.proofs.lemmas.Bool.{or_parts}
use Rattle.std.proofs.lemmas.Bool.Decides.{nat_tests}
use Rattle.serde_json.specs.Data.{Data}
use Rattle.net_fields.specs.declared.word.Word.{Word}
use Rattle.net_fields.specs.Objects.{has_long_field}
use Rattle.net_scenario.specs.declared.statement.Statement.{Statement}
use Rattle.net_scenario.specs.declared.fault.ScenarioFault.{ScenarioFault}
use Rattle.net_laboratory.specs.Scenario.{Laboratory}
use Rattle.net_scenario.specs.Seen.{Seen, nothing_seen}
use Rattle.net_laboratory.specs.Limits.{most_scenario_bytes, most_line_bytes}
use Rattle.net_scenario.specs.declared.fault.FaultKind.{FaultKind}
use Rattle.net_scenario.specs.declared.fault.FaultKind.TheVariants as kind
use Rattle.net_scenario.specs.Faults.{Line, is_late, is_too_long, line_of}
use Rattle.net_scenario.specs.Language.{with_first, lines_in, lines_from, lines_of, is_blank, fault_at, after_line, line_step, and_then, after_lines, is_all_blank, whole, scenario_of}
use Rattle.net_scenario.proofs.AdmittedRows.{read_line}

-- ---- a line that ends too late has a fault

not_late : (line : Line) (w : Word) (d : Data) → is_too_long line w d ≡ false → is_late line ≡ false
unfolding is_too_long
not_late line w d e =
    (or_parts (nat_lt most_line_bytes (length line.text)) (is_late line) (or_parts (nat_lt most_line_bytes (length line.text) || is_late line) (has_long_field w d) e).0).1

said_in_time : (seen : Seen) (turns : Bool) (line : Line) (next : Seen) (read : Result Statement FaultKind) → line_of seen turns line ≡ read
    → after_line seen line.number read ≡ Ok next → is_late line ≡ false
said_in_time seen turns line next (Err fault) same e = absurd cc
said_in_time seen turns line next (Ok s) same e =
    let r = read_line seen turns line s same in not_late line r.w r.d r.faultless.long

blank_in_time : (late : Bool) (seen next : Seen) (fault : ScenarioFault) → cond late (Err fault) (Ok seen) ≡ Ok next → late ≡ false
blank_in_time true seen next fault e = absurd cc
blank_in_time false seen next fault e = refl

in_time : (seen : Seen) (turns : Bool) (line : Line) (next : Seen) → line_step seen turns line ≡ Ok next → is_late line ≡ false
unfolding line_step
in_time seen turns line next e = at_text (is_blank line.text) e
  where
    at_text : (blank : Bool)
        → cond blank (cond (is_late line) (Err (fault_at line.number kind.TooLong)) (Ok seen)) (after_line seen line.number (line_of seen turns line)) ≡ Ok next
        → is_late line ≡ false
    at_text true e = blank_in_time (is_late line) seen next (fault_at line.number kind.TooLong) e
    at_text false e = said_in_time seen turns line next (line_of seen turns line) refl e

-- ---- the last line ends with the bytes

-- how many bytes lines are, each with an LF
abbrev pub size_of : List (List ℕ) → ℕ
size_of [] = 0
size_of (text ∷ texts) = length text + 1 + size_of texts

more_size : (b : ℕ) (texts : List (List ℕ)) → 1 + size_of texts ≤ size_of (with_first b texts)
more_size b [] = omega arith
more_size b (text ∷ texts) = omega arith

all_in_lines : (bytes : List ℕ) → length bytes ≤ size_of (lines_in bytes)
all_in_lines [] = omega arith
all_in_lines (b ∷ bytes) = with_byte (b == 10) (all_in_lines bytes)
  where
    with_byte : (ends : Bool) → length bytes ≤ size_of (lines_in bytes)
        → length (b ∷ bytes) ≤ size_of (cond ends ([] ∷ lines_in bytes) (with_first b (lines_in bytes)))
    with_byte true all = omega (arith, all)
    with_byte false all = omega (arith, all, more_size b (lines_in bytes))

first_read : (first : Result Seen ScenarioFault) (next : Seen → Result Seen ScenarioFault) (seen : Seen) → and_then first next ≡ Ok seen
    → (between : Seen) × (first ≡ Ok between) × (next between ≡ Ok seen)
first_read (Ok between) next seen e = (between, refl, e)
first_read (Err fault) next seen e = absurd cc

-- the bytes end where the last line does, in time
lines_in_limit : (seen : Seen) (turns : Bool) (total number at : ℕ) (texts : List (List ℕ)) (last : Seen) → at ≤ most_scenario_bytes → total ≤ at + size_of texts
    → after_lines seen turns (lines_from total number at texts) ≡ Ok last → total ≤ most_scenario_bytes
lines_in_limit seen turns total number at [] last begun all e = omega (arith, begun, all)
lines_in_limit seen turns total number at (text ∷ texts) last begun all e =
    let line : Line = record { text = text; number = number; end = min (at + length text + 1) total } in
    let next = at + length text + 1 in
    let r = first_read (line_step seen turns line) (λ between. after_lines between turns (lines_from total (number + 1) next texts)) last e in
    let within : min next total ≤ most_scenario_bytes = not_above (min next total) (in_time seen turns line r.0 r.1) in
    let less = λ (more : next < total). lines_in_limit r.0 turns total (number + 1) next texts last (omega (arith, within, more)) (omega (arith, all)) r.2 in
    further (nat_lt next total) refl within less
  where
    not_above : (n : ℕ) → nat_lt most_scenario_bytes n ≡ false → n ≤ most_scenario_bytes
    not_above n h = grind (arith, nat_tests, h)

    further : (more : Bool) → nat_lt (at + length text + 1) total ≡ more → min (at + length text + 1) total ≤ most_scenario_bytes
        → (at + length text + 1 < total → total ≤ most_scenario_bytes) → total ≤ most_scenario_bytes
    further true more within later = later (grind (arith, nat_tests, more))
    further false none within later =
        let least : total ≤ at + length text + 1 = grind (arith, nat_tests, none) in omega (arith, within, least)

pub whole_in_limit : (bytes : List ℕ) (turns : Bool) (lab : Laboratory) → scenario_of bytes turns ≡ Ok lab → length bytes ≤ most_scenario_bytes
unfolding scenario_of
whole_in_limit bytes turns lab e = at_bytes (is_all_blank bytes) e
  where
    at_lines : (read : Result Seen ScenarioFault) → after_lines nothing_seen turns (lines_of bytes) ≡ read → whole read ≡ Ok lab → length bytes ≤ most_scenario_bytes
    at_lines (Err fault) same e = absurd cc
    at_lines (Ok seen) same e = lines_in_limit nothing_seen turns (length bytes) 1 0 (lines_in bytes) seen (omega arith) (omega (arith, all_in_lines bytes)) same

    at_bytes : (blank : Bool) → cond blank (Err (fault_at 1 kind.NoLab)) (whole (after_lines nothing_seen turns (lines_of bytes))) ≡ Ok lab → length bytes ≤ most_scenario_bytes
    at_bytes true e = absurd cc
    at_bytes false e = at_lines (after_lines nothing_seen turns (lines_of bytes)) refl e
