-- What words ask for: the function of the words that `clap` gives for the command line.
use Rattle.std.specs.Prelude.{◌≤◌, ◌&&◌, ℕ, Bool, true, false, List, [], ◌∷◌, Option, Some, None, codes, if◌then◌else◌, ◌^◌, nat_lt}
use Rattle.std.specs.Option.{option_map_or}
use Rattle.std.specs.Str.{bytes_eq}
use Rattle.std.specs.Str.Parse.{digits_value, without_leading_plus}
use Rattle.clap.specs.ValueTests.{is_numeral}
use Rattle.clap.specs.Words.{Row, Text, Kinds, fault_of, first_of, one_of, matches_of}
use Rattle.lab_words.specs.Command.{command, least_size, most_size, most_workers}
use Rattle.lab_words.specs.declared.words.Mode.{Mode}
use Rattle.lab_words.specs.declared.words.Mode.TheVariants.{Replay, Live, Gen, Check}
use Rattle.lab_words.specs.declared.words.Words.{Words}

-- the mode with this name; the command line lets no other name through
abbrev pub mode_named : Text → Mode
mode_named name =
    if bytes_eq name (codes "replay") then Replay
    else (if bytes_eq name (codes "live") then Live else (if bytes_eq name (codes "gen") then Gen else Check))

-- the number that a text writes, a `+` in front of it or not
abbrev pub number_in : Text → ℕ
number_in text =
    let digits = without_leading_plus text in
    if is_numeral digits && nat_lt (digits_value 10 digits) (2 ^ 32) then digits_value 10 digits else 0

-- what the matches ask for
abbrev pub asked_in : List Row → Words
asked_in rows = record {
  mode = option_map_or mode_named (first_of (codes "mode") rows) Check;
  workers = option_map_or number_in (one_of (codes "workers") rows) 0;
  size = option_map_or number_in (one_of (codes "size") rows) 0;
  trace = option_map_or (λ text. bytes_eq text (codes "true")) (first_of (codes "trace") rows) false;
}

abbrev pub is_some_fault : Kinds → Bool
is_some_fault [] = false
is_some_fault (kind ∷ kinds) = true

-- `clap` refuses the words
unfoldable pub are_refused : List Text → Bool
are_refused words = is_some_fault (fault_of command words)

-- what the words ask for, where they aren't refused
unfoldable pub words_of : List Text → Option Words
words_of words = if are_refused words then None else Some (asked_in (matches_of command words))

-- the numbers are in their ranges
abbrev pub IsInRange : Words → Type 0
IsInRange w = (1 ≤ w.workers) × (w.workers ≤ most_workers) × (least_size ≤ w.size) × (w.size ≤ most_size)
