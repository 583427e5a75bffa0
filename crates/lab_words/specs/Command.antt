-- The program's command line, as `clap` describes commands: one simple command without help and version.
use Rattle.std.specs.Prelude.{◌≡◌, ℕ, [], ◌∷◌, List, Some, true, map, codes, pos}
use Rattle.std.specs.Borrow.{Bor}
use Rattle.clap.specs.Words.{App, Rule, Text, new_app, new_rule, with_rule}
use Rattle.clap.specs.Simple.{on_top}
use Rattle.clap.specs.declared.builder.action.ArgAction.TheVariants.{SetTrue}
use Rattle.clap.specs.declared.builder.value_parser.ValueParser.TheVariants as parser

-- the greatest number of workers
abbrev pub most_workers : ℕ
most_workers = 64

-- the least and the greatest size of a laboratory that is made
abbrev pub least_size : ℕ
least_size = 2

abbrev pub most_size : ℕ
most_size = 8

-- `--workers n`: from 1, and 2 where it isn't given
abbrev pub workers_rule : Rule
workers_rule = record (new_rule (codes "workers")) {
  long = Some (codes "workers");
  parser = Some (parser.Signed (pos 1) (pos most_workers));
  defaults = codes "2" ∷ [];
}

-- `--size n`: 3 where it isn't given
abbrev pub size_rule : Rule
size_rule = record (new_rule (codes "size")) {
  long = Some (codes "size");
  parser = Some (parser.Signed (pos least_size) (pos most_size));
  defaults = codes "3" ∷ [];
}

-- `--trace`
abbrev pub trace_rule : Rule
trace_rule = record (new_rule (codes "trace")) { long = Some (codes "trace"); action = Some SetTrue }

abbrev pub modes : List Text
modes = codes "replay" ∷ codes "live" ∷ codes "gen" ∷ codes "check" ∷ []

-- the mode, one of these names; `names` is where they stand, which no reader of words looks at
abbrev pub mode_rule : Bor (List (Bor Text)) → Rule
mode_rule names = record (new_rule (codes "mode")) { required = true; parser = Some (parser.Names names) }

-- words without the program's name, and no words for help and version
abbrev pub bare_command : App
bare_command = on_top (λ s. record s { no_binary_name = true; disable_help_flag = true; disable_version_flag = true }) (new_app (codes "openr_lab"))

abbrev pub command_with : Bor (List (Bor Text)) → App
command_with names = with_rule (with_rule (with_rule (with_rule bare_command workers_rule) size_rule) trace_rule) (mode_rule names)

-- a value behind a reference, at some place
abbrev pub reference_to : {X : Type 0} → X → Bor X
reference_to x = record { ref_ptr = (0, 0); now = x }

-- the command line
abbrev pub command : App
command = command_with (reference_to (map reference_to modes))

-- the command line, wherever the names of its modes stand
abbrev pub IsCommand : App → Type 0
IsCommand app = (names : Bor (List (Bor Text))) × (map (λ s. s.now) names.now ≡ modes) × (app ≡ command_with names)
