-- What is asked of an object as a command, whatever was declared before.
use Rattle.std.specs.Prelude.{ℕ, ◌&&◌, ◌||◌, List, codes, Bool, true, false, not, Option, Some, None, is_some, option_and_then, if◌then◌else◌}
use Rattle.std.specs.List.{list_any}
use Rattle.std.specs.Option.{option_map_or}
use Rattle.std.specs.Str.{bytes_eq}
use Rattle.serde_json.specs.Data.{Data, Members, no_members, member}
use Rattle.serde_json.specs.Read.{read}
use Rattle.serde_json.specs.Find.{get, as_object, as_str}
use Rattle.net_fields.specs.declared.form.Form.{Form}
use Rattle.net_fields.specs.declared.word.Word.{Word}
use Rattle.net_fields.specs.declared.word.Word.TheVariants as word
use Rattle.net_fields.specs.Word.{word_of}
use Rattle.net_fields.specs.Fields.{Entry, fields_of}
use Rattle.net_fields.specs.declared.flaws.Flaw.{Flaw}
use Rattle.net_fields.specs.declared.flaws.Flaw.TheVariants as flaw
use Rattle.net_fields.specs.Flaws.{has_flaw}
use Rattle.net_fields.specs.Members.{has, text_at}

-- the JSON object that a line is
unfoldable pub object_in : List ℕ → Option Data
object_in line = option_and_then (λ d. if is_some (as_object d) then Some d else None) (read line)

-- what its `do` says as text
abbrev pub do_text : Data → Option (List ℕ)
do_text d = option_and_then as_str (get (codes "do") d)

-- the command that an object names
unfoldable pub word_in : Data → Option Word
word_in d = option_and_then word_of (do_text d)

-- its `do` is the text `lab`
unfoldable pub is_lab : Data → Bool
is_lab d = option_map_or (λ text. bytes_eq text (codes "lab")) (do_text d) false

-- ---- its fields

-- the field is there, with a value that meets the test of its form
abbrev pub meets : (Form → Data → Bool) → Data → Entry → Bool
meets test d f = option_map_or (test f.form) (get f.name d) false

-- some field of the command meets the test
abbrev pub has_field_that : (Form → Data → Bool) → Word → Data → Bool
has_field_that test w d = list_any (meets test d) (fields_of w)

-- a field that must be there isn't
abbrev pub is_absent : Data → Entry → Bool
is_absent d f = f.is_needed && not (has f.name d)

-- the name is that of one of the fields
abbrev pub is_named : List Entry → List ℕ → Bool
is_named fields name = list_any (λ f. bytes_eq f.name name) fields

-- the command takes a value, as `hex` or as `text`
abbrev pub takes_value : Word → Bool
takes_value w = is_named (fields_of w) (codes "hex")

-- a field that isn't optional is missing; of `hex` and `text`, both
unfoldable pub is_field_missing : Word → Data → Bool
is_field_missing w d =
    list_any (is_absent d) (fields_of w) || (takes_value w && not (has (codes "hex") d) && not (has (codes "text") d))

-- some member's name passes the test
abbrev pub any_name : (List ℕ → Bool) → Members → Bool
any_name test no_members = false
any_name test (member name d ms) = test name || any_name test ms

-- a member isn't a field of the command
unfoldable pub has_other_member : Word → Data → Bool
has_other_member w d = option_map_or (any_name (λ name. not (is_named (fields_of w) name))) (as_object d) false

abbrev pub is_link : Word → Bool
is_link word.Link = true
is_link _ = false

-- a value is said twice, or the two ends of a link are one node
unfoldable pub is_contradictory : Word → Data → Bool
is_contradictory w d =
    (takes_value w && has (codes "hex") d && has (codes "text") d)
    || (is_link w && bytes_eq (text_at (codes "a") d) (text_at (codes "b") d))

-- some field of the command is there with a value that has the flaw
unfoldable pub has_field_with : Flaw → Word → Data → Bool
has_field_with flaw w d = has_field_that (has_flaw flaw) w d

-- a field has a value that its form doesn't take
abbrev pub has_unfit_field : Word → Data → Bool
has_unfit_field w d = has_field_with flaw.Unfit w d

-- a name, a key or a value is too long
abbrev pub has_long_field : Word → Data → Bool
has_long_field w d = has_field_with flaw.Long w d

abbrev pub has_bad_prefix : Word → Data → Bool
has_bad_prefix w d = has_field_with flaw.NoPrefix w d

abbrev pub has_bad_script : Word → Data → Bool
has_bad_script w d = has_field_with flaw.NoScript w d
