-- What a value is for a field: of the field's form or not, too long for it, and so on.
use Rattle.std.specs.Prelude.{ℕ, suc, ◌/◌, ◌%◌, ◌==◌, ◌&&◌, ◌||◌, List, codes, length, Bool, true, false, not, nat_le, nat_lt, Option, Some, None, is_some, is_none, option_and_then, if◌then◌else◌, Result, Ok, Err}
use Rattle.std.specs.List.{list_all}
use Rattle.std.specs.Option.{option_map_or}
use Rattle.std.specs.Str.{bytes_eq}
use Rattle.hex.specs.Hex.{decode_of}
use Rattle.hex.specs.declared.error.FromHexError.{FromHexError}
use Rattle.serde_json.specs.Data.{Data, Items, no_items, item}
use Rattle.serde_json.specs.Find.{as_bool, as_str, as_number, as_u64, as_array}
use Rattle.or_base.specs.Limits.{most_key_bytes, most_value_bytes, is_between, is_name_byte, is_key_byte}
use Rattle.or_base.specs.declared.act.Act.{Act}
use Rattle.or_base.specs.declared.act.Act.TheVariants as act
use Rattle.or_base.specs.declared.kind.Kind.{Kind}
use Rattle.or_base.specs.declared.kind.Kind.TheVariants as kind
use Rattle.or_prefix.specs.Reading.{prefix_of}
use Rattle.net_fields.specs.declared.form.Form.{Form}
use Rattle.net_fields.specs.declared.form.Form.TheVariants as form
use Rattle.net_laboratory.specs.Limits.{most_acts}
use Rattle.net_laboratory.specs.declared.show.Show.{Show}
use Rattle.net_laboratory.specs.declared.show.Show.TheVariants as show

-- ---- texts

-- a name, but for its length
abbrev pub is_name : List ℕ → Bool
is_name text = nat_le 1 (length text) && list_all is_name_byte text

-- a key, but for its length
abbrev pub is_key_text : List ℕ → Bool
is_key_text text = nat_le 1 (length text) && list_all is_key_byte text

-- a hexadecimal digit, in either case
abbrev pub is_hex_byte : ℕ → Bool
is_hex_byte b = is_between 48 57 b || is_between 97 102 b || is_between 65 70 b

-- an even number of hexadecimal digits
abbrev pub is_hex : List ℕ → Bool
is_hex text = length text % 2 == 0 && list_all is_hex_byte text

-- the bytes that a text says in hexadecimal, if it says any
abbrev pub bytes_or_none : Result (List ℕ) FromHexError → Option (List ℕ)
bytes_or_none (Ok bytes) = Some bytes
bytes_or_none (Err fault) = None

unfoldable pub hex_bytes : List ℕ → Option (List ℕ)
hex_bytes text = bytes_or_none (decode_of text)

unfoldable pub kind_of : List ℕ → Option Kind
kind_of text = if bytes_eq text (codes "stores") then Some kind.Stores else if bytes_eq text (codes "full") then Some kind.Full else None

unfoldable pub show_of : List ℕ → Option Show
show_of text =
    if bytes_eq text (codes "both") then Some show.Both
    else if bytes_eq text (codes "stores") then Some show.Stores
    else if bytes_eq text (codes "routes") then Some show.Routes
    else if bytes_eq text (codes "none") then Some show.Nothing
    else None

-- `pass`, `drop`, `twice`, and `late1` to `late9`
unfoldable pub act_of : List ℕ → Option Act
act_of text =
    if bytes_eq text (codes "pass") then Some act.Pass
    else if bytes_eq text (codes "drop") then Some act.Drop
    else if bytes_eq text (codes "twice") then Some act.Twice
    else if bytes_eq text (codes "late1") then Some (act.Late 1)
    else if bytes_eq text (codes "late2") then Some (act.Late 2)
    else if bytes_eq text (codes "late3") then Some (act.Late 3)
    else if bytes_eq text (codes "late4") then Some (act.Late 4)
    else if bytes_eq text (codes "late5") then Some (act.Late 5)
    else if bytes_eq text (codes "late6") then Some (act.Late 6)
    else if bytes_eq text (codes "late7") then Some (act.Late 7)
    else if bytes_eq text (codes "late8") then Some (act.Late 8)
    else if bytes_eq text (codes "late9") then Some (act.Late 9)
    else None

-- ---- values

-- a text that passes the test
abbrev pub is_text_with : (List ℕ → Bool) → Data → Bool
is_text_with test d = option_map_or test (as_str d) false

-- a JSON number without sign, fraction and exponent, below 2^64
abbrev pub as_natural : Data → Option ℕ
as_natural d = option_and_then as_u64 (as_number d)

abbrev pub is_number_in : ℕ → ℕ → Data → Bool
is_number_in least most d = option_map_or (is_between least most) (as_natural d) false

abbrev pub items_len : Items → ℕ
items_len no_items = 0
items_len (item d ds) = suc (items_len ds)

abbrev pub all_items : (Data → Bool) → Items → Bool
all_items test no_items = true
all_items test (item d ds) = test d && all_items test ds

-- a list of at most so many numbers from the one to the other
abbrev pub are_numbers : ℕ → ℕ → ℕ → Data → Bool
are_numbers count least most d = option_map_or (λ ds. nat_le (items_len ds) count && all_items (is_number_in least most) ds) (as_array d) false

-- the value is one that the form takes. Whether it is too long, names something declared, is a prefix or is a list of
-- known acts is asked elsewhere.
unfoldable pub fits : Form → Data → Bool
fits form.Text d = is_some (as_str d)
fits (form.Name longest) d = is_text_with is_name d
fits form.Node d = is_text_with is_name d
fits form.Link d = is_some (as_natural d)
fits form.Key d = is_text_with is_key_text d
fits form.Hex d = is_text_with is_hex d
fits (form.Number least most) d = is_number_in least most d
fits (form.Numbers count least most) d = are_numbers count least most d
fits form.Flag d = is_some (as_bool d)
fits form.Kind d = is_text_with (λ text. is_some (kind_of text)) d
fits form.Show d = is_text_with (λ text. is_some (show_of text)) d
fits form.Prefix d = is_some (as_str d)
fits form.Acts d = is_some (as_array d)

-- the value is a text that is too long for the form
unfoldable pub is_long : Form → Data → Bool
is_long (form.Name longest) d = is_text_with (λ text. nat_lt longest (length text)) d
is_long form.Key d = is_text_with (λ text. nat_lt most_key_bytes (length text)) d
is_long form.Hex d = is_text_with (λ text. nat_lt most_value_bytes (length text / 2)) d
is_long form.Text d = is_text_with (λ text. nat_lt most_value_bytes (length text)) d
is_long _ d = false

-- a text that should be a prefix and isn't
unfoldable pub is_no_prefix : Form → Data → Bool
is_no_prefix form.Prefix d = is_text_with (λ text. is_none (prefix_of text)) d
is_no_prefix _ d = false

-- a text that names an act
abbrev pub names_act : Data → Bool
names_act d = is_text_with (λ text. is_some (act_of text)) d

-- a list that should be a script of known acts and isn't
unfoldable pub is_no_script : Form → Data → Bool
is_no_script form.Acts d = option_map_or (λ ds. not (is_between 1 most_acts (items_len ds) && all_items names_act ds)) (as_array d) false
is_no_script _ d = false
