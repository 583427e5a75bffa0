-- The members of an object, read. Each reading is total: where a member is missing it gives a default, and where it
-- isn't what it should be there is a fault, and what is read isn't used.
use Rattle.std.specs.Prelude.{ℕ, List, [], ◌∷◌, codes, Bool, false, Option, is_some, option_and_then, unwrap_or, if◌then◌else◌}
use Rattle.serde_json.specs.Data.{Data, Items, no_items, item}
use Rattle.serde_json.specs.Find.{get, as_array, as_bool, as_str}
use Rattle.or_base.specs.declared.act.Act.{Act}
use Rattle.or_base.specs.declared.act.Act.TheVariants as act
use Rattle.or_base.specs.declared.kind.Kind.{Kind}
use Rattle.or_base.specs.declared.kind.Kind.TheVariants as kind
use Rattle.or_base.specs.declared.prefix.Prefix.{Prefix}
use Rattle.or_prefix.specs.Reading.{prefix_of}
use Rattle.net_laboratory.specs.declared.show.Show.{Show}
use Rattle.net_laboratory.specs.declared.show.Show.TheVariants as show
use Rattle.net_fields.specs.Forms.{as_natural, hex_bytes, kind_of, show_of, act_of}

abbrev pub has : List ℕ → Data → Bool
has name d = is_some (get name d)

abbrev pub text_at : List ℕ → Data → List ℕ
text_at name d = unwrap_or (option_and_then as_str (get name d)) []

-- the same, or else this text
abbrev pub text_or : List ℕ → List ℕ → Data → List ℕ
text_or name default d = unwrap_or (option_and_then as_str (get name d)) default

abbrev pub number_at : List ℕ → Data → Option ℕ
number_at name d = option_and_then as_natural (get name d)

-- the same, or else this number
abbrev pub number_or : List ℕ → ℕ → Data → ℕ
number_or name default d = unwrap_or (number_at name d) default

abbrev pub flag_at : List ℕ → Data → Bool
flag_at name d = unwrap_or (option_and_then as_bool (get name d)) false

abbrev pub kind_at : List ℕ → Data → Kind
kind_at name d = unwrap_or (kind_of (text_at name d)) kind.Stores

abbrev pub show_at : List ℕ → Data → Show
show_at name d = unwrap_or (show_of (text_at name d)) show.Both

abbrev pub prefix_at : List ℕ → Data → Option Prefix
prefix_at name d = prefix_of (text_at name d)

-- the bytes of a value: those of `hex` where it is there, else those of `text`
unfoldable pub value_at : Data → List ℕ
value_at d =
    if has (codes "hex") d then unwrap_or (hex_bytes (text_at (codes "hex") d)) [] else text_at (codes "text") d

abbrev pub naturals_in : Items → List ℕ
naturals_in no_items = []
naturals_in (item d ds) = unwrap_or (as_natural d) 0 ∷ naturals_in ds

-- the numbers of a list
unfoldable pub numbers_at : List ℕ → Data → List ℕ
numbers_at name d = naturals_in (unwrap_or (option_and_then as_array (get name d)) no_items)

abbrev pub act_in : Data → Act
act_in d = unwrap_or (act_of (unwrap_or (as_str d) [])) act.Pass

abbrev pub acts_in : Items → List Act
acts_in no_items = []
acts_in (item d ds) = act_in d ∷ acts_in ds

-- the acts of a list
unfoldable pub acts_at : List ℕ → Data → List Act
acts_at name d = acts_in (unwrap_or (option_and_then as_array (get name d)) no_items)
