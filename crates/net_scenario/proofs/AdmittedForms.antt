-- What a field says where nothing is wrong with it, for each form of a field.
use Rattle.std.proofs.Common.{◌≡◌, ℕ, suc, ◌/◌, ◌%◌, ◌^◌, ◌<◌, ◌≤◌, codes, List, [], ◌∷◌, length, Bool, true, false, not, cond, ◌&&◌, nat_le, nat_lt, Option, Some, None, is_none, is_some, option_and_then, unwrap_or, refl, sym, ap, subst, arith, mod-eq_of_lt}
use Rattle.std.specs.Option.{option_map_or}
use Rattle.std.specs.List.{list_all}
use Rattle.std.specs.Str.{bytes_eq}
use Rattle.std.proofs.lemmas.Bool.{true≢false, and_parts, and_from, le-leb, leb-true, leb-false, lt-ltb, ltb-true, ltb-false}
use Rattle.serde_json.specs.Data.{Data, Items, no_items, item}
use Rattle.serde_json.specs.Find.{as_array, as_str}
use Rattle.or_base.specs.Limits.{most_node_name_bytes, most_interface_name_bytes, most_key_bytes, most_value_bytes, is_between, is_name_byte, is_key_byte, is_node_name, is_interface_name, is_key}
use Rattle.or_base.specs.declared.act.Act.{Act}
use Rattle.or_base.specs.declared.act.Act.TheVariants as act
use Rattle.or_prefix.specs.Reading.{prefix_of}
use Rattle.net_fields.specs.declared.form.Form.{Form}
use Rattle.net_fields.specs.declared.form.Form.TheVariants as form
use Rattle.net_fields.specs.Forms.{is_name, is_key_text, as_natural, is_number_in, items_len, all_items, fits, is_long, is_no_prefix, is_no_script, act_of, names_act}
use Rattle.net_fields.specs.Members.{naturals_in, act_in, acts_in}
use Rattle.net_scenario.specs.Seen.{Seen}
use Rattle.net_laboratory.specs.Limits.{most_acts}
use Rattle.net_laboratory.specs.Scenario.{is_declared}
use Rattle.net_laboratory.specs.Sound.{is_act, are_acts}
use Rattle.net_scenario.specs.Conditions.{is_undeclared}

-- ---- tests

pub from_not : (b : Bool) → not b ≡ false → b ≡ true
from_not true e = refl
from_not false e = sym e

pub at_most : (most n : ℕ) → nat_lt most n ≡ false → nat_le n most ≡ true
at_most most n e = le-leb n most (ltb-false most n e)

pub below : (limit n : ℕ) → nat_le limit n ≡ false → nat_lt n limit ≡ true
below limit n e = lt-ltb n limit (leb-false limit n e)

-- a limit between two tests
limited : (some short all : Bool) → (some && all) ≡ true → short ≡ true → ((some && short) && all) ≡ true
limited true true all e s = e
limited true false all e s = s
limited false short all e s = e

-- ---- names and keys

pub node_name : (text : List ℕ) → is_name text ≡ true → nat_lt most_node_name_bytes (length text) ≡ false → is_node_name text ≡ true
unfolding is_node_name
node_name text name short = limited (nat_le 1 (length text)) (nat_le (length text) most_node_name_bytes) (list_all is_name_byte text) name (at_most most_node_name_bytes (length text) short)

pub interface_name : (text : List ℕ) → is_name text ≡ true → nat_lt most_interface_name_bytes (length text) ≡ false → is_interface_name text ≡ true
unfolding is_interface_name
interface_name text name short = limited (nat_le 1 (length text)) (nat_le (length text) most_interface_name_bytes) (list_all is_name_byte text) name (at_most most_interface_name_bytes (length text) short)

key : (text : List ℕ) → is_key_text text ≡ true → nat_lt most_key_bytes (length text) ≡ false → is_key text ≡ true
unfolding is_key
key text name short = limited (nat_le 1 (length text)) (nat_le (length text) most_key_bytes) (list_all is_key_byte text) name (at_most most_key_bytes (length text) short)

-- ---- numbers of 32 bits

pub small : (n : ℕ) → n < 2 ^ 32 → n % 2 ^ 32 ≡ n
small n h = mod-eq_of_lt h

pub small_between : (low high n : ℕ) → nat_lt high (2 ^ 32) ≡ true → is_between low high n ≡ true → is_between low high (n % 2 ^ 32) ≡ true
small_between low high n fit e =
    let h : high < 2 ^ 32 = ltb-true high (2 ^ 32) fit in
    let l : n ≤ high = leb-true n high (and_parts (nat_le low n) (nat_le n high) e).1 in
    subst (λ m. is_between low high m ≡ true) (sym (small n (omega arith))) e

-- ---- acts

abbrev IsAct : Option Act → Type 0
IsAct o = is_act (unwrap_or o act.Pass) ≡ true

abbrev first_of : List (Bool × Act) → Option Act
first_of [] = None
first_of (row ∷ rows) = cond row.0 (Some row.1) (first_of rows)

act_or : (b : Bool) (a : Act) (o : Option Act) → is_act a ≡ true → IsAct o → IsAct (cond b (Some a) o)
act_or true a o h k = h
act_or false a o h k = k

all_first : (rows : List (Bool × Act)) → list_all (λ row. is_act row.1) rows ≡ true → IsAct (first_of rows)
all_first [] e = refl
all_first (row ∷ rows) e =
    let parts = and_parts (is_act row.1) (list_all (λ r. is_act r.1) rows) e in
    act_or row.0 row.1 (first_of rows) parts.0 (all_first rows parts.1)

-- every act that a text names is one that may stand
named_act : (text : List ℕ) → IsAct (act_of text)
unfolding act_of
named_act text =
    all_first
    (
    (bytes_eq text (codes "pass"), act.Pass) ∷ (bytes_eq text (codes "drop"), act.Drop) ∷ (bytes_eq text (codes "twice"), act.Twice)
    ∷ (bytes_eq text (codes "late1"), act.Late 1) ∷ (bytes_eq text (codes "late2"), act.Late 2) ∷ (bytes_eq text (codes "late3"), act.Late 3)
    ∷ (bytes_eq text (codes "late4"), act.Late 4) ∷ (bytes_eq text (codes "late5"), act.Late 5) ∷ (bytes_eq text (codes "late6"), act.Late 6)
    ∷ (bytes_eq text (codes "late7"), act.Late 7) ∷ (bytes_eq text (codes "late8"), act.Late 8) ∷ (bytes_eq text (codes "late9"), act.Late 9)
    ∷ []
    )
    refl

all_acts : (ds : Items) → list_all is_act (acts_in ds) ≡ true
all_acts no_items = refl
all_acts (item d ds) = and_from (is_act (act_in d)) (list_all is_act (acts_in ds)) (named_act (unwrap_or (as_str d) [])) (all_acts ds)

length-acts_in : (ds : Items) → length (acts_in ds) ≡ items_len ds
length-acts_in no_items = refl
length-acts_in (item d ds) = ap suc (length-acts_in ds)

-- ---- lists of numbers

length-naturals_in : (ds : Items) → length (naturals_in ds) ≡ items_len ds
length-naturals_in no_items = refl
length-naturals_in (item d ds) = ap suc (length-naturals_in ds)

-- a test of what is there, whatever stands for what isn't
pub there : {X : Type 0} (test : X → Bool) (o : Option X) (default : X) → option_map_or test o false ≡ true → test (unwrap_or o default) ≡ true
there test None default e = absurd (true≢false (sym e))
there test (Some x) default e = e

-- and one that what is there doesn't pass
pub not_there : {X : Type 0} (test : X → Bool) (o : Option X) (default : X) → is_some o ≡ true → option_map_or test o false ≡ false → test (unwrap_or o default) ≡ false
not_there test None default some e = absurd (true≢false (sym some))
not_there test (Some x) default some e = e

some_since : {X : Type 0} (test : X → Bool) (o : Option X) → option_map_or test o false ≡ true → is_some o ≡ true
some_since test None e = absurd (true≢false (sym e))
some_since test (Some x) e = refl

all_naturals : (least most : ℕ) (ds : Items) → all_items (is_number_in least most) ds ≡ true → list_all (is_between least most) (naturals_in ds) ≡ true
all_naturals least most no_items e = refl
all_naturals least most (item d ds) e =
    let parts = and_parts (is_number_in least most d) (all_items (is_number_in least most) ds) e in
    and_from (is_between least most (unwrap_or (as_natural d) 0)) (list_all (is_between least most) (naturals_in ds))
    (there (is_between least most) (as_natural d) 0 parts.0) (all_naturals least most ds parts.1)

-- ---- a field's value, where it is there

-- nothing is wrong with the field of this form
pub record Fine (seen : Seen) (f : Form) (needed : Bool) (found : Option Data) : Type 0 where
  pub present : (needed && not (is_some found)) ≡ false
  pub fit : option_map_or (λ v. not (fits f v)) found false ≡ false
  pub short : option_map_or (is_long f) found false ≡ false
  pub known : option_map_or (is_undeclared seen f) found false ≡ false
  pub prefix : option_map_or (is_no_prefix f) found false ≡ false
  pub script : option_map_or (is_no_script f) found false ≡ false

pub number_needed : (seen : Seen) (least most default : ℕ) (found : Option Data) → Fine seen (form.Number least most) true found
    → is_between least most (unwrap_or (option_and_then as_natural found) default) ≡ true
unfolding fits
number_needed seen least most default None f = absurd (true≢false f.present)
number_needed seen least most default (Some v) f = there (is_between least most) (as_natural v) default (from_not _ f.fit)

pub number_optional : (seen : Seen) (least most default : ℕ) (found : Option Data) → is_between least most default ≡ true → Fine seen (form.Number least most) false found
    → is_between least most (unwrap_or (option_and_then as_natural found) default) ≡ true
unfolding fits
number_optional seen least most default None h f = h
number_optional seen least most default (Some v) h f = there (is_between least most) (as_natural v) default (from_not _ f.fit)

or_true : {X : Type 0} (test : X → Bool) (o : Option X) → option_map_or test o false ≡ true → option_map_or test o true ≡ true
or_true test None e = refl
or_true test (Some x) e = e

pub number_if_any : (seen : Seen) (least most : ℕ) (found : Option Data) → Fine seen (form.Number least most) false found
    → option_map_or (is_between least most) (option_and_then as_natural found) true ≡ true
unfolding fits
number_if_any seen least most None f = refl
number_if_any seen least most (Some v) f = or_true (is_between least most) (as_natural v) (from_not _ f.fit)

-- a test that the value passes and one that it doesn't
pub both : (test wrong : List ℕ → Bool) (text : Option (List ℕ)) (default : List ℕ)
    → not (option_map_or test text false) ≡ false → option_map_or wrong text false ≡ false → (test (unwrap_or text default) ≡ true) × (wrong (unwrap_or text default) ≡ false)
both test wrong text default fit right =
    let e = from_not _ fit in
    (there test text default e, not_there wrong text default (some_since test text e) right)

pub name_needed : (seen : Seen) (longest : ℕ) (found : Option Data) → Fine seen (form.Name longest) true found
    → (is_name (unwrap_or (option_and_then as_str found) []) ≡ true) × (nat_lt longest (length (unwrap_or (option_and_then as_str found) [])) ≡ false)
unfolding fits is_long
name_needed seen longest None f = absurd (true≢false f.present)
name_needed seen longest (Some v) f = both is_name (λ t. nat_lt longest (length t)) (as_str v) [] f.fit f.short

pub node_needed : (seen : Seen) (found : Option Data) → Fine seen form.Node true found → is_declared seen.nodes (unwrap_or (option_and_then as_str found) []) ≡ true
unfolding fits is_undeclared
node_needed seen None f = absurd (true≢false f.present)
node_needed seen (Some v) f = from_not _ (both is_name (λ t. not (is_declared seen.nodes t)) (as_str v) [] f.fit f.known).1

pub key_needed : (seen : Seen) (found : Option Data) → Fine seen form.Key true found → is_key (unwrap_or (option_and_then as_str found) []) ≡ true
unfolding fits is_long
key_needed seen None f = absurd (true≢false f.present)
key_needed seen (Some v) f =
    let parts = both is_key_text (λ t. nat_lt most_key_bytes (length t)) (as_str v) [] f.fit f.short in
    key (unwrap_or (as_str v) []) parts.0 parts.1

-- no text is too long where none is there
short_of : (wrong : List ℕ → Bool) (text : Option (List ℕ)) → wrong [] ≡ false → option_map_or wrong text false ≡ false → wrong (unwrap_or text []) ≡ false
short_of wrong None none e = none
short_of wrong (Some t) none e = e

pub text_optional : (seen : Seen) (found : Option Data) → Fine seen form.Text false found → nat_lt most_value_bytes (length (unwrap_or (option_and_then as_str found) [])) ≡ false
unfolding is_long
text_optional seen None f = refl
text_optional seen (Some v) f = short_of (λ t. nat_lt most_value_bytes (length t)) (as_str v) refl f.short

pub hex_optional : (seen : Seen) (found : Option Data) → Fine seen form.Hex false found → nat_lt most_value_bytes (length (unwrap_or (option_and_then as_str found) []) / 2) ≡ false
unfolding is_long
hex_optional seen None f = refl
hex_optional seen (Some v) f = short_of (λ t. nat_lt most_value_bytes (length t / 2)) (as_str v) refl f.short

pub link_needed : (seen : Seen) (found : Option Data) → Fine seen form.Link true found
    → nat_lt (unwrap_or (option_and_then as_natural found) 0) (length seen.links) ≡ true
unfolding fits is_undeclared
link_needed seen None f = absurd (true≢false f.present)
link_needed seen (Some v) f =
    from_not _ (not_there (λ n. not (nat_lt n (length seen.links))) (as_natural v) 0 (from_not _ f.fit) f.known)

pub some_unless : {X : Type 0} (o : Option X) → is_none o ≡ false → is_some o ≡ true
some_unless None e = sym e
some_unless (Some x) e = refl

pub prefix_needed : (seen : Seen) (found : Option Data) → Fine seen form.Prefix true found
    → is_some (prefix_of (unwrap_or (option_and_then as_str found) [])) ≡ true
unfolding fits is_no_prefix
prefix_needed seen None f = absurd (true≢false f.present)
prefix_needed seen (Some v) f = some_unless (prefix_of (unwrap_or (as_str v) [])) (not_there (λ t. is_none (prefix_of t)) (as_str v) [] (from_not _ f.fit) f.prefix)

acts_of : (ds : Option Items) → is_some ds ≡ true → option_map_or (λ ds. not (is_between 1 most_acts (items_len ds) && all_items names_act ds)) ds false ≡ false
    → are_acts (acts_in (unwrap_or ds no_items)) ≡ true
acts_of None some e = absurd (true≢false (sym some))
acts_of (Some ds) some e =
    and_from (is_between 1 most_acts (length (acts_in ds))) (list_all is_act (acts_in ds))
    (subst (λ n. is_between 1 most_acts n ≡ true) (sym (length-acts_in ds)) (and_parts (is_between 1 most_acts (items_len ds)) (all_items names_act ds) (from_not _ e)).0)
    (all_acts ds)

pub acts_needed : (seen : Seen) (found : Option Data) → Fine seen form.Acts true found → are_acts (acts_in (unwrap_or (option_and_then as_array found) no_items)) ≡ true
unfolding fits is_no_script
acts_needed seen None f = absurd (true≢false f.present)
acts_needed seen (Some v) f = acts_of (as_array v) (from_not _ f.fit) f.script

numbers_of : (count least most : ℕ) (ds : Option Items) → option_map_or (λ ds. nat_le (items_len ds) count && all_items (is_number_in least most) ds) ds false ≡ true
    → (nat_le (length (naturals_in (unwrap_or ds no_items))) count ≡ true) × (list_all (is_between least most) (naturals_in (unwrap_or ds no_items)) ≡ true)
numbers_of count least most None e = absurd (true≢false (sym e))
numbers_of count least most (Some ds) e =
    let parts = and_parts (nat_le (items_len ds) count) (all_items (is_number_in least most) ds) e in
    (subst (λ n. nat_le n count ≡ true) (sym (length-naturals_in ds)) parts.0, all_naturals least most ds parts.1)

pub numbers_optional : (seen : Seen) (count least most : ℕ) (found : Option Data) → Fine seen (form.Numbers count least most) false found
    → (nat_le (length (naturals_in (unwrap_or (option_and_then as_array found) no_items))) count ≡ true)
    × (list_all (is_between least most) (naturals_in (unwrap_or (option_and_then as_array found) no_items)) ≡ true)
unfolding fits
numbers_optional seen count least most None f = (le-leb 0 count (omega arith), refl)
numbers_optional seen count least most (Some v) f = numbers_of count least most (as_array v) (from_not _ f.fit)
