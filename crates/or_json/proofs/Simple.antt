-- The text of a value with UTF-8 texts and unsigned numbers of 64 bits is read.
use Rattle.std.proofs.Common.{◌≡◌, ◌^◌, ◌<◌, ◌≤◌, Bool, true, false, List, [], ◌∷◌, Option, Some, option_and_then, refl, sym, ap, ◌∙◌, append-nil, IsUtf8}
use Rattle.std.specs.Prelude.{⊤}
use Rattle.std.proofs.lemmas.Str.{IsUtf8-append}
use Rattle.json.specs.Token.{Token}
use Rattle.json.specs.Lex.{tokens}
use Rattle.json.specs.Json as json
use Rattle.json.specs.Tree as tree
use Rattle.json.specs.Print.{quoted}
use Rattle.json.proofs.Printed.Trees.{value-json_tokens, ArePrintable-json_tokens}
use Rattle.json.proofs.Printed.Tokens.{tokens-print}
use Rattle.json.proofs.Printed.Decimals.{IsNumber-decimal}
use Rattle.json.proofs.Printed.Utf8.{IsUtf8-are_ascii, IsUtf8-quoted, IsUtf8-boolean}
use Rattle.serde_json.specs.Data.{Num, unsigned, negative, float, Data, null, boolean, number, string, array, object, Items, no_items, item, Members, no_members, member}
use Rattle.serde_json.specs.Read.{read, of_json, max_depth}
use Rattle.serde_json.specs.Written.{outline, items_outline, members_outline, comma_if, compact_text, items_text, members_text}
use Rattle.serde_json.proofs.Texts.{print-outline}
use Rattle.or_json.specs.Reading.{json_in}
use Rattle.or_json.proofs.Ascii.{decimal_ascii}
use Rattle.or_json.proofs.Texts.{json_in_utf8}

abbrev pub IsSimpleNumber : Num → Type 0
IsSimpleNumber (unsigned n) = n < 2 ^ 64
IsSimpleNumber (negative z) = ⊥
IsSimpleNumber (float x) = ⊥

abbrev mutual
  pub IsSimple : Data → Type 0
  IsSimple null = ⊤
  IsSimple (boolean b) = ⊤
  IsSimple (number n) = IsSimpleNumber n
  IsSimple (string s) = IsUtf8 s
  IsSimple (array ds) = AreSimple ds
  IsSimple (object ms) = HasSimple ms

  pub AreSimple : Items → Type 0
  AreSimple no_items = ⊤
  AreSimple (item d ds) = IsSimple d × AreSimple ds

  pub HasSimple : Members → Type 0
  HasSimple no_members = ⊤
  HasSimple (member k d ms) = IsUtf8 k × IsSimple d × HasSimple ms

mutual
  numbers : (d : Data) → IsSimple d → tree.HasNumbers (outline d)
  numbers null simple = tt
  numbers (boolean b) simple = tt
  numbers (number (unsigned n)) simple = IsNumber-decimal n simple
  numbers (number (negative z)) simple = absurd simple
  numbers (number (float x)) simple = absurd simple
  numbers (string s) simple = tt
  numbers (array ds) simple = items_numbers ds simple
  numbers (object ms) simple = members_numbers ms simple

  items_numbers : (ds : Items) → AreSimple ds → tree.ItemsHaveNumbers (items_outline ds)
  items_numbers no_items simple = tt
  items_numbers (item d ds) simple = (numbers d simple.0, items_numbers ds simple.1)

  members_numbers : (ms : Members) → HasSimple ms → tree.MembersHaveNumbers (members_outline ms)
  members_numbers no_members simple = tt
  members_numbers (member k d ms) simple = (numbers d simple.1, members_numbers ms simple.2)

comma_utf8 : (later : Bool) → IsUtf8 (comma_if later)
comma_utf8 true = IsUtf8-are_ascii (44 ∷ []) refl
comma_utf8 false = IsUtf8-are_ascii [] refl

mutual
  utf8 : (d : Data) → IsSimple d → IsUtf8 (compact_text d)
  utf8 null simple = IsUtf8-are_ascii _ refl
  utf8 (boolean b) simple = IsUtf8-boolean b
  utf8 (number (unsigned n)) simple = IsUtf8-are_ascii _ (decimal_ascii n)
  utf8 (number (negative z)) simple = absurd simple
  utf8 (number (float x)) simple = absurd simple
  utf8 (string s) simple = IsUtf8-quoted s simple
  utf8 (array ds) simple = IsUtf8-append (91 ∷ []) (items_text false ds) (IsUtf8-are_ascii _ refl) (items_utf8 false ds simple)
  utf8 (object ms) simple = IsUtf8-append (123 ∷ []) (members_text false ms) (IsUtf8-are_ascii _ refl) (members_utf8 false ms simple)

  items_utf8 : (later : Bool) (ds : Items) → AreSimple ds → IsUtf8 (items_text later ds)
  items_utf8 later no_items simple = IsUtf8-are_ascii _ refl
  items_utf8 later (item d ds) simple =
      IsUtf8-append (comma_if later) _ (comma_utf8 later)
      (IsUtf8-append (compact_text d) _ (utf8 d simple.0) (items_utf8 true ds simple.1))

  members_utf8 : (later : Bool) (ms : Members) → HasSimple ms → IsUtf8 (members_text later ms)
  members_utf8 later no_members simple = IsUtf8-are_ascii _ refl
  members_utf8 later (member k d ms) simple =
      IsUtf8-append (comma_if later) _ (comma_utf8 later)
      (IsUtf8-append (quoted k) _ (IsUtf8-quoted k simple.0)
      (IsUtf8-append (58 ∷ []) _ (IsUtf8-are_ascii _ refl)
      (IsUtf8-append (compact_text d) _ (utf8 d simple.1) (members_utf8 true ms simple.2))))

whole : Option (json.Json × List Token) → Option Data
whole found = option_and_then of_json (option_and_then (λ p. json.if_last p.0 p.1) found)

-- what its outline says is what its text says
read_text : (d s : Data) → IsSimple d → tree.depth (outline d) ≤ max_depth → of_json (outline d) ≡ Some s → read (compact_text d) ≡ Some s
unfolding whole
read_text d s simple shallow says =
    let ts = tree.json_tokens (outline d) in
    let same : tokens (compact_text d) ≡ ts = ap tokens (sym (print-outline d)) ∙ tokens-print ts (ArePrintable-json_tokens (outline d) (numbers d simple)) in
    ap whole (ap (json.value max_depth) (same ∙ sym (append-nil ts)) ∙ value-json_tokens (outline d) max_depth [] shallow) ∙ says

pub json_in_text : (d s : Data) → IsSimple d → tree.depth (outline d) ≤ max_depth → of_json (outline d) ≡ Some s → json_in (compact_text d) ≡ Some s
json_in_text d s simple shallow says = json_in_utf8 (compact_text d) (utf8 d simple) ∙ read_text d s simple shallow says
