-- The text of a writer's tokens, and the value that a text is.
use Rattle.std.proofs.Common.{◌≡◌, List, ℕ, Bool, true, false, None, refl, ap, ◌∙◌, IsUtf8}
use Rattle.std.specs.Prelude.{if◌then◌else◌}
use Rattle.std.specs.Str.{is_utf8}
use Rattle.std.proofs.lemmas.Str.{IsUtf8-from_is_utf8, is_utf8-from_IsUtf8}
use Rattle.json.specs.Token.{Token}
use Rattle.json.specs.Print.{print}
use Rattle.json.specs.Tree.{json_tokens}
use Rattle.serde_json.specs.Data.{Data}
use Rattle.serde_json.specs.Read.{read}
use Rattle.serde_json.specs.Written.{outline, compact_text}
use Rattle.serde_json.proofs.Texts.{print-outline}
use Rattle.or_json.specs.Reading.{json_in}

pub text_of_tokens : (ts : List Token) (d : Data) → ts ≡ json_tokens (outline d) → print ts ≡ compact_text d
text_of_tokens ts d same = ap print same ∙ print-outline d

pub json_in_utf8 : (text : List ℕ) → IsUtf8 text → json_in text ≡ read text
unfolding json_in
json_in_utf8 text utf8 = ap (λ b. if b then read text else None) (is_utf8-from_IsUtf8 text utf8)

none_if : (text : List ℕ) (test : Bool) → is_utf8 text ≡ test → (IsUtf8 text → read text ≡ None) → json_in text ≡ None
unfolding json_in
none_if text true known none = ap (λ b. if b then read text else None) known ∙ none (IsUtf8-from_is_utf8 text known)
none_if text false known none = ap (λ b. if b then read text else None) known

pub json_in_none : (text : List ℕ) → (IsUtf8 text → read text ≡ None) → json_in text ≡ None
json_in_none text none = none_if text (is_utf8 text) refl none
