-- Tests of a list, on what the list is made from.
use Rattle.std.proofs.Common.{◌≡◌, ℕ, List, [], ◌∷◌, Bool, map, refl, ap, String, Global, string_bytes, length, suc, ◌&&◌, ◌||◌}
use Rattle.std.specs.List.{list_all, list_any}
use Rattle.std.specs.Map.{keys_of}
use Rattle.serde_json.specs.Data.{Data}
use Rattle.serde_json.specs.declared.value.Value.{Value}
use Rattle.serde_json.specs.View.{view, members_view, items_view}
use Rattle.net_fields.specs.Forms.{items_len, all_items}
use Rattle.net_fields.specs.Objects.{any_name}

pub list_any-map : {A B : Type 0} (test : B → Bool) (f : A → B) (xs : List A) → list_any test (map f xs) ≡ list_any (λ x. test (f x)) xs
list_any-map test f [] = refl
list_any-map test f (x ∷ xs) = ap (λ rest. test (f x) || rest) (list_any-map test f xs)

-- some member's name passes where some key does
pub any_name-keys : (test : List ℕ → Bool) (entries : List (String Global × Value))
    → any_name test (members_view entries) ≡ list_any (λ key. test (string_bytes key)) (keys_of entries)
any_name-keys test [] = refl
any_name-keys test (e ∷ entries) = ap (λ rest. test (string_bytes e.0) || rest) (any_name-keys test entries)

pub ruleset through_map = (list_any-map, any_name-keys)

pub items_len-items_view : (values : List Value) → items_len (items_view values) ≡ length values
items_len-items_view [] = refl
items_len-items_view (v ∷ values) = ap suc (items_len-items_view values)

-- a test of all items, as one of all values
pub all_items-items_view : (test : Data → Bool) (values : List Value) → all_items test (items_view values) ≡ list_all (λ v. test (view v)) values
all_items-items_view test [] = refl
all_items-items_view test (v ∷ values) = ap (λ rest. test (view v) && rest) (all_items-items_view test values)

pub ruleset items = (items_len-items_view, all_items-items_view)
