-- The list of items that a record has, over what one item is.
use Rattle.std.specs.Prelude.{ℕ, List, [], ◌∷◌, Bool, true, ◌&&◌, not, nat_le, length, Option, Some, option_and_then}
use Rattle.std.specs.List.{list_any}
use Rattle.serde_json.specs.Data.{Data, Items, no_items, item}

-- the items as they are written
abbrev pub items_data : {A : Type 0} → (A → Data) → List A → Items
items_data item_data [] = no_items
items_data item_data (x ∷ xs) = item (item_data x) (items_data item_data xs)

-- the next step, where there is something
infixl 10 ◌>>=◌
abbrev pub ◌>>=◌ : {A B : Type 0} → Option A → (A → Option B) → Option B
found >>= next = option_and_then next found

-- the readings of all values, if each has one
abbrev pub items_of : {A : Type 0} → (Data → Option A) → Items → Option (List A)
items_of item_of no_items = Some []
items_of item_of (item d ds) = do
  x ← item_of d
  xs ← items_of item_of ds
  Some (x ∷ xs)

-- one of them has the key of this item
abbrev pub has_key_of : {A : Type 0} → (A → A → Bool) → List A → A → Bool
has_key_of has_same_key xs x = list_any (λ other. has_same_key other x) xs

-- no key is there twice
abbrev pub have_distinct_keys : {A : Type 0} → (A → A → Bool) → List A → Bool
have_distinct_keys has_same_key [] = true
have_distinct_keys has_same_key (x ∷ xs) = not (has_key_of has_same_key xs x) && have_distinct_keys has_same_key xs

-- there are at most so many, with distinct keys
abbrev pub keep_limits : {A : Type 0} → (A → A → Bool) → ℕ → List A → Bool
keep_limits has_same_key most xs = nat_le (length xs) most && have_distinct_keys has_same_key xs
