-- The list of a record's items, as it is written, has those items as its reading, where each item has itself.
use Rattle.std.proofs.Common.{◌≡◌, ◌≤◌, Bool, true, List, [], ◌∷◌, Option, Some, option_map, option_and_then, ap, ◌∙◌, refl, arith}
use Rattle.std.specs.List.{list_all}
use Rattle.std.proofs.lemmas.Bool.{and_parts}
use Rattle.json.specs.Tree as tree
use Rattle.serde_json.specs.Data.{Data, item}
use Rattle.serde_json.specs.Read.{of_json, of_items}
use Rattle.serde_json.specs.Written.{outline, items_outline}
use Rattle.or_json.specs.Items.{items_data, items_of}
use Rattle.or_json.proofs.Simple.{IsSimple, AreSimple}

-- An item that keeps its limits is written as `item_data` says, which `serde_json` reads as `item_read`, with the members
-- in the order of their names; and that has the item as its reading.
pub record IsReadAgain {A : Type 0} (item_data item_read : A → Data) (item_of : Data → Option A) (keeps_limits : A → Bool) : Type 0 where
  pub says : (x : A) → keeps_limits x ≡ true → of_json (outline (item_data x)) ≡ Some (item_read x)
  pub reads : (x : A) → keeps_limits x ≡ true → item_of (item_read x) ≡ Some x
  pub simple : (x : A) → keeps_limits x ≡ true → IsSimple (item_data x)
  pub shallow : (x : A) → tree.depth (outline (item_data x)) ≤ 1

module _ {A : Type 0} {item_data item_read : A → Data} {item_of : Data → Option A} {keeps_limits : A → Bool} (again : IsReadAgain item_data item_read item_of keeps_limits) where
  pub items_say : (xs : List A) → list_all keeps_limits xs ≡ true → of_items (items_outline (items_data item_data xs)) ≡ Some (items_data item_read xs)
  items_say [] all = refl
  items_say (x ∷ xs) all =
      let parts = and_parts _ _ all in
      ap (option_and_then (λ d. option_map (item d) (of_items (items_outline (items_data item_data xs))))) (again.says x parts.0)
      ∙ ap (option_map (item (item_read x))) (items_say xs parts.1)

  pub items_again : (xs : List A) → list_all keeps_limits xs ≡ true → items_of item_of (items_data item_read xs) ≡ Some xs
  items_again [] all = refl
  items_again (x ∷ xs) all = let parts = and_parts _ _ all in rw (again.reads x parts.0) (rw (items_again xs parts.1) refl)

  pub items_simple : (xs : List A) → list_all keeps_limits xs ≡ true → AreSimple (items_data item_data xs)
  items_simple [] all = tt
  items_simple (x ∷ xs) all = let parts = and_parts _ _ all in (again.simple x parts.0, items_simple xs parts.1)

  pub items_shallow : (xs : List A) → tree.items_depth (items_outline (items_data item_data xs)) ≤ 1
  items_shallow [] = omega arith
  items_shallow (x ∷ xs) = omega (arith, again.shallow x, items_shallow xs)
