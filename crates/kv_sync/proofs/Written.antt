-- Putting a value into a map where there is one is writing it over.
use Rattle.std.proofs.Common.{◌≡◌, ℕ, List, [], ◌∷◌, Option, Some, None, cond, refl, sym, ◌∙◌, ap}
use Rattle.std.specs.List.Sorted.{IsStrictlySortedBy}
use Rattle.std.specs.Map.{keys_of, lookup, set_value}
use Rattle.std.specs.Ordering.{nat_cmp, is_eq, match_ordering}
use Rattle.std.specs.declared.cmp.Ordering.{Ordering}
use Rattle.std.specs.declared.cmp.Ordering.TheVariants.{Less, Equal, Greater}
use Rattle.std.specs.BTreeMap.{insert_entry, is_at}
use Rattle.std.proofs.lemmas.Cmp.{nat_cmp_total}
use Rattle.std.proofs.lemmas.Map.{lookup-none}
use Rattle.std.proofs.lemmas.Map.Entries.{none_below_head}
use Rattle.std.proofs.lemmas.Map.Keys.{sorted_tail}

none_not_some : {X : Type 0} {w : X} {o : Option X} → o ≡ None → o ≡ Some w → ⊥
none_not_some none some = cc

pub insert_found : {X : Type 0} (k : ℕ) (v w : X) (es : List (ℕ × X)) → lookup (is_at (nat_cmp k)) es ≡ Some w → IsStrictlySortedBy nat_cmp (keys_of es)
    → insert_entry nat_cmp es k v ≡ set_value (is_at (nat_cmp k)) es v
insert_found k v w [] found sorted = absurd (none_not_some refl found)
insert_found {X = X} k v w (e ∷ es) found sorted =
    by_order (λ there. insert_found k v w es there (sorted_tail nat_cmp e.0 (keys_of es) sorted)) (nat_cmp k e.0) refl where
      by_order : (lookup (is_at (nat_cmp k)) es ≡ Some w → insert_entry nat_cmp es k v ≡ set_value (is_at (nat_cmp k)) es v)
          → (o : Ordering) → nat_cmp k e.0 ≡ o
          → match_ordering o ((k, v) ∷ e ∷ es) ((e.0, v) ∷ es) (e ∷ insert_entry nat_cmp es k v) ≡ cond (is_eq o) ((e.0, v) ∷ es) (e ∷ set_value (is_at (nat_cmp k)) es v)
      by_order rest Less below = absurd (none_not_some (lookup-none (is_at (nat_cmp k)) (e ∷ es) (none_below_head nat_cmp_total k e es sorted below)) found)
      by_order rest Equal same = refl
      by_order rest Greater above =
          let later : lookup (is_at (nat_cmp k)) es ≡ Some w = sym (ap (λ o. cond (is_eq o) (Some e.1) (lookup (is_at (nat_cmp k)) es)) above) ∙ found in
          ap (λ fs. e ∷ fs) (rest later)
