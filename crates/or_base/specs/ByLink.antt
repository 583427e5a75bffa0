-- Maps from the numbers of links: a list of pairs, in the order of the numbers.
use Rattle.std.specs.Prelude.{ℕ, List, Option}
use Rattle.std.specs.Map.{lookup, remove_entry}
use Rattle.std.specs.BTreeMap.{insert_entry, is_at}
use Rattle.std.specs.Ordering.{nat_cmp}

-- what the map has for a link
abbrev pub at_link : {A : Type 0} → List (ℕ × A) → ℕ → Option A
at_link entries link = lookup (is_at (nat_cmp link)) entries

-- the map with this for a link, in place of what it had for it
abbrev pub with_link : {A : Type 0} → List (ℕ × A) → ℕ → A → List (ℕ × A)
with_link entries link a = insert_entry nat_cmp entries link a

-- the map with nothing for a link
abbrev pub without_link : {A : Type 0} → List (ℕ × A) → ℕ → List (ℕ × A)
without_link entries link = remove_entry (is_at (nat_cmp link)) entries
