-- The keys that a node owns, each with what is to stand under it: a list of pairs in byte order of keys, each key once.
use Rattle.std.specs.Prelude.{ℕ, List, Option}
use Rattle.std.specs.Map.{lookup, remove_entry}
use Rattle.std.specs.BTreeMap.{insert_entry, is_at}
use Rattle.or_base.specs.Order.{bytes_cmp}
use Rattle.kv_self.specs.declared.own.OwnValue.{OwnValue}

-- what is to stand under a key, if the node owns it
abbrev pub own_under : List (List ℕ × OwnValue) → List ℕ → Option OwnValue
own_under owned key = lookup (is_at (bytes_cmp key)) owned

-- the key is owned, and this is to stand under it
abbrev pub with_owned : List (List ℕ × OwnValue) → List ℕ → OwnValue → List (List ℕ × OwnValue)
with_owned owned key own = insert_entry bytes_cmp owned key own

-- the key isn't owned
abbrev pub without_owned : List (List ℕ × OwnValue) → List ℕ → List (List ℕ × OwnValue)
without_owned owned key = remove_entry (is_at (bytes_cmp key)) owned
