-- The rows of a digest in byte order of their keys.
use Rattle.std.specs.Prelude.{ℕ, List, [], ◌∷◌, map}
use Rattle.std.specs.List.Sorted.{IsStrictlySortedBy}
use Rattle.std.specs.Map.{values_of}
use Rattle.std.specs.BTreeMap.{insert_entry}
use Rattle.or_base.specs.Order.{bytes_cmp}
use Rattle.or_base.specs.declared.digest.DigestRow.{DigestRow}

abbrev pub row_key : DigestRow → List ℕ
row_key row = row.key

-- the keys of the items rise
abbrev pub AreInOrder : {X : Type 0} → (X → List ℕ) → List X → Type 0
AreInOrder key_of xs = IsStrictlySortedBy bytes_cmp (map key_of xs)

abbrev pub AreInKeyOrder : List DigestRow → Type 0
AreInKeyOrder rows = AreInOrder row_key rows

-- the first row of each key, under its key and in byte order
abbrev pub rows_by_key : List DigestRow → List (List ℕ × DigestRow)
rows_by_key [] = []
rows_by_key (row ∷ rows) = insert_entry bytes_cmp (rows_by_key rows) row.key row

-- the first row of each key, in byte order of keys
abbrev pub rows_in_order : List DigestRow → List DigestRow
rows_in_order rows = values_of (rows_by_key rows)
