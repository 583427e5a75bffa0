-- What is kept in place, and what is shared by count.
use Rattle.std.specs.Prelude.{ℕ, List, string_bytes}
use Rattle.or_base.specs.declared.seq.Items.{Items}
use Rattle.or_base.specs.declared.seq.Items.TheVariants.{Shared, Owned}
use Rattle.or_base.specs.declared.text.Letters.{Letters}
use Rattle.or_base.specs.declared.text.Letters.TheVariants.{Short, Long}

-- the items of a list, shared or not
abbrev pub items_of : {T : Type 0} → Items T → List T
items_of (Shared all) = all.value.items
items_of (Owned all) = all.items

-- the bytes of a text, in place or not
abbrev pub bytes_of : Letters → List ℕ
bytes_of (Short text) = text.bytes
bytes_of (Long text) = string_bytes text
