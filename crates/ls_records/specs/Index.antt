-- Who advertises a prefix, as it is kept beside the prefix records.
use Rattle.std.specs.Prelude.{◌≡◌, ◌≢◌, ℕ, List, [], ◌∷◌, Bool, false, ◌&&◌, ◌==◌, fold, Option, Some, None, IfSome, option_and_then, if◌then◌else◌}
use Rattle.std.specs.Borrow.{Bor}
use Rattle.std.specs.List.{find}
use Rattle.std.specs.List.Sorted.{IsStrictlySortedBy}
use Rattle.std.specs.Map.{lookup, keys_of}
use Rattle.std.specs.BTreeMap.{BTreeMap, is_at}
use Rattle.std.specs.BTreeSet.{insert_key}
use Rattle.or_base.specs.Order.{bytes_cmp}
use Rattle.or_base.specs.Prefixes.{prefix_cmp, is_same_prefix}
use Rattle.or_base.specs.declared.database.PrefixDb.{PrefixDb}
use Rattle.or_base.specs.declared.database.PrefixEntry.{PrefixEntry}
use Rattle.or_base.specs.declared.prefix.Prefix.{Prefix}

-- for each prefix that somebody advertises, who does, by name, each with its entry
abbrev pub Index : Type 0
Index = List (Prefix × BTreeMap (List ℕ) PrefixEntry)

-- the entry of a node, if there are any for the prefix
abbrev pub entry_at : List ℕ → Option (BTreeMap (List ℕ) PrefixEntry) → Option PrefixEntry
entry_at node all = option_and_then (λ entries. lookup (is_at (bytes_cmp node)) entries.entries) all

-- the entry of a node for a prefix
abbrev pub entry_told : Index → Prefix → List ℕ → Option PrefixEntry
entry_told index prefix node = entry_at node (lookup (is_at (prefix_cmp prefix)) index)

-- somebody advertises it, and they are in the order of names
abbrev pub IsAdvertised : BTreeMap (List ℕ) PrefixEntry → Type 0
IsAdvertised all = (all.entries ≢ []) × IsStrictlySortedBy bytes_cmp (keys_of all.entries)

-- no prefix is kept that nobody advertises
abbrev pub AreAdvertised : Index → Type 0
AreAdvertised index = (prefix : Prefix) → IfSome (lookup (is_at (prefix_cmp prefix)) index) IsAdvertised

-- the entry for a prefix, the first of those listed
abbrev pub entry_among : Prefix → List PrefixEntry → Option PrefixEntry
entry_among prefix entries = find (λ entry. is_same_prefix entry.prefix prefix) entries

abbrev pub entries_in : Option PrefixDb → List PrefixEntry
entries_in None = []
entries_in (Some db) = db.entries

-- the entry of a node for a prefix, by the records
abbrev pub entry_by : List (List ℕ × PrefixDb) → Prefix → List ℕ → Option PrefixEntry
entry_by records prefix node = entry_among prefix (entries_in (lookup (is_at (bytes_cmp node)) records))

-- what is kept is what the records say
pub record IsIndexOf (index : Index) (records : List (List ℕ × PrefixDb)) : Type 0 where
  pub told : (prefix : Prefix) (node : List ℕ) → entry_told index prefix node ≡ entry_by records prefix node
  pub advertised : AreAdvertised index

-- ---- what changes

-- one entry in place of that for its prefix
abbrev pub one_added : PrefixEntry → Prefix → Option PrefixEntry → Option PrefixEntry
one_added entry prefix told = if is_same_prefix entry.prefix prefix then Some entry else told

-- no entry for a prefix
abbrev pub one_withdrawn : Prefix → Prefix → Option PrefixEntry → Option PrefixEntry
one_withdrawn gone prefix told = if is_same_prefix gone prefix then None else told

-- entries in place of those for their prefixes, the first of those listed
abbrev pub added : List PrefixEntry → Prefix → Option PrefixEntry → Option PrefixEntry
added [] prefix told = told
added (entry ∷ entries) prefix told = one_added entry prefix (added entries prefix told)

-- no entries for the prefixes of these
abbrev pub withdrawn : List PrefixEntry → Prefix → Option PrefixEntry → Option PrefixEntry
withdrawn [] prefix told = told
withdrawn (entry ∷ entries) prefix told = withdrawn entries prefix (one_withdrawn entry.prefix prefix told)

-- the node's entries for each prefix are changed so, and those of all others are as before
pub record IsTold (before after : Index) (node : List ℕ) (change : Prefix → Option PrefixEntry → Option PrefixEntry) : Type 0 where
  pub here : (prefix : Prefix) → entry_told after prefix node ≡ change prefix (entry_told before prefix node)
  pub others : (prefix : Prefix) (other : List ℕ) → is_at (bytes_cmp node) other ≡ false → entry_told after prefix other ≡ entry_told before prefix other
  pub advertised : AreAdvertised before → AreAdvertised after

-- ---- which prefixes change

abbrev pub is_same_entry : PrefixEntry → PrefixEntry → Bool
is_same_entry a b = is_same_prefix a.prefix b.prefix && a.path == b.path && a.source == b.source && a.distance == b.distance

-- the entry that is told is this one
abbrev pub stands : Option PrefixEntry → PrefixEntry → Bool
stands None entry = false
stands (Some own) entry = is_same_entry own entry

-- these prefixes, and that of the entry unless the node has it
abbrev pub with_changed : Index → List ℕ → List Prefix → PrefixEntry → List Prefix
with_changed index node prefixes entry = if stands (entry_told index entry.prefix node) entry then prefixes else insert_key prefix_cmp prefixes entry.prefix

-- the prefixes for which an entry is new, or gone, or another
abbrev pub changed_prefixes : Index → Index → List ℕ → List PrefixEntry → List PrefixEntry → List Prefix
changed_prefixes before after node old new = fold (with_changed after node) (fold (with_changed before node) [] new) old

-- ---- what is found

-- the advertisers that are found, or none
abbrev pub advertisers_if_any : Option (Bor (BTreeMap (List ℕ) PrefixEntry)) → List (List ℕ × PrefixEntry)
advertisers_if_any None = []
advertisers_if_any (Some all) = all.now.entries
