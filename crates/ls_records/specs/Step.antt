-- What a node knows after one entry more: the records that the key's value is, or none, in place of those that it was.
use Rattle.std.specs.Prelude.{◌≡◌, ℕ, List, [], ◌∷◌, ◌++◌, codes, ◌==◌, Option, Some, None, option_map, option_and_then, if◌then◌else◌}
use Rattle.std.specs.Map.{remove_entry}
use Rattle.std.specs.BTreeMap.{insert_entry, is_at}
use Rattle.or_base.specs.Order.{bytes_cmp}
use Rattle.or_base.specs.declared.database.AdjDb.{AdjDb}
use Rattle.or_base.specs.declared.database.PrefixDb.{PrefixDb}
use Rattle.or_base.specs.declared.entry.JournalEntry.{JournalEntry}
use Rattle.or_base.specs.declared.entry.JournalEntry.TheVariants.{Merged, Expired, Cleared}
use Rattle.or_base.specs.declared.value.KvValue.{KvValue}
use Rattle.ls_graph.specs.Arcs.{usable_arcs}
use Rattle.ls_records.specs.Records.{link_record_in, prefix_record_in}
use Rattle.ls_records.specs.Change.{KnownRecords, known_after}

-- what follows a start, in a text that begins so
abbrev pub rest_after : List ℕ → List ℕ → Option (List ℕ)
rest_after [] key = Some key
rest_after (c ∷ start) [] = None
rest_after (c ∷ start) (d ∷ key) = if c == d then rest_after start key else None

-- ---- records by name, each name once

-- the node has this record, or none
abbrev pub changed : {X : Type 0} → List (List ℕ × X) → List ℕ → Option X → List (List ℕ × X)
changed records node None = remove_entry (is_at (bytes_cmp node)) records
changed records node (Some db) = insert_entry bytes_cmp records node db

-- the node that a key names, if it names one, has this record or none
abbrev pub changed_if : {X : Type 0} → List (List ℕ × X) → Option (List ℕ) → Option X → List (List ℕ × X)
changed_if records None db = records
changed_if records (Some node) db = changed records node db

-- ---- what is held under a key

-- the link record that is held under a key
unfoldable pub link_record_under : List ℕ → Option KvValue → Option AdjDb
link_record_under key value = option_map (λ r. r.1) (option_and_then (link_record_in key) value)

-- the prefix record that is held under a key
unfoldable pub prefix_record_under : List ℕ → Option KvValue → Option PrefixDb
prefix_record_under key value = option_map (λ r. r.1) (option_and_then (prefix_record_in key) value)

-- ---- one entry more

-- the records with these links
abbrev pub with_links : KnownRecords → List (List ℕ × AdjDb) → KnownRecords
with_links k links = record { me = k.me; links = links; arcs = usable_arcs k.me links; prefixes = k.prefixes }

-- the link records once this is held under a key, or nothing
unfoldable pub links_with : List (List ℕ × AdjDb) → List ℕ → Option KvValue → List (List ℕ × AdjDb)
links_with links key value = changed_if links (rest_after (codes "adj:") key) (link_record_under key value)

-- the prefix records once this is held under a key, or nothing
unfoldable pub prefixes_with : List (List ℕ × PrefixDb) → List ℕ → Option KvValue → List (List ℕ × PrefixDb)
prefixes_with prefixes key value = changed_if prefixes (rest_after (codes "prefix:") key) (prefix_record_under key value)

-- what is known once this is held under a key, or nothing
unfoldable pub with_held : KnownRecords → List ℕ → Option KvValue → KnownRecords
with_held k key value =
    let links = links_with k.links key value in
    record { me = k.me; links = links; arcs = usable_arcs k.me links; prefixes = prefixes_with k.prefixes key value }

-- what is known after an entry more
abbrev pub taken : KnownRecords → JournalEntry → KnownRecords
taken k (Merged pair at origin) = with_held k pair.key (Some pair.value)
taken k (Expired key at) = with_held k key None
taken k (Cleared at) = record { me = k.me; links = []; arcs = usable_arcs k.me []; prefixes = [] }

-- each entry of a journal leaves what is known after the journal with it
abbrev pub EachEntryIsTaken : Type 0
EachEntryIsTaken = (me : List ℕ) (journal : List JournalEntry) (entry : JournalEntry) → taken (known_after me journal) entry ≡ known_after me (journal ++ entry ∷ [])
