-- What an entry changes of the records: the arcs, which nodes take transit traffic, and who advertises which prefix.
use Rattle.std.specs.Prelude.{◌≡◌, ℕ, List, Option, Some, None, Bool, false}
use Rattle.std.specs.List.{list_any}
use Rattle.std.specs.List.Sorted.{IsStrictlySortedBy}
use Rattle.std.specs.Option.{option_map_or}
use Rattle.std.specs.Str.{bytes_eq}
use Rattle.or_base.specs.Prefixes.{prefix_cmp, is_same_prefix}
use Rattle.or_base.specs.declared.database.AdjDb.{AdjDb}
use Rattle.or_base.specs.declared.database.PrefixDb.{PrefixDb}
use Rattle.or_base.specs.declared.entry.JournalEntry.{JournalEntry}
use Rattle.or_base.specs.declared.prefix.Prefix.{Prefix}
use Rattle.ls_graph.specs.Arcs.{database_of, usable_arcs}
use Rattle.ls_graph.specs.Changes.{AreChanges}
use Rattle.ls_graph.specs.declared.arc.Arc.{Arc}
use Rattle.ls_records.specs.Records.{link_records, prefix_records, advertisers}
use Rattle.ls_records.specs.declared.change.RecordChange.{RecordChange}

-- What a node knows: its own name, the link records by name with the arcs that it may use by them, and the prefix records by name.
pub record KnownRecords : Type 0 where
  pub me : List ℕ
  pub links : List (List ℕ × AdjDb)
  pub arcs : List Arc
  pub prefixes : List (List ℕ × PrefixDb)

-- what it knows after its store's journal
abbrev pub known_after : List ℕ → List JournalEntry → KnownRecords
known_after me journal =
    let links = link_records journal in
    record { me = me; links = links; arcs = usable_arcs me links; prefixes = prefix_records journal }

-- the node takes no transit traffic, by its link record; without one it isn't known to be so
abbrev pub is_overloaded : List (List ℕ × AdjDb) → List ℕ → Bool
is_overloaded links node = option_map_or (λ db. db.overload) (database_of links node) false

-- a prefix that isn't listed has the advertisers that it had
abbrev pub KeepsAdvertisers : List (List ℕ × PrefixDb) → List (List ℕ × PrefixDb) → List Prefix → Type 0
KeepsAdvertisers before after listed =
    (prefix : Prefix) → list_any (is_same_prefix prefix) listed ≡ false → advertisers after prefix ≡ advertisers before prefix

-- the name is this one, where there is one
abbrev pub is_that : Option (List ℕ) → List ℕ → Bool
is_that None node = false
is_that (Some name) node = bytes_eq name node

-- the change tells all that differs between two states of the records
pub record TellsAll (before after : KnownRecords) (c : RecordChange) : Type 0 where
  pub links : AreChanges before.arcs after.arcs c.links.items
  pub transit : (node : List ℕ) → is_that c.transit node ≡ false → is_overloaded after.links node ≡ is_overloaded before.links node
  pub in_order : IsStrictlySortedBy prefix_cmp c.prefixes.items
  pub prefixes : KeepsAdvertisers before.prefixes after.prefixes c.prefixes.items

-- and it does, unless no record is left
abbrev pub Covers : KnownRecords → KnownRecords → RecordChange → Type 0
Covers before after c = c.cleared ≡ false → TellsAll before after c
