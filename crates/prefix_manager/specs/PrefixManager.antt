-- PrefixManager: the prefixes that its node advertises, and its turn.
use Rattle.std.specs.Prelude.{ℕ, List, [], ◌∷◌, Option, Bool, true, false, fold, map}
use Rattle.std.specs.Map.{remove_entry}
use Rattle.std.specs.BTreeMap.{insert_entry, is_at}
use Rattle.std.specs.BTreeSet.{insert_key}
use Rattle.std.specs.Set.{remove_key}
use Rattle.or_base.specs.Prefixes.{prefix_cmp}
use Rattle.or_base.specs.declared.database.PrefixDb.{PrefixDb}
use Rattle.or_base.specs.declared.database.PrefixEntry.{PrefixEntry}
use Rattle.or_base.specs.declared.item.Item.{Item}
use Rattle.or_base.specs.declared.item.Item.TheVariants.{Up, Down, Script, Tick, Set, Sync, Restart, Persist, Unset, Drain, LinkDrain, Metric, Advertise, Withdraw, Aggregate, Get, Ask, LinkUp, LinkDown, NeighbourUp, NeighbourDown, PeerUp, PeerDown, Net, Entry, Routes}
use Rattle.or_base.specs.declared.prefix.Prefix.{Prefix}
use Rattle.or_actor.specs.declared.output.Output.{Output}
use Rattle.or_json.specs.Keys.{prefix_record_key}
use Rattle.or_json.specs.Writing.{prefixes_text}
use Rattle.own_record.specs.declared.own_record.OwnRecord.{OwnRecord}
use Rattle.own_record.specs.OwnRecord.{unsent, with_text, handed_over}
use Rattle.prefix_manager.specs.Aggregates.{without_aggregate, with_aggregate, is_in_force, with_covering}

-- What a node is to advertise: the entries, by prefix in the order of prefixes; the aggregates; and the prefixes to which it has
-- routes, in their order.
pub record Advertising : Type 0 where
  pub entries : List (Prefix × PrefixEntry)
  pub aggregates : List (Prefix × ℕ)
  pub routed : List Prefix

abbrev pub no_advertising : Advertising
no_advertising = record { entries = []; aggregates = []; routed = [] }

-- PrefixManager of a node: the node, what it is to advertise, and its record as the store was handed it
pub record PrefixManagerState : Type 0 where
  pub me : List ℕ
  pub advertising : Advertising
  pub own : OwnRecord

-- the lifetime is that of its record in the store
abbrev pub new_prefix_manager : List ℕ → Option ℕ → PrefixManagerState
new_prefix_manager me ttl = record { me = me; advertising = no_advertising; own = unsent (prefix_record_key me) ttl }

abbrev pub without_route : Advertising → Prefix → Advertising
without_route a prefix = record a { routed = remove_key (is_at (prefix_cmp prefix)) a.routed }

abbrev pub with_route : Advertising → Prefix → Advertising
with_route a prefix = record a { routed = insert_key prefix_cmp a.routed prefix }

-- What an item makes of it: an entry or an aggregate takes the place of the one for its prefix, and of the routes first some go and
-- then some come. The items from Up on change nothing.
unfoldable pub advertising_after : Advertising → Item → Advertising
advertising_after a (Advertise entry) = record a { entries = insert_entry prefix_cmp a.entries entry.prefix entry }
advertising_after a (Withdraw prefix) = record a { entries = remove_entry (is_at (prefix_cmp prefix)) a.entries; aggregates = without_aggregate a.aggregates prefix }
advertising_after a (Aggregate prefix least) = record a { aggregates = with_aggregate a.aggregates prefix least }
advertising_after a (Routes delta) = fold with_route (fold without_route a delta.del) (map (λ r. r.prefix) delta.set)
advertising_after a Up = a
advertising_after a Down = a
advertising_after a (Script from acts) = a
advertising_after a (Tick at) = a
advertising_after a (Set pair) = a
advertising_after a (Sync link) = a
advertising_after a Restart = a
advertising_after a (Persist key value ttl) = a
advertising_after a (Unset key) = a
advertising_after a (Drain on) = a
advertising_after a (LinkDrain link on) = a
advertising_after a (Metric link metric) = a
advertising_after a (Get key) = a
advertising_after a (Ask prefix) = a
advertising_after a (LinkUp link) = a
advertising_after a (LinkDown link) = a
advertising_after a (NeighbourUp link peer peer_if) = a
advertising_after a (NeighbourDown link) = a
advertising_after a (PeerUp link peer) = a
advertising_after a (PeerDown link) = a
advertising_after a (Net link from msg) = a
advertising_after a (Entry entry) = a

-- What the node advertises, in the order of prefixes.
unfoldable pub advertised : Advertising → List (Prefix × PrefixEntry)
advertised a = fold (λ entries g. with_covering entries g.0 (is_in_force a.routed g)) a.entries a.aggregates

-- the node's prefix record
abbrev pub prefix_record : List ℕ → List (Prefix × PrefixEntry) → PrefixDb
prefix_record me entries = record { node = me; entries = map (λ e. e.1) entries }

abbrev pub has_none : List (Prefix × PrefixEntry) → Bool
has_none [] = true
has_none (e ∷ es) = false

-- One turn: the item is taken, and then the store is handed the text of the record, where that is another.
unfoldable pub prefix_manager_step : PrefixManagerState → Item → PrefixManagerState × List Output
prefix_manager_step s item =
    let advertising = advertising_after s.advertising item in
    let entries = advertised advertising in
    let text = prefixes_text (prefix_record s.me entries) in
    (record { me = s.me; advertising = advertising; own = with_text s.own text (has_none entries) }, handed_over s.own text (has_none entries))
