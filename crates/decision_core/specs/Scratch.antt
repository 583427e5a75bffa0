-- The routes of a node from scratch: from the records that its store holds, and from nothing that was computed before.
use Rattle.std.specs.Prelude.{ℕ, List, [], fold, map, Option, option_map}
use Rattle.std.specs.List.{flat_map}
use Rattle.std.specs.BTreeSet.{insert_key}
use Rattle.or_base.specs.Order.{bytes_cmp}
use Rattle.or_base.specs.declared.database.PrefixEntry.{PrefixEntry}
use Rattle.or_base.specs.declared.entry.JournalEntry.{JournalEntry}
use Rattle.or_base.specs.declared.prefix.Prefix.{Prefix}
use Rattle.or_base.specs.declared.route.Route.{Route}
use Rattle.ls_spf.specs.Least.{least_cost, first_interfaces}
use Rattle.ls_select.specs.Selection.{select}
use Rattle.ls_select.specs.declared.offer.Offer.{Offer}
use Rattle.ls_select.specs.declared.offer.Selected.{Selected}
use Rattle.ls_routes.specs.Routes.{routes_changed}
use Rattle.ls_records.specs.Records.{advertisers, advertised_prefixes}
use Rattle.ls_records.specs.Change.{KnownRecords, known_after, is_overloaded}

-- ---- who offers a prefix

-- the offer of a node that advertises a prefix with this entry
abbrev pub offer_of : KnownRecords → List ℕ × PrefixEntry → Offer
offer_of known e = record { node = e.0; entry = e.1; overload = is_overloaded known.links e.0; cost = least_cost known.arcs known.me e.0 }

-- the offers for a prefix, in the order of the names of the nodes
abbrev pub offers_for : KnownRecords → Prefix → List Offer
offers_for known prefix = map (offer_of known) (advertisers known.prefixes prefix)

-- ---- where a prefix is routed

-- the interfaces by which least walks to these nodes begin, in byte order, each once
abbrev pub hops_to : KnownRecords → List (List ℕ) → List (List ℕ)
hops_to known nodes = fold (insert_key bytes_cmp) [] (flat_map (first_interfaces known.arcs known.me) nodes)

-- the route to a prefix over the selected nodes
abbrev pub route_over : KnownRecords → Prefix → Selected → Route
route_over known prefix selected = record { prefix = prefix; cost = selected.cost; hops = hops_to known selected.nodes }

-- the route to exactly this prefix, if there is one
unfoldable pub route_for : KnownRecords → Prefix → Option Route
route_for known prefix = option_map (route_over known prefix) (select known.me (offers_for known prefix))

-- ---- all routes

-- the routes, by their prefixes: to each prefix that some node advertises its route, where there is one
unfoldable pub routes_over : KnownRecords → List (Prefix × Route)
routes_over known = routes_changed (route_for known) [] (advertised_prefixes known.prefixes)

-- The routes of the node `me` from scratch, over the entries of its store's journal, by their prefixes.
unfoldable pub scratch : List ℕ → List JournalEntry → List (Prefix × Route)
scratch me journal = routes_over (known_after me journal)
