-- Which routes may be others after an entry: those to prefixes with other advertisers, and those to prefixes that a node
-- advertises which is reached otherwise than before, or takes transit traffic and didn't, or no longer does.
use Rattle.std.specs.Prelude.{◌≡◌, ℕ, List, fold, Option, Some, None, Bool, true, false, not, ◌&&◌, ◌==◌, if◌then◌else◌}
use Rattle.std.specs.List.Sorted.{IsStrictlySortedBy}
use Rattle.std.specs.BTreeSet.{insert_key}
use Rattle.or_base.specs.Prefixes.{prefix_cmp}
use Rattle.or_base.specs.declared.database.PrefixDb.{PrefixDb}
use Rattle.or_base.specs.declared.prefix.Prefix.{Prefix}
use Rattle.or_base.specs.declared.route.Route.{Route}
use Rattle.ls_spf.specs.declared.table.PathRow.{PathRow}
use Rattle.ls_spf.specs.Table.{row_of, AreArcs, IsRight}
use Rattle.ls_routes.specs.Routes.{IsTable, route_to, is_listed, are_same_names}
use Rattle.ls_records.specs.Records.{prefixes_in}
use Rattle.ls_records.specs.Change.{KnownRecords}
use Rattle.decision_core.specs.Scratch.{route_for, routes_over}

-- ---- how a node is reached

-- least walks cost the same and begin by the same interfaces, or there is none
abbrev pub is_same_reach : Option PathRow → Option PathRow → Bool
is_same_reach None None = true
is_same_reach (Some r) (Some s) = r.cost == s.cost && are_same_names r.hops s.hops
is_same_reach r s = false

-- the node is reached otherwise than before
abbrev pub has_moved : List (List ℕ × PathRow) → List (List ℕ × PathRow) → List ℕ → Bool
has_moved before after node = not (is_same_reach (row_of before node) (row_of after node))

-- ---- the prefixes of nodes

abbrev pub with_prefixes : List Prefix → List Prefix → List Prefix
with_prefixes places prefixes = fold (insert_key prefix_cmp) places prefixes

-- these prefixes, and those of the record, if its node is touched
abbrev pub with_record_if : (List ℕ → Bool) → List Prefix → List ℕ × PrefixDb → List Prefix
with_record_if touched places e = if touched e.0 then with_prefixes places (prefixes_in e) else places

-- these prefixes, and those of all touched nodes
abbrev pub with_touched : (List ℕ → Bool) → List Prefix → List (List ℕ × PrefixDb) → List Prefix
with_touched touched places records = fold (with_record_if touched) places records

-- ---- routes that are right but at some places

-- the table has the right routes to all prefixes but these
pub record IsRightElsewhere (routes : List (Prefix × Route)) (known : KnownRecords) (places : List Prefix) : Type 0 where
  pub table : IsTable routes
  pub in_order : IsStrictlySortedBy prefix_cmp places
  pub elsewhere : (p : Prefix) → is_listed places p ≡ false → route_to routes p ≡ route_for known p

-- the rows are right by what is known now, and the routes over what was known before are right to all prefixes but these
pub record IsRightAfter (before known : KnownRecords) (rows : List (List ℕ × PathRow)) (places : List Prefix) : Type 0 where
  pub arcs : AreArcs known.arcs
  pub rows_right : IsRight known.arcs known.me rows
  pub routes_right : IsRightElsewhere (routes_over before) known places
