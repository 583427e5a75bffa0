-- A table of paths from one node: a row for each node that walks over the arcs reach.
use Rattle.std.specs.Prelude.{◌≡◌, ◌≤◌, ◌<◌, ◌^◌, ℕ, List, [], length, Option, Some, option_map, Bool, ◌&&◌}
use Rattle.std.specs.List.{Contains, filter}
use Rattle.std.specs.List.Sorted.{IsStrictlySortedBy}
use Rattle.std.specs.Option.{option_map_or}
use Rattle.std.specs.Map.{lookup}
use Rattle.std.specs.BTreeMap.{is_at}
use Rattle.std.specs.Str.{bytes_eq}
use Rattle.or_base.specs.Order.{bytes_cmp}
use Rattle.ls_graph.specs.declared.arc.Arc.{Arc}
pub use Rattle.ls_graph.specs.Changes.{place_cmp}
use Rattle.ls_spf.specs.declared.table.PathRow.{PathRow}
use Rattle.ls_spf.specs.Least.{least_cost, first_interfaces, add_up_to}

-- ---- arcs

-- The arcs are in the order of their places, each place once; their metrics are 1 to 2^31 - 1, and they are fewer than 2^31.
pub record AreArcs (arcs : List Arc) : Type 0 where
  pub in_order : IsStrictlySortedBy place_cmp arcs
  pub metrics : (a : Arc) → Contains arcs a → (1 ≤ a.metric) × (a.metric < 2 ^ 31)
  pub few : length arcs < 2 ^ 31

-- ---- tables

-- what contracts see of a table: the node from which its walks lead, and the rows by name
pub record PathTableState : Type 0 where
  pub me : List ℕ
  pub rows : List (List ℕ × PathRow)

-- the row of a node, among rows by name
abbrev pub row_of : List (List ℕ × PathRow) → List ℕ → Option PathRow
row_of rows node = lookup (is_at (bytes_cmp node)) rows

-- the hops of a node, among rows by name; none without a row
abbrev pub hops_of : List (List ℕ × PathRow) → List ℕ → List (List ℕ)
hops_of rows node = option_map_or (λ r. r.hops) (row_of rows node) []

-- the arc is the last of a least walk from `me` to the node that it leads to
abbrev pub ends_least : List Arc → List ℕ → ℕ → Arc → Bool
ends_least arcs me cost a = add_up_to (Some cost) a.metric (least_cost arcs me a.from)

-- the arcs into a node by which least walks to it end, in their order
abbrev pub tight_arcs : List Arc → List ℕ → List ℕ → ℕ → List Arc
tight_arcs arcs me node cost = filter (λ a. bytes_eq a.to node && ends_least arcs me cost a) arcs

-- what the row of a node says that walks from `me` reach at this least cost
abbrev pub right_row : List Arc → List ℕ → List ℕ → ℕ → PathRow
right_row arcs me node cost = record { cost = cost; hops = first_interfaces arcs me node; tight = tight_arcs arcs me node cost }

-- The table is right for these arcs: a node has a row exactly where some walk from `me` leads to it, and the row says what least walks do.
pub record IsRight (arcs : List Arc) (me : List ℕ) (rows : List (List ℕ × PathRow)) : Type 0 where
  pub row : (node : List ℕ) → row_of rows node ≡ option_map (right_row arcs me node) (least_cost arcs me node)
