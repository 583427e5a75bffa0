-- A grid of routers: rows of as many columns, where each node has a link to the next of its row and one to the next of its
-- column, and advertises a prefix of its own.
use Rattle.std.specs.Prelude.{◌≡◌, ℕ, ◌+◌, ◌*◌, ◌-◌, List, [], ◌∷◌, ◌++◌, Bool, false, nat_lt, codes, Option, None, map, if◌then◌else◌}
use Rattle.std.specs.Fmt.{decimal}
use Rattle.std.specs.List.{flat_map, range_with_len}
use Rattle.std.specs.Option.{option_map_or}
use Rattle.or_base.specs.Limits.{is_between}
use Rattle.or_base.specs.Prefixes.{prefix_from}
use Rattle.or_base.specs.declared.kind.Kind.TheVariants as kind
use Rattle.or_base.specs.declared.prefix.Prefix.{Prefix}
use Rattle.net_laboratory.specs.Amounts.{offers_in}
use Rattle.net_laboratory.specs.Limits.{default_rounds, default_metric, default_path, default_source, default_distance}
use Rattle.net_laboratory.specs.Scenario.{Laboratory}
use Rattle.net_laboratory.specs.declared.command.Command.{Command}
use Rattle.net_laboratory.specs.declared.command.Command.TheVariants.{Settle, Advertise}
use Rattle.net_laboratory.specs.declared.declared.LinkDecl.{LinkDecl}
use Rattle.net_laboratory.specs.declared.declared.NodeDecl.{NodeDecl}
use Rattle.net_laboratory.specs.declared.show.Show.{Show}
use Rattle.net_grid.specs.declared.place.Place.{Place}

-- ---- places

-- how many rows there are, and columns
abbrev pub least_grid_size : ℕ
least_grid_size = 2

abbrev pub most_grid_size : ℕ
most_grid_size = 8

abbrev pub is_grid_size : ℕ → Bool
is_grid_size size = is_between least_grid_size most_grid_size size

abbrev pub place_at : ℕ → ℕ → Place
place_at row column = record { row = row; column = column }

abbrev pub row_of_places : ℕ → ℕ → List Place
row_of_places size row = map (place_at row) (range_with_len 0 size)

-- the places of the grid, row by row
abbrev pub places : ℕ → List Place
places size = flat_map (row_of_places size) (range_with_len 0 size)

-- ---- nodes

-- `n`, the row and the column
abbrev pub node_name : Place → List ℕ
node_name place = codes "n" ++ (decimal place.row ++ decimal place.column)

-- no call on its forwarding agent fails
abbrev pub grid_node : Place → NodeDecl
grid_node place = record { name = node_name place; faults = [] }

-- ---- links

-- the interface to a node has `if-` before the name of the node
abbrev pub interface_to : Place → List ℕ
interface_to place = codes "if-" ++ node_name place

abbrev pub link_between : Place → Place → LinkDecl
link_between a b = record {
  a = node_name a;
  aif = interface_to b;
  am = default_metric;
  b = node_name b;
  bif = interface_to a;
  bm = default_metric;
}

-- the link to the next column, where there is one
unfoldable pub link_right : ℕ → Place → List LinkDecl
link_right size place =
    if nat_lt place.column (size - 1) then link_between place (record place { column = place.column + 1 }) ∷ [] else []

-- the link to the next row, where there is one
unfoldable pub link_down : ℕ → Place → List LinkDecl
link_down size place =
    if nat_lt place.row (size - 1) then link_between place (record place { row = place.row + 1 }) ∷ [] else []

abbrev pub links_from : ℕ → Place → List LinkDecl
links_from size place = link_right size place ++ link_down size place

-- ---- what is done

-- 10.<row>.<column>.0/24, which is a prefix where both are below 256
unfoldable pub grid_prefix : Place → Option Prefix
grid_prefix place = prefix_from false (((10 * 256 + place.row) * 256 + place.column) * 256) 24

abbrev pub advertises : Place → Prefix → Command
advertises place prefix =
    Advertise (node_name place) (record { prefix = prefix; path = default_path; source = default_source; distance = default_distance })

-- the node advertises its prefix
abbrev pub advertised_at : Place → List Command
advertised_at place = option_map_or (λ prefix. advertises place prefix ∷ []) (grid_prefix place) []

-- ---- the whole

-- A full laboratory. The links are those of the nodes, in their order, and so are the commands; a settle ends them.
unfoldable pub grid_scenario : ℕ → Show → Laboratory
grid_scenario size show = record {
  kind = kind.Full;
  ttl = None;
  nodes = map grid_node (places size);
  links = flat_map (links_from size) (places size);
  commands = flat_map advertised_at (places size) ++ Settle default_rounds show ∷ [];
  turns = None;
}

-- what the commands advertise is one prefix of each node, in the order of the nodes
abbrev pub AdvertisesOneEach : Laboratory → Type 0
AdvertisesOneEach lab = map (λ offer. offer.node) (offers_in lab.commands) ≡ map (λ node. node.name) lab.nodes
