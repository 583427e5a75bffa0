-- The lanes: one joins a writer to a reader wherever the one has items for the other.
use Rattle.std.specs.Prelude.{ℕ, ◌+◌, List, [], ◌∷◌, Bool, true, false, ◌&&◌, ◌||◌, ◌==◌, Option, if◌then◌else◌}
use Rattle.std.specs.Str.{bytes_eq}
use Rattle.std.specs.List.{flat_map, enumerate_from, position_from}
use Rattle.or_actor.specs.Ports.{spark_port, link_monitor_port, prefix_manager_port, store_port, decision_port, fib_port, desk_port, first_link_port, end_b_ports}
use Rattle.net_record.specs.declared.role.NodeModule.{NodeModule}
use Rattle.net_record.specs.declared.role.NodeModule.TheVariants.{Spark, LinkMonitor, PrefixManager, Store, Decision, Fib, Desk}
use Rattle.net_record.specs.declared.role.Role.{Role}
use Rattle.net_record.specs.declared.role.Role.TheVariants.{Driver, Node, Link}
use Rattle.net_record.specs.declared.wire.Wire.{Wire}

-- ---- the modules of a node, one row each

-- the driver has items for the module
abbrev pub is_driven : NodeModule → Bool
is_driven Spark = true
is_driven LinkMonitor = true
is_driven PrefixManager = true
is_driven Store = true
is_driven Decision = false
is_driven Fib = true
is_driven Desk = true

-- messages go to and from the links of the module's node
abbrev pub meets_links : NodeModule → Bool
meets_links Spark = true
meets_links LinkMonitor = false
meets_links PrefixManager = false
meets_links Store = true
meets_links Decision = false
meets_links Fib = false
meets_links Desk = false

-- the port by which the other modules of its node name it, and the links that have that node as their end a
abbrev pub port_of_module : NodeModule → ℕ
port_of_module Spark = spark_port
port_of_module LinkMonitor = link_monitor_port
port_of_module PrefixManager = prefix_manager_port
port_of_module Store = store_port
port_of_module Decision = decision_port
port_of_module Fib = fib_port
port_of_module Desk = desk_port

-- within a node, the first module has items for the second: the pairs that do, and no other
abbrev pub has_items_within : NodeModule → NodeModule → Bool
has_items_within Spark LinkMonitor = true
has_items_within LinkMonitor Store = true
has_items_within PrefixManager Store = true
has_items_within Store Decision = true
has_items_within Decision PrefixManager = true
has_items_within Decision Fib = true
has_items_within _ _ = false

-- ---- who has items for whom

abbrev pub is_link_end : List ℕ → List ℕ → List ℕ → Bool
is_link_end node a b = bytes_eq node a || bytes_eq node b

-- an actor of the first role has items for one of the second
abbrev pub has_items_for : Role → Role → Bool
has_items_for Driver Driver = false
has_items_for Driver (Node m node setup) = is_driven m
has_items_for Driver (Link link a b) = true
has_items_for (Node m node setup) Driver = false
has_items_for (Node m node setup) (Node other name their_setup) = bytes_eq node name && has_items_within m other
has_items_for (Node m node setup) (Link link a b) = meets_links m && is_link_end node a b
has_items_for (Link link a b) Driver = false
has_items_for (Link link a b) (Node m node setup) = meets_links m && is_link_end node a b
has_items_for (Link link a b) (Link other c d) = false

-- ---- by which port

-- the port of a module of a node
abbrev pub port_from_node : Role → ℕ
port_from_node Driver = 0
port_from_node (Node m node setup) = port_of_module m
port_from_node (Link link a b) = first_link_port + link

-- the port of a link whose end a is given
abbrev pub port_from_link : List ℕ → Role → ℕ
port_from_link a Driver = 0
port_from_link a (Node m node setup) = if bytes_eq node a then port_of_module m else end_b_ports + port_of_module m
port_from_link a (Link link b c) = 0

-- the port by which an actor of the first role names its lane to one of the second, which has the number given
abbrev pub port_of : Role → Role → ℕ → ℕ
port_of Driver to reader = reader
port_of (Node m node setup) to reader = port_from_node to
port_of (Link link a b) to reader = port_from_link a to

-- ---- lanes

-- the lane from one actor to another, each given with its number, if there is one
abbrev pub wire_between : ℕ × Role → ℕ × Role → List Wire
wire_between to from =
    if has_items_for from.1 to.1 then record { writer = from.0; port = port_of from.1 to.1 to.0; reader = to.0 } ∷ [] else []

-- the lanes to an actor, in the order of writers
abbrev pub wires_to : List Role → ℕ × Role → List Wire
wires_to all to = flat_map (wire_between to) (enumerate_from 0 all)

-- All lanes among actors. They are numbered from 0 in the order of (reader, writer).
abbrev pub wires : List Role → List Wire
wires all = flat_map (wires_to all) (enumerate_from 0 all)

-- ---- the lane of a port

-- the lane is the one that a writer names by a port
abbrev pub is_port : ℕ → ℕ → Wire → Bool
is_port writer port wire = wire.writer == writer && wire.port == port

-- the number of the lane that a writer names by a port, if there is one
abbrev pub lane_of : List Wire → ℕ → ℕ → Option ℕ
lane_of wires writer port = position_from (is_port writer port) 0 wires
