-- Which actors a laboratory has: the driver, then the modules of each node, then the links.
use Rattle.std.specs.Prelude.{ℕ, ◌+◌, ◌*◌, List, [], ◌∷◌, ◌++◌, length, map, Option, Bool, false, ◌&&◌, ◌==◌, if◌then◌else◌}
use Rattle.std.specs.Str.{bytes_eq}
use Rattle.std.specs.List.{flat_map, enumerate_from, list_any, position_or_len}
use Rattle.or_base.specs.declared.kind.Kind.{Kind}
use Rattle.or_base.specs.declared.kind.Kind.TheVariants.{Stores, Full}
use Rattle.net_laboratory.specs.declared.declared.NodeDecl.{NodeDecl}
use Rattle.net_laboratory.specs.declared.declared.LinkDecl.{LinkDecl}
use Rattle.net_laboratory.specs.Limits.{most_nodes, most_links}
use Rattle.net_laboratory.specs.Scenario.{Laboratory}
use Rattle.or_actor.specs.declared.link_end.LinkEnd.{LinkEnd}
use Rattle.net_record.specs.declared.role.NodeModule.{NodeModule}
use Rattle.net_record.specs.declared.role.NodeModule.TheVariants.{Spark, LinkMonitor, PrefixManager, Store, Decision, Fib, Desk}
use Rattle.net_record.specs.declared.role.Role.{Role}
use Rattle.net_record.specs.declared.role.Role.TheVariants.{Driver, Node, Link}

-- the modules of a node of each kind, in the order of their numbers
abbrev pub modules_of : Kind → List NodeModule
modules_of Stores = Store ∷ Desk ∷ []
modules_of Full = Spark ∷ LinkMonitor ∷ PrefixManager ∷ Store ∷ Decision ∷ Fib ∷ Desk ∷ []

-- each kind of module has a number of its own
abbrev pub kind_number : NodeModule → ℕ
kind_number Spark = 0
kind_number LinkMonitor = 1
kind_number PrefixManager = 2
kind_number Store = 3
kind_number Decision = 4
kind_number Fib = 5
kind_number Desk = 6

abbrev pub is_same_module : NodeModule → NodeModule → Bool
is_same_module m other = kind_number m == kind_number other

-- the number of the first of these that passes a test; where none does, how many there are
abbrev pub first_place : {A : Type 0} → (A → Bool) → List A → ℕ
first_place test all = position_or_len test all

-- the actor number of the store of a node, which is named by its place among the nodes
abbrev pub store_number : List NodeModule → ℕ → ℕ
store_number modules place = 1 + place * length modules + first_place (is_same_module Store) modules

-- that of its Decision; where nodes have none it is the driver's, which has no entries
abbrev pub decision_number : List NodeModule → ℕ → ℕ
decision_number modules place =
    if list_any (is_same_module Decision) modules then 1 + place * length modules + first_place (is_same_module Decision) modules else 0

-- the end of a link, which is given with its number, at the node with this name, if it has one there
abbrev pub end_at : List ℕ → ℕ × LinkDecl → List LinkEnd
end_at name link =
    if bytes_eq link.1.a name then record { link = link.0; other = link.1.b; own_if = link.1.aif; metric = link.1.am } ∷ []
    else if bytes_eq link.1.b name then record { link = link.0; other = link.1.a; own_if = link.1.bif; metric = link.1.bm } ∷ []
    else []

-- the ends of links at that node, in the order of the links' numbers
abbrev pub ends_at : List LinkDecl → List ℕ → List LinkEnd
ends_at links name = flat_map (end_at name) (enumerate_from 0 links)

-- the modules of a node, which is given with its place among the nodes; its records have this lifetime
abbrev pub node_roles : List NodeModule → List LinkDecl → Option ℕ → ℕ × NodeDecl → List Role
node_roles modules links ttl node =
    map
    (λ m. Node m node.1.name
    (record { store = store_number modules node.0; decision = decision_number modules node.0; ends = ends_at links node.1.name; ttl = ttl; faults = node.1.faults }))
    modules

-- a link, which is given with its number
abbrev pub link_role : ℕ × LinkDecl → Role
link_role link = Link link.0 link.1.a link.1.b

-- what the actors of a laboratory are, in the order of their numbers
abbrev pub roles : Laboratory → List Role
roles lab = Driver ∷ (flat_map (node_roles (modules_of lab.kind) lab.links lab.ttl) (enumerate_from 0 lab.nodes) ++ map link_role (enumerate_from 0 lab.links))

abbrev pub node_names : Laboratory → List (List ℕ)
node_names lab = map (λ node. node.name) lab.nodes

-- a node has at most so many modules
abbrev pub most_modules : ℕ
most_modules = 7

-- the driver, the modules of all nodes, and the links
abbrev pub most_actors : ℕ
most_actors = 1 + most_modules * most_nodes + most_links

-- the actor is this module of the node with this name
abbrev pub is_module : NodeModule → List ℕ → Role → Bool
is_module m name Driver = false
is_module m name (Node other node setup) = is_same_module m other && bytes_eq node name
is_module m name (Link link a b) = false

-- the actor is the link with this number
abbrev pub is_link_numbered : ℕ → Role → Bool
is_link_numbered number Driver = false
is_link_numbered number (Node m node setup) = false
is_link_numbered number (Link link a b) = link == number

-- the actor number of a module of the node with this name, and that of a link
abbrev pub module_number : List Role → NodeModule → List ℕ → ℕ
module_number all m name = first_place (is_module m name) all

abbrev pub link_number : List Role → ℕ → ℕ
link_number all link = first_place (is_link_numbered link) all
