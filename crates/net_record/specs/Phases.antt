-- What the driver sends: one row a command, and the phases of a scenario.
use Rattle.std.specs.Prelude.{ℕ, List, [], ◌∷◌, ◌++◌, map, unwrap_or, Bool, true, false, ◌&&◌, if◌then◌else◌}
use Rattle.std.specs.List.{flat_map, enumerate_from}
use Rattle.std.specs.Str.{bytes_eq}
use Rattle.or_base.specs.declared.item.Item.{Item}
use Rattle.or_base.specs.declared.item.Item.TheVariants as item
use Rattle.or_actor.specs.declared.output.Output.{Output}
use Rattle.or_actor.specs.declared.output.Output.TheVariants.{To}
use Rattle.net_laboratory.specs.declared.declared.LinkDecl.{LinkDecl}
use Rattle.net_laboratory.specs.declared.command.Command.{Command}
use Rattle.net_laboratory.specs.declared.command.Command.TheVariants.{Settle, Tick, Set, Own, Disown, Sync, Restart, Up, Down, Script, Get, Drain, LinkDrain, Metric, Advertise, Withdraw, Aggregate, Ask}
use Rattle.net_laboratory.specs.declared.show.Show.{Show}
use Rattle.net_laboratory.specs.declared.show.Show.TheVariants as show
use Rattle.net_laboratory.specs.Scenario.{Laboratory}
use Rattle.net_laboratory.specs.Amounts.{claims_of}
use Rattle.net_record.specs.declared.role.NodeModule.{NodeModule}
use Rattle.net_record.specs.declared.role.NodeModule.TheVariants.{Spark, LinkMonitor, PrefixManager, Store, Decision, Fib, Desk}
use Rattle.net_record.specs.declared.role.Role.{Role}
use Rattle.net_record.specs.declared.role.Role.TheVariants.{Driver, Node, Link}
use Rattle.net_record.specs.declared.phase.Phase.{Phase}
use Rattle.net_record.specs.Roles.{roles, module_number, link_number}

-- an Up for each link
abbrev pub ups : List Role → List LinkDecl → List Output
ups all links = map (λ link. To (link_number all link.0) item.Up) (enumerate_from 0 links)

-- the modules of a node that take ticks
abbrev pub module_takes_ticks : NodeModule → Bool
module_takes_ticks Spark = true
module_takes_ticks LinkMonitor = false
module_takes_ticks PrefixManager = false
module_takes_ticks Store = true
module_takes_ticks Decision = false
module_takes_ticks Fib = true
module_takes_ticks Desk = false

abbrev pub takes_ticks : Role → Bool
takes_ticks Driver = false
takes_ticks (Node m node setup) = module_takes_ticks m
takes_ticks (Link link a b) = true

-- a Tick for an actor, which is given with its number, if it takes one
abbrev pub tick_for : ℕ → ℕ × Role → List Output
tick_for at actor = if takes_ticks actor.1 then To actor.0 (item.Tick at) ∷ [] else []

-- a Tick for each actor that takes one
abbrev pub ticks : List Role → ℕ → List Output
ticks all at = flat_map (tick_for at) (enumerate_from 0 all)

-- the modules of a node that restart with it
abbrev pub module_restarts : NodeModule → Bool
module_restarts Spark = true
module_restarts LinkMonitor = false
module_restarts PrefixManager = false
module_restarts Store = true
module_restarts Decision = false
module_restarts Fib = false
module_restarts Desk = false

-- the actor is a module of the node with this name, and restarts with it
abbrev pub restarts_with : List ℕ → Role → Bool
restarts_with name Driver = false
restarts_with name (Node m node setup) = module_restarts m && bytes_eq node name
restarts_with name (Link link a b) = false

-- a Restart for an actor, which is given with its number, if it restarts with the node
abbrev pub restart_for : List ℕ → ℕ × Role → List Output
restart_for name actor = if restarts_with name actor.1 then To actor.0 item.Restart ∷ [] else []

-- a Restart for each module of the node that restarts with it
abbrev pub restarts : List Role → List ℕ → List Output
restarts all name = flat_map (restart_for name) (enumerate_from 0 all)

-- an item for a module of the node with this name, and one for a link
abbrev pub to_module : List Role → NodeModule → List ℕ → Item → List Output
to_module all m node item = To (module_number all m node) item ∷ []

abbrev pub to_link : List Role → ℕ → Item → List Output
to_link all link item = To (link_number all link) item ∷ []

-- What the driver sends for a command. A settle ends the phase.
unfoldable pub issues_of : List Role → Command → List Output
issues_of all (Settle rounds show) = []
issues_of all (Tick to) = ticks all to
issues_of all (Set node pair) = to_module all Store node (item.Set pair)
issues_of all (Sync node link) = to_module all Store node (item.Sync link)
issues_of all (Restart node) = restarts all node
issues_of all (Up link) = to_link all link item.Up
issues_of all (Down link) = to_link all link item.Down
issues_of all (Script link from acts) = to_link all link (item.Script from acts)
issues_of all (Get node key) = to_module all Desk node (item.Get key)
issues_of all (Own node key value ttl) = to_module all Store node (item.Persist key value ttl)
issues_of all (Disown node key) = to_module all Store node (item.Unset key)
issues_of all (Drain node on) = to_module all LinkMonitor node (item.Drain on)
issues_of all (LinkDrain node link on) = to_module all LinkMonitor node (item.LinkDrain link on)
issues_of all (Metric node link metric) = to_module all LinkMonitor node (item.Metric link metric)
issues_of all (Advertise node entry) = to_module all PrefixManager node (item.Advertise entry)
issues_of all (Withdraw node prefix) = to_module all PrefixManager node (item.Withdraw prefix)
issues_of all (Aggregate node prefix least) = to_module all PrefixManager node (item.Aggregate prefix least)
issues_of all (Ask node prefix) = to_module all Desk node (item.Ask prefix)

-- the moment after a command: the one that it brings, or the one before it
abbrev pub moment_after : ℕ → Command → ℕ
moment_after moment command = unwrap_or (claims_of command).moment moment

-- what a settle shows besides its line are routes too
abbrev pub shows_routes : Show → Bool
shows_routes show.Both = true
shows_routes show.Stores = false
shows_routes show.Routes = true
shows_routes show.Nothing = false

-- The phases of commands, where the last tick so far was to this moment and the driver has these items for the first
-- phase already. A phase is the commands up to and with a settle.
abbrev pub phases_from : List Role → ℕ → List Output → List Command → List Phase
phases_from all moment issues [] = []
phases_from all moment issues (Settle rounds show ∷ commands) =
    record { issues = issues; rounds = rounds; moment = moment; shows_routes = shows_routes show } ∷ phases_from all moment [] commands
phases_from all moment issues (command ∷ commands) =
    phases_from all (moment_after moment command) (issues ++ issues_of all command) commands

-- the phases of a laboratory; its links belong to the first
abbrev pub phases : Laboratory → List Phase
phases lab = phases_from (roles lab) 0 (ups (roles lab) lab.links) lab.commands
