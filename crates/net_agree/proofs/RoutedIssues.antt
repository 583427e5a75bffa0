-- The driver issues neither messages nor news of neighbours and peers.
use Rattle.std.proofs.Common.{ℕ, List, [], ◌∷◌, ◌++◌, map, Bool, true, false, cond, subst}
use Rattle.std.specs.List.{AllByRecursion, flat_map, enumerate_from}
use Rattle.or_base.specs.declared.item.Item.{Item}
use Rattle.or_base.specs.declared.item.Item.TheVariants.{Net, NeighbourUp, PeerUp, Tick as TickItem, Up as UpItem, Restart as RestartItem}
use Rattle.or_actor.specs.declared.output.Output.{Output}
use Rattle.or_actor.specs.declared.output.Output.TheVariants.{To}
use Rattle.kv_agree.proofs.Lists.{all_joined}
use Rattle.net_laboratory.specs.declared.declared.LinkDecl.{LinkDecl}
use Rattle.net_laboratory.specs.declared.command.Command.{Command}
use Rattle.net_laboratory.specs.declared.command.Command.TheVariants.{Settle, Tick, Restart, Aggregate, Ask}
use Rattle.net_laboratory.specs.Scenario.{Laboratory}
use Rattle.net_record.specs.declared.role.Role.{Role}
use Rattle.net_record.specs.declared.phase.Phase.{Phase}
use Rattle.net_record.specs.Roles.{roles, link_number}
use Rattle.net_record.specs.Phases.{ups, takes_ticks, tick_for, restarts_with, restart_for, issues_of, moment_after, phases_from, phases}
use Rattle.net_agree.proofs.RoutedSends.{IsQuiet}

-- the item is neither a message nor news of a neighbour or a peer
abbrev BringsNothing : Item → Type 0
BringsNothing (Net link from msg) = ⊥
BringsNothing (NeighbourUp link peer peer_if) = ⊥
BringsNothing (PeerUp link peer) = ⊥
BringsNothing _ = Unit {0}

pub quiet_item : (item : Item) → BringsNothing item → IsQuiet item
quiet_item item nothing = record {
  no_message = λ link from msg brings. subst BringsNothing brings nothing;
  no_neighbour = λ link peer peer_if brings. subst BringsNothing brings nothing;
  no_news = λ link peer brings. subst BringsNothing brings nothing;
}

abbrev pub IsQuietOutput : Output → Type 0
IsQuietOutput (To port item) = BringsNothing item

abbrev pub AreQuiet : List Output → Type 0
AreQuiet outputs = AllByRecursion IsQuietOutput outputs

quiet_ups : (all : List Role) (links : List (ℕ × LinkDecl)) → AreQuiet (map (λ link. To (link_number all link.0) UpItem) links)
quiet_ups all [] = tt
quiet_ups all (link ∷ links) = (tt, quiet_ups all links)

quiet_if : (test : Bool) (x : Output) → IsQuietOutput x → AreQuiet (cond test (x ∷ []) [])
quiet_if true x quiet = (quiet, tt)
quiet_if false x quiet = tt

quiet_ticks : (at : ℕ) (actors : List (ℕ × Role)) → AreQuiet (flat_map (tick_for at) actors)
quiet_ticks at [] = tt
quiet_ticks at (actor ∷ actors) =
    all_joined IsQuietOutput (tick_for at actor) (flat_map (tick_for at) actors) (quiet_if (takes_ticks actor.1) (To actor.0 (TickItem at)) tt) (quiet_ticks at actors)

quiet_restarts : (name : List ℕ) (actors : List (ℕ × Role)) → AreQuiet (flat_map (restart_for name) actors)
quiet_restarts name [] = tt
quiet_restarts name (actor ∷ actors) =
    all_joined IsQuietOutput (restart_for name actor) (flat_map (restart_for name) actors) (quiet_if (restarts_with name actor.1) (To actor.0 RestartItem) tt) (quiet_restarts name actors)

quiet_issues : (all : List Role) (command : Command) → AreQuiet (issues_of all command)
unfolding issues_of
quiet_issues all (Tick to) = quiet_ticks to (enumerate_from 0 all)
quiet_issues all (Restart node) = quiet_restarts node (enumerate_from 0 all)
quiet_issues all (Settle rounds show) = tt
quiet_issues all _ = (tt, tt)

abbrev pub ArePhasesQuiet : List Phase → Type 0
ArePhasesQuiet later = AllByRecursion (λ (phase : Phase). AreQuiet phase.issues) later

quiet_phases : (all : List Role) (moment : ℕ) (issues : List Output) (commands : List Command) → AreQuiet issues → ArePhasesQuiet (phases_from all moment issues commands)
quiet_phases all moment issues [] quiet = tt
quiet_phases all moment issues (Settle rounds show ∷ commands) quiet = (quiet, quiet_phases all moment [] commands tt)
quiet_phases all moment issues (command ∷ commands) quiet =
    quiet_phases all (moment_after moment command) (issues ++ issues_of all command) commands (all_joined IsQuietOutput issues (issues_of all command) quiet (quiet_issues all command))

pub quiet_laboratory : (lab : Laboratory) → ArePhasesQuiet (phases lab)
quiet_laboratory lab = quiet_phases (roles lab) 0 (ups (roles lab) lab.links) lab.commands (quiet_ups (roles lab) (enumerate_from 0 lab.links))
