-- What the driver issues brings no message.
use Rattle.std.proofs.Common.{◌≡◌, ℕ, ◌+◌, List, [], ◌∷◌, ◌++◌, None, map, refl}
use Rattle.std.specs.List.{AllByRecursion, enumerate_from}
use Rattle.std.proofs.lemmas.List.Elements.{All-contains, All-from_recursion}
use Rattle.or_base.specs.declared.item.Item.TheVariants as item
use Rattle.or_base.specs.declared.message.Msg.{Msg}
use Rattle.or_actor.specs.declared.output.Output.{Output}
use Rattle.or_actor.specs.declared.output.Output.TheVariants.{To}
use Rattle.kv_agree.specs.Traced.{carried_by}
use Rattle.kv_agree.proofs.Lists.{all_joined}
use Rattle.net_laboratory.specs.declared.declared.LinkDecl.{LinkDecl}
use Rattle.net_laboratory.specs.declared.command.Command.{Command}
use Rattle.net_laboratory.specs.declared.command.Command.TheVariants.{Settle, Tick, Restart, Aggregate, Ask}
use Rattle.net_laboratory.specs.Scenario.{Laboratory}
use Rattle.net_record.specs.declared.role.Role.{Role}
use Rattle.net_record.specs.declared.phase.Phase.{Phase}
use Rattle.net_record.specs.Roles.{roles, link_number}
use Rattle.net_record.specs.Phases.{ups, takes_ticks, tick_for, ticks, restarts_with, restart_for, restarts, issues_of, moment_after, phases_from, phases}
use Rattle.net_agree.proofs.LiftedLists.{all_given, all_if}
use Rattle.net_agree.proofs.LiftedWay.{IsAmong}

abbrev IsNoMessage : Output → Type 0
IsNoMessage (To port item) = carried_by item ≡ None

abbrev pub BringNone : List Output → Type 0
BringNone issues = AllByRecursion IsNoMessage issues

ups_none : (all : List Role) (first : ℕ) (links : List LinkDecl) → BringNone (map (λ (link : ℕ × LinkDecl). To (link_number all link.0) item.Up) (enumerate_from first links))
ups_none all first [] = tt
ups_none all first (link ∷ links) = (refl, ups_none all (first + 1) links)

ticks_none : (all : List Role) (at : ℕ) → BringNone (ticks all at)
ticks_none all at =
    all_given IsNoMessage (tick_for at) (enumerate_from 0 all) (λ actor. all_if IsNoMessage (takes_ticks actor.1) (To actor.0 (item.Tick at) ∷ []) (refl, tt))

restarts_none : (all : List Role) (name : List ℕ) → BringNone (restarts all name)
restarts_none all name =
    all_given IsNoMessage (restart_for name) (enumerate_from 0 all) (λ actor. all_if IsNoMessage (restarts_with name actor.1) (To actor.0 item.Restart ∷ []) (refl, tt))

issues_none : (all : List Role) (command : Command) → BringNone (issues_of all command)
unfolding issues_of
issues_none all (Tick to) = ticks_none all to
issues_none all (Restart node) = restarts_none all node
issues_none all (Settle rounds show) = tt
issues_none all _ = (refl, tt)

abbrev pub PhasesBringNone : List Phase → Type 0
PhasesBringNone all = AllByRecursion (λ (phase : Phase). BringNone phase.issues) all

phases_none : (all : List Role) (moment : ℕ) (issues : List Output) (commands : List Command) → BringNone issues → PhasesBringNone (phases_from all moment issues commands)
phases_none all moment issues [] none = tt
phases_none all moment issues (Settle rounds show ∷ commands) none = (none, phases_none all moment [] commands tt)
phases_none all moment issues (command ∷ commands) none =
    phases_none all (moment_after moment command) (issues ++ issues_of all command) commands
    (all_joined IsNoMessage issues (issues_of all command) none (issues_none all command))

pub lab_brings_none : (lab : Laboratory) → PhasesBringNone (phases lab)
lab_brings_none lab = phases_none (roles lab) 0 (ups (roles lab) lab.links) lab.commands (ups_none (roles lab) 0 lab.links)

-- no message is among them
pub none_among : (issues : List Output) (link : ℕ) (node : List ℕ) (msg : Msg) → BringNone issues → IsAmong issues link node msg → ⊥
none_among issues link node msg none it =
    not_none (All-contains IsNoMessage issues (To it.port (item.Net link node msg)) (All-from_recursion IsNoMessage issues none) it.among) where
      not_none : carried_by (item.Net link node msg) ≡ None → ⊥
      not_none e = cc
