-- Where no command asks for a route, the driver sends no such question.
use Rattle.std.proofs.Common.{◌≡◌, ℕ, List, [], ◌∷◌, ◌++◌, Bool, true, false, ◌||◌, cond, map, refl, sym, ap, ◌∙◌}
use Rattle.std.specs.Prelude.{All}
use Rattle.std.specs.List.{flat_map, enumerate_from, list_any}
use Rattle.std.proofs.lemmas.List.Elements.{All-nil, All-cons}
use Rattle.or_base.specs.declared.item.Item.TheVariants as item
use Rattle.or_actor.specs.declared.output.Output.{Output}
use Rattle.or_actor.specs.declared.output.Output.TheVariants.{To}
use Rattle.net_laboratory.specs.declared.declared.LinkDecl.{LinkDecl}
use Rattle.net_laboratory.specs.declared.command.Command.{Command}
use Rattle.net_laboratory.specs.declared.command.Command.TheVariants.{Settle, Tick, Set, Own, Disown, Sync, Restart, Up, Down, Script, Get, Drain, LinkDrain, Metric, Advertise, Withdraw, Aggregate, Ask}
use Rattle.net_laboratory.specs.Scenario.{Laboratory}
use Rattle.net_record.specs.declared.role.Role.{Role}
use Rattle.net_record.specs.declared.phase.Phase.{Phase}
use Rattle.net_record.specs.Roles.{link_number, roles}
use Rattle.net_record.specs.Phases.{ups, takes_ticks, tick_for, ticks, restarts_with, restart_for, restarts, issues_of, moment_after, shows_routes, phases_from, phases}
use Rattle.net_answers.specs.Answered.{asks_route, asks_for_routes}
use Rattle.net_answers.proofs.Awaiting.{numbers_by, number_if}
use Rattle.net_answers.proofs.Attentive.{is_ask}

-- these outputs ask for no route
abbrev pub AsksNone : List Output → Type 0
AsksNone outputs = numbers_by is_ask outputs ≡ []

none_first : (test : Bool) (number : ℕ) (left all : List ℕ) → number_if number test ++ left ≡ [] → (left ≡ [] → all ≡ []) → number_if number test ++ all ≡ []
none_first true number left all e none = cc e
none_first false number left all e none = none e

none_append : (some more : List Output) → AsksNone some → AsksNone more → AsksNone (some ++ more)
none_append [] more none others = others
none_append (To number item ∷ some) more none others =
    none_first (is_ask item) number (numbers_by is_ask some) (numbers_by is_ask (some ++ more)) none (λ left. none_append some more left others)

none_flat : {A : Type 0} (f : A → List Output) (xs : List A) → ((x : A) → AsksNone (f x)) → AsksNone (flat_map f xs)
none_flat f [] each = refl
none_flat f (x ∷ xs) each = none_append (f x) (flat_map f xs) (each x) (none_flat f xs each)

none_ups : (all : List Role) (links : List (ℕ × LinkDecl)) (send : ℕ × LinkDecl → Output) → ((link : ℕ × LinkDecl) → AsksNone (send link ∷ [])) → AsksNone (map send links)
none_ups all [] send each = refl
none_ups all (link ∷ links) send each = none_append (send link ∷ []) (map send links) (each link) (none_ups all links send each)

none_tick : (at : ℕ) (actor : ℕ × Role) → AsksNone (tick_for at actor)
none_tick at actor = by_test (takes_ticks actor.1)
  where
    by_test : (test : Bool) → AsksNone (cond test (To actor.0 (item.Tick at) ∷ []) [])
    by_test true = refl
    by_test false = refl

none_restart : (name : List ℕ) (actor : ℕ × Role) → AsksNone (restart_for name actor)
none_restart name actor = by_test (restarts_with name actor.1)
  where
    by_test : (test : Bool) → AsksNone (cond test (To actor.0 item.Restart ∷ []) [])
    by_test true = refl
    by_test false = refl

none_issued : (all : List Role) (command : Command) → asks_route command ≡ false → AsksNone (issues_of all command)
unfolding issues_of
none_issued all (Ask node prefix) e = cc e
none_issued all (Tick to) e = none_flat (tick_for to) (enumerate_from 0 all) (none_tick to)
none_issued all (Restart node) e = none_flat (restart_for node) (enumerate_from 0 all) (none_restart node)
none_issued all _ e = refl

abbrev pub PhaseAsksNone : Phase → Type 0
PhaseAsksNone phase = AsksNone phase.issues

or_parts : (b c : Bool) → b || c ≡ false → (b ≡ false) × (c ≡ false)
or_parts true c e = cc e
or_parts false c e = (refl, e)

none_from : (all : List Role) (moment : ℕ) (issues : List Output) (commands : List Command) → AsksNone issues → list_any asks_route commands ≡ false
    → All PhaseAsksNone (phases_from all moment issues commands)
none_from all moment issues [] none e = All-nil PhaseAsksNone
none_from all moment issues (Settle rounds show ∷ commands) none e =
    All-cons PhaseAsksNone (record { issues = issues; rounds = rounds; moment = moment; shows_routes = shows_routes show }) (phases_from all moment [] commands) none
    (none_from all moment [] commands refl (or_parts (asks_route (Settle rounds show)) (list_any asks_route commands) e).1)
none_from all moment issues (command ∷ commands) none e =
    let parts = or_parts (asks_route command) (list_any asks_route commands) e in
    none_from all (moment_after moment command) (issues ++ issues_of all command) commands (none_append issues (issues_of all command) none (none_issued all command parts.0)) parts.1

pub phases_ask_none : (lab : Laboratory) → asks_for_routes lab ≡ false → All PhaseAsksNone (phases lab)
phases_ask_none lab unasked =
    let all = roles lab in
    none_from all 0 (ups all lab.links) lab.commands (none_ups all (enumerate_from 0 lab.links) (λ link. To (link_number all link.0) item.Up) (λ link. refl)) unasked
