-- The ticks of a sound laboratory's phases rise.
use Rattle.std.proofs.Common.{◌≡◌, ℕ, ◌+◌, ◌≤◌, List, [], ◌∷◌, ◌++◌, Option, Some, None, Bool, true, false, if◌then◌else◌, map, refl, ap, ◌∙◌, subst, arith}
use Rattle.std.specs.Prelude.{unwrap_or, fold, IsTrue}
use Rattle.std.specs.Option.{option_map_or}
use Rattle.std.specs.List.{flat_map, enumerate_from}
use Rattle.std.proofs.lemmas.Bool.{and_parts, ltb-true}
use Rattle.std.proofs.lemmas.List.Sums.{fold-append}
use Rattle.or_base.specs.declared.item.Item.TheVariants as item
use Rattle.or_actor.specs.declared.output.Output.{Output}
use Rattle.or_actor.specs.declared.output.Output.TheVariants.{To}
use Rattle.net_laboratory.specs.declared.declared.LinkDecl.{LinkDecl}
use Rattle.net_laboratory.specs.declared.command.Command.{Command}
use Rattle.net_laboratory.specs.declared.command.Command.TheVariants.{Settle, Tick, Restart, Aggregate, Ask}
use Rattle.net_laboratory.specs.Scenario.{Laboratory}
use Rattle.net_laboratory.specs.Amounts.{claims_of, after_tick, last_tick, is_later}
use Rattle.net_laboratory.specs.Sound.{Declarations, admits_command, end_in_settle, declared_in, is_sound}
use Rattle.net_record.specs.declared.role.Role.{Role}
use Rattle.net_record.specs.declared.phase.Phase.{Phase}
use Rattle.net_record.specs.Roles.{roles, link_number}
use Rattle.net_record.specs.Phases.{ups, takes_ticks, tick_for, restarts_with, restart_for, issues_of, moment_after, phases_from, phases}
use Rattle.net_agree.proofs.TimedTicks.{AreSentBetween, SendNoTicks, sent_then, sent_none, none_sent_then}

-- the ticks of each phase are between the moment before it and its own
abbrev pub Rise : ℕ → List Phase → Type 0
Rise moment [] = Unit {0}
Rise moment (phase ∷ later) = AreSentBetween moment phase.moment phase.issues × Rise phase.moment later

-- ---- what a command brings

ups_send_none : (all : List Role) (number : ℕ) (links : List LinkDecl) → SendNoTicks (map (λ (link : ℕ × LinkDecl). To (link_number all link.0) item.Up) (enumerate_from number links))
ups_send_none all number [] = tt
ups_send_none all number (link ∷ links) = (refl, ups_send_none all (number + 1) links)

tick_if : (test : Bool) (from at number : ℕ) (later : List Output) → from ≤ at → ((moment : ℕ) → moment ≤ at → AreSentBetween moment at later)
    → AreSentBetween from at ((if test then To number (item.Tick at) ∷ [] else []) ++ later)
tick_if true from at number later h others = (h, others at (omega arith))
tick_if false from at number later h others = others from h

ticks_rise : (at number : ℕ) (all : List Role) (from : ℕ) → from ≤ at → AreSentBetween from at (flat_map (tick_for at) (enumerate_from number all))
ticks_rise at number [] from h = h
ticks_rise at number (role ∷ all) from h =
    tick_if (takes_ticks role) from at number (flat_map (tick_for at) (enumerate_from (number + 1) all)) h (ticks_rise at (number + 1) all)

restarts_send_none : (name : List ℕ) (actors : List (ℕ × Role)) → SendNoTicks (flat_map (restart_for name) actors)
restarts_send_none name [] = tt
restarts_send_none name (actor ∷ actors) =
    none_sent_then (restart_for name actor) (flat_map (restart_for name) actors) (restart_if (restarts_with name actor.1) actor.0) (restarts_send_none name actors)
  where
    restart_if : (test : Bool) (number : ℕ) → SendNoTicks (if test then To number item.Restart ∷ [] else [])
    restart_if true number = (refl, tt)
    restart_if false number = tt

-- the command's tick, if it is one, isn't to an earlier moment
abbrev IsTickFrom : ℕ → Command → Type 0
IsTickFrom moment c = (to : ℕ) → (claims_of c).moment ≡ Some to → moment ≤ to

issues_send_none : (all : List Role) (c : Command) → (claims_of c).moment ≡ None → SendNoTicks (issues_of all c)
unfolding issues_of
issues_send_none all (Tick to) e = absurd (cc e)
issues_send_none all (Restart node) e = restarts_send_none node (enumerate_from 0 all)
issues_send_none all (Settle rounds show) e = tt
issues_send_none all _ e = (refl, tt)

issues_rise : (all : List Role) (moment : ℕ) (c : Command) → IsTickFrom moment c → AreSentBetween moment (moment_after moment c) (issues_of all c)
unfolding issues_of
issues_rise all moment (Tick to) h = ticks_rise to 0 all moment (h to refl)
issues_rise all moment c h = sent_none moment (issues_of all c) (issues_send_none all c refl)

command_rises : (all : List Role) (from moment : ℕ) (issues : List Output) (c : Command) (commands : List Command) → AreSentBetween from moment issues → IsTickFrom moment c
    → ((start : ℕ) (more : List Output) → AreSentBetween start (moment_after moment c) more → Rise start (phases_from all (moment_after moment c) more commands))
    → Rise from (phases_from all moment issues (c ∷ commands))
command_rises all from moment issues (Settle rounds show) commands sent h later = (sent, later moment [] (omega arith))
command_rises all from moment issues c commands sent h later =
    later from (issues ++ issues_of all c) (sent_then from moment (moment_after moment c) issues (issues_of all c) sent (issues_rise all moment c h))

-- ---- the commands of a sound laboratory

-- the moment of the last tick
abbrev moment_of : List Command → ℕ
moment_of before = unwrap_or (last_tick before) 0

moment_more : (before : List Command) (c : Command) → moment_of (before ++ c ∷ []) ≡ moment_after (moment_of before) c
unfolding last_tick
moment_more before c =
    ap (λ tick. unwrap_or tick 0) (fold-append after_tick None before (c ∷ [])) ∙ by_tick (claims_of c).moment (fold after_tick None before)
  where
    by_tick : (tick before : Option ℕ) → unwrap_or (option_map_or Some tick before) 0 ≡ unwrap_or tick (unwrap_or before 0)
    by_tick None before = refl
    by_tick (Some to) before = refl

later_from : (last tick : Option ℕ) → option_map_or (is_later last) tick true ≡ true → (to : ℕ) → tick ≡ Some to → unwrap_or last 0 ≤ to
later_from last None h to e = absurd (cc e)
later_from None (Some at) h to e = omega arith
later_from (Some moment) (Some at) h to e =
    let same : at ≡ to = cc e in
    omega (arith, same, ltb-true moment at h)

in_time : (d : Declarations) (before : List Command) (c : Command) → admits_command d before c ≡ true → IsTickFrom (moment_of before) c
unfolding admits_command
in_time d before c h =
    let room = and_parts _ _ h in
    let owner = and_parts _ _ room.0 in
    let time = and_parts _ _ owner.0 in
    let own = and_parts _ _ time.0 in
    later_from (last_tick before) (claims_of c).moment own.1

last_rises : (all : List Role) (from moment : ℕ) (issues : List Output) (c : Command) → AreSentBetween from moment issues → Rise from (phases_from all moment issues (c ∷ []))
last_rises all from moment issues (Settle rounds show) sent = (sent, tt)
last_rises all from moment issues c sent = tt

commands_rise : (all : List Role) (d : Declarations) (before commands : List Command) (from : ℕ) (issues : List Output) → end_in_settle d before commands ≡ true
    → AreSentBetween from (moment_of before) issues → Rise from (phases_from all (moment_of before) issues commands)
commands_rise all d before [] from issues h sent = tt
commands_rise all d before (c ∷ []) from issues h sent = last_rises all from (moment_of before) issues c sent
commands_rise all d before (c ∷ next ∷ commands) from issues h sent =
    let parts = and_parts (admits_command d before c) (end_in_settle d (before ++ c ∷ []) (next ∷ commands)) h in
    let same = moment_more before c in
    command_rises all from (moment_of before) issues c (next ∷ commands) sent (in_time d before c parts.0)
    (subst (λ moment. (start : ℕ) (more : List Output) → AreSentBetween start moment more → Rise start (phases_from all moment more (next ∷ commands))) same
    (λ start more. commands_rise all d (before ++ c ∷ []) (next ∷ commands) start more parts.1))

pub phases_rise : (lab : Laboratory) → IsTrue (is_sound lab) → Rise 0 (phases lab)
unfolding is_sound last_tick
phases_rise lab sound =
    let turns = and_parts _ _ sound in
    let commands = and_parts _ _ turns.0 in
    commands_rise (roles lab) (declared_in lab) [] lab.commands 0 (ups (roles lab) lab.links) commands.1 (sent_none 0 (ups (roles lab) lab.links) (ups_send_none (roles lab) 0 lab.links))
