-- A run by rounds is a run under the schedule of its own turns.
use Rattle.std.proofs.Common.{◌≡◌, ℕ, zero, suc, ◌+◌, List, [], ◌∷◌, ◌++◌, Bool, true, false, cond, ◌||◌, not, Some, None, Ok, length, map, refl, sym, ◌∙◌, ap, length-set}
use Rattle.std.proofs.lemmas.List.{append-nil, length-map, length-replicate}
use Rattle.or_base.specs.declared.kind.Kind.{Kind}
use Rattle.or_actor.specs.declared.output.Output.{Output}
use Rattle.net_laboratory.specs.declared.schedule.Turn.{Turn}
use Rattle.net_record.specs.declared.role.Role.{Role}
use Rattle.net_record.specs.declared.phase.Phase.{Phase}
use Rattle.net_record.specs.Roles.{roles}
use Rattle.net_record.specs.Wires.{wires}
use Rattle.net_record.specs.Phases.{phases}
use Rattle.net_record.specs.declared.actor.ActorState.{ActorState}
use Rattle.net_record.specs.Actors.{actor_at, new_actor, actor_without_question, entry_counts, actor_after_settle, actors_after_settle}
use Rattle.net_record.specs.Answers.{Giving, desks_asked, give, give_all, giving_of}
use Rattle.net_record.specs.World.{WorldState, world_of, start, is_drained, issue, settle, driver_clock, greatest_clock}
use Rattle.net_record.specs.Budget.{is_over}
use Rattle.net_record.specs.Rounds.{Marked, RoundsEnded, round, after_round, rounds_of, phase_of, settle_after, round_robin}
use Rattle.net_record.proofs.Counted.{rounds_from}
use Rattle.net_record.specs.Run.{begin, advance, run_from, run, schedule_of, RoundsAreARun}
use Rattle.net_record.specs.Wired.{IsWired}
use Rattle.net_record.proofs.Wired.{ends_of_wires}
use Rattle.net_record.proofs.Delivered.{length-deliver}
use Rattle.net_record.proofs.Turns.{ends_as_many}
use Rattle.net_record.proofs.Found.{find_start, find_issue, find_settle}
use Rattle.net_record.proofs.RoundTurns.{IsReady, then_round, advance-waits, round_runs, round_schedules, ready_round}

pub wired_world_of : (kind : Kind) (all : List Role) → IsWired (world_of kind all)
wired_world_of kind all = record {
  as_many = length-replicate (length (wires all)) [];
  ends = ends_as_many (length all) (length (map (new_actor kind) all)) (wires all) (sym (length-map all (new_actor kind))) (ends_of_wires all);
}

pub wired_issue : (w : WorldState) (issues : List Output) → IsWired w → IsWired (issue w issues)
unfolding issue
wired_issue w issues wired = record {
  as_many = length-deliver w.wires 0 (driver_clock w.actors) w.lanes issues ∙ wired.as_many;
  ends = wired.ends;
}

length-give : (g : Giving) (number : ℕ) → length (give g number).actors ≡ length g.actors
unfolding give
length-give g number = length-set g.actors number (actor_without_question (actor_at g.actors number))

pub length-give_all : (g : Giving) (numbers : List ℕ) → length (give_all g numbers).actors ≡ length g.actors
length-give_all g [] = refl
length-give_all g (number ∷ numbers) = length-give_all (give g number) numbers ∙ length-give g number

-- as many actors after a settle
pub length-settled : (clock : ℕ) (asked : List ℕ) (actors : List ActorState) → length (actors_after_settle clock (giving_of actors asked).actors) ≡ length actors
length-settled clock asked actors =
    let g = giving_of actors asked in
    length-map g.actors (actor_after_settle clock (entry_counts g.actors)) ∙ length-give_all (record { actors = actors; answers = [] }) asked

pub wired_settle : (moment : ℕ) (asked : List ℕ) (shows : Bool) (w : WorldState) → IsWired w → IsWired (settle moment asked shows w)
unfolding settle
wired_settle moment asked shows w wired =
    let clock = greatest_clock w.actors + 1 in
    record {
      as_many = wired.as_many;
      ends = ends_as_many (length w.actors) (length (actors_after_settle clock (giving_of w.actors asked).actors)) w.wires (sym (length-settled clock asked w.actors)) wired.ends;
    }

pub ready_world_of : (kind : Kind) (all : List Role) → IsReady (world_of kind all)
ready_world_of kind all = record { wired = wired_world_of kind all; find = find_start kind all }

pub ready_issue : (w : WorldState) (issues : List Output) → IsReady w → IsReady (issue w issues)
ready_issue w issues ready = record { wired = wired_issue w issues ready.wired; find = find_issue w issues ready.find }

pub ready_settle : (moment : ℕ) (asked : List ℕ) (shows : Bool) (w : WorldState) → IsReady w → IsReady (settle moment asked shows w)
ready_settle moment asked shows w ready = record { wired = wired_settle moment asked shows w ready.wired; find = find_settle moment asked shows w }

-- no round is wanted any more
abbrev stops : WorldState → Bool
stops w = is_drained w || is_over w

waits-or : (drained over : Bool) → drained || over ≡ false → drained ≡ false
waits-or true over e = cc
waits-or false over e = refl

-- the turns of at most so many rounds, and then these
abbrev then_rounds : ℕ → WorldState → List Turn → List Turn
then_rounds zero w later = later
then_rounds (suc count) w later = cond (stops w) later (then_round w 0 (map length w.lanes) (then_rounds count (round w) later))

ready_if : (stop : Bool) (m n : Marked) → IsReady m.world → IsReady n.world → IsReady (cond stop m n).world
ready_if true m n g h = g
ready_if false m n g h = h

ready_rounds_of : (m : Marked) (count : ℕ) → IsReady m.world → IsReady (rounds_of m count).world
ready_rounds_of m zero ready = ready
ready_rounds_of m (suc count) ready =
    ready_if (stops m.world) m (rounds_of (after_round m) count) ready (ready_rounds_of (after_round m) count (ready_round m.world ready))

-- one round, or none where none is wanted
one_round : (m : Marked) (count : ℕ) (phase : Phase) (phases : List Phase) (later : List Turn) (stop : Bool) → stops m.world ≡ stop → IsReady m.world
    → run_from (advance (round m.world) (phase ∷ phases)) (then_rounds count (round m.world) later) ≡ run_from (advance (rounds_of (after_round m) count).world (phase ∷ phases)) later
    → run_from (advance m.world (phase ∷ phases)) (cond stop later (then_round m.world 0 (map length m.world.lanes) (then_rounds count (round m.world) later)))
    ≡ run_from (advance (cond stop m (rounds_of (after_round m) count)).world (phase ∷ phases)) later
one_round m count phase phases later true e ready others = refl
one_round m count phase phases later false e ready others =
    let waits = waits-or (is_drained m.world) (is_over m.world) e in
    ap (λ p. run_from p (then_round m.world 0 (map length m.world.lanes) (then_rounds count (round m.world) later))) (advance-waits m.world phase phases waits)
    ∙ round_runs m.world phase phases (then_rounds count (round m.world) later) ready waits ∙ others

-- the rounds of a phase are turns of a run
rounds_run : (m : Marked) (count : ℕ) (phase : Phase) (phases : List Phase) (later : List Turn) → IsReady m.world
    → run_from (advance m.world (phase ∷ phases)) (then_rounds count m.world later) ≡ run_from (advance (rounds_of m count).world (phase ∷ phases)) later
rounds_run m zero phase phases later ready = refl
rounds_run m (suc count) phase phases later ready =
    one_round m count phase phases later (stops m.world) refl ready
    (rounds_run (after_round m) count phase phases later (ready_round m.world ready))

one_round_scheduled : (m : Marked) (count : ℕ) (later : List Turn) (stop : Bool) → IsReady m.world
    → schedule_of (rounds_of (after_round m) count).world.turns ++ later ≡ schedule_of (round m.world).turns ++ then_rounds count (round m.world) later
    → schedule_of (cond stop m (rounds_of (after_round m) count)).world.turns ++ later
    ≡ schedule_of m.world.turns ++ cond stop later (then_round m.world 0 (map length m.world.lanes) (then_rounds count (round m.world) later))
one_round_scheduled m count later true ready others = refl
one_round_scheduled m count later false ready others = others ∙ round_schedules m.world (then_rounds count (round m.world) later) ready

rounds_scheduled : (m : Marked) (count : ℕ) (later : List Turn) → IsReady m.world
    → schedule_of (rounds_of m count).world.turns ++ later ≡ schedule_of m.world.turns ++ then_rounds count m.world later
rounds_scheduled m zero later ready = refl
rounds_scheduled m (suc count) later ready =
    one_round_scheduled m count later (stops m.world) ready (rounds_scheduled (after_round m) count later (ready_round m.world ready))

-- what a phase begins with, and what the next one does
abbrev marked_with_issues : Marked → Phase → Marked
marked_with_issues m phase = record { world = issue m.world phase.issues; marks = m.marks }

abbrev next_phase : Marked → Phase → Marked
next_phase m phase = settle_after phase (phase_of m phase)

-- the turns of phases
abbrev turns_of_phases : Marked → List Phase → List Turn
turns_of_phases m [] = []
turns_of_phases m (phase ∷ phases) = then_rounds phase.rounds (issue m.world phase.issues) (turns_of_phases (next_phase m phase) phases)

ready_phase : (m : Marked) (phase : Phase) → IsReady m.world → IsReady (phase_of m phase).world
ready_phase m phase ready = ready_rounds_of (marked_with_issues m phase) phase.rounds (ready_issue m.world phase.issues ready)

-- how rounds go on after those of a phase, where it isn't over before its settle or by it
abbrev pub goes_on : Bool → Bool → ℕ → Marked → Marked → List Phase → RoundsEnded
goes_on unsettled over number done next phases =
    cond unsettled (record { unsettled = Some number; last = done })
    (cond over (record { unsettled = Some number; last = next }) (rounds_from (number + 1) next phases))

pub drained-or : (over drained : Bool) → over || not drained ≡ false → drained ≡ true
drained-or true drained e = cc
drained-or false true e = refl
drained-or false false e = cc

-- a world, and the phases from one on, as a run by rounds and as a run by turns
abbrev RunsPhases : List Phase → Type 0
RunsPhases phases =
    (number : ℕ) (m : Marked) → IsReady m.world → (rounds_from number m phases).unsettled ≡ None
    → run_from (advance (begin m.world phases) phases) (turns_of_phases m phases) ≡ Ok (rounds_from number m phases).last.world

settled_phase : (number : ℕ) (phase : Phase) (phases : List Phase) (later : List Turn) (done : Marked) (unsettled over : Bool) → is_over done.world || not (is_drained done.world) ≡ unsettled
    → (goes_on unsettled over number done (settle_after phase done) phases).unsettled ≡ None
    → ((rounds_from (number + 1) (settle_after phase done) phases).unsettled ≡ None
    → run_from (advance (begin (settle_after phase done).world phases) phases) later ≡ Ok (rounds_from (number + 1) (settle_after phase done) phases).last.world)
    → run_from (advance done.world (phase ∷ phases)) later ≡ Ok (goes_on unsettled over number done (settle_after phase done) phases).last.world
settled_phase number phase phases later done false false e settles others =
    rw (drained-or (is_over done.world) (is_drained done.world) e) (others settles)
settled_phase number phase phases later done false true e settles others = cc settles
settled_phase number phase phases later done true over e settles others = cc settles

runs_phases : (phases : List Phase) → RunsPhases phases
runs_phases [] number m ready settles = refl
runs_phases (phase ∷ phases) number m ready settles =
    let done = phase_of m phase in
    let next = next_phase m phase in
    rounds_run (marked_with_issues m phase) phase.rounds phase phases (turns_of_phases next phases) (ready_issue m.world phase.issues ready)
    ∙ settled_phase number phase phases (turns_of_phases next phases) done (is_over done.world || not (is_drained done.world)) (is_over next.world) refl settles
    (λ others. runs_phases phases (number + 1) next (ready_settle phase.moment (desks_asked phase.issues) phase.shows_routes done.world (ready_phase m phase ready)) others)

turns-issue : (w : WorldState) (issues : List Output) → (issue w issues).turns ≡ w.turns
unfolding issue
turns-issue w issues = refl

pub turns-settle : (moment : ℕ) (asked : List ℕ) (shows : Bool) (w : WorldState) → (settle moment asked shows w).turns ≡ w.turns
unfolding settle
turns-settle moment asked shows w = refl

abbrev SchedulesPhases : List Phase → Type 0
SchedulesPhases phases =
    (number : ℕ) (m : Marked) → IsReady m.world → (rounds_from number m phases).unsettled ≡ None
    → schedule_of (rounds_from number m phases).last.world.turns ≡ schedule_of m.world.turns ++ turns_of_phases m phases

scheduled_phase : (number : ℕ) (phase : Phase) (phases : List Phase) (later : List Turn) (done : Marked) (unsettled over : Bool)
    → (goes_on unsettled over number done (settle_after phase done) phases).unsettled ≡ None
    → ((rounds_from (number + 1) (settle_after phase done) phases).unsettled ≡ None
    → schedule_of (rounds_from (number + 1) (settle_after phase done) phases).last.world.turns ≡ schedule_of (settle_after phase done).world.turns ++ later)
    → schedule_of (goes_on unsettled over number done (settle_after phase done) phases).last.world.turns ≡ schedule_of done.world.turns ++ later
scheduled_phase number phase phases later done false false settles others =
    others settles ∙ ap (λ ts. schedule_of ts ++ later) (turns-settle phase.moment (desks_asked phase.issues) phase.shows_routes done.world)
scheduled_phase number phase phases later done false true settles others = cc settles
scheduled_phase number phase phases later done true over settles others = cc settles

schedules_phases : (phases : List Phase) → SchedulesPhases phases
schedules_phases [] number m ready settles = sym (append-nil (schedule_of m.world.turns))
schedules_phases (phase ∷ phases) number m ready settles =
    let done = phase_of m phase in
    let next = next_phase m phase in
    let later = turns_of_phases next phases in
    scheduled_phase number phase phases later done (is_over done.world || not (is_drained done.world)) (is_over next.world) settles
    (λ others. schedules_phases phases (number + 1) next (ready_settle phase.moment (desks_asked phase.issues) phase.shows_routes done.world (ready_phase m phase ready)) others)
    ∙ rounds_scheduled (marked_with_issues m phase) phase.rounds later (ready_issue m.world phase.issues ready)
    ∙ ap (λ ts. schedule_of ts ++ then_rounds phase.rounds (issue m.world phase.issues) later) (turns-issue m.world phase.issues)

pub rounds_are_a_run : RoundsAreARun
unfolding round_robin run
rounds_are_a_run lab settles =
    let m : Marked = record { world = start lab; marks = [] } in
    ap (run_from (advance (begin (start lab) (phases lab)) (phases lab))) (schedules_phases (phases lab) 1 m (ready_world_of lab.kind (roles lab)) settles)
    ∙ runs_phases (phases lab) 1 m (ready_world_of lab.kind (roles lab)) settles
