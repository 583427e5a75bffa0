-- After the last settle no item waits, and each phase has its settle.
use Rattle.std.proofs.Common.{◌≡◌, ℕ, zero, suc, ◌+◌, List, [], ◌∷◌, Bool, true, false, ◌||◌, not, Option, Some, None, length, refl, ◌∙◌, ap, arith}
use Rattle.std.specs.Prelude.{replicate, slice_get}
use Rattle.std.specs.List.{list_all}
use Rattle.std.proofs.lemmas.List.{length_push}
use Rattle.or_base.specs.declared.item.Stamped.{Stamped}
use Rattle.or_actor.specs.declared.output.Output.{Output}
use Rattle.net_record.specs.declared.phase.Phase.{Phase}
use Rattle.net_record.specs.declared.actor.ActorState.{ActorState}
use Rattle.net_record.specs.declared.record.SettleDone.{SettleDone}
use Rattle.net_record.specs.Roles.{roles}
use Rattle.net_record.specs.Wires.{wires}
use Rattle.net_record.specs.Phases.{phases}
use Rattle.or_actor.specs.Steps.{TurnMade}
use Rattle.net_record.specs.Actors.{made_by}
use Rattle.net_record.specs.Answers.{desks_asked, giving_of}
use Rattle.net_record.specs.World.{WorldState, waiting, turn, turn_of, turn_by, reader_of, is_empty, is_drained, issue, settle, settle_done, start}
use Rattle.net_record.specs.Budget.{is_over}
use Rattle.net_record.specs.Rounds.{Marked, longest, rounds_of, phase_of, settle_after, round_robin}
use Rattle.net_record.proofs.Counted.{rounds_from}
use Rattle.net_record.proofs.RoundRuns.{goes_on, drained-or}
use Rattle.net_record.proofs.Kept.{TurnsKeep, keep_rounds_of}
use Rattle.net_record.specs.Ends.{SettledRoundsEndDrained}

settles-turn_of : (w : WorldState) (reader : ℕ) (others : List Stamped) (actor : ActorState) (m : TurnMade) → (turn_of w reader others actor m).settles ≡ w.settles
unfolding turn_of
settles-turn_of w reader others actor m = refl

settles-turn_by : (w : WorldState) (lane at reader : ℕ) (items : List Stamped) (actor : Option ActorState) → (turn_by w lane at reader items actor).settles ≡ w.settles
settles-turn_by w lane at reader [] actor = refl
settles-turn_by w lane at reader (s ∷ others) None = refl
settles-turn_by w lane at reader (s ∷ others) (Some actor) = settles-turn_of w reader others actor (made_by w.actors actor lane at s)

pub settles-turn : (w : WorldState) (lane at : ℕ) → (turn w lane at).settles ≡ w.settles
unfolding turn
settles-turn w lane at =
    let reader = reader_of (slice_get w.wires lane) in
    settles-turn_by w lane at reader (waiting w lane) (slice_get w.actors reader)

-- these settles are done
abbrev HasSettled : List SettleDone → WorldState → Type 0
HasSettled settles w = w.settles ≡ settles

turns_settle_nothing : (settles : List SettleDone) → TurnsKeep (HasSettled settles)
turns_settle_nothing settles w lane within e = settles-turn w lane (longest w lane) ∙ e

pub settles-rounds_of : (m : Marked) (count : ℕ) → (rounds_of m count).world.settles ≡ m.world.settles
settles-rounds_of m count = keep_rounds_of (HasSettled m.world.settles) (turns_settle_nothing m.world.settles) m count refl

pub settles-issue : (w : WorldState) (issues : List Output) → (issue w issues).settles ≡ w.settles
unfolding issue
settles-issue w issues = refl

pub settles-settle : (moment : ℕ) (asked : List ℕ) (shows : Bool) (w : WorldState) → length (settle moment asked shows w).settles ≡ length w.settles + 1
unfolding settle
settles-settle moment asked shows w = length_push w.settles (settle_done moment (length w.turns) w.actors shows (giving_of w.actors asked).answers)

pub drained-settle : (moment : ℕ) (asked : List ℕ) (shows : Bool) (w : WorldState) → is_drained (settle moment asked shows w) ≡ is_drained w
unfolding settle
drained-settle moment asked shows w = refl

-- a phase that settles leaves the world drained, with one settle more
abbrev Ends : List Phase → Type 0
Ends phases =
    (number : ℕ) (m : Marked) → is_drained m.world ≡ true → (rounds_from number m phases).unsettled ≡ None
    → (is_drained (rounds_from number m phases).last.world ≡ true) × (length (rounds_from number m phases).last.world.settles ≡ length m.world.settles + length phases)

ends_phase : (phases : List Phase) → Ends phases → (number : ℕ) (before : ℕ) (phase : Phase) (done : Marked) (unsettled over : Bool) → is_over done.world || not (is_drained done.world) ≡ unsettled
    → length done.world.settles ≡ before → (goes_on unsettled over number done (settle_after phase done) phases).unsettled ≡ None
    → (is_drained (goes_on unsettled over number done (settle_after phase done) phases).last.world ≡ true)
    × (length (goes_on unsettled over number done (settle_after phase done) phases).last.world.settles ≡ before + suc (length phases))
ends_phase phases others number before phase done false false e same settles =
    let drained = drained-or (is_over done.world) (is_drained done.world) e in
    let end = others (number + 1) (settle_after phase done) (drained-settle phase.moment (desks_asked phase.issues) phase.shows_routes done.world ∙ drained) settles in
    (end.0, omega (arith, end.1, settles-settle phase.moment (desks_asked phase.issues) phase.shows_routes done.world, same))
ends_phase phases others number before phase done false true e same settles = cc settles
ends_phase phases others number before phase done true over e same settles = cc settles

ends : (phases : List Phase) → Ends phases
ends [] number m drained settles = (drained, omega arith)
ends (phase ∷ phases) number m drained settles =
    let done = phase_of m phase in
    ends_phase phases (ends phases) number (length m.world.settles) phase done (is_over done.world || not (is_drained done.world)) (is_over (settle_after phase done).world) refl
    (ap length (settles-rounds_of (record { world = issue m.world phase.issues; marks = m.marks }) phase.rounds ∙ settles-issue m.world phase.issues)) settles

pub none_wait : (n : ℕ) → list_all is_empty (replicate n []) ≡ true
none_wait zero = refl
none_wait (suc n) = none_wait n

pub settled_rounds_end_drained : SettledRoundsEndDrained
unfolding round_robin
settled_rounds_end_drained lab settles =
    let end = ends (phases lab) 1 (record { world = start lab; marks = [] }) (none_wait (length (wires (roles lab)))) settles in
    record { drained = end.0; settles = omega (arith, end.1) }
