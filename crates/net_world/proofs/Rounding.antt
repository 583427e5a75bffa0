-- One step of the turns of a lane, of the rounds of a phase, and of the phases.
use Rattle.std.proofs.Common.{◌≡◌, ℕ, suc, ◌+◌, ◌-◌, ◌<◌, List, ◌∷◌, Bool, true, false, cond, ◌&&◌, ◌||◌, not, Some, refl, arith}
use Rattle.net_record.specs.declared.phase.Phase.{Phase}
use Rattle.net_record.specs.World.{WorldState, turn, is_drained}
use Rattle.net_record.specs.Budget.{is_over}
use Rattle.net_record.specs.Rounds.{Marked, RoundsEnded, longest, turns_on, rounds_of, after_round, phase_of, settle_after}
use Rattle.net_record.proofs.Counted.{rounds_from}
use Rattle.net_world.specs.Settling.{after_phase, settles_phase}

-- one of so many turns
pub turns_step : (w : WorldState) (lane count done : ℕ) → done < count → is_over w ≡ false → turns_on (turn w lane (longest w lane)) lane (count - (done + 1)) ≡ turns_on w lane (count - done)
turns_step w lane count done h within = let e : count - done ≡ suc (count - (done + 1)) = omega arith in rw (e, within) refl

-- no turn more, since the budget is exceeded
pub turns_stop : (w : WorldState) (lane count done : ℕ) → done < count → is_over w ≡ true → w ≡ turns_on w lane (count - done)
turns_stop w lane count done h over = let e : count - done ≡ suc (count - (done + 1)) = omega arith in rw (e, over) refl

pub ruleset turns_steps = (turns_step, turns_stop)

-- one of so many rounds
pub rounds_step : (m : Marked) (count done : ℕ) → done < count → is_drained m.world || is_over m.world ≡ false
    → rounds_of (after_round m) (count - (done + 1)) ≡ rounds_of m (count - done)
rounds_step m count done h goes_on = let e : count - done ≡ suc (count - (done + 1)) = omega arith in rw (e, goes_on) refl

-- no round more
pub rounds_stop : (m : Marked) (count done : ℕ) → done < count → is_drained m.world || is_over m.world ≡ true → m ≡ rounds_of m (count - done)
rounds_stop m count done h stops = let e : count - done ≡ suc (count - (done + 1)) = omega arith in rw (e, stops) refl

pub ruleset rounds_steps = (rounds_step, rounds_stop)

-- the run goes on after a phase
goes_on : (unsettled over : Bool) (ended after_all : RoundsEnded) (last : RoundsEnded) → not unsettled && not over ≡ true
    → cond unsettled ended (cond over after_all last) ≡ last
goes_on true over ended after_all last h = cc h
goes_on false true ended after_all last h = cc h
goes_on false false ended after_all last h = refl

-- it doesn't
stops : (unsettled over : Bool) (number : ℕ) (done next : Marked) (last : RoundsEnded) → not unsettled && not over ≡ false
    → record { unsettled = Some number; last = cond unsettled done next }
    ≡ cond unsettled (record { unsettled = Some number; last = done }) (cond over (record { unsettled = Some number; last = next }) last)
stops true over number done next last h = refl
stops false true number done next last h = refl
stops false false number done next last h = cc h

after_settled : (unsettled over : Bool) (done next : Marked) → not unsettled && not over ≡ true → cond unsettled done next ≡ next
after_settled true over done next h = cc h
after_settled false over done next h = refl

-- one of the phases, which is settled
pub phases_step : (number : ℕ) (m after : Marked) (phase : Phase) (phases left : List Phase)
    → left ≡ phase ∷ phases → after ≡ after_phase phase (phase_of m phase) → settles_phase phase (phase_of m phase) ≡ true
    → rounds_from (number + 1) after phases ≡ rounds_from number m left
phases_step number m after phase phases left e ran settled =
    let done = phase_of m phase in
    let next = settle_after phase done in
    let unsettled = is_over done.world || not (is_drained done.world) in
    rw (
      e,
      ran,
      after_settled unsettled (is_over next.world) done next settled,
      goes_on unsettled (is_over next.world) (record { unsettled = Some number; last = done }) (record { unsettled = Some number; last = next }) (rounds_from (number + 1) next phases) settled,
    ) refl

-- one of the phases, which is unsettled
pub phases_stop : (number : ℕ) (m after : Marked) (phase : Phase) (phases left : List Phase)
    → left ≡ phase ∷ phases → after ≡ after_phase phase (phase_of m phase) → settles_phase phase (phase_of m phase) ≡ false
    → record { unsettled = Some number; last = after } ≡ rounds_from number m left
phases_stop number m after phase phases left e ran unsettles =
    let done = phase_of m phase in
    let next = settle_after phase done in
    rw (e, ran) (stops (is_over done.world || not (is_drained done.world)) (is_over next.world) number done next (rounds_from (number + 1) next phases) unsettles)

pub ruleset phases_steps = (phases_step, phases_stop)
