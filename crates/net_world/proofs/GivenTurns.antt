-- One step of a run under given turns: a settle that is due, a turn, and what each comes to.
use Rattle.std.proofs.Common.{◌≡◌, ℕ, ◌+◌, List, [], ◌∷◌, Some, None, Bool, true, false, ◌&&◌, not, nat_le, ◌<◌, ◌≤◌, length, get_or, drop, refl, sym, ap, ◌∙◌, arith, drop_of_length-le}
use Rattle.std.proofs.lemmas.Bool.{lt-leb}
use Rattle.std.proofs.lemmas.List.{at_drop_more}
use Rattle.net_laboratory.specs.declared.schedule.Turn.{Turn}
use Rattle.net_record.specs.declared.phase.Phase.{Phase}
use Rattle.net_record.specs.declared.record.Record.{Record}
use Rattle.net_record.specs.World.{WorldState, range, waiting, is_empty, is_drained, turn}
use Rattle.net_record.specs.Budget.{has_spent_turns}
use Rattle.net_record.specs.Records.{record_of}
use Rattle.net_record.specs.Rounds.{longest}
use Rattle.net_record.specs.Run.{Progress, begin, is_open, is_legal}
use Rattle.net_record.specs.Given.{GivenEnded, Stage, is_heavy, settles_within, turn_within, given_from}
use Rattle.net_record.specs.Given.GivenFault.{BadTurn, OverBudget}
use Rattle.net_record.specs.Given.Stage.{GoesOn, Exceeds}
use Rattle.net_world.specs.declared.given.TurnFault.{TurnFault}
use Rattle.net_world.specs.declared.given.TurnFault.TheVariants.{Bad, Over}
use Rattle.net_world.specs.Replaying.{is_due, settled_first, begun, ended, IsAfterTurn, missing}
use Rattle.net_world.specs.Given.{IsGivenRecord}

-- ---- the settles that are due

-- none is
settles_none : (w : WorldState) (phases : List Phase) → is_open phases && is_drained w ≡ false → GoesOn (record { world = w; unsettled = phases }) ≡ settles_within w phases
settles_none w [] h = refl
settles_none w (phase ∷ phases) h = rw h refl

pub settles_end : (p : Progress) → is_due p ≡ false → GoesOn p ≡ settles_within p.world p.unsettled
settles_end p h = settles_none p.world p.unsettled h

-- too much is done by one
settles_heavy : (w : WorldState) (phases : List Phase) → is_open phases && is_drained w ≡ true → is_heavy (settled_first w phases).world ≡ true
    → Exceeds (length (settled_first w phases).world.settles) (settled_first w phases).world ≡ settles_within w phases
settles_heavy w [] h heavy = cc h
settles_heavy w (phase ∷ phases) h heavy = rw (h, heavy) refl

pub settles_over : (p after : Progress) (count : ℕ) → is_due p ≡ true → after ≡ settled_first p.world p.unsettled → is_heavy after.world ≡ true → count ≡ length after.world.settles
    → Exceeds count after.world ≡ settles_within p.world p.unsettled
settles_over p after count h e heavy n =
    rw (n, e) (settles_heavy p.world p.unsettled h (ap (λ (q : Progress). is_heavy q.world) (sym e) ∙ heavy))

-- the run goes on after one
settles_light : (w : WorldState) (phases : List Phase) → is_open phases && is_drained w ≡ true → is_heavy (settled_first w phases).world ≡ false
    → settles_within (begin (settled_first w phases).world (settled_first w phases).unsettled) (settled_first w phases).unsettled ≡ settles_within w phases
settles_light w [] h light = refl
settles_light w (phase ∷ phases) h light = rw (h, light) refl

pub settles_step : (p after next : Progress) → is_due p ≡ true → after ≡ settled_first p.world p.unsettled → is_heavy after.world ≡ false → next ≡ begun after
    → settles_within next.world next.unsettled ≡ settles_within p.world p.unsettled
settles_step p after next h e light b =
    rw (b, e) (settles_light p.world p.unsettled h (ap (λ (q : Progress). is_heavy q.world) (sym e) ∙ light))

pub ruleset settles_steps = (settles_end, settles_over, settles_step)

-- ---- a turn

-- too much is done by it
pub turn_heavy : (p : Progress) (t : Turn) (next : WorldState) (count : ℕ) → next ≡ turn p.world t.lane t.at → is_heavy next ≡ true → count ≡ length next.settles
    → Exceeds (count + 1) next ≡ turn_within p t
turn_heavy p t next count e heavy n = rw (n, ← e, heavy) refl

-- the settles that are due after it
pub turn_light : (p : Progress) (t : Turn) (next : WorldState) (stage : Stage) → next ≡ turn p.world t.lane t.at → is_heavy next ≡ false → stage ≡ settles_within next p.unsettled
    → stage ≡ turn_within p t
turn_light p t next stage e light settled = rw (settled, ← e, light) refl

pub ruleset turn_steps = (turn_heavy, turn_light)

-- ---- a turn that isn't legal

-- a turn finds no more than the greatest length
pub too_long : (w : WorldState) (t : Turn) (most : ℕ) → most ≡ longest w t.lane → most < t.at → false ≡ is_legal w t
too_long w t most is over =
    rw (lt-leb t.at (longest w t.lane) (omega (arith, is, over))) (sym (second (not (is_empty (waiting w t.lane))) (nat_le (range w t.lane).least t.at))) where
      second : (waits above : Bool) → waits && (above && false) ≡ false
      second false above = refl
      second true false = refl
      second true true = refl

pub ruleset legal = (too_long)

-- ---- the next of the given turns

-- it may not come
pub turn_bad : (p : Progress) (t : Turn) (count : ℕ) → is_open p.unsettled && is_legal p.world t ≡ false → count ≡ length p.world.turns → IsAfterTurn p t (Some (Bad count)) p
turn_bad p t count h n = record { later = λ turns. rw (h, n) refl }

-- no further turn may be done
pub turn_spent : (p : Progress) (t : Turn) (count : ℕ) → is_open p.unsettled && is_legal p.world t ≡ true → has_spent_turns p.world.turns ≡ true → count ≡ length p.world.settles
    → IsAfterTurn p t (Some (Over (count + 1))) p
turn_spent p t count h spent n = record { later = λ turns. rw (h, spent, n) refl }

-- it is done
turn_done : (p : Progress) (t : Turn) (stage : Stage) (turns : List Turn) → is_open p.unsettled && is_legal p.world t ≡ true → has_spent_turns p.world.turns ≡ false → stage ≡ turn_within p t
    → given_from stage turns ≡ given_from (GoesOn p) (t ∷ turns)
turn_done p t stage turns h spent e = rw (e, h, spent) refl

-- the budget is exceeded by it
pub turn_exceeds : (p after : Progress) (t : Turn) (phase : ℕ) → is_open p.unsettled && is_legal p.world t ≡ true → has_spent_turns p.world.turns ≡ false → Exceeds phase after.world ≡ turn_within p t
    → IsAfterTurn p t (Some (Over phase)) after
turn_exceeds p after t phase h spent e = record { later = λ turns. turn_done p t (Exceeds phase after.world) turns h spent e }

-- the run goes on after it
pub turn_goes_on : (p after : Progress) (t : Turn) → is_open p.unsettled && is_legal p.world t ≡ true → has_spent_turns p.world.turns ≡ false → GoesOn after ≡ turn_within p t
    → IsAfterTurn p t None after
turn_goes_on p after t h spent e = record { later = λ turns. turn_done p t (GoesOn after) turns h spent e }

pub ruleset given_steps = (turn_bad, turn_spent, turn_exceeds, turn_goes_on)

-- ---- all of them

-- one of the turns
pub turns_step : (p after : Progress) (t : Turn) (turns : List Turn) (i : ℕ) (all : GivenEnded) → i < length turns → t ≡ get_or turns i t → IsAfterTurn p t None after
    → given_from (GoesOn p) (drop i turns) ≡ all → given_from (GoesOn after) (drop (i + 1) turns) ≡ all
turns_step p after t turns i all within is step so_far =
    step.later (drop (i + 1) turns) ∙ ap (λ next. given_from (GoesOn p) (next ∷ drop (i + 1) turns)) is ∙ sym (at_drop_more (given_from (GoesOn p)) turns i t within) ∙ so_far

-- the last
pub turns_stop : (p after : Progress) (t : Turn) (turns : List Turn) (i : ℕ) (fault : TurnFault) (all : GivenEnded) → i < length turns → t ≡ get_or turns i t → IsAfterTurn p t (Some fault) after
    → given_from (GoesOn p) (drop i turns) ≡ all → ended (Some fault) after ≡ all
turns_stop p after t turns i fault all within is step so_far =
    step.later (drop (i + 1) turns) ∙ ap (λ next. given_from (GoesOn p) (next ∷ drop (i + 1) turns)) is ∙ sym (at_drop_more (given_from (GoesOn p)) turns i t within) ∙ so_far

-- none is left
none_left : (w : WorldState) (phases : List Phase) (count : ℕ) → count ≡ length w.turns
    → ended (missing phases count) (record { world = w; unsettled = phases }) ≡ given_from (GoesOn (record { world = w; unsettled = phases })) []
none_left w [] count n = refl
none_left w (phase ∷ phases) count n = rw n refl

pub turns_end : (p : Progress) (turns : List Turn) (i : ℕ) (all : GivenEnded) → length turns ≤ i → given_from (GoesOn p) (drop i turns) ≡ all
    → ended (missing p.unsettled (length p.world.turns)) p ≡ all
turns_end p turns i all past so_far =
    none_left p.world p.unsettled (length p.world.turns) refl ∙ ap (given_from (GoesOn p)) (sym (drop_of_length-le turns past)) ∙ so_far

pub ruleset run_steps = (turns_step, turns_stop, turns_end)

-- ---- the whole run

-- the budget is exceeded before the first turn
pub start_over : (after : Progress) (phase : ℕ) (stage : Stage) (turns : List Turn) → Exceeds phase after.world ≡ stage → ended (Some (Over phase)) after ≡ given_from stage turns
start_over after phase stage turns e = ap (λ s. given_from s turns) e

pub start_on : (after : Progress) (stage : Stage) (turns : List Turn) (end : GivenEnded) → GoesOn after ≡ stage → end ≡ given_from (GoesOn after) turns → end ≡ given_from stage turns
start_on after stage turns end e is = is ∙ ap (λ s. given_from s turns) e

pub ruleset start_steps = (start_over, start_on)

-- every phase is settled
pub replay_settled : (p : Progress) (end : GivenEnded) (done : Record) → ended None p ≡ end → done ≡ record_of p.world [] → IsGivenRecord end done
replay_settled p end done e is = record { settled = ap (λ (g : GivenEnded). g.fault) (sym e); all = is ∙ ap (λ (g : GivenEnded). record_of g.last []) e }

pub replay_bad : (p : Progress) (end : GivenEnded) (index : ℕ) → ended (Some (Bad index)) p ≡ end → end.fault ≡ Some (BadTurn index)
replay_bad p end index e = ap (λ (g : GivenEnded). g.fault) (sym e)

pub replay_over : (p : Progress) (end : GivenEnded) (phase : ℕ) → ended (Some (Over phase)) p ≡ end → end.fault ≡ Some (OverBudget phase)
replay_over p end phase e = ap (λ (g : GivenEnded). g.fault) (sym e)

pub ruleset replayed = (replay_settled, replay_bad, replay_over)
