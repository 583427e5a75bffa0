-- A run does no more turns than the budget allows.
use Rattle.std.proofs.Common.{◌≡◌, ℕ, ◌<◌, ◌≤◌, List, [], ◌∷◌, Option, Some, None, Bool, true, false, ◌||◌, not, length, refl, ap, arith}
use Rattle.std.specs.Prelude.{◌&&◌, slice_get}
use Rattle.std.proofs.lemmas.Bool.{leb-false}
use Rattle.std.proofs.lemmas.List.{length_push}
use Rattle.or_base.specs.declared.item.Stamped.{Stamped}
use Rattle.or_actor.specs.declared.output.Output.{Output}
use Rattle.or_actor.specs.Steps.{TurnMade, turn_done}
use Rattle.net_laboratory.specs.Limits.{most_turns}
use Rattle.net_laboratory.specs.Scenario.{Laboratory}
use Rattle.net_record.specs.declared.actor.ActorState.{ActorState}
use Rattle.net_record.specs.Actors.{made_by}
use Rattle.net_record.specs.World.{WorldState, waiting, turn, turn_of, turn_by, reader_of, is_drained, issue, settle}
use Rattle.net_record.specs.Budget.{is_too_heavy, has_spent_turns, is_over}
use Rattle.net_record.specs.Rounds.{longest, round_robin}
use Rattle.net_record.proofs.RoundTurns.{not_drained}
use Rattle.net_record.proofs.Kept.{keep_round_robin}

-- no more turns than the budget allows
abbrev pub HasFewTurns : WorldState → Type 0
HasFewTurns w = length w.turns ≤ most_turns

few_after : (w : WorldState) (reader : ℕ) (others : List Stamped) (actor : ActorState) (m : TurnMade) → length w.turns < most_turns → HasFewTurns (turn_of w reader others actor m)
unfolding turn_of
few_after w reader others actor m more = omega (arith, length_push w.turns (turn_done m), more)

may_turn : (heavy spent drained : Bool) → (heavy || (spent && not drained)) ≡ false → drained ≡ false → spent ≡ false
may_turn true spent drained over waits = cc
may_turn false true true over waits = cc
may_turn false true false over waits = cc
may_turn false false drained over waits = refl

pub less_turns : (w : WorldState) → is_over w ≡ false → is_drained w ≡ false → length w.turns < most_turns
unfolding is_over
less_turns w over waits =
    leb-false most_turns (length w.turns) (may_turn (is_too_heavy w.turns w.settles) (has_spent_turns w.turns) (is_drained w) over waits)

few_by : (w : WorldState) (lane at reader : ℕ) (items : List Stamped) (actor : Option ActorState) → waiting w lane ≡ items → (is_drained w ≡ false → length w.turns < most_turns)
    → HasFewTurns w → HasFewTurns (turn_by w lane at reader items actor)
few_by w lane at reader [] actor waits less h = h
few_by w lane at reader (s ∷ others) None waits less h = h
few_by w lane at reader (s ∷ others) (Some actor) waits less h =
    let one : 1 ≤ length (waiting w lane) = omega (arith, ap length waits) in
    few_after w reader others actor (made_by w.actors actor lane at s) (less (not_drained w lane (1 ∷ []) (one, tt) refl))

-- a turn that is done only where an item waits and a further one may be done
pub few_turn : (w : WorldState) (lane at : ℕ) → (is_drained w ≡ false → length w.turns < most_turns) → HasFewTurns w → HasFewTurns (turn w lane at)
unfolding turn
few_turn w lane at less h =
    let reader = reader_of (slice_get w.wires lane) in
    few_by w lane at reader (waiting w lane) (slice_get w.actors reader) refl less h

pub few_issue : (w : WorldState) (issues : List Output) → HasFewTurns w → HasFewTurns (issue w issues)
unfolding issue
few_issue w issues h = h

pub few_settle : (moment : ℕ) (asked : List ℕ) (shows : Bool) (w : WorldState) → HasFewTurns w → HasFewTurns (settle moment asked shows w)
unfolding settle
few_settle moment asked shows w h = h

pub few_robin : (lab : Laboratory) → HasFewTurns (round_robin lab).last.world
few_robin lab =
    keep_round_robin HasFewTurns (record {
      turns = λ w lane over h. few_turn w lane (longest w lane) (less_turns w over) h;
      issues = few_issue;
      settles = λ moment asked shows w drained h. few_settle moment asked shows w h;
    }) lab (omega arith)
