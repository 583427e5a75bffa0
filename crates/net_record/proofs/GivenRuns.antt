-- A run under given turns is the run of the same turns without a budget, where the budget isn't exceeded.
use Rattle.std.proofs.Common.{◌≡◌, ℕ, ◌+◌, List, [], ◌∷◌, Some, None, Result, Ok, Err, Bool, true, false, cond, not, ◌&&◌, length, refl, ap, subst}
use Rattle.net_laboratory.specs.declared.schedule.Turn.{Turn}
use Rattle.net_record.specs.declared.phase.Phase.{Phase}
use Rattle.net_record.specs.Phases.{phases}
use Rattle.net_record.specs.Answers.{desks_asked}
use Rattle.net_record.specs.World.{WorldState, start, turn, is_drained, settle}
use Rattle.net_record.specs.Budget.{has_spent_turns}
use Rattle.net_record.specs.Run.{Progress, begin, advance, is_legal, is_open, run_from, run}
use Rattle.net_record.specs.Given.{Stage, is_heavy, settles_within, turn_within, given_from, run_given, IsWithoutBudget, GivenIsARun}
use Rattle.net_record.specs.Given.GivenFault.{BadTurn, OverBudget}
use Rattle.net_record.specs.Given.Stage.{GoesOn, Exceeds}

-- the run goes on from this
abbrev IsStage : Stage → Progress → Type 0
IsStage (GoesOn p) q = p ≡ q
IsStage (Exceeds phase w) q = Unit {0}

settles_advance : (w : WorldState) (phases : List Phase) → IsStage (settles_within w phases) (advance w phases)
settles_advance w [] = refl
settles_advance w (phase ∷ phases) = by_tests (is_drained w) (is_heavy next) (settles_advance (begin next phases) phases) where
  next : WorldState
  next = settle phase.moment (desks_asked phase.issues) phase.shows_routes w

  by_tests : (drained heavy : Bool) → IsStage (settles_within (begin next phases) phases) (advance (begin next phases) phases)
      → IsStage
      (cond (not drained) (GoesOn (record { world = w; unsettled = phase ∷ phases })) (cond heavy (Exceeds (length next.settles) next) (settles_within (begin next phases) phases)))
      (cond drained (advance (begin next phases) phases) (record { world = w; unsettled = phase ∷ phases }))
  by_tests false heavy others = refl
  by_tests true true others = tt
  by_tests true false others = others

turn_advance : (p : Progress) (t : Turn) → IsStage (turn_within p t) (advance (turn p.world t.lane t.at) p.unsettled)
turn_advance p t = by_test (is_heavy next) (settles_advance next p.unsettled) where
  next : WorldState
  next = turn p.world t.lane t.at

  by_test : (heavy : Bool) → IsStage (settles_within next p.unsettled) (advance next p.unsettled)
      → IsStage (cond heavy (Exceeds (length next.settles + 1) next) (settles_within next p.unsettled)) (advance next p.unsettled)
  by_test true others = tt
  by_test false others = others

over_budget : (w last : WorldState) (phase : ℕ) (r : Result WorldState ℕ) → IsWithoutBudget (record { fault = Some (OverBudget phase); last = w }) r
over_budget w last phase r = (λ e. absurd (cc e), λ index e. absurd (cc e))

given_runs : (s : Stage) (p : Progress) (ts : List Turn) → IsStage s p → IsWithoutBudget (given_from s ts) (run_from p ts)
given_runs (Exceeds phase w) p ts h = over_budget w w phase (run_from p ts)
given_runs (GoesOn q) p [] h = subst (λ r. IsWithoutBudget (given_from (GoesOn q) []) (run_from r [])) h (at_end (is_open q.unsettled)) where
  at_end : (waits : Bool)
      → IsWithoutBudget (record { fault = cond waits (Some (BadTurn (length q.world.turns))) None; last = q.world }) (cond waits (Err (length q.world.turns)) (Ok q.world))
  at_end true = (λ e. absurd (cc e), λ index e. ap Err (cc e))
  at_end false = (λ e. refl, λ index e. absurd (cc e))
given_runs (GoesOn q) p (t ∷ ts) h =
    subst (λ r. IsWithoutBudget (given_from (GoesOn q) (t ∷ ts)) (run_from r (t ∷ ts))) h
    (by_tests (is_open q.unsettled && is_legal q.world t) (has_spent_turns q.world.turns) (given_runs (turn_within q t) (advance (turn q.world t.lane t.at) q.unsettled) ts (turn_advance q t))) where
      next : Progress
      next = advance (turn q.world t.lane t.at) q.unsettled

      by_tests : (may spent : Bool) → IsWithoutBudget (given_from (turn_within q t) ts) (run_from next ts)
          → IsWithoutBudget
          (cond (not may) (record { fault = Some (BadTurn (length q.world.turns)); last = q.world })
          (cond spent (record { fault = Some (OverBudget (length q.world.settles + 1)); last = q.world }) (given_from (turn_within q t) ts)))
          (cond may (run_from next ts) (Err (length q.world.turns)))
      by_tests false spent others = (λ e. absurd (cc e), λ index e. ap Err (cc e))
      by_tests true true others = (λ e. absurd (cc e), λ index e. absurd (cc e))
      by_tests true false others = others

pub given_is_a_run : GivenIsARun
unfolding run_given run
given_is_a_run lab turns =
    let w = begin (start lab) (phases lab) in
    given_runs (settles_within w (phases lab)) (advance w (phases lab)) turns (settles_advance w (phases lab))
