-- What each legal turn and each settle keeps is kept by a run under given turns.
use Rattle.std.proofs.Common.{◌≡◌, ℕ, ◌+◌, List, [], ◌∷◌, Some, None, Bool, true, false, cond, not, length, refl, sym}
use Rattle.or_actor.specs.declared.output.Output.{Output}
use Rattle.net_laboratory.specs.Scenario.{Laboratory}
use Rattle.net_laboratory.specs.declared.schedule.Turn.{Turn}
use Rattle.net_record.specs.declared.phase.Phase.{Phase}
use Rattle.net_record.specs.Phases.{phases}
use Rattle.net_record.specs.Answers.{desks_asked}
use Rattle.net_record.specs.World.{WorldState, start, turn, is_drained, issue, settle}
use Rattle.net_record.specs.Budget.{has_spent_turns}
use Rattle.net_record.specs.Records.{record_of}
use Rattle.net_record.specs.Run.{begin, is_legal}
use Rattle.net_record.specs.Given.{GivenEnded, Stage, is_heavy, settles_within, turn_within, given_from, run_given}
use Rattle.net_record.specs.Given.GivenFault.{BadTurn, OverBudget}
use Rattle.net_record.specs.Given.Stage.{GoesOn, Exceeds}

-- ---- records

record_issued : (w : WorldState) (issues : List Output) (marks : List ℕ) → record_of (issue w issues) marks ≡ record_of w marks
unfolding issue
record_issued w issues marks = refl

-- as a phase begins, lanes change alone
pub record_begun : (w : WorldState) (phases : List Phase) (marks : List ℕ) → record_of (begin w phases) marks ≡ record_of w marks
record_begun w [] marks = refl
record_begun w (phase ∷ phases) marks = record_issued w phase.issues marks

-- ---- what is said of a world, of the phases that aren't settled there, the first of which has begun, and of the given turns that are left

abbrev pub Claim : Type 1
Claim = WorldState → List Phase → List Turn → Type 0

-- a turn is done only where it is legal and a further one may be done, a settle only where no item waits
pub record GivenKeep (P : Claim) : Type 0 where
  pub turns : (w : WorldState) (phase : Phase) (later : List Phase) (t : Turn) (left : List Turn) → is_legal w t ≡ true → has_spent_turns w.turns ≡ false
      → P w (phase ∷ later) (t ∷ left) → P (turn w t.lane t.at) (phase ∷ later) left
  pub settles : (w : WorldState) (phase : Phase) (later : List Phase) (left : List Turn) → is_drained w ≡ true → P w (phase ∷ later) left
      → P (begin (settle phase.moment (desks_asked phase.issues) phase.shows_routes w) later) later left

-- A world has the record of one of which that is said: behind a settle by which too much was done no phase begins.
pub record HasItsRecord (P : Claim) (w : WorldState) : Type 0 where
  pub world : WorldState
  pub later : List Phase
  pub left : List Turn
  pub holds : P world later left
  pub same : (marks : List ℕ) → record_of w marks ≡ record_of world marks

pub its_own : (P : Claim) (w : WorldState) (later : List Phase) (left : List Turn) → P w later left → HasItsRecord P w
its_own P w later left h = record { world = w; later = later; left = left; holds = h; same = λ marks. refl }

pub as_begun : (P : Claim) (w : WorldState) (later : List Phase) (left : List Turn) → P (begin w later) later left → HasItsRecord P w
as_begun P w later left h = record { world = begin w later; later = later; left = left; holds = h; same = λ marks. sym (record_begun w later marks) }

-- ---- a run

abbrev IsKept : Claim → Stage → List Turn → Type 0
IsKept P (GoesOn p) left = P p.world p.unsettled left
IsKept P (Exceeds phase w) left = HasItsRecord P w

-- where every phase is settled, no given turn is left
pub record EndsKept (P : Claim) (ended : GivenEnded) : Type 0 where
  pub recorded : HasItsRecord P ended.last
  pub settled : ended.fault ≡ None → P ended.last [] []

module _ (P : Claim) (keep : GivenKeep P) where
  settles_kept : (w : WorldState) (phases : List Phase) (left : List Turn) → P w phases left → IsKept P (settles_within w phases) left
  settles_kept w [] left h = h
  settles_kept w (phase ∷ later) left h = by_tests (is_drained w) (is_heavy next) refl (settles_kept (begin next later) later left) where
    next : WorldState
    next = settle phase.moment (desks_asked phase.issues) phase.shows_routes w

    by_tests : (drained heavy : Bool) → is_drained w ≡ drained → (P (begin next later) later left → IsKept P (settles_within (begin next later) later) left)
        → IsKept P
        (cond (not drained) (GoesOn (record { world = w; unsettled = phase ∷ later })) (cond heavy (Exceeds (length next.settles) next) (settles_within (begin next later) later)))
        left
    by_tests false heavy e others = h
    by_tests true true e others = as_begun P next later left (keep.settles w phase later left e h)
    by_tests true false e others = others (keep.settles w phase later left e h)

  turn_kept : (w : WorldState) (phase : Phase) (later : List Phase) (t : Turn) (left : List Turn) → P (turn w t.lane t.at) (phase ∷ later) left
      → IsKept P (turn_within (record { world = w; unsettled = phase ∷ later }) t) left
  turn_kept w phase later t left h = by_test (is_heavy next) where
    next : WorldState
    next = turn w t.lane t.at

    by_test : (heavy : Bool) → IsKept P (cond heavy (Exceeds (length next.settles + 1) next) (settles_within next (phase ∷ later))) left
    by_test true = its_own P next (phase ∷ later) left h
    by_test false = settles_kept next (phase ∷ later) left h

  at_end : (w : WorldState) (phases : List Phase) → P w phases [] → EndsKept P (given_from (GoesOn (record { world = w; unsettled = phases })) [])
  at_end w [] h = record { recorded = its_own P w [] [] h; settled = λ e. h }
  at_end w (phase ∷ later) h = record { recorded = its_own P w (phase ∷ later) [] h; settled = λ e. absurd (cc e) }

  next_kept : (w : WorldState) (phases : List Phase) (t : Turn) (left : List Turn) → P w phases (t ∷ left)
      → (IsKept P (turn_within (record { world = w; unsettled = phases }) t) left → EndsKept P (given_from (turn_within (record { world = w; unsettled = phases }) t) left))
      → EndsKept P (given_from (GoesOn (record { world = w; unsettled = phases })) (t ∷ left))
  next_kept w [] t left h others = record { recorded = its_own P w [] (t ∷ left) h; settled = λ e. absurd (cc e) }
  next_kept w (phase ∷ later) t left h others = by_tests (is_legal w t) (has_spent_turns w.turns) refl refl where
    by_tests : (may spent : Bool) → is_legal w t ≡ may → has_spent_turns w.turns ≡ spent
        → EndsKept P
        (cond (not may) (record { fault = Some (BadTurn (length w.turns)); last = w })
        (cond spent (record { fault = Some (OverBudget (length w.settles + 1)); last = w }) (given_from (turn_within (record { world = w; unsettled = phase ∷ later }) t) left)))
    by_tests false spent m k = record { recorded = its_own P w (phase ∷ later) (t ∷ left) h; settled = λ e. absurd (cc e) }
    by_tests true true m k = record { recorded = its_own P w (phase ∷ later) (t ∷ left) h; settled = λ e. absurd (cc e) }
    by_tests true false m k = others (turn_kept w phase later t left (keep.turns w phase later t left m k h))

  given_kept : (s : Stage) (left : List Turn) → IsKept P s left → EndsKept P (given_from s left)
  given_kept (Exceeds phase w) left h = record { recorded = h; settled = λ e. absurd (cc e) }
  given_kept (GoesOn p) [] h = at_end p.world p.unsettled h
  given_kept (GoesOn p) (t ∷ left) h = next_kept p.world p.unsettled t left h (given_kept (turn_within p t) left)

  pub keep_run_given : (lab : Laboratory) (turns : List Turn) → P (begin (start lab) (phases lab)) (phases lab) turns → EndsKept P (run_given lab turns)
  unfolding run_given
  keep_run_given lab turns h =
      let w = begin (start lab) (phases lab) in
      given_kept (settles_within w (phases lab)) turns (settles_kept w (phases lab) turns h)
