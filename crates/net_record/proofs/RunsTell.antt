-- What the record of a run tells is what was there, under any legal schedule.
use Rattle.std.proofs.Common.{◌≡◌, ◌≤◌, ℕ, List, [], ◌∷◌, ◌++◌, ◌⊎◌, inl, inr, Option, Some, None, true, length, take, refl, sym, ap, ◌∙◌, subst, append_assoc, take_at, Bool}
use Rattle.std.specs.Prelude.{slice_get}
use Rattle.std.proofs.lemmas.List.{append-nil}
use Rattle.or_base.specs.TurnDone.{TurnDone}
use Rattle.or_base.specs.declared.item.Stamped.{Stamped}
use Rattle.or_actor.specs.declared.output.Output.{Output}
use Rattle.or_actor.specs.Steps.{TurnMade, turn_done}
use Rattle.net_laboratory.specs.Limits.{most_turns}
use Rattle.net_laboratory.specs.Scenario.{Laboratory}
use Rattle.net_record.specs.declared.actor.ActorState.{ActorState}
use Rattle.net_record.specs.declared.phase.Phase.{Phase}
use Rattle.net_record.specs.declared.record.Record.{Record}
use Rattle.net_record.specs.declared.record.SettleDone.{SettleDone}
use Rattle.net_record.specs.Phases.{phases}
use Rattle.net_record.specs.Actors.{made_by}
use Rattle.net_record.specs.Answers.{desks_asked, giving_of}
use Rattle.net_record.specs.Records.{journals_of, record_of}
use Rattle.net_record.specs.World.{WorldState, start, turn, turn_of, turn_by, reader_of, waiting, is_drained, issue, settle, settle_done}
use Rattle.net_record.specs.Fronts.{fronts}
use Rattle.net_record.specs.Run.{begin}
use Rattle.net_record.specs.Reached.{IsReached}
use Rattle.net_record.specs.Reached.IsReached.{starts, turns, settles}
use Rattle.net_record.specs.Tells.{IsToldAtSettle, RecordTells, RunsTell}
use Rattle.net_record.proofs.Drained.{settles-turn, settles-issue}
use Rattle.net_record.proofs.Grown.{Grow, grow_then, grow_turn, grow_settle, grow_issue, tell}
use Rattle.net_record.proofs.FewTurns.{HasFewTurns}
use Rattle.net_record.proofs.Shown.{fronts_told}
use Rattle.net_record.proofs.SyncsTold.{AreTold, told_start, told_begin, told_turn, told_settle, syncs_apart}

-- ---- finished full syncs

told_reached : (lab : Laboratory) {w : WorldState} {later : List Phase} → IsReached lab w later → AreTold w
told_reached lab starts = told_begin (start lab) (phases lab) (told_start lab)
told_reached lab (turns w phase later t before legal) = told_turn w t.lane t.at (told_reached lab before)
told_reached lab (settles w phase later before drained) =
    told_begin (settle phase.moment (desks_asked phase.issues) phase.shows_routes w) later (told_settle phase.moment (desks_asked phase.issues) phase.shows_routes w (told_reached lab before))

-- ---- turns

-- a world whose turns are those of another, and more
record HasMoreTurns (w v : WorldState) : Type 0 where
  more : List TurnDone
  is : v.turns ≡ w.turns ++ more

same_turns : (w v : WorldState) → v.turns ≡ w.turns → HasMoreTurns w v
same_turns w v same = record { more = []; is = same ∙ sym (append-nil w.turns) }

more_then : (w v u : WorldState) → HasMoreTurns w v → HasMoreTurns v u → HasMoreTurns w u
more_then w v u h next = record { more = h.more ++ next.more; is = next.is ∙ ap (λ done. done ++ next.more) h.is ∙ append_assoc w.turns h.more next.more }

more_of : (w : WorldState) (reader : ℕ) (others : List Stamped) (actor : ActorState) (m : TurnMade) → HasMoreTurns w (turn_of w reader others actor m)
unfolding turn_of
more_of w reader others actor m = record { more = turn_done m ∷ []; is = refl }

more_by : (w : WorldState) (lane at reader : ℕ) (items : List Stamped) (actor : Option ActorState) → HasMoreTurns w (turn_by w lane at reader items actor)
more_by w lane at reader [] actor = same_turns w w refl
more_by w lane at reader (s ∷ others) None = same_turns w w refl
more_by w lane at reader (s ∷ others) (Some actor) = more_of w reader others actor (made_by w.actors actor lane at s)

more_turn : (w : WorldState) (lane at : ℕ) → HasMoreTurns w (turn w lane at)
unfolding turn
more_turn w lane at =
    let reader = reader_of (slice_get w.wires lane) in
    more_by w lane at reader (waiting w lane) (slice_get w.actors reader)

more_issue : (w : WorldState) (issues : List Output) → HasMoreTurns w (issue w issues)
unfolding issue
more_issue w issues = same_turns w (issue w issues) refl

more_settle : (moment : ℕ) (asked : List ℕ) (shows : Bool) (w : WorldState) → HasMoreTurns w (settle moment asked shows w)
unfolding settle
more_settle moment asked shows w = same_turns w (settle moment asked shows w) refl

-- ---- stores

-- what is recorded as the phase settles in the world
abbrev settle_in : WorldState → Phase → SettleDone
settle_in w phase = settle_done phase.moment (length w.turns) w.actors phase.shows_routes (giving_of w.actors (desks_asked phase.issues)).answers

-- The world in which a settle was done, behind those before, on the way to a world.
record IsDoneIn (lab : Laboratory) (now : WorldState) (before : List SettleDone) (s : SettleDone) : Type 0 where
  world : WorldState
  phase : Phase
  later : List Phase
  reached : IsReached lab world (phase ∷ later)
  drained : is_drained world ≡ true
  settled : world.settles ≡ before
  tells : s ≡ settle_in world phase
  turns : HasMoreTurns world now
  grow : Grow world now

-- each settle of a world was done so
abbrev AreDone : Laboratory → WorldState → Type 0
AreDone lab w = (before others : List SettleDone) (s : SettleDone) → w.settles ≡ before ++ s ∷ others → IsDoneIn lab w before s

-- the same settle, as seen from a later world
done_later : (lab : Laboratory) (w v : WorldState) (before : List SettleDone) (s : SettleDone) → HasMoreTurns w v → Grow w v
    → IsDoneIn lab w before s → IsDoneIn lab v before s
done_later lab w v before s more grow h = record {
  world = h.world;
  phase = h.phase;
  later = h.later;
  reached = h.reached;
  drained = h.drained;
  settled = h.settled;
  tells = h.tells;
  turns = more_then h.world w v h.turns more;
  grow = grow_then h.world w v h.grow grow;
}

-- what settles nothing
done_same : (lab : Laboratory) (w v : WorldState) → v.settles ≡ w.settles → HasMoreTurns w v → Grow w v → AreDone lab w → AreDone lab v
done_same lab w v same more grow h before others s e = done_later lab w v before s more grow (h before others s (sym same ∙ e))

done_begin : (lab : Laboratory) (w : WorldState) (later : List Phase) → AreDone lab w → AreDone lab (begin w later)
done_begin lab w [] h = h
done_begin lab w (phase ∷ later) h =
    done_same lab w (issue w phase.issues) (settles-issue w phase.issues) (more_issue w phase.issues) (grow_issue w phase.issues) h

-- an item of a list and one more is that one, or stands in the list
pub last_or_before : {A : Type 0} (before others all : List A) (x last : A) → all ++ last ∷ [] ≡ before ++ x ∷ others
    → ((all ≡ before) × (last ≡ x)) ⊎ ((rest : List A) × (all ≡ before ++ x ∷ rest))
last_or_before [] others [] x last e = inl (refl, cc e)
last_or_before [] others (y ∷ ys) x last e = inr (ys, cc e)
last_or_before (b ∷ []) others [] x last e = absurd (cc e)
last_or_before (b ∷ c ∷ bs) others [] x last e = absurd (cc e)
last_or_before (b ∷ bs) others (y ∷ ys) x last e =
    let tails : ys ++ last ∷ [] ≡ bs ++ x ∷ others = cc e in
    let heads : y ≡ b = cc e in
    elim (last_or_before bs others ys x last tails) [
      | inl (same, is) ↦ inl (cc, is)
      | inr (rest, is) ↦ inr (rest, cc)
    ]

-- the settle that is done
pub settle_of : (moment : ℕ) (asked : List ℕ) (shows : Bool) (w : WorldState)
    → (settle moment asked shows w).settles ≡ w.settles ++ settle_done moment (length w.turns) w.actors shows (giving_of w.actors asked).answers ∷ []
unfolding settle
settle_of moment asked shows w = refl

done_settle : (lab : Laboratory) (phase : Phase) (later : List Phase) (w : WorldState) → IsReached lab w (phase ∷ later) → is_drained w ≡ true
    → AreDone lab w → AreDone lab (settle phase.moment (desks_asked phase.issues) phase.shows_routes w)
done_settle lab phase later w reached drained h before others s e =
    let asked = desks_asked phase.issues in
    let v = settle phase.moment asked phase.shows_routes w in
    elim (last_or_before before others w.settles s (settle_in w phase) (sym (settle_of phase.moment asked phase.shows_routes w) ∙ e)) [
      | inl (is, last) ↦ record {
        world = w;
        phase = phase;
        later = later;
        reached = reached;
        drained = drained;
        settled = is;
        tells = sym last;
        turns = more_settle phase.moment asked phase.shows_routes w;
        grow = grow_settle phase.moment asked phase.shows_routes w;
      }
      | inr (rest, is) ↦ done_later lab w v before s (more_settle phase.moment asked phase.shows_routes w) (grow_settle phase.moment asked phase.shows_routes w) (h before rest s is)
    ]

pub none_settled : (before others : List SettleDone) (s : SettleDone) → [] ≡ before ++ s ∷ others → ⊥
none_settled [] others s e = cc e
none_settled (b ∷ before) others s e = cc e

done_reached : (lab : Laboratory) {w : WorldState} {later : List Phase} → IsReached lab w later → AreDone lab w
done_reached lab starts = done_begin lab (start lab) (phases lab) (λ before others s e. absurd (none_settled before others s e))
done_reached lab (turns w phase later t before legal) =
    done_same lab w (turn w t.lane t.at) (settles-turn w t.lane t.at) (more_turn w t.lane t.at) (grow_turn w t.lane t.at) (done_reached lab before)
done_reached lab (settles w phase later before drained) =
    done_begin lab (settle phase.moment (desks_asked phase.issues) phase.shows_routes w) later
    (done_settle lab phase later w before drained (done_reached lab before))

told_at_settle : (lab : Laboratory) (now : WorldState) (marks : List ℕ) (before : List SettleDone) (s : SettleDone)
    → IsDoneIn lab now before s → IsToldAtSettle lab (record_of now marks) before s
told_at_settle lab now marks before s h =
    let journals = journals_of now.actors in
    let count = ap (λ (done : SettleDone). done.turns) (sym h.tells) in
    record {
      world = h.world;
      phase = h.phase;
      later = h.later;
      reached = h.reached;
      drained = h.drained;
      settles = h.settled;
      turns = sym (take_at h.world.turns h.turns.more s.turns count) ∙ ap (take s.turns) (sym h.turns.is);
      tells = h.tells;
      stores = tell h.world.actors journals h.grow ∙ sym (fronts_told h.world.actors h.phase.shows_routes journals) ∙ ap (λ (done : SettleDone). fronts done.nodes journals) (sym h.tells);
    }

-- ---- the law

record_tells : (lab : Laboratory) (w : WorldState) (later : List Phase) (marks : List ℕ) → IsReached lab w later → HasFewTurns w
    → RecordTells lab (record_of w marks)
record_tells lab w later marks reached few =
    record {
      settles = λ before others s e. told_at_settle lab w marks before s (done_reached lab reached before others s e);
      syncs = syncs_apart w (told_reached lab reached) few;
    }

pub runs_tell : RunsTell
runs_tell lab done run =
    let few = subst (λ (d : Record). length d.turns ≤ most_turns) run.is run.few in
    subst (RecordTells lab) (sym run.is) (record_tells lab run.world run.later done.marks run.reached few)
