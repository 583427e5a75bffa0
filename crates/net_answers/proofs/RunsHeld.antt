-- The answers that the settles of a run tell are what journals tell, and where nobody asks for routes no desk was behind. It holds of
-- any turns that find what they may, so by round robin and under any legal schedule.
use Rattle.std.proofs.Common.{◌≡◌, ℕ, List, [], ◌∷◌, ◌++◌, true, false, refl, sym, ap, ◌∙◌, subst, Bool}
use Rattle.std.specs.Prelude.{All}
use Rattle.std.proofs.lemmas.List.Elements.{All-append, All-nil, All-cons}
use Rattle.or_base.specs.declared.entry.JournalEntry.{JournalEntry}
use Rattle.or_actor.specs.declared.output.Output.{Output}
use Rattle.net_laboratory.specs.Scenario.{Laboratory}
use Rattle.net_record.specs.declared.record.NodeMark.{NodeMark}
use Rattle.net_record.specs.declared.record.SettleDone.{SettleDone}
use Rattle.net_record.specs.Answers.{desks_asked}
use Rattle.net_record.specs.World.{WorldState, start, turn, range, is_drained, issue, settle}
use Rattle.net_record.specs.Records.{journals_of}
use Rattle.net_record.specs.Roles.{node_names}
use Rattle.net_answers.specs.Answered.{IsAnswered, AreAnsweredAfter, AreAnswered, is_behind, AreCurrent, asks_for_routes}
use Rattle.net_record.proofs.Drained.{settles-turn, settles-issue}
use Rattle.net_record.proofs.Grown.{AllFronts, fronts_same, fronts_then, grow_turn, grow_settle, grow_issue}
use Rattle.net_answers.proofs.Awaiting.{numbers_by}
use Rattle.net_answers.proofs.Attentive.{is_ask, IsWithin, Attends, attend_turn, attend_issue, attend_start}
use Rattle.net_answers.proofs.Followed.{Follow, follow_within}
use Rattle.net_answers.proofs.Held.{settle_answers}

-- what the last of these settles told, which come behind one with these marks
abbrev last_marks : List NodeMark → List SettleDone → List NodeMark
last_marks before [] = before
last_marks before (s ∷ done) = last_marks s.nodes done

last_marks-push : (before : List NodeMark) (done : List SettleDone) (s : SettleDone) → last_marks before (done ++ s ∷ []) ≡ s.nodes
last_marks-push before [] s = refl
last_marks-push before (first ∷ done) s = last_marks-push first.nodes done s

answered_push : (names : List (List ℕ)) (before : List NodeMark) (done : List SettleDone) (s : SettleDone) (journals : List (List JournalEntry))
    → AreAnsweredAfter names before done journals → All (IsAnswered names (last_marks before done) s.nodes journals) s.answers
    → AreAnsweredAfter names before (done ++ s ∷ []) journals
answered_push names before [] s journals h more = (more, tt)
answered_push names before (first ∷ done) s journals h more = (h.0, answered_push names first.nodes done s journals h.1 more)

abbrev NotBehind : SettleDone → Type 0
NotBehind s = All (λ answer. is_behind answer.told ≡ false) s.answers

-- the answers of the settles of a world are what its journals hold and any of which these are the fronts
pub record AreHeld (lab : Laboratory) (w : WorldState) : Type 0 where
  pub answered : (journals : List (List JournalEntry)) → AllFronts (journals_of w.actors) journals → AreAnswered (node_names lab) w.settles journals
  pub current : asks_for_routes lab ≡ false → AreCurrent w.settles

-- and its desks are attentive, in a phase in which these are asked
pub record Holds (lab : Laboratory) (asked : List ℕ) (w : WorldState) : Type 0 where
  pub attends : Attends lab (last_marks [] w.settles) asked w
  pub held : AreHeld lab w

-- a world with the same settles and longer journals
held_later : (lab : Laboratory) (w v : WorldState) → v.settles ≡ w.settles → AllFronts (journals_of w.actors) (journals_of v.actors) → AreHeld lab w → AreHeld lab v
held_later lab w v same grow h = record {
  answered = λ journals f.
      subst (λ done. AreAnswered (node_names lab) done journals) (sym same) (h.answered journals (fronts_then (journals_of w.actors) (journals_of v.actors) journals grow f));
  current = λ unasked. subst AreCurrent (sym same) (h.current unasked);
}

pub hold_start : (lab : Laboratory) → Holds lab [] (start lab)
hold_start lab = record {
  attends = attend_start lab;
  held = record { answered = λ journals f. tt; current = λ unasked. All-nil NotBehind };
}

pub hold_turn : (lab : Laboratory) (asked : List ℕ) (w : WorldState) (lane at : ℕ) → IsWithin (range w lane) at → Follow w.actors → Holds lab asked w
    → Holds lab asked (turn w lane at)
hold_turn lab asked w lane at within follow h =
    let v = turn w lane at in
    let same = settles-turn w lane at in
    record {
      attends = subst (λ done. Attends lab (last_marks [] done) asked v) (sym same) (attend_turn lab (last_marks [] w.settles) asked w lane at within (follow_within w.actors follow) h.attends);
      held = held_later lab w v same (grow_turn w lane at) h.held;
    }

pub hold_issue : (lab : Laboratory) (w : WorldState) (issues : List Output) → (asks_for_routes lab ≡ false → numbers_by is_ask issues ≡ []) → Holds lab [] w
    → Holds lab (desks_asked issues) (issue w issues)
hold_issue lab w issues none h =
    let v = issue w issues in
    let same = settles-issue w issues in
    record {
      attends = subst (λ done. Attends lab (last_marks [] done) (desks_asked issues) v) (sym same) (attend_issue lab (last_marks [] w.settles) w issues none h.attends);
      held = held_later lab w v same (grow_issue w issues) h.held;
    }

pub hold_settle : (lab : Laboratory) (moment : ℕ) (asked : List ℕ) (shows : Bool) (w : WorldState) → is_drained w ≡ true → Follow w.actors → Holds lab asked w
    → Holds lab [] (settle moment asked shows w)
hold_settle lab moment asked shows w drained follow h =
    let v = settle moment asked shows w in
    let before = last_marks [] w.settles in
    let grow = grow_settle moment asked shows w in
    let now = settle_answers lab before moment asked shows w (journals_of w.actors) follow h.attends (fronts_same (journals_of w.actors)) drained in
    let told = ap (last_marks []) now.is ∙ last_marks-push [] w.settles now.settle in
    record {
      attends = subst (λ marks. Attends lab marks [] v) (sym told) now.attends;
      held = record {
        answered = λ journals f.
            let here = fronts_then (journals_of w.actors) (journals_of v.actors) journals grow f in
            let s = settle_answers lab before moment asked shows w journals follow h.attends here drained in
            subst (λ done. AreAnswered (node_names lab) done journals) (sym s.is)
            (answered_push (node_names lab) [] w.settles s.settle journals (h.held.answered journals here) (λ k d within. (s.answers k d within).0));
        current = λ unasked.
            subst AreCurrent (sym now.is)
            (All-append NotBehind w.settles (now.settle ∷ []) (h.held.current unasked)
            (All-cons NotBehind now.settle [] (λ k d within. (now.answers k d within).1 unasked) (All-nil NotBehind)));
      };
    }
