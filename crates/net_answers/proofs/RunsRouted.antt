-- The routes that the settles of a run tell are those from scratch over the journals.
use Rattle.std.proofs.Common.{◌≡◌, ℕ, zero, suc, ◌+◌, List, [], ◌∷◌, ◌++◌, Bool, true, false, ◌&&◌, inl, inr, Option, Some, None, cond, length, get_or, take, refl, sym, ap, ◌∙◌, subst, arith, append_assoc}
use Rattle.std.specs.Prelude.{IsTrue, slice_get}
use Rattle.std.proofs.lemmas.List.{length_push, append-nil, get_or-append-add}
use Rattle.or_base.specs.declared.entry.JournalEntry.{JournalEntry}
use Rattle.net_laboratory.specs.Scenario.{Laboratory}
use Rattle.net_laboratory.specs.Sound.{is_sound}
use Rattle.net_record.specs.declared.phase.Phase.{Phase}
use Rattle.net_record.specs.declared.record.NodeMark.{NodeMark}
use Rattle.net_record.specs.declared.record.SettleDone.{SettleDone}
use Rattle.net_record.specs.Answers.{desks_asked, giving_of}
use Rattle.net_record.specs.Fronts.{fronts}
use Rattle.net_record.specs.Marks.{no_mark, entries_told}
use Rattle.net_record.specs.Phases.{phases}
use Rattle.net_record.specs.Reached.{IsReached}
use Rattle.net_record.specs.Reached.IsReached.{starts, turns, settles}
use Rattle.net_record.specs.Records.{journals_of}
use Rattle.net_record.specs.Roles.{node_names}
use Rattle.net_record.specs.Run.{begin}
use Rattle.net_record.specs.World.{WorldState, start, turn, is_drained, issue, settle, settle_done, marks_of, nodes_told}
use Rattle.net_record.proofs.Drained.{settles-turn, settles-issue, settles-settle}
use Rattle.net_record.proofs.Grown.{AllFronts, Grow, fronts_same, fronts_then, grow_turn, grow_settle, grow_issue, tell}
use Rattle.net_record.proofs.RunsTell.{last_or_before, settle_of, none_settled}
use Rattle.net_record.proofs.Shown.{fronts_told}
use Rattle.net_agree.proofs.Recorded.{front_in}
use Rattle.net_answers.specs.Routed.{computes_routes, no_phase, tells_routes, routes_due, IsRouted, AreRouted}
use Rattle.net_answers.proofs.Following.{routes_told}

-- ---- which phases have settled

-- the phases that have settled, and those that are left
record HasSettled (lab : Laboratory) (w : WorldState) (later : List Phase) : Type 0 where
  done : List Phase
  all : phases lab ≡ done ++ later
  count : length done ≡ length w.settles

settles-begin : (w : WorldState) (later : List Phase) → (begin w later).settles ≡ w.settles
settles-begin w [] = refl
settles-begin w (phase ∷ later) = settles-issue w phase.issues

has_settled : (lab : Laboratory) {w : WorldState} {later : List Phase} → IsReached lab w later → HasSettled lab w later
has_settled lab starts = record { done = []; all = refl; count = ap length (sym (settles-begin (start lab) (phases lab))) }
has_settled lab (turns w phase later t before legal) =
    let h = has_settled lab before in
    record { done = h.done; all = h.all; count = h.count ∙ ap length (sym (settles-turn w t.lane t.at)) }
has_settled lab (settles w phase later before drained) =
    let h = has_settled lab before in
    let next = settle phase.moment (desks_asked phase.issues) phase.shows_routes w in
    record {
      done = h.done ++ phase ∷ [];
      all = h.all ∙ sym (append_assoc h.done (phase ∷ []) later);
      count = omega (arith, length_push h.done phase, h.count, settles-settle phase.moment (desks_asked phase.issues) phase.shows_routes w, ap length (settles-begin next later));
    }

-- the first phase that is left is the one behind those
phase_here : (lab : Laboratory) (w : WorldState) (phase : Phase) (later : List Phase) → HasSettled lab w (phase ∷ later) → get_or (phases lab) (length w.settles) no_phase ≡ phase
phase_here lab w phase later h =
    let here : length w.settles ≡ length h.done + 0 = omega (arith, h.count) in
    ap (λ n. get_or (phases lab) n no_phase) here ∙ ap (λ ps. get_or ps (length h.done + 0) no_phase) h.all ∙ get_or-append-add h.done (phase ∷ later) 0 no_phase

-- ---- the routes of one settle

settle_routed : (lab : Laboratory) → IsTrue (is_sound lab) → (w : WorldState) (phase : Phase) (later : List Phase) (journals : List (List JournalEntry)) → IsReached lab w (phase ∷ later)
    → is_drained w ≡ true → AllFronts (journals_of w.actors) journals
    → IsRouted lab journals w.settles (settle_done phase.moment (length w.turns) w.actors phase.shows_routes (giving_of w.actors (desks_asked phase.issues)).answers)
settle_routed lab sound w phase later journals reached drained grow place node named =
    let nodes = nodes_told w.actors phase.shows_routes in
    let told = routes_told lab sound reached drained phase.shows_routes place node named in
    let journal = ap (λ js. get_or js place []) (tell w.actors journals grow ∙ sym (fronts_told w.actors phase.shows_routes journals)) ∙ front_in nodes journals place in
    let shows = ap (λ (p : Phase). computes_routes lab.kind && p.shows_routes) (sym (phase_here lab w phase later (has_settled lab reached))) in
    told ∙ ap (λ b. cond b (routes_due node (get_or (journals_of w.actors) place [])) []) shows
    ∙ ap (λ es. cond (tells_routes lab (length w.settles)) (routes_due node es) []) journal

-- ---- a run

-- the settles of a world are routed, by its journals and any of which these are the fronts
abbrev StayRouted : Laboratory → WorldState → Type 0
StayRouted lab w = (journals : List (List JournalEntry)) → AllFronts (journals_of w.actors) journals → AreRouted lab journals w.settles

routed_later : (lab : Laboratory) (w v : WorldState) → v.settles ≡ w.settles → Grow w v → StayRouted lab w → StayRouted lab v
routed_later lab w v same grow h journals f =
    subst (AreRouted lab journals) (sym same) (h journals (fronts_then (journals_of w.actors) (journals_of v.actors) journals grow f))

routed_begin : (lab : Laboratory) (w : WorldState) (later : List Phase) → StayRouted lab w → StayRouted lab (begin w later)
routed_begin lab w [] h = h
routed_begin lab w (phase ∷ later) h = routed_later lab w (issue w phase.issues) (settles-issue w phase.issues) (grow_issue w phase.issues) h

routed_settle : (lab : Laboratory) → IsTrue (is_sound lab) → (w : WorldState) (phase : Phase) (later : List Phase) → IsReached lab w (phase ∷ later) → is_drained w ≡ true
    → StayRouted lab w → StayRouted lab (settle phase.moment (desks_asked phase.issues) phase.shows_routes w)
routed_settle lab sound w phase later reached drained h journals f before others s e =
    let asked = desks_asked phase.issues in
    let v = settle phase.moment asked phase.shows_routes w in
    let done = settle_done phase.moment (length w.turns) w.actors phase.shows_routes (giving_of w.actors asked).answers in
    let fronts_ = fronts_then (journals_of w.actors) (journals_of v.actors) journals (grow_settle phase.moment asked phase.shows_routes w) f in
    elim (last_or_before before others w.settles s done (sym (settle_of phase.moment asked phase.shows_routes w) ∙ e)) [
      | inl (is, last) ↦
          subst (λ b. IsRouted lab journals b s) is (subst (IsRouted lab journals w.settles) last (settle_routed lab sound w phase later journals reached drained fronts_))
      | inr (rest, is) ↦ h journals fronts_ before rest s is
    ]

routed : (lab : Laboratory) → IsTrue (is_sound lab) → {w : WorldState} {later : List Phase} → IsReached lab w later → StayRouted lab w
routed lab sound starts = routed_begin lab (start lab) (phases lab) (λ journals f before others s e. absurd (none_settled before others s e))
routed lab sound (turns w phase later t before legal) =
    routed_later lab w (turn w t.lane t.at) (settles-turn w t.lane t.at) (grow_turn w t.lane t.at) (routed lab sound before)
routed lab sound (settles w phase later before drained) =
    routed_begin lab (settle phase.moment (desks_asked phase.issues) phase.shows_routes w) later (routed_settle lab sound w phase later before drained (routed lab sound before))

pub routed_reached : (lab : Laboratory) → IsTrue (is_sound lab) → {w : WorldState} {later : List Phase} → IsReached lab w later
    → AreRouted lab (journals_of w.actors) w.settles
routed_reached lab sound {w} reached = routed lab sound reached (journals_of w.actors) (fronts_same (journals_of w.actors))
