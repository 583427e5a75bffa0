-- The turns that a run by rounds did are within the budget when they are given.
use Rattle.std.proofs.Common.{◌≡◌, ℕ, ◌+◌, ◌≤◌, List, [], ◌∷◌, ◌++◌, Option, Some, None, Ok, Err, Bool, true, false, cond, not, ◌&&◌, ◌||◌, length, refl, sym, ap, ◌∙◌, subst, arith, append_assoc, length-append}
use Rattle.std.specs.Prelude.{slice_get, sum_by}
use Rattle.std.proofs.lemmas.Bool.{lt-ltb, ltb-true, leb-true, false≢true}
use Rattle.std.proofs.lemmas.List.{append-nil, length-map}
use Rattle.std.proofs.lemmas.List.Sums.{sum_by-append}
use Rattle.or_base.specs.declared.item.Stamped.{Stamped}
use Rattle.or_base.specs.TurnDone.{TurnDone}
use Rattle.or_actor.specs.declared.output.Output.{Output}
use Rattle.or_actor.specs.Steps.{TurnMade, turn_done}
use Rattle.net_laboratory.specs.Limits.{most_turns}
use Rattle.net_laboratory.specs.Scenario.{Laboratory}
use Rattle.net_laboratory.specs.declared.schedule.Turn.{Turn}
use Rattle.net_record.specs.declared.actor.ActorState.{ActorState}
use Rattle.net_record.specs.declared.phase.Phase.{Phase}
use Rattle.net_record.specs.declared.record.SettleDone.{SettleDone}
use Rattle.net_record.specs.Roles.{roles}
use Rattle.net_record.specs.Phases.{phases}
use Rattle.net_record.specs.Actors.{is_in_range, made_by}
use Rattle.net_record.specs.Answers.{desks_asked, giving_of}
use Rattle.net_record.specs.World.{WorldState, start, waiting, turn, turn_of, turn_by, reader_of, range, is_empty, is_drained, issue, settle, settle_done}
use Rattle.net_record.specs.Weight.{turn_weight, settle_weight, weight_of}
use Rattle.net_record.specs.Budget.{most_weight, is_too_heavy, has_spent_turns, is_over}
use Rattle.net_record.specs.Rounds.{Marked, phase_of, settle_after, round_robin}
use Rattle.net_record.specs.Run.{Progress, begin, advance, is_legal, is_open, run_from, run, schedule_of}
use Rattle.net_record.specs.Given.{GivenEnded, Stage, is_heavy, settles_within, turn_within, given_from, run_given, RoundsAreGiven}
use Rattle.net_record.specs.Given.GivenFault.{BadTurn, OverBudget}
use Rattle.net_record.specs.Given.Stage.{GoesOn, Exceeds}
use Rattle.net_record.specs.Wired.{IsWired}
use Rattle.net_record.proofs.Counted.{rounds_from}
use Rattle.net_record.proofs.Turns.{wired_turn, turn_scheduled}
use Rattle.net_record.proofs.RoundTurns.{Front}
use Rattle.net_record.proofs.RoundRuns.{goes_on, wired_world_of, wired_issue, wired_settle, rounds_are_a_run}
use Rattle.net_record.proofs.FewTurns.{few_robin}

-- ---- what was done only grows

-- the later world has done all that the first one has, and more
record HasDone (w v : WorldState) : Type 0 where
  turns : List TurnDone
  more_turns : v.turns ≡ w.turns ++ turns
  settles : List SettleDone
  more_settles : v.settles ≡ w.settles ++ settles

done_same : (w : WorldState) → HasDone w w
done_same w = record { turns = []; more_turns = sym (append-nil w.turns); settles = []; more_settles = sym (append-nil w.settles) }

done_then : (w v u : WorldState) → HasDone w v → HasDone v u → HasDone w u
done_then w v u f g = record {
  turns = f.turns ++ g.turns;
  more_turns = g.more_turns ∙ ap (λ ts. ts ++ g.turns) f.more_turns ∙ append_assoc w.turns f.turns g.turns;
  settles = f.settles ++ g.settles;
  more_settles = g.more_settles ∙ ap (λ ss. ss ++ g.settles) f.more_settles ∙ append_assoc w.settles f.settles g.settles;
}

done_of : (w : WorldState) (reader : ℕ) (others : List Stamped) (actor : ActorState) (m : TurnMade) → HasDone w (turn_of w reader others actor m)
unfolding turn_of
done_of w reader others actor m = record { turns = turn_done m ∷ []; more_turns = refl; settles = []; more_settles = sym (append-nil w.settles) }

done_by : (w : WorldState) (lane at reader : ℕ) (items : List Stamped) (actor : Option ActorState) → HasDone w (turn_by w lane at reader items actor)
done_by w lane at reader [] actor = done_same w
done_by w lane at reader (s ∷ others) None = done_same w
done_by w lane at reader (s ∷ others) (Some actor) = done_of w reader others actor (made_by w.actors actor lane at s)

done_turn : (w : WorldState) (lane at : ℕ) → HasDone w (turn w lane at)
unfolding turn
done_turn w lane at =
    let reader = reader_of (slice_get w.wires lane) in
    done_by w lane at reader (waiting w lane) (slice_get w.actors reader)

done_issue : (w : WorldState) (issues : List Output) → HasDone w (issue w issues)
unfolding issue
done_issue w issues = record { turns = []; more_turns = sym (append-nil w.turns); settles = []; more_settles = sym (append-nil w.settles) }

done_begin : (w : WorldState) (phases : List Phase) → HasDone w (begin w phases)
done_begin w [] = done_same w
done_begin w (phase ∷ phases) = done_issue w phase.issues

done_settle : (moment : ℕ) (asked : List ℕ) (shows : Bool) (w : WorldState) → HasDone w (settle moment asked shows w)
unfolding settle
done_settle moment asked shows w = record {
  turns = [];
  more_turns = sym (append-nil w.turns);
  settles = settle_done moment (length w.turns) w.actors shows (giving_of w.actors asked).answers ∷ [];
  more_settles = refl;
}

done_advance : (w : WorldState) (phases : List Phase) → HasDone w (advance w phases).world
done_advance w [] = done_same w
done_advance w (phase ∷ phases) = by_test (is_drained w) (done_advance (begin next phases) phases) where
  next : WorldState
  next = settle phase.moment (desks_asked phase.issues) phase.shows_routes w

  by_test : (drained : Bool) → HasDone (begin next phases) (advance (begin next phases) phases).world
      → HasDone w (cond drained (advance (begin next phases) phases) (let p : Progress = record { world = w; unsettled = phase ∷ phases } in p)).world
  by_test false others = done_same w
  by_test true others =
      done_then w next (advance (begin next phases) phases).world (done_settle phase.moment (desks_asked phase.issues) phase.shows_routes w)
      (done_then next (begin next phases) (advance (begin next phases) phases).world (done_begin next phases) others)

done_run : (p : Progress) (ts : List Turn) (last : WorldState) → run_from p ts ≡ Ok last → HasDone p.world last
done_run p [] last e = by_test (is_open p.unsettled) e where
  by_test : (waits : Bool) → cond waits (Err (length p.world.turns)) (Ok p.world) ≡ Ok last → HasDone p.world last
  by_test true e = absurd (cc e)
  by_test false e = subst (HasDone p.world) (let is : p.world ≡ last = cc e in is) (done_same p.world)
done_run p (t ∷ ts) last e =
    by_test (is_open p.unsettled && is_legal p.world t) e (done_run (advance (turn p.world t.lane t.at) p.unsettled) ts last) where
      here : WorldState
      here = turn p.world t.lane t.at

      next : Progress
      next = advance here p.unsettled

      by_test : (may : Bool) → cond may (run_from next ts) (Err (length p.world.turns)) ≡ Ok last → (run_from next ts ≡ Ok last → HasDone next.world last) → HasDone p.world last
      by_test false e others = absurd (cc e)
      by_test true e others =
          done_then p.world here last (done_turn p.world t.lane t.at) (done_then here next.world last (done_advance here p.unsettled) (others e))

heavy_later : (w v : WorldState) → HasDone w v → is_heavy w ≡ true → is_heavy v ≡ true
unfolding is_too_heavy weight_of
heavy_later w v d h =
    let turns = ap (sum_by turn_weight) d.more_turns ∙ sum_by-append turn_weight w.turns d.turns in
    let settles = ap (sum_by settle_weight) d.more_settles ∙ sum_by-append settle_weight w.settles d.settles in
    let over = ltb-true most_weight (sum_by turn_weight w.turns + sum_by settle_weight w.settles) h in
    lt-ltb most_weight (sum_by turn_weight v.turns + sum_by settle_weight v.settles) (omega (arith, turns, settles, over))

longer : (w v : WorldState) → HasDone w v → length w.turns ≤ length v.turns
longer w v d = omega (arith, ap length d.more_turns, length-append w.turns d.turns)

-- ---- lanes and their readers stay there

pub wired_begin : (w : WorldState) (phases : List Phase) → IsWired w → IsWired (begin w phases)
wired_begin w [] wired = wired
wired_begin w (phase ∷ phases) wired = wired_issue w phase.issues wired

wired_advance : (w : WorldState) (phases : List Phase) → IsWired w → IsWired (advance w phases).world
wired_advance w [] wired = wired
wired_advance w (phase ∷ phases) wired =
    let after = settle phase.moment (desks_asked phase.issues) phase.shows_routes w in
    by_test (is_drained w) (wired_advance (begin after phases) phases (wired_begin after phases (wired_settle phase.moment (desks_asked phase.issues) phase.shows_routes w wired))) where
      next : WorldState
      next = settle phase.moment (desks_asked phase.issues) phase.shows_routes w

      by_test : (drained : Bool) → IsWired (advance (begin next phases) phases).world
          → IsWired (cond drained (advance (begin next phases) phases) (let p : Progress = record { world = w; unsettled = phase ∷ phases } in p)).world
      by_test false others = wired
      by_test true others = others

some_wait : (empty within : Bool) → not empty && within ≡ true → empty ≡ false
some_wait true within e = cc
some_wait false within e = refl

-- a legal turn has an item
legal_front : (w : WorldState) (t : Turn) → is_legal w t ≡ true → Front w t.lane
legal_front w t legal = by_items (waiting w t.lane) refl where
  by_items : (items : List Stamped) → waiting w t.lane ≡ items → Front w t.lane
  by_items [] e = absurd (false≢true (sym (some_wait (is_empty (waiting w t.lane)) (is_in_range (range w t.lane) t.at) legal) ∙ ap is_empty e))
  by_items (s ∷ others) e = record { item = s; others = others; is = e }

-- and is the next of the schedule
pub legal_scheduled : (w : WorldState) (t : Turn) → IsWired w → is_legal w t ≡ true → schedule_of (turn w t.lane t.at).turns ≡ schedule_of w.turns ++ t ∷ []
legal_scheduled w t wired legal = let f = legal_front w t legal in turn_scheduled w t.lane t.at f.item f.others wired f.is

-- a legal turn is one turn more
one_more : (w : WorldState) (t : Turn) → IsWired w → is_legal w t ≡ true → length (turn w t.lane t.at).turns ≡ length w.turns + 1
one_more w t wired legal =
    let each : TurnDone → Turn = λ d. record { lane = d.lane; at = d.at } in
    omega (
      arith,
      ap length (legal_scheduled w t wired legal),
      length-append (schedule_of w.turns) (t ∷ []),
      length-map (turn w t.lane t.at).turns each,
      length-map w.turns each,
    )

-- ---- a run within the budget

-- The run goes on from this, or the budget is exceeded in a world behind which it would go on.
abbrev IsOn : Stage → Progress → Type 0
IsOn (GoesOn q) p = q ≡ p
IsOn (Exceeds phase w) p = (is_heavy w ≡ true) × HasDone w p.world

settles_on : (w : WorldState) (phases : List Phase) → IsOn (settles_within w phases) (advance w phases)
settles_on w [] = refl
settles_on w (phase ∷ phases) = by_tests (is_drained w) (is_heavy next) refl (settles_on (begin next phases) phases) where
  next : WorldState
  next = settle phase.moment (desks_asked phase.issues) phase.shows_routes w

  by_tests : (drained heavy : Bool) → is_heavy next ≡ heavy → IsOn (settles_within (begin next phases) phases) (advance (begin next phases) phases)
      → IsOn
      (cond (not drained) (GoesOn (record { world = w; unsettled = phase ∷ phases })) (cond heavy (Exceeds (length next.settles) next) (settles_within (begin next phases) phases)))
      (cond drained (advance (begin next phases) phases) (record { world = w; unsettled = phase ∷ phases }))
  by_tests false heavy e others = refl
  by_tests true true e others =
      (e, done_then next (begin next phases) (advance (begin next phases) phases).world (done_begin next phases) (done_advance (begin next phases) phases))
  by_tests true false e others = others

turn_on : (p : Progress) (t : Turn) → IsOn (turn_within p t) (advance (turn p.world t.lane t.at) p.unsettled)
turn_on p t = by_test (is_heavy next) refl (settles_on next p.unsettled) where
  next : WorldState
  next = turn p.world t.lane t.at

  by_test : (heavy : Bool) → is_heavy next ≡ heavy → IsOn (settles_within next p.unsettled) (advance next p.unsettled)
      → IsOn (cond heavy (Exceeds (length next.settles + 1) next) (settles_within next p.unsettled)) (advance next p.unsettled)
  by_test true e others = (e, done_advance next p.unsettled)
  by_test false e others = others

legal_of : (waits legal : Bool) → waits && legal ≡ true → legal ≡ true
legal_of true legal e = e
legal_of false legal e = cc

-- the run of these turns ends in this world, and so does the run within the budget
abbrev EndsIn : GivenEnded → WorldState → Type 0
EndsIn ended last = ended ≡ record { fault = None; last = last }

given_ends : (s : Stage) (p : Progress) (ts : List Turn) (last : WorldState) → IsOn s p → IsWired p.world → is_heavy last ≡ false → length last.turns ≤ most_turns
    → run_from p ts ≡ Ok last → EndsIn (given_from s ts) last
given_ends (Exceeds phase w) p ts last on wired light few e =
    absurd (false≢true (sym light ∙ heavy_later w last (done_then w p.world last on.1 (done_run p ts last e)) on.0))
given_ends (GoesOn q) p [] last on wired light few e = by_test (is_open q.unsettled) (rw on e) where
  by_test : (waits : Bool) → cond waits (Err (length q.world.turns)) (Ok q.world) ≡ Ok last
      → EndsIn (record { fault = cond waits (Some (BadTurn (length q.world.turns))) None; last = q.world }) last
  by_test true e = absurd (cc e)
  by_test false e = cc e
given_ends (GoesOn q) p (t ∷ ts) last on wired light few e =
    let after = turn q.world t.lane t.at in
    let ready = wired_turn q.world t.lane t.at (subst (λ (r : Progress). IsWired r.world) (sym on) wired) in
    by_tests (is_open q.unsettled && is_legal q.world t) (has_spent_turns q.world.turns) refl refl (rw on e)
    (given_ends (turn_within q t) (advance after q.unsettled) ts last (turn_on q t) (wired_advance after q.unsettled ready) light few) where
      here : WorldState
      here = turn q.world t.lane t.at

      next : Progress
      next = advance here q.unsettled

      wired_here : IsWired q.world
      wired_here = subst (λ (r : Progress). IsWired r.world) (sym on) wired

      by_tests : (may spent : Bool) → is_open q.unsettled && is_legal q.world t ≡ may → has_spent_turns q.world.turns ≡ spent
          → cond may (run_from next ts) (Err (length q.world.turns)) ≡ Ok last → (run_from next ts ≡ Ok last → EndsIn (given_from (turn_within q t) ts) last)
          → EndsIn
          (cond (not may) (record { fault = Some (BadTurn (length q.world.turns)); last = q.world })
          (cond spent (record { fault = Some (OverBudget (length q.world.settles + 1)); last = q.world }) (given_from (turn_within q t) ts)))
          last
      by_tests false spent m k e others = absurd (cc e)
      by_tests true true m k e others =
          let one = one_more q.world t wired_here (legal_of (is_open q.unsettled) (is_legal q.world t) m) in
          let more = longer here last (done_then here next.world last (done_advance here q.unsettled) (done_run next ts last e)) in
          absurd (omega (arith, leb-true most_turns (length q.world.turns) k, one, more, few))
      by_tests true false m k e others = others e

-- ---- round robin

light_where : (heavy others : Bool) → heavy || others ≡ false → heavy ≡ false
light_where true others e = cc
light_where false others e = refl

light_within : (w : WorldState) → is_over w ≡ false → is_heavy w ≡ false
unfolding is_over
light_within w e = light_where (is_heavy w) (has_spent_turns w.turns && not (is_drained w)) e

light_goes_on : (unsettled over : Bool) (number : ℕ) (done next : Marked) (phases : List Phase) → is_over next.world ≡ over
    → (goes_on unsettled over number done next phases).unsettled ≡ None
    → (is_heavy next.world ≡ false → (rounds_from (number + 1) next phases).unsettled ≡ None → is_heavy (rounds_from (number + 1) next phases).last.world ≡ false)
    → is_heavy (goes_on unsettled over number done next phases).last.world ≡ false
light_goes_on true over number done next phases e settled others = absurd (cc settled)
light_goes_on false true number done next phases e settled others = absurd (cc settled)
light_goes_on false false number done next phases e settled others = others (light_within next.world e) settled

light_at_end : (phases : List Phase) (number : ℕ) (m : Marked) → is_heavy m.world ≡ false → (rounds_from number m phases).unsettled ≡ None
    → is_heavy (rounds_from number m phases).last.world ≡ false
light_at_end [] number m light settled = light
light_at_end (phase ∷ phases) number m light settled =
    let done = phase_of m phase in
    let next = settle_after phase done in
    light_goes_on (is_over done.world || not (is_drained done.world)) (is_over next.world) number done next phases refl settled
    (λ within. light_at_end phases (number + 1) next within)

light_start : (lab : Laboratory) → is_heavy (start lab) ≡ false
unfolding is_too_heavy weight_of
light_start lab = refl

light_robin : (lab : Laboratory) → (round_robin lab).unsettled ≡ None → is_heavy (round_robin lab).last.world ≡ false
unfolding round_robin
light_robin lab settled = light_at_end (phases lab) 1 (record { world = start lab; marks = [] }) (light_start lab) settled

pub rounds_are_given : RoundsAreGiven
unfolding run_given run
rounds_are_given lab settled =
    let w = begin (start lab) (phases lab) in
    let last = (round_robin lab).last.world in
    given_ends (settles_within w (phases lab)) (advance w (phases lab)) (schedule_of last.turns) last (settles_on w (phases lab))
    (wired_advance w (phases lab) (wired_begin (start lab) (phases lab) (wired_world_of lab.kind (roles lab))))
    (light_robin lab settled) (few_robin lab) (rounds_are_a_run lab settled)
