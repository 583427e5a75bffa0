-- Rounds are turns of a run, one after another: within a round an item always waits, so no phase ends there. Where the budget
-- is exceeded, nothing more is done.
use Rattle.std.proofs.Common.{◌≡◌, ℕ, zero, suc, ◌+◌, ◌<◌, ◌≤◌, List, [], ◌∷◌, ◌++◌, Bool, true, false, cond, length, map, get_or, drop, refl, sym, ◌∙◌, ap, arith, append_assoc, add-one}
use Rattle.std.specs.List.{list_all}
use Rattle.std.proofs.lemmas.Bool.{false≢true, le-leb}
use Rattle.or_base.specs.declared.item.Stamped.{Stamped}
use Rattle.net_laboratory.specs.declared.schedule.Turn.{Turn}
use Rattle.net_record.specs.declared.phase.Phase.{Phase}
use Rattle.net_record.specs.World.{WorldState, waiting, turn, range, is_empty, is_drained}
use Rattle.net_record.specs.Budget.{is_over}
use Rattle.net_record.specs.Rounds.{longest, turns_on, round}
use Rattle.net_record.proofs.Counted.{round_from}
use Rattle.net_record.specs.Run.{advance, is_legal, run_from, schedule_of}
use Rattle.net_record.specs.Wired.{IsWired}
use Rattle.net_record.proofs.Turns.{wired_turn, turn_keeps, turn_leaves, turn_scheduled}
use Rattle.net_record.proofs.Found.{DesksFind, find_turn, range_holds}

-- a turn of a lane in a round, and the world after it
abbrev pub turn_on : WorldState → ℕ → Turn
turn_on w lane = record { lane = lane; at = longest w lane }

abbrev pub robin : WorldState → ℕ → WorldState
robin w lane = turn w lane (longest w lane)

-- lanes and readers are there, and no desk found more than its store has
pub record IsReady (w : WorldState) : Type 0 where
  pub wired : IsWired w
  pub find : DesksFind w.actors

pub ready_turn : (w : WorldState) (lane : ℕ) → IsReady w → IsReady (robin w lane)
ready_turn w lane ready = record {
  wired = wired_turn w lane (longest w lane) ready.wired;
  find = find_turn w lane (longest w lane) ready.find (omega arith);
}

-- so many turns of a lane, as far as the budget goes, and then these
abbrev pub then_turns_on : WorldState → ℕ → ℕ → List Turn → List Turn
then_turns_on w lane zero later = later
then_turns_on w lane (suc count) later = cond (is_over w) later (turn_on w lane ∷ then_turns_on (robin w lane) lane count later)

-- so many turns of each lane, from this one on, as far as the budget goes, and then these
abbrev pub then_round : WorldState → ℕ → List ℕ → List Turn → List Turn
then_round w lane [] later = later
then_round w lane (count ∷ counts) later = then_turns_on w lane count (then_round (turns_on w lane count) (lane + 1) counts later)

-- some count isn't 0
abbrev pub some_left : List ℕ → Bool
some_left [] = false
some_left (zero ∷ counts) = some_left counts
some_left (suc count ∷ counts) = true

-- on each lane, from this one on, at least so many items wait
abbrev pub Backed : WorldState → ℕ → List ℕ → Type 0
Backed w lane [] = Unit {0}
Backed w lane (count ∷ counts) = (count ≤ length (waiting w lane)) × Backed w (lane + 1) counts

pub Backed-kept : (w v : WorldState) (lane : ℕ) (counts : List ℕ) → ((other : ℕ) → lane ≤ other → length (waiting w other) ≤ length (waiting v other)) → Backed w lane counts → Backed v lane counts
Backed-kept w v lane [] keeps h = tt
Backed-kept w v lane (count ∷ counts) keeps h =
    let here : length (waiting w lane) ≤ length (waiting v lane) = keeps lane (omega arith) in
    (omega (arith, h.0, here), Backed-kept w v (lane + 1) counts (λ other above. keeps other (omega arith)) h.1)

-- a lane on which an item waits
list_all-waits : (lanes : List (List Stamped)) (lane : ℕ) → 0 < length (get_or lanes lane []) → list_all is_empty lanes ≡ false
list_all-waits [] lane h = absurd (omega (arith, h))
list_all-waits ([] ∷ lanes) zero h = absurd (omega (arith, h))
list_all-waits ((s ∷ others) ∷ lanes) zero h = refl
list_all-waits ([] ∷ lanes) (suc lane) h = list_all-waits lanes lane h
list_all-waits ((s ∷ others) ∷ lanes) (suc lane) h = refl

pub not_drained : (w : WorldState) (lane : ℕ) (counts : List ℕ) → Backed w lane counts → some_left counts ≡ true → is_drained w ≡ false
not_drained w lane [] h some = absurd (false≢true some)
not_drained w lane (zero ∷ counts) h some = not_drained w (lane + 1) counts h.1 some
not_drained w lane (suc count ∷ counts) h some = list_all-waits w.lanes lane (omega (arith, h.0))

-- a phase goes on while an item waits
pub advance-waits : (w : WorldState) (phase : Phase) (phases : List Phase) → is_drained w ≡ false → advance w (phase ∷ phases) ≡ record { world = w; unsettled = phase ∷ phases }
advance-waits w phase phases e = rw e refl

-- nothing is left to do
round_from-none : (w : WorldState) (lane : ℕ) (counts : List ℕ) → some_left counts ≡ false → round_from w lane counts ≡ w
round_from-none w lane [] none = refl
round_from-none w lane (zero ∷ counts) none = round_from-none w (lane + 1) counts none
round_from-none w lane (suc count ∷ counts) none = cc

then_round-none : (w : WorldState) (lane : ℕ) (counts : List ℕ) (later : List Turn) → some_left counts ≡ false → then_round w lane counts later ≡ later
then_round-none w lane [] later none = refl
then_round-none w lane (zero ∷ counts) later none = then_round-none w (lane + 1) counts later none
then_round-none w lane (suc count ∷ counts) later none = cc

-- the budget is exceeded
turns_on-over : (w : WorldState) (lane count : ℕ) → is_over w ≡ true → turns_on w lane count ≡ w
turns_on-over w lane zero over = refl
turns_on-over w lane (suc count) over = rw over refl

round_from-over : (w : WorldState) (lane : ℕ) (counts : List ℕ) → is_over w ≡ true → round_from w lane counts ≡ w
round_from-over w lane [] over = refl
round_from-over w lane (count ∷ counts) over =
    ap (λ v. round_from v (lane + 1) counts) (turns_on-over w lane count over) ∙ round_from-over w (lane + 1) counts over

then_turns_on-over : (w : WorldState) (lane count : ℕ) (later : List Turn) → is_over w ≡ true → then_turns_on w lane count later ≡ later
then_turns_on-over w lane zero later over = refl
then_turns_on-over w lane (suc count) later over = rw over refl

then_round-over : (w : WorldState) (lane : ℕ) (counts : List ℕ) (later : List Turn) → is_over w ≡ true → then_round w lane counts later ≡ later
then_round-over w lane [] later over = refl
then_round-over w lane (count ∷ counts) later over =
    then_turns_on-over w lane count (then_round (turns_on w lane count) (lane + 1) counts later) over
    ∙ ap (λ v. then_round v (lane + 1) counts later) (turns_on-over w lane count over)
    ∙ then_round-over w (lane + 1) counts later over

-- and where it isn't, the next turn is done
round_from-step : (w : WorldState) (lane count : ℕ) (counts : List ℕ) → is_over w ≡ false
    → round_from w lane (suc count ∷ counts) ≡ round_from (robin w lane) lane (count ∷ counts)
round_from-step w lane count counts within =
    let first : turns_on w lane (suc count) ≡ turns_on (robin w lane) lane count = rw within refl in
    ap (λ v. round_from v (lane + 1) counts) first

then_round-step : (w : WorldState) (lane count : ℕ) (counts : List ℕ) (later : List Turn) → is_over w ≡ false
    → then_round w lane (suc count ∷ counts) later ≡ turn_on w lane ∷ then_round (robin w lane) lane (count ∷ counts) later
then_round-step w lane count counts later within = rw within refl

-- the front item of a lane on which an item waits
pub record Front (w : WorldState) (lane : ℕ) : Type 0 where
  pub item : Stamped
  pub others : List Stamped
  pub is : waiting w lane ≡ item ∷ others

front_of : (items : List Stamped) → 0 < length items → (s : Stamped) × (others : List Stamped) × (items ≡ s ∷ others)
front_of [] h = absurd (omega (arith, h))
front_of (s ∷ others) h = (s, others, refl)

pub front : (w : WorldState) (lane : ℕ) → 0 < length (waiting w lane) → Front w lane
front w lane h = let f = front_of (waiting w lane) h in record { item = f.0; others = f.1; is = f.2 }

pub legal : (w : WorldState) (lane : ℕ) → IsReady w → Front w lane → is_legal w (turn_on w lane) ≡ true
legal w lane ready f =
    rw (f.is, le-leb (range w lane).least (longest w lane) (range_holds w lane ready.find), le-leb (longest w lane) (longest w lane) (omega arith)) refl

-- one turn of a run
pub run_from-turn : (w : WorldState) (phase : Phase) (phases : List Phase) (lane : ℕ) (later : List Turn) → IsReady w → Front w lane
    → run_from (record { world = w; unsettled = phase ∷ phases }) (turn_on w lane ∷ later) ≡ run_from (advance (robin w lane) (phase ∷ phases)) later
run_from-turn w phase phases lane later ready f = rw (legal w lane ready f) refl

Backed-turn : (w : WorldState) (lane count : ℕ) (counts : List ℕ) → IsReady w → Front w lane → Backed w lane (suc count ∷ counts) → Backed (robin w lane) lane (count ∷ counts)
Backed-turn w lane count counts ready f h = (
  omega (arith, h.0, turn_leaves w lane (longest w lane) f.item f.others ready.wired f.is, ap length f.is),
  Backed-kept w (robin w lane) (lane + 1) counts (λ other above. turn_keeps w lane (longest w lane) f.item f.others ready.wired f.is other (omega arith)) h.1,
)

-- what is left of a round, as turns of a run in which the first of these phases isn't settled
abbrev RunsRoundOf : WorldState → ℕ → List ℕ → Phase → List Phase → List Turn → Type 0
RunsRoundOf w lane counts phase phases later =
    run_from (record { world = w; unsettled = phase ∷ phases }) (then_round w lane counts later) ≡ run_from (advance (round_from w lane counts) (phase ∷ phases)) later

abbrev RunsRound : List ℕ → Type 0
RunsRound counts =
    (w : WorldState) (lane : ℕ) (phase : Phase) (phases : List Phase) (later : List Turn) → IsReady w → Backed w lane counts → some_left counts ≡ true
    → RunsRoundOf w lane counts phase phases later

after_one : (v : WorldState) (lane count : ℕ) (counts : List ℕ) (phase : Phase) (phases : List Phase) (later : List Turn) (left : Bool) → some_left (count ∷ counts) ≡ left → Backed v lane (count ∷ counts)
    → (some_left (count ∷ counts) ≡ true → RunsRoundOf v lane (count ∷ counts) phase phases later)
    → run_from (advance v (phase ∷ phases)) (then_round v lane (count ∷ counts) later) ≡ run_from (advance (round_from v lane (count ∷ counts)) (phase ∷ phases)) later
after_one v lane count counts phase phases later true some backed goes_on =
    ap (λ p. run_from p (then_round v lane (count ∷ counts) later)) (advance-waits v phase phases (not_drained v lane (count ∷ counts) backed some)) ∙ goes_on some
after_one v lane count counts phase phases later false none backed goes_on =
    ap (run_from (advance v (phase ∷ phases))) (then_round-none v lane (count ∷ counts) later none)
    ∙ ap (λ u. run_from (advance u (phase ∷ phases)) later) (sym (round_from-none v lane (count ∷ counts) none))

-- the budget is exceeded, and an item waits
runs-over : (w : WorldState) (lane : ℕ) (counts : List ℕ) (phase : Phase) (phases : List Phase) (later : List Turn) → is_drained w ≡ false → is_over w ≡ true
    → RunsRoundOf w lane counts phase phases later
runs-over w lane counts phase phases later waits over =
    ap (run_from (record { world = w; unsettled = phase ∷ phases })) (then_round-over w lane counts later over)
    ∙ ap (λ p. run_from p later) (sym (advance-waits w phase phases waits))
    ∙ ap (λ v. run_from (advance v (phase ∷ phases)) later) (sym (round_from-over w lane counts over))

-- one turn of a lane, or none where the budget is exceeded
one_turn : (w : WorldState) (lane count : ℕ) (counts : List ℕ) (phase : Phase) (phases : List Phase) (later : List Turn) (over : Bool) → is_over w ≡ over → IsReady w → Backed w lane (suc count ∷ counts)
    → (IsReady (robin w lane) → Backed (robin w lane) lane (count ∷ counts) → some_left (count ∷ counts) ≡ true → RunsRoundOf (robin w lane) lane (count ∷ counts) phase phases later)
    → RunsRoundOf w lane (suc count ∷ counts) phase phases later
one_turn w lane count counts phase phases later true over ready backed goes_on =
    runs-over w lane (suc count ∷ counts) phase phases later (not_drained w lane (suc count ∷ counts) backed refl) over
one_turn w lane count counts phase phases later false within ready backed goes_on =
    let f = front w lane (omega (arith, backed.0)) in
    let v = robin w lane in
    let kept = Backed-turn w lane count counts ready f backed in
    ap (run_from (record { world = w; unsettled = phase ∷ phases })) (then_round-step w lane count counts later within)
    ∙ run_from-turn w phase phases lane (then_round v lane (count ∷ counts) later) ready f
    ∙ after_one v lane count counts phase phases later (some_left (count ∷ counts)) refl kept (goes_on (ready_turn w lane ready) kept)
    ∙ ap (λ u. run_from (advance u (phase ∷ phases)) later) (sym (round_from-step w lane count counts within))

one_lane : (counts : List ℕ) → RunsRound counts → (count : ℕ) → RunsRound (count ∷ counts)
one_lane counts others zero w lane phase phases later ready backed some = others w (lane + 1) phase phases later ready backed.1 some
one_lane counts others (suc count) w lane phase phases later ready backed some =
    one_turn w lane count counts phase phases later (is_over w) refl ready backed
    (λ still kept left. one_lane counts others count (robin w lane) lane phase phases later still kept left)

pub runs_round : (counts : List ℕ) → RunsRound counts
runs_round [] w lane phase phases later ready backed some = absurd (false≢true some)
runs_round (count ∷ counts) w lane phase phases later ready backed some =
    one_lane counts (runs_round counts) count w lane phase phases later ready backed some

ready_if : (over : Bool) (w v : WorldState) → IsReady w → IsReady v → IsReady (cond over w v)
ready_if true w v g h = g
ready_if false w v g h = h

ready_turns_on : (w : WorldState) (lane count : ℕ) → IsReady w → IsReady (turns_on w lane count)
ready_turns_on w lane zero ready = ready
ready_turns_on w lane (suc count) ready =
    ready_if (is_over w) w (turns_on (robin w lane) lane count) ready (ready_turns_on (robin w lane) lane count (ready_turn w lane ready))

pub ready_round_from : (w : WorldState) (lane : ℕ) (counts : List ℕ) → IsReady w → IsReady (round_from w lane counts)
ready_round_from w lane [] ready = ready
ready_round_from w lane (count ∷ counts) ready = ready_round_from (turns_on w lane count) (lane + 1) counts (ready_turns_on w lane count ready)

-- the turns of what is left of a round are in the schedule
abbrev SchedulesRoundOf : WorldState → ℕ → List ℕ → List Turn → Type 0
SchedulesRoundOf w lane counts later = schedule_of (round_from w lane counts).turns ++ later ≡ schedule_of w.turns ++ then_round w lane counts later

abbrev SchedulesRound : List ℕ → Type 0
SchedulesRound counts =
    (w : WorldState) (lane : ℕ) (later : List Turn) → IsReady w → Backed w lane counts → SchedulesRoundOf w lane counts later

schedules_turn : (w : WorldState) (lane count : ℕ) (counts : List ℕ) (later : List Turn) (over : Bool) → is_over w ≡ over → IsReady w → Backed w lane (suc count ∷ counts)
    → (IsReady (robin w lane) → Backed (robin w lane) lane (count ∷ counts) → SchedulesRoundOf (robin w lane) lane (count ∷ counts) later)
    → SchedulesRoundOf w lane (suc count ∷ counts) later
schedules_turn w lane count counts later true over ready backed goes_on =
    ap (λ v. schedule_of v.turns ++ later) (round_from-over w lane (suc count ∷ counts) over)
    ∙ ap (λ ts. schedule_of w.turns ++ ts) (sym (then_round-over w lane (suc count ∷ counts) later over))
schedules_turn w lane count counts later false within ready backed goes_on =
    let f = front w lane (omega (arith, backed.0)) in
    let v = robin w lane in
    ap (λ u. schedule_of u.turns ++ later) (round_from-step w lane count counts within)
    ∙ goes_on (ready_turn w lane ready) (Backed-turn w lane count counts ready f backed)
    ∙ ap (λ ts. ts ++ then_round v lane (count ∷ counts) later) (turn_scheduled w lane (longest w lane) f.item f.others ready.wired f.is)
    ∙ append_assoc (schedule_of w.turns) (turn_on w lane ∷ []) (then_round v lane (count ∷ counts) later)
    ∙ ap (λ ts. schedule_of w.turns ++ ts) (sym (then_round-step w lane count counts later within))

schedules_lane : (counts : List ℕ) → SchedulesRound counts → (count : ℕ) → SchedulesRound (count ∷ counts)
schedules_lane counts others zero w lane later ready backed = others w (lane + 1) later ready backed.1
schedules_lane counts others (suc count) w lane later ready backed =
    schedules_turn w lane count counts later (is_over w) refl ready backed
    (λ still kept. schedules_lane counts others count (robin w lane) lane later still kept)

pub schedules_round : (counts : List ℕ) → SchedulesRound counts
schedules_round [] w lane later ready backed = refl
schedules_round (count ∷ counts) w lane later ready backed = schedules_lane counts (schedules_round counts) count w lane later ready backed

at_drop : (lanes : List (List Stamped)) (lane : ℕ) (first : List Stamped) (rest : List (List Stamped)) → drop lane lanes ≡ first ∷ rest → (get_or lanes lane [] ≡ first) × (drop (suc lane) lanes ≡ rest)
at_drop [] zero first rest e = cc
at_drop [] (suc lane) first rest e = cc
at_drop (l ∷ lanes) zero first rest e = (cc, cc)
at_drop (l ∷ lanes) (suc lane) first rest e = at_drop lanes lane first rest e

Backed-lanes : (w : WorldState) (lane : ℕ) (lanes : List (List Stamped)) → drop lane w.lanes ≡ lanes → Backed w lane (map length lanes)
Backed-lanes w lane [] e = tt
Backed-lanes w lane (first ∷ rest) e =
    let at = at_drop w.lanes lane first rest e in (omega (arith, ap length at.0), Backed-lanes w (lane + 1) rest (ap (λ n. drop n w.lanes) (add-one lane) ∙ at.1))

-- as a round begins, what is counted waits
pub Backed-all : (w : WorldState) → Backed w 0 (map length w.lanes)
Backed-all w = Backed-lanes w 0 w.lanes refl

some_waits : (lanes : List (List Stamped)) → list_all is_empty lanes ≡ false → some_left (map length lanes) ≡ true
some_waits [] e = absurd (false≢true (sym e))
some_waits ([] ∷ lanes) e = some_waits lanes e
some_waits ((s ∷ others) ∷ lanes) e = refl

-- a round of a world in which an item waits
pub round_runs : (w : WorldState) (phase : Phase) (phases : List Phase) (later : List Turn) → IsReady w → is_drained w ≡ false
    → run_from (record { world = w; unsettled = phase ∷ phases }) (then_round w 0 (map length w.lanes) later) ≡ run_from (advance (round w) (phase ∷ phases)) later
unfolding round
round_runs w phase phases later ready waits = runs_round (map length w.lanes) w 0 phase phases later ready (Backed-all w) (some_waits w.lanes waits)

pub round_schedules : (w : WorldState) (later : List Turn) → IsReady w
    → schedule_of (round w).turns ++ later ≡ schedule_of w.turns ++ then_round w 0 (map length w.lanes) later
unfolding round
round_schedules w later ready = schedules_round (map length w.lanes) w 0 later ready (Backed-all w)

pub ready_round : (w : WorldState) → IsReady w → IsReady (round w)
unfolding round
ready_round w ready = ready_round_from w 0 (map length w.lanes) ready
