-- A world starts sound, and its turns, issues and settles keep it so.
use Rattle.std.proofs.Common.{◌≡◌, ℕ, ◌+◌, ◌<◌, ◌≤◌, ◌^◌, inl, inr, List, [], ◌∷◌, Some, false, length, map, get_or, set, replicate, refl, sym, ap, ◌∙◌, subst, arith, length-set}
use Rattle.std.specs.Prelude.{All, slice_get}
use Rattle.std.proofs.lemmas.Bool.{cases_lt, false≢true}
use Rattle.std.proofs.lemmas.List.{length-map, length-replicate, get_or_past}
use Rattle.std.proofs.lemmas.List.Elements.{All-nil, All-cons, All-set, All-get_or, All-same, All-head, All-tail, All-weaker, All-replicate, All-map}
use Rattle.or_base.specs.declared.item.Stamped.{Stamped}
use Rattle.or_base.specs.declared.kind.Kind.{Kind}
use Rattle.or_base.specs.TurnDone.{TurnDone}
use Rattle.net_record.specs.declared.role.Role.{Role}
use Rattle.net_record.specs.declared.wire.Wire.{Wire}
use Rattle.net_record.specs.declared.actor.ActorState.{ActorState}
use Rattle.net_record.specs.declared.record.SettleDone.{SettleDone}
use Rattle.net_record.specs.Wired.{JoinsBelow, IsWired}
use Rattle.net_record.specs.Actors.{new_actor, entry_counts, actor_after_settle, actors_after_settle}
use Rattle.net_record.specs.World.{WorldState, is_empty, driver_clock, greatest_clock}
use Rattle.net_world.specs.Acting.{made_from, actors_after}
use Rattle.net_world.proofs.Acted.{clocks_weaker, stamp_most, length-after, clocks_after}
use Rattle.net_world.specs.Sound.{IsSoundItem, IsSoundLane, IsAtMost, IsClockedBelow, StaySound, StayClocked, IsSound, done_in}

-- what is sound up to a bound is so up to a greater one
pub lanes_weaker : (m n : ℕ) (lanes : List (List Stamped)) → m ≤ n → All (IsSoundLane m) lanes → All (IsSoundLane n) lanes
lanes_weaker m n lanes h =
    All-weaker (IsSoundLane m) (IsSoundLane n)
    (λ items. All-weaker (IsSoundItem m) (IsSoundItem n) (λ s sound. (omega (arith, sound.0), sound.1)) items) lanes

-- a lane on which an item waits is there
pub within_waiting : (lanes : List (List Stamped)) (lane : ℕ) → is_empty (get_or lanes lane []) ≡ false → lane < length lanes
within_waiting lanes lane waits =
    elim (cases_lt lane (length lanes)) [
      | inl within ↦ within
      | inr past ↦ absurd (false≢true (sym waits ∙ ap is_empty (get_or_past lanes lane [] past)))
    ]

-- and so is one on which this item waits longest
pub within_front : (lanes : List (List Stamped)) (lane : ℕ) (s : Stamped) → Some s ≡ slice_get (get_or lanes lane []) 0 → lane < length lanes
within_front lanes lane s first =
    elim (cases_lt lane (length lanes)) [
      | inl within ↦ within
      | inr past ↦ cc (first ∙ ap (λ items. slice_get items 0) (get_or_past lanes lane [] past))
    ]

-- the items of one lane
lane_sound : (most lane : ℕ) (lanes : List (List Stamped)) (s : Stamped) (others : List Stamped) → get_or lanes lane [] ≡ s ∷ others → All (IsSoundLane most) lanes
    → All (IsSoundItem most) (s ∷ others)
lane_sound most lane lanes s others e all =
    All-same (IsSoundItem most) (s ∷ others) (get_or lanes lane []) (sym e)
    (All-get_or (IsSoundLane most) lanes lane [] (within_waiting lanes lane (ap is_empty e)) all)

-- the item that is taken from a lane
pub taken_sound : (most lane : ℕ) (lanes : List (List Stamped)) (s : Stamped) (others : List Stamped) → get_or lanes lane [] ≡ s ∷ others → All (IsSoundLane most) lanes → IsSoundItem most s
taken_sound most lane lanes s others e all = All-head (IsSoundItem most) s others (lane_sound most lane lanes s others e all)

-- the lanes without that item
pub left_sound : (most lane : ℕ) (lanes : List (List Stamped)) (s : Stamped) (others : List Stamped) → get_or lanes lane [] ≡ s ∷ others → All (IsSoundLane most) lanes
    → All (IsSoundLane most) (set lanes lane others)
left_sound most lane lanes s others e all =
    All-set (IsSoundLane most) lanes lane others (All-tail (IsSoundItem most) s others (lane_sound most lane lanes s others e all)) all

-- the same lanes and readers, with other items, actors and turns
wired_with : (w : WorldState) (lanes : List (List Stamped)) (actors : List ActorState) (turns : List TurnDone) (settles : List SettleDone) → IsWired w → length lanes ≡ length w.lanes
    → length actors ≡ length w.actors → IsWired (record { wires = w.wires; lanes = lanes; actors = actors; turns = turns; settles = settles })
wired_with w lanes actors turns settles wired e h = record {
  as_many = e ∙ wired.as_many;
  ends = subst (λ n. All (JoinsBelow n) w.wires) (sym h) wired.ends;
}

sound_with : (w : WorldState) (most : ℕ) (lanes : List (List Stamped)) (actors : List ActorState) (turns : List TurnDone) (settles : List SettleDone) → IsSound w
    → length lanes ≡ length w.lanes → length actors ≡ length w.actors → most ≡ length turns + length settles → All (IsSoundLane most) lanes → All (IsClockedBelow most) actors
    → IsSound (record { wires = w.wires; lanes = lanes; actors = actors; turns = turns; settles = settles })
sound_with w most lanes actors turns settles sound e h n items clocks = record {
  wired = wired_with w lanes actors turns settles sound.wired e h;
  few = sound.few;
  items = subst (λ m. All (IsSoundLane m) lanes) n items;
  clocks = subst (λ m. All (IsClockedBelow m) actors) n clocks;
}

-- the reader of a lane
pub reader_there : (w : WorldState) (lane reader : ℕ) (d : Wire) → IsSound w → lane < length w.lanes → reader ≡ (get_or w.wires lane d).reader → reader < length w.actors
reader_there w lane reader d sound within is =
    subst (λ n. n < length w.actors) (sym is)
    (All-get_or (JoinsBelow (length w.actors)) w.wires lane d (omega (arith, within, sound.wired.as_many)) sound.wired.ends).reader

-- a world without an item that was taken
pub sound_left : (w : WorldState) (lane : ℕ) (s : Stamped) (others : List Stamped) (lanes : List (List Stamped)) (turns : List TurnDone) → IsSound w
    → get_or w.lanes lane [] ≡ s ∷ others → lanes ≡ set w.lanes lane others → length turns ≡ length w.turns
    → IsSound (record { wires = w.wires; lanes = lanes; actors = w.actors; turns = turns; settles = w.settles })
sound_left w lane s others lanes turns sound e left n =
    sound_with w (done_in w) lanes w.actors turns w.settles sound (ap length left ∙ length-set w.lanes lane others) refl (omega arith)
    (All-same (IsSoundLane (done_in w)) lanes (set w.lanes lane others) left (left_sound (done_in w) lane w.lanes s others e sound.items)) sound.clocks

-- the same, with actors that kept their clocks
pub sound_kept : (w : WorldState) (lane : ℕ) (s : Stamped) (others : List Stamped) (lanes : List (List Stamped)) (turns : List TurnDone) (actors : List ActorState) → IsSound w
    → get_or w.lanes lane [] ≡ s ∷ others → lanes ≡ set w.lanes lane others → length turns ≡ length w.turns → StayClocked w.actors actors
    → IsSound (record { wires = w.wires; lanes = lanes; actors = actors; turns = turns; settles = w.settles })
sound_kept w lane s others lanes turns actors sound e left n stay =
    sound_with w (done_in w) lanes actors turns w.settles sound (ap length left ∙ length-set w.lanes lane others) stay.len (omega (arith, n))
    (All-same (IsSoundLane (done_in w)) lanes (set w.lanes lane others) left (left_sound (done_in w) lane w.lanes s others e sound.items))
    (stay.clocks (done_in w) sound.clocks)

-- the world after a turn
pub sound_turn : (w : WorldState) (lane reader : ℕ) (s : Stamped) (others : List Stamped) (left lanes : List (List Stamped)) (turns : List TurnDone) (actors : List ActorState) (at stamp : ℕ)
    → IsSound w → get_or w.lanes lane [] ≡ s ∷ others → left ≡ set w.lanes lane others → length turns ≡ length w.turns + 1
    → reader < length w.actors → actors ≡ actors_after w.actors reader (made_from w.actors reader lane at s) → stamp ≡ (made_from w.actors reader lane at s).stamp
    → length lanes ≡ length left → StaySound stamp left lanes
    → IsSound (record { wires = w.wires; lanes = lanes; actors = actors; turns = turns; settles = w.settles })
sound_turn w lane reader s others left lanes turns actors at stamp sound e is n there became stamped len stay =
    let taken : IsSoundItem (done_in w) s = taken_sound (done_in w) lane w.lanes s others e sound.items in
    let m = made_from w.actors reader lane at s in
    let own = stamp_most (done_in w) w.actors reader lane at s there taken.0 sound.clocks in
    let most : stamp ≤ done_in w + 1 = omega (arith, stamped, own) in
    let kept : All (IsSoundLane (done_in w)) left =
    All-same (IsSoundLane (done_in w)) left (set w.lanes lane others) is (left_sound (done_in w) lane w.lanes s others e sound.items)
    in
    sound_with w (done_in w + 1) lanes actors turns w.settles sound (len ∙ ap length is ∙ length-set w.lanes lane others) (ap length became ∙ length-after w.actors reader m) (omega (arith, n))
    (stay.sound (done_in w + 1) most (lanes_weaker (done_in w) (done_in w + 1) left (omega arith) kept))
    (All-same (IsClockedBelow (done_in w + 1)) actors (actors_after w.actors reader m) became (clocks_after (done_in w) w.actors reader m own sound.clocks))

new_clocks : (kind : Kind) (all : List Role) → All (IsClockedBelow 0) (map (new_actor kind) all)
new_clocks kind all = All-map (IsClockedBelow 0) (new_actor kind) all (λ k d h. (omega arith, All-nil (IsAtMost 0)))

-- the world before anything is done
pub sound_start : (kind : Kind) (wires : List Wire) (all : List Role) (lanes : List (List Stamped)) (actors : List ActorState) (turns : List TurnDone) (settles : List SettleDone)
    → length wires < 2 ^ 32 → All (JoinsBelow (length all)) wires → lanes ≡ replicate (length wires) [] → actors ≡ map (new_actor kind) all → turns ≡ [] → settles ≡ []
    → IsSound (record { wires = wires; lanes = lanes; actors = actors; turns = turns; settles = settles })
sound_start kind wires all lanes actors turns settles few readers e h t s = record {
  wired = record {
    as_many = ap length e ∙ length-replicate (length wires) [];
    ends = subst (λ n. All (JoinsBelow n) wires) (sym (ap length h ∙ length-map all (new_actor kind))) readers;
  };
  few = few;
  items = subst (λ ls. All (IsSoundLane (length turns + length settles)) ls) (sym e) (All-replicate (IsSoundLane (length turns + length settles)) (length wires) [] (All-nil (IsSoundItem (length turns + length settles))));
  clocks = clocks_weaker 0 (length turns + length settles) actors (omega arith) (subst (λ xs. All (IsClockedBelow 0) xs) (sym h) (new_clocks kind all));
}

driver_below : (n : ℕ) (actors : List ActorState) → All (IsClockedBelow n) actors → driver_clock actors ≤ n
driver_below n [] all = omega arith
driver_below n (driver ∷ others) all = (All-head (IsClockedBelow n) driver others all).0

-- the world after items are issued
pub sound_issue : (w : WorldState) (stamp : ℕ) (lanes : List (List Stamped)) → IsSound w → stamp ≡ driver_clock w.actors → length lanes ≡ length w.lanes → StaySound stamp w.lanes lanes
    → IsSound (record { wires = w.wires; lanes = lanes; actors = w.actors; turns = w.turns; settles = w.settles })
sound_issue w stamp lanes sound is len stay =
    sound_with w (done_in w) lanes w.actors w.turns w.settles sound len refl refl
    (stay.sound (done_in w) (omega (arith, is, driver_below (done_in w) w.actors sound.clocks)) sound.items) sound.clocks

-- no clock is above the turns and settles done
pub greatest_below : (n : ℕ) (actors : List ActorState) → All (IsClockedBelow n) actors → greatest_clock actors ≤ n
greatest_below n [] all = omega arith
greatest_below n (actor ∷ actors) all =
    omega (arith, (All-head (IsClockedBelow n) actor actors all).0, greatest_below n actors (All-tail (IsClockedBelow n) actor actors all))

-- the world in which desks gave their answers
pub sound_giving : (w : WorldState) (giving : List ActorState) (settles : List SettleDone) → IsSound w → StayClocked w.actors giving → length settles ≡ length w.settles
    → IsSound (record { wires = w.wires; lanes = w.lanes; actors = giving; turns = w.turns; settles = settles })
sound_giving w giving settles sound stay n =
    sound_with w (done_in w) w.lanes giving w.turns settles sound refl stay.len (omega (arith, n)) sound.items (stay.clocks (done_in w) sound.clocks)

clocks_settled : (most clock : ℕ) (lengths : List ℕ) (actors : List ActorState) → clock ≤ most → All (IsClockedBelow most) actors
    → All (IsClockedBelow most) (map (actor_after_settle clock lengths) actors)
clocks_settled most clock lengths [] h all = All-nil (IsClockedBelow most)
clocks_settled most clock lengths (actor ∷ actors) h all =
    All-cons (IsClockedBelow most) (actor_after_settle clock lengths actor) (map (actor_after_settle clock lengths) actors)
    (h, (All-head (IsClockedBelow most) actor actors all).1)
    (clocks_settled most clock lengths actors h (All-tail (IsClockedBelow most) actor actors all))

-- the world after a settle
pub sound_settle : (w : WorldState) (clock : ℕ) (giving actors : List ActorState) (settles : List SettleDone) → IsSound w
    → clock ≡ greatest_clock w.actors + 1 → StayClocked w.actors giving → actors ≡ actors_after_settle clock giving → length settles ≡ length w.settles + 1
    → IsSound (record { wires = w.wires; lanes = w.lanes; actors = actors; turns = w.turns; settles = settles })
sound_settle w clock giving actors settles sound is stay set_to n =
    let most = done_in w + 1 in
    let kept = clocks_weaker (done_in w) most giving (omega arith) (stay.clocks (done_in w) sound.clocks) in
    sound_with w most w.lanes actors w.turns settles sound refl (ap length set_to ∙ length-map giving (actor_after_settle clock (entry_counts giving)) ∙ stay.len) (omega (arith, n))
    (lanes_weaker (done_in w) most w.lanes (omega arith) sound.items)
    (All-same (IsClockedBelow most) actors (actors_after_settle clock giving) set_to
    (clocks_settled most clock (entry_counts giving) giving (omega (arith, is, greatest_below (done_in w) w.actors sound.clocks)) kept))
