-- What one turn does, in a world whose lanes and readers are there.
use Rattle.std.proofs.Common.{◌≡◌, ◌≢◌, ℕ, ◌<◌, ◌≤◌, inl, inr, List, [], ◌∷◌, ◌++◌, Option, Some, None, length, get_or, set, refl, sym, ◌∙◌, ap, subst, arith, length-set, get_or-set_same, get_or-set_other}
use Rattle.std.specs.Prelude.{slice_get, All}
use Rattle.std.proofs.lemmas.Bool.{cases_lt}
use Rattle.std.proofs.lemmas.List.{get_or_past, map_push}
use Rattle.std.proofs.lemmas.Option.{slice_get-get_or}
use Rattle.or_base.specs.declared.item.Stamped.{Stamped}
use Rattle.or_base.specs.TurnDone.{TurnDone}
use Rattle.or_actor.specs.Steps.{TurnMade, turn_done}
use Rattle.net_laboratory.specs.declared.schedule.Turn.{Turn}
use Rattle.net_record.specs.declared.wire.Wire.{Wire}
use Rattle.net_record.specs.declared.actor.ActorState.{ActorState}
use Rattle.net_record.specs.Actors.{no_actor, made_by, outputs_of, actor_after}
use Rattle.net_record.specs.World.{WorldState, waiting, turn, turn_of, turn_by, reader_of}
use Rattle.net_record.specs.Run.{schedule_of}
use Rattle.net_record.specs.Wired.{JoinsBelow, IsWired}
use Rattle.net_record.proofs.Delivered.{length-deliver, deliver_keeps}

abbrev some_wire : Wire
some_wire = record { writer = 0; port = 0; reader = 0 }

-- a turn that takes an item, by the actor that took it
pub record Took (w : WorldState) (lane at : ℕ) (s : Stamped) (others : List Stamped) : Type 0 where
  pub reader : ℕ
  pub actor : ActorState
  pub is : turn w lane at ≡ turn_of w reader others actor (made_by w.actors actor lane at s)

lane_within : (w : WorldState) (lane : ℕ) (s : Stamped) (others : List Stamped) → waiting w lane ≡ s ∷ others → lane < length w.lanes
lane_within w lane s others e =
    elim (cases_lt lane (length w.lanes)) [
      | inl within ↦ within
      | inr past ↦ cc (get_or_past w.lanes lane [] past)
    ]

turn_some : (w : WorldState) (lane at : ℕ) (wire : Wire) (s : Stamped) (others : List Stamped) (actor : ActorState)
    → slice_get w.wires lane ≡ Some wire → waiting w lane ≡ s ∷ others → slice_get w.actors wire.reader ≡ Some actor
    → turn w lane at ≡ turn_of w wire.reader others actor (made_by w.actors actor lane at s)
unfolding turn
turn_some w lane at wire s others actor e h k = rw (e, h, k) refl

-- where an item waits, an actor takes it
pub took : (w : WorldState) (lane at : ℕ) (s : Stamped) (others : List Stamped) → IsWired w → waiting w lane ≡ s ∷ others → Took w lane at s others
took w lane at s others wired e =
    let within : lane < length w.wires = omega (arith, lane_within w lane s others e, wired.as_many) in
    let wire = get_or w.wires lane some_wire in
    let reads : wire.reader < length w.actors = (wired.ends lane some_wire within).reader in
    let actor = get_or w.actors wire.reader no_actor in
    record {
      reader = wire.reader;
      actor = actor;
      is = turn_some w lane at wire s others actor (slice_get-get_or w.wires lane some_wire within) e (slice_get-get_or w.actors wire.reader no_actor reads);
    }

-- the ends of lanes among as many actors
pub ends_as_many : (n m : ℕ) (wires : List Wire) → n ≡ m → All (JoinsBelow n) wires → All (JoinsBelow m) wires
ends_as_many n m wires e = subst (λ k. All (JoinsBelow k) wires) e

wired_after : (w : WorldState) (reader : ℕ) (others : List Stamped) (actor : ActorState) (m : TurnMade) → IsWired w → IsWired (turn_of w reader others actor m)
unfolding turn_of
wired_after w reader others actor m wired = record {
  as_many = length-deliver w.wires reader m.stamp (set w.lanes m.lane others) (outputs_of actor m) ∙ length-set w.lanes m.lane others ∙ wired.as_many;
  ends = ends_as_many (length w.actors) (length (set w.actors reader (actor_after actor m))) w.wires (sym (length-set w.actors reader (actor_after actor m))) wired.ends;
}

wired_by : (w : WorldState) (lane at reader : ℕ) (items : List Stamped) (actor : Option ActorState) → IsWired w → IsWired (turn_by w lane at reader items actor)
wired_by w lane at reader [] actor wired = wired
wired_by w lane at reader (s ∷ others) None wired = wired
wired_by w lane at reader (s ∷ others) (Some actor) wired = wired_after w reader others actor (made_by w.actors actor lane at s) wired

-- a turn leaves lanes and their ends there
pub wired_turn : (w : WorldState) (lane at : ℕ) → IsWired w → IsWired (turn w lane at)
unfolding turn
wired_turn w lane at wired =
    let reader = reader_of (slice_get w.wires lane) in
    wired_by w lane at reader (waiting w lane) (slice_get w.actors reader) wired

kept_after : (w : WorldState) (reader : ℕ) (others : List Stamped) (actor : ActorState) (m : TurnMade) (other : ℕ) → other ≢ m.lane
    → length (waiting w other) ≤ length (waiting (turn_of w reader others actor m) other)
unfolding turn_of
kept_after w reader others actor m other h =
    omega (
      arith,
      deliver_keeps w.wires reader m.stamp (set w.lanes m.lane others) (outputs_of actor m) other,
      ap length (get_or-set_other w.lanes m.lane other others [] h),
    )

-- on the other lanes as many items wait, or more
pub turn_keeps : (w : WorldState) (lane at : ℕ) (s : Stamped) (others : List Stamped) → IsWired w → waiting w lane ≡ s ∷ others → (other : ℕ) → other ≢ lane
    → length (waiting w other) ≤ length (waiting (turn w lane at) other)
turn_keeps w lane at s others wired e other h =
    let t = took w lane at s others wired e in
    subst (λ v. length (waiting w other) ≤ length (waiting v other)) (sym t.is) (kept_after w t.reader others t.actor (made_by w.actors t.actor lane at s) other h)

left_after : (w : WorldState) (reader : ℕ) (others : List Stamped) (actor : ActorState) (m : TurnMade) → m.lane < length w.lanes
    → length others ≤ length (waiting (turn_of w reader others actor m) m.lane)
unfolding turn_of
left_after w reader others actor m within =
    omega (
      arith,
      deliver_keeps w.wires reader m.stamp (set w.lanes m.lane others) (outputs_of actor m) m.lane,
      ap length (get_or-set_same w.lanes m.lane others [] within),
    )

-- on the lane itself the other items wait, at least
pub turn_leaves : (w : WorldState) (lane at : ℕ) (s : Stamped) (others : List Stamped) → IsWired w → waiting w lane ≡ s ∷ others
    → length others ≤ length (waiting (turn w lane at) lane)
turn_leaves w lane at s others wired e =
    let t = took w lane at s others wired e in
    subst (λ v. length others ≤ length (waiting v lane)) (sym t.is) (left_after w t.reader others t.actor (made_by w.actors t.actor lane at s) (lane_within w lane s others e))

turns_after : (w : WorldState) (reader : ℕ) (others : List Stamped) (actor : ActorState) (m : TurnMade)
    → schedule_of (turn_of w reader others actor m).turns ≡ schedule_of w.turns ++ record { lane = m.lane; at = m.at } ∷ []
unfolding turn_of
turns_after w reader others actor m =
    map_push (λ (t : TurnDone). let u : Turn = record { lane = t.lane; at = t.at } in u) w.turns (turn_done m)

-- the turn is one more turn of the schedule
pub turn_scheduled : (w : WorldState) (lane at : ℕ) (s : Stamped) (others : List Stamped) → IsWired w → waiting w lane ≡ s ∷ others
    → schedule_of (turn w lane at).turns ≡ schedule_of w.turns ++ record { lane = lane; at = at } ∷ []
turn_scheduled w lane at s others wired e =
    let t = took w lane at s others wired e in
    ap (λ v. schedule_of v.turns) t.is ∙ turns_after w t.reader others t.actor (made_by w.actors t.actor lane at s)
