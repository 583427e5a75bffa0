-- In a turn a store's journal stays what Decision took of it, with what waits for Decision behind that.
use Rattle.std.proofs.Common.{◌≡◌, ℕ, ◌<◌, inl, inr, List, [], ◌∷◌, ◌++◌, Some, true, length, get_or, set, refl, sym, ap, ◌∙◌, subst, arith, append_assoc, length-set, get_or-set_same, get_or-set_other}
use Rattle.std.specs.Prelude.{slice_get}
use Rattle.std.specs.List.{Contains}
use Rattle.std.proofs.lemmas.Bool.{cases_eq, cases_lt}
use Rattle.std.proofs.lemmas.List.{get_or_past}
use Rattle.std.proofs.lemmas.Option.{slice_get-get_or}
use Rattle.or_base.specs.declared.entry.JournalEntry.{JournalEntry}
use Rattle.or_base.specs.declared.item.Item.{Item}
use Rattle.or_base.specs.declared.item.Stamped.{Stamped}
use Rattle.or_base.specs.declared.kind.Kind.TheVariants.{Full}
use Rattle.or_base.proofs.Members.{Contains-first}
use Rattle.or_actor.specs.Ports.{decision_port}
use Rattle.or_actor.specs.Steps.{TurnMade}
use Rattle.kv_store.specs.Store.{StoreState}
use Rattle.net_laboratory.specs.Scenario.{Laboratory}
use Rattle.net_laboratory.specs.Sound.{is_sound}
use Rattle.net_record.specs.declared.role.NodeModule.TheVariants.{Store as StoreRole, Decision as DecisionRole}
use Rattle.net_record.specs.declared.role.NodeSetup.{NodeSetup}
use Rattle.net_record.specs.declared.role.Role.TheVariants.{Node}
use Rattle.net_record.specs.declared.kinds.AnyModule.TheVariants.{Store, Decision, Link}
use Rattle.net_record.specs.declared.part.Part.{Part}
use Rattle.net_record.specs.declared.part.Part.TheVariants.{Driver, Desk, Module}
use Rattle.net_record.specs.declared.actor.ActorState.{ActorState}
use Rattle.net_record.specs.declared.wire.Wire.{Wire}
use Rattle.net_record.specs.Roles.{roles}
use Rattle.net_record.specs.Wires.{wires, lane_of}
use Rattle.net_record.specs.Kinds.{module_step}
use Rattle.net_record.specs.Actors.{no_actor, actor_at, store_of, entries_of, part_step, actor_after, outputs_of}
use Rattle.net_record.specs.World.{WorldState, waiting, turn_of, reader_of, deliver}
use Rattle.net_record.proofs.Found.{there as stands_there}
use Rattle.net_agree.specs.Routed.{IsOf, IsRouted}
use Rattle.net_answers.proofs.FollowingLanes.{IsFeed, feed_writer, feed_only, feed_apart, feed_there}
use Rattle.net_answers.proofs.FollowingSends.{entry_in, entries_by, store_tells, decision_takes}
use Rattle.net_answers.proofs.FollowingWay.{entries_on, way_other, way_own, AreNamed}

-- the entries that the actor with this number has
abbrev pub had : List ActorState → ℕ → List JournalEntry
had actors number = entries_of (actor_at actors number).part

-- The journal of the store is what Decision took, and behind it what waits on the lane.
abbrev pub IsFed : List ActorState → List (List Stamped) → ℕ → ℕ → ℕ → Type 0
IsFed actors lanes store decision lane = had actors store ≡ had actors decision ++ entries_on (get_or lanes lane [])

-- ---- one actor

store_part : (part : Part) (name : List ℕ) (setup : NodeSetup) (lane : ℕ) (item : Item) (at : ℕ) → IsOf part (Node StoreRole name setup) → ((s : StoreState) → store_of part ≡ Some s → s.kind ≡ Full)
    → entries_of (part_step part lane item at).0 ≡ entries_of part ++ entries_by decision_port (part_step part lane item at).1
unfolding part_step module_step
store_part Driver name setup lane item at is full = cc
store_part (Desk d) name setup lane item at is full = cc
store_part (Module (Store s)) name setup lane item at is full = store_tells s item (full s refl)
store_part (Module (Link s)) name setup lane item at is full = cc
store_part (Module _) name setup lane item at is full = cc

decision_part : (part : Part) (name : List ℕ) (setup : NodeSetup) (lane : ℕ) (item : Item) (at : ℕ) → IsOf part (Node DecisionRole name setup)
    → entries_of (part_step part lane item at).0 ≡ entries_of part ++ entry_in item
unfolding part_step module_step
decision_part Driver name setup lane item at is = cc is
decision_part (Desk d) name setup lane item at is = cc is.1
decision_part (Module (Decision s)) name setup lane item at is = decision_takes s item
decision_part (Module (Link s)) name setup lane item at is = cc is
decision_part (Module _) name setup lane item at is = cc is.1

-- ---- where an item waits

lane_within : (lanes : List (List Stamped)) (lane : ℕ) (s : Stamped) (others : List Stamped) → get_or lanes lane [] ≡ s ∷ others → lane < length lanes
lane_within lanes lane s others front =
    elim (cases_lt lane (length lanes)) [
      | inl within ↦ within
      | inr past ↦ cc (get_or_past lanes lane [] past)
    ]

abbrev some_wire : Wire
some_wire = record { writer = 0; port = 0; reader = 0 }

-- ---- a turn

module _ (lab : Laboratory) (sound : is_sound lab ≡ true) (w : WorldState) (r : IsRouted (roles lab) w) (named : AreNamed w.wires w.lanes)
    (store decision lane : ℕ) (f : IsFeed lab store decision lane) (full : (s : StoreState) → store_of (actor_at w.actors store).part ≡ Some s → s.kind ≡ Full)
    (before : IsFed w.actors w.lanes store decision lane)
    (reader : ℕ) (others : List Stamped) (actor : ActorState) (m : TurnMade) (front : waiting w m.lane ≡ m.taken ∷ others) (there : slice_get w.actors reader ≡ Some actor)
    (reads : reader_of (slice_get w.wires m.lane) ≡ reader) where
  abbrev after : List ActorState
  after = set w.actors reader (actor_after actor m)

  abbrev left : List (List Stamped)
  left = set w.lanes m.lane others

  abbrev lanes_after : List (List Stamped)
  lanes_after = deliver w.wires reader m.stamp left (outputs_of actor m)

  -- whoever didn't have the turn has the same entries
  kept : (number : ℕ) → (number ≡ reader → ⊥) → had after number ≡ had w.actors number
  kept number other = ap (λ (a : ActorState). entries_of a.part) (get_or-set_other w.actors reader number (actor_after actor m) no_actor other)

  was_there : (reader < length w.actors) × (get_or w.actors reader no_actor ≡ actor)
  was_there = stands_there w.actors reader actor there

  had_before : had w.actors reader ≡ entries_of actor.part
  had_before = ap (λ (a : ActorState). entries_of a.part) was_there.1

  had_after : had after reader ≡ entries_of (actor_after actor m).part
  had_after = ap (λ (a : ActorState). entries_of a.part) (get_or-set_same w.actors reader (actor_after actor m) no_actor was_there.0)

  -- a lane of this writer, in the world and in the laboratory
  in_lab : (writer port other : ℕ) → lane_of w.wires writer port ≡ Some other → lane_of (wires (roles lab)) writer port ≡ Some other
  in_lab writer port other e = ap (λ ws. lane_of ws writer port) (sym r.lanes) ∙ e

  -- the lane is another than that of the turn, unless Decision has the turn
  other_lane : (reader ≡ decision → ⊥) → lane ≡ m.lane → ⊥
  other_lane other same =
      let here : slice_get w.wires lane ≡ Some f.wire = ap (λ ws. slice_get ws lane) r.lanes ∙ f.there in
      other (sym reads ∙ ap (λ n. reader_of (slice_get w.wires n)) (sym same) ∙ ap reader_of here ∙ f.reads)

  still : (reader ≡ decision → ⊥) → get_or left lane [] ≡ get_or w.lanes lane []
  still other = get_or-set_other w.lanes m.lane lane others [] (other_lane other)

  -- whoever isn't the store puts nothing on the lane
  puts_none : (reader ≡ store → ⊥) → get_or lanes_after lane [] ≡ get_or left lane []
  puts_none other =
      way_other w.wires reader m.stamp left (outputs_of actor m) lane
      (λ port e. other (feed_writer lab store decision lane f reader port (in_lab reader port lane e)).0)

  -- ---- of somebody else

  other_turn : (reader ≡ store → ⊥) → (reader ≡ decision → ⊥) → IsFed after lanes_after store decision lane
  other_turn no_store no_decision =
      kept store (λ same. no_store (sym same)) ∙ before
      ∙ ap (λ es. es ++ entries_on (get_or w.lanes lane [])) (sym (kept decision (λ same. no_decision (sym same))))
      ∙ ap (λ items. had after decision ++ entries_on items) (sym (puts_none no_store ∙ still no_decision))

  -- ---- of the store

  store_turn : reader ≡ store → IsFed after lanes_after store decision lane
  unfolding actor_after outputs_of
  store_turn same =
      let sent = entries_by decision_port (outputs_of actor m) in
      let is = r.parts reader actor (Node StoreRole f.name f.setup) there (ap (slice_get (roles lab)) same ∙ f.from) in
      let kind : (s : StoreState) → store_of actor.part ≡ Some s → s.kind ≡ Full =
      λ s e. full s (ap (λ n. store_of (actor_at w.actors n).part) (sym same) ∙ ap (λ (a : ActorState). store_of a.part) was_there.1 ∙ e) in
      let grown : had after store ≡ had w.actors store ++ sent =
      ap (had after) (sym same) ∙ had_after ∙ store_part actor.part f.name f.setup m.lane m.taken.item m.at is kind
      ∙ ap (λ es. es ++ sent) (sym had_before ∙ ap (had w.actors) same) in
      let apart : reader ≡ decision → ⊥ = λ e. feed_apart lab store decision lane f (sym same ∙ e) in
      let by_port : lane_of w.wires reader decision_port ≡ Some lane =
      ap (λ ws. lane_of ws reader decision_port) r.lanes ∙ ap (λ n. lane_of (wires (roles lab)) n decision_port) same ∙ f.named in
      let within : lane < length left = omega (arith, feed_there lab store decision lane f, ap length r.lanes, r.as_many, length-set w.lanes m.lane others) in
      let waits : entries_on (get_or lanes_after lane []) ≡ entries_on (get_or w.lanes lane []) ++ sent =
      way_own w.wires reader m.stamp lane by_port (λ port e. (feed_writer lab store decision lane f reader port (in_lab reader port lane e)).1) left (outputs_of actor m) within
      ∙ ap (λ items. entries_on items ++ sent) (still apart) in
      grown ∙ ap (λ es. es ++ sent) before ∙ append_assoc (had w.actors decision) (entries_on (get_or w.lanes lane [])) sent
      ∙ ap (λ es. had w.actors decision ++ es) (sym waits)
      ∙ ap (λ es. es ++ entries_on (get_or lanes_after lane [])) (sym (kept decision (λ e. apart (sym e))))

  -- ---- of Decision

  -- it took the item from its lane
  its_lane : reader ≡ decision → m.lane ≡ lane
  its_lane same =
      let within = lane_within w.lanes m.lane m.taken others front in
      let wire = get_or w.wires m.lane some_wire in
      let here : slice_get w.wires m.lane ≡ Some wire = slice_get-get_or w.wires m.lane some_wire (omega (arith, within, r.as_many)) in
      let among : Contains (get_or w.lanes m.lane []) m.taken = subst (λ items. Contains items m.taken) (sym front) (Contains-first m.taken others) in
      feed_only lab store decision lane f sound m.lane wire (ap (λ ws. slice_get ws m.lane) (sym r.lanes) ∙ here)
      (sym (ap reader_of here) ∙ reads ∙ same) (in_lab wire.writer wire.port m.lane (named m.lane wire m.taken here among))

  decision_turn : reader ≡ decision → IsFed after lanes_after store decision lane
  unfolding actor_after
  decision_turn same =
      let new = entry_in m.taken.item in
      let mine = its_lane same in
      let is = r.parts reader actor (Node DecisionRole f.name f.their) there (ap (slice_get (roles lab)) same ∙ f.to) in
      let took : had after decision ≡ had w.actors decision ++ new =
      ap (had after) (sym same) ∙ had_after ∙ decision_part actor.part f.name f.their m.lane m.taken.item m.at is
      ∙ ap (λ es. es ++ new) (sym had_before ∙ ap (had w.actors) same) in
      let apart : reader ≡ store → ⊥ = λ e. feed_apart lab store decision lane f (sym e ∙ same) in
      let waits : get_or lanes_after lane [] ≡ others =
      puts_none apart ∙ ap (λ n. get_or left n []) (sym mine) ∙ get_or-set_same w.lanes m.lane others [] (lane_within w.lanes m.lane m.taken others front) in
      let waited : entries_on (get_or w.lanes lane []) ≡ new ++ entries_on others = ap (λ n. entries_on (get_or w.lanes n [])) (sym mine) ∙ ap entries_on front in
      kept store (λ e. apart (sym e)) ∙ before ∙ ap (λ es. had w.actors decision ++ es) waited
      ∙ sym (append_assoc (had w.actors decision) new (entries_on others))
      ∙ ap (λ es. es ++ entries_on others) (sym took)
      ∙ ap (λ items. had after decision ++ entries_on items) (sym waits)

  -- ---- of anybody

  fed_after : IsFed after lanes_after store decision lane
  fed_after =
      elim (cases_eq reader store) [
        | inl same ↦ store_turn same
        | inr other ↦ elim (cases_eq reader decision) [
          | inl same ↦ decision_turn same
          | inr another ↦ other_turn other another
        ]
      ]

  pub fed_turn : IsFed (turn_of w reader others actor m).actors (turn_of w reader others actor m).lanes store decision lane
  unfolding turn_of
  fed_turn = fed_after
