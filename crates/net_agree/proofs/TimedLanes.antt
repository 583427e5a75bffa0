-- Ticks on the lanes of a world, between the moments of those who read them and the last tick that the driver sent.
use Rattle.std.proofs.Common.{◌≡◌, ◌≢◌, ℕ, zero, suc, ◌<◌, ◌≤◌, inl, inr, List, [], ◌∷◌, ◌++◌, Option, Some, None, Bool, true, false, ◌==◌, length, map, get_or, set, replicate, refl, sym, ap, ◌∙◌, subst, arith, get_or-set_same, get_or-set_other}
use Rattle.std.specs.Prelude.{slice_get, unwrap_or}
use Rattle.std.specs.Option.{option_map_or}
use Rattle.std.proofs.lemmas.Bool.{cases_eq, cases_lt}
use Rattle.std.proofs.lemmas.List.{set_past, get_or_past}
use Rattle.or_base.specs.declared.item.Item.{Item}
use Rattle.or_base.specs.declared.item.Stamped.{Stamped}
use Rattle.or_base.specs.declared.kind.Kind.{Kind}
use Rattle.or_actor.specs.declared.output.Output.{Output}
use Rattle.or_actor.specs.declared.output.Output.TheVariants.{To}
use Rattle.or_actor.specs.Steps.{TurnMade}
use Rattle.kv_store.specs.Store.{StoreState, new_store}
use Rattle.net_laboratory.specs.Scenario.{Laboratory}
use Rattle.net_record.specs.declared.role.Role.{Role}
use Rattle.net_record.specs.declared.wire.Wire.{Wire}
use Rattle.net_record.specs.declared.actor.ActorState.{ActorState}
use Rattle.net_record.specs.Roles.{roles}
use Rattle.net_record.specs.Wires.{wires, lane_of}
use Rattle.net_record.specs.Actors.{no_actor, new_actor, store_of, made_by, actor_after, outputs_of}
use Rattle.net_record.specs.World.{WorldState, start, put, deliver, reader_of, waiting, turn, turn_of, turn_by, driver_clock, issue, settle}
use Rattle.net_agree.proofs.CountedStores.{store_at, IsAfter, starts_new, actor_stepped, stores_settled}
use Rattle.net_agree.proofs.TimedTicks.{tick_of, moment_past, AreBetween, HaveNoTicks, between_rises, between_push, between_until, between_from, between_none, none_push, AreSentBetween, SendNoTicks, sent_rises, sent_none}
use Rattle.net_agree.proofs.TimedOutputs.{part_sends_none, moment_stepped}
use Rattle.net_agree.proofs.TimedWires.{is_driven, one_from_driver, is_writers}

-- the moment of the store that the actor with this number is; 0 where it is none
abbrev pub moment_at : List ActorState → ℕ → ℕ
moment_at actors number = option_map_or (λ (s : StoreState). s.moment) (store_at actors number) 0

-- the ticks on a lane don't go back and are between two moments; there are none on one that isn't the driver's
pub record IsTimely (from until : ℕ) (driven : Bool) (items : List Stamped) : Type 0 where
  pub between : AreBetween from until items
  pub none : driven ≡ false → HaveNoTicks items

-- these items on a lane are, from the moment of the lane's reader on
abbrev pub IsLaneTimely : List Wire → List ActorState → ℕ → ℕ → List Stamped → Type 0
IsLaneTimely lanes actors until lane items = IsTimely (moment_at actors (reader_of (slice_get lanes lane))) until (is_driven (slice_get lanes lane)) items

abbrev pub AreTimely : List Wire → List ActorState → ℕ → List (List Stamped) → Type 0
AreTimely lanes actors until items = (lane : ℕ) → IsLaneTimely lanes actors until lane (get_or items lane [])

-- in a world of actors with these roles no tick was sent to a later moment
pub record KeepsTime (all : List Role) (until : ℕ) (w : WorldState) : Type 0 where
  pub wires : w.wires ≡ wires all
  pub lanes : AreTimely w.wires w.actors until w.lanes
  pub stores : (number : ℕ) → moment_at w.actors number ≤ until

-- ---- items that are put on lanes

timely_until : (from until later : ℕ) (driven : Bool) (items : List Stamped) → IsTimely from until driven items → until ≤ later → IsTimely from later driven items
timely_until from until later driven items h k = record { between = between_until from until later items h.between k; none = h.none }

timely_push : (from until : ℕ) (driven : Bool) (items : List Stamped) (s : Stamped) → IsTimely from until driven items → until ≤ moment_past until s.item
    → (driven ≡ false → tick_of s.item ≡ None) → IsTimely from (moment_past until s.item) driven (items ++ s ∷ [])
timely_push from until driven items s h k none =
    record { between = between_push from until items s h.between k; none = λ e. none_push items s (h.none e) (none e) }

put_timely : (lanes : List Wire) (actors : List ActorState) (until : ℕ) (items : List (List Stamped)) (to : Option ℕ) (s : Stamped) → AreTimely lanes actors until items
    → until ≤ moment_past until s.item → ((lane : ℕ) → to ≡ Some lane → is_driven (slice_get lanes lane) ≡ false → tick_of s.item ≡ None)
    → AreTimely lanes actors (moment_past until s.item) (put items to s)
put_timely lanes actors until items None s h k none lane =
    timely_until (moment_at actors (reader_of (slice_get lanes lane))) until (moment_past until s.item) (is_driven (slice_get lanes lane)) (get_or items lane []) (h lane) k
put_timely lanes actors until items (Some to) s h k none lane =
    let later = moment_past until s.item in
    let pushed = get_or items to [] ++ s ∷ [] in
    let at = IsLaneTimely lanes actors later in
    let as_before : AreTimely lanes actors later items =
    λ l. timely_until (moment_at actors (reader_of (slice_get lanes l))) until later (is_driven (slice_get lanes l)) (get_or items l []) (h l) k in
    elim (cases_eq lane to) [
      | inl same ↦
          subst (λ l. at l (get_or (set items to pushed) l [])) (sym same)
          (elim (cases_lt to (length items)) [
            | inl within ↦
                subst (at to) (sym (get_or-set_same items to pushed [] within))
                (timely_push (moment_at actors (reader_of (slice_get lanes to))) until (is_driven (slice_get lanes to)) (get_or items to []) s (h to) k (none to refl))
            | inr past ↦ subst (λ others. at to (get_or others to [])) (sym (set_past items to pushed past)) (as_before to)
          ])
      | inr other ↦ subst (at lane) (sym (get_or-set_other items to lane pushed [] other)) (as_before lane)
    ]

deliver_timely : (lanes : List Wire) (actors : List ActorState) (writer stamp from until : ℕ) (items : List (List Stamped)) (outputs : List Output)
    → AreTimely lanes actors from items → AreSentBetween from until outputs → ((writer == 0) ≡ false → SendNoTicks outputs)
    → AreTimely lanes actors until (deliver lanes writer stamp items outputs)
deliver_timely lanes actors writer stamp from until items [] h sent none = λ lane.
    timely_until (moment_at actors (reader_of (slice_get lanes lane))) from until (is_driven (slice_get lanes lane)) (get_or items lane []) (h lane) sent
deliver_timely lanes actors writer stamp from until items (To port item ∷ outputs) h sent none =
    let s : Stamped = record { stamp = stamp; item = item } in
    deliver_timely lanes actors writer stamp (moment_past from item) until (put items (lane_of lanes writer port) s) outputs
    (put_timely lanes actors from items (lane_of lanes writer port) s h sent.0 (λ lane e d. (none (sym (is_writers lanes writer port lane e) ∙ d)).0))
    sent.1 (λ e. (none e).1)

-- ---- the moments of stores in a turn

after_moment : (actors : List ActorState) (reader : ℕ) (item : Item) (number : ℕ) (s : StoreState) → moment_at actors number ≤ moment_past (moment_at actors number) item
    → IsAfter actors reader item number s → s.moment ≤ moment_past (moment_at actors number) item
after_moment actors reader item number s rises (inl same) =
    omega (arith, rises, ap (λ o. option_map_or (λ (t : StoreState). t.moment) o 0) same)
after_moment actors reader item number s rises (inr (is, before, was, after)) =
    let moment = ap (λ (t : StoreState). t.moment) after ∙ moment_stepped before item in
    let same = ap (λ o. moment_past (option_map_or (λ (t : StoreState). t.moment) o 0) item) was in
    omega (arith, moment, same)

store_moment : (actors : List ActorState) (reader : ℕ) (item : Item) (number : ℕ) (store : Option StoreState) → moment_at actors number ≤ moment_past (moment_at actors number) item
    → ((s : StoreState) → store ≡ Some s → IsAfter actors reader item number s)
    → option_map_or (λ (s : StoreState). s.moment) store 0 ≤ moment_past (moment_at actors number) item
store_moment actors reader item number None rises after = omega arith
store_moment actors reader item number (Some s) rises after = after_moment actors reader item number s rises (after s refl)

-- the moment is at most that of the tick which the turn took
moment_next : (actors : List ActorState) (reader : ℕ) (actor : ActorState) (m : TurnMade) (number : ℕ) → slice_get actors reader ≡ Some actor
    → moment_at actors number ≤ moment_past (moment_at actors number) m.taken.item
    → moment_at (set actors reader (actor_after actor m)) number ≤ moment_past (moment_at actors number) m.taken.item
moment_next actors reader actor m number e rises =
    store_moment actors reader m.taken.item number (store_at (set actors reader (actor_after actor m)) number) rises (λ s is. actor_stepped actors reader actor m number s e is)

-- that of another store stays
moment_stays : (actors : List ActorState) (reader : ℕ) (after : ActorState) (number : ℕ) → number ≢ reader → moment_at (set actors reader after) number ≡ moment_at actors number
moment_stays actors reader after number other =
    ap (λ (a : ActorState). option_map_or (λ (s : StoreState). s.moment) (store_of a.part) 0) (get_or-set_other actors reader number after no_actor other)

-- ---- one turn

-- another lane of the reader, whose moment is now the next one: where a tick was taken, it was of the driver's lane, and no other is
beside : (from next until : ℕ) (tick : Option ℕ) (own driven : Bool) (items : List Stamped) → IsTimely from until driven items → next ≤ unwrap_or tick from → unwrap_or tick from ≤ until
    → (own ≡ false → tick ≡ None) → (own ≡ true → driven ≡ true → ⊥) → IsTimely next until driven items
beside from next until None own driven items h k l none apart = record { between = between_from next from until items h.between k; none = h.none }
beside from next until (Some at) false driven items h k l none apart = absurd (cc (none refl))
beside from next until (Some at) true true items h k l none apart = absurd (apart refl refl)
beside from next until (Some at) true false items h k l none apart =
    record { between = between_none next until items (h.none refl) (omega (arith, k, l)); none = h.none }

within_lanes : (items : List (List Stamped)) (lane : ℕ) (s : Stamped) (others : List Stamped) → get_or items lane [] ≡ s ∷ others → lane < length items
within_lanes items lane s others e =
    elim (cases_lt lane (length items)) [
      | inl within ↦ within
      | inr past ↦ absurd (cc (sym e ∙ get_or_past items lane [] past))
    ]

module _ (all : List Role) (until : ℕ) (w : WorldState) (h : KeepsTime all until w) (reader : ℕ) (actor : ActorState) (m : TurnMade) (others : List Stamped)
    (reads : reader_of (slice_get w.wires m.lane) ≡ reader) (waits : waiting w m.lane ≡ m.taken ∷ others) (there : slice_get w.actors reader ≡ Some actor) where
  own_lane : IsTimely (moment_at w.actors reader) until (is_driven (slice_get w.wires m.lane)) (m.taken ∷ others)
  own_lane =
      subst (λ n. IsTimely (moment_at w.actors n) until (is_driven (slice_get w.wires m.lane)) (m.taken ∷ others)) reads
      (subst (IsLaneTimely w.wires w.actors until m.lane) waits (h.lanes m.lane))

  next_moment : (number : ℕ) → number ≡ reader
      → (moment_at (set w.actors reader (actor_after actor m)) number ≤ moment_past (moment_at w.actors number) m.taken.item)
      × (moment_past (moment_at w.actors number) m.taken.item ≤ until)
  next_moment number same =
      let between = subst (λ n. AreBetween (moment_at w.actors n) until (m.taken ∷ others)) (sym same) own_lane.between in
      (moment_next w.actors reader actor m number there between.0, between_rises (moment_past (moment_at w.actors number) m.taken.item) until others between.1)

  -- the lane from which the item was taken
  own_after : IsLaneTimely w.wires (set w.actors reader (actor_after actor m)) until m.lane others
  own_after =
      let after = set w.actors reader (actor_after actor m) in
      subst (λ n. IsTimely (moment_at after n) until (is_driven (slice_get w.wires m.lane)) others) (sym reads)
      (record {
        between = between_from (moment_at after reader) (moment_past (moment_at w.actors reader) m.taken.item) until others own_lane.between.1 (next_moment reader refl).0;
        none = λ e. (own_lane.none e).1;
      })

  -- any other of its reader
  beside_after : (lane : ℕ) → lane ≢ m.lane → reader_of (slice_get w.wires lane) ≡ reader
      → IsLaneTimely w.wires (set w.actors reader (actor_after actor m)) until lane (get_or w.lanes lane [])
  beside_after lane other same =
      let number = reader_of (slice_get w.wires lane) in
      let moments = next_moment number same in
      let Apart : List Wire → Type 0 = λ lanes.
      reader_of (slice_get lanes m.lane) ≡ reader_of (slice_get lanes lane) → is_driven (slice_get lanes m.lane) ≡ true → is_driven (slice_get lanes lane) ≡ true → ⊥ in
      let apart = subst Apart (sym h.wires) (one_from_driver all m.lane lane (λ e. other (sym e))) (reads ∙ sym same) in
      beside (moment_at w.actors number) (moment_at (set w.actors reader (actor_after actor m)) number) until (tick_of m.taken.item)
      (is_driven (slice_get w.wires m.lane)) (is_driven (slice_get w.wires lane)) (get_or w.lanes lane []) (h.lanes lane) moments.0 moments.1 (λ e. (own_lane.none e).0) apart

  -- any other lane
  other_after : (lane : ℕ) → lane ≢ m.lane → IsLaneTimely w.wires (set w.actors reader (actor_after actor m)) until lane (get_or w.lanes lane [])
  other_after lane other =
      let number = reader_of (slice_get w.wires lane) in
      elim (cases_eq number reader) [
        | inl same ↦ beside_after lane other same
        | inr apart ↦
            subst (λ moment. IsTimely moment until (is_driven (slice_get w.wires lane)) (get_or w.lanes lane []))
            (sym (moment_stays w.actors reader (actor_after actor m) number apart)) (h.lanes lane)
      ]

  taken_timely : AreTimely w.wires (set w.actors reader (actor_after actor m)) until (set w.lanes m.lane others)
  taken_timely lane =
      let at = IsLaneTimely w.wires (set w.actors reader (actor_after actor m)) until in
      elim (cases_eq lane m.lane) [
        | inl same ↦
            subst (λ l. at l (get_or (set w.lanes m.lane others) l [])) (sym same)
            (subst (at m.lane) (sym (get_or-set_same w.lanes m.lane others [] (within_lanes w.lanes m.lane m.taken others waits))) own_after)
        | inr other ↦ subst (at lane) (sym (get_or-set_other w.lanes m.lane lane others [] other)) (other_after lane other)
      ]

  taken_stores : (number : ℕ) → moment_at (set w.actors reader (actor_after actor m)) number ≤ until
  taken_stores number =
      elim (cases_eq number reader) [
        | inl same ↦ let moments = next_moment number same in omega (arith, moments.0, moments.1)
        | inr other ↦ omega (arith, moment_stays w.actors reader (actor_after actor m) number other, h.stores number)
      ]

  sends_none : SendNoTicks (outputs_of actor m)
  unfolding outputs_of
  sends_none = part_sends_none actor.part m.lane m.taken.item m.at

  timed_of : KeepsTime all until (turn_of w reader others actor m)
  unfolding turn_of
  timed_of = record {
    wires = h.wires;
    lanes = deliver_timely w.wires (set w.actors reader (actor_after actor m)) reader m.stamp until until (set w.lanes m.lane others) (outputs_of actor m) taken_timely
        (sent_none until (outputs_of actor m) sends_none) (λ e. sends_none);
    stores = taken_stores;
  }

timed_by : (all : List Role) (until : ℕ) (w : WorldState) (lane at reader : ℕ) (items : List Stamped) (actor : Option ActorState) → KeepsTime all until w
    → reader_of (slice_get w.wires lane) ≡ reader → waiting w lane ≡ items → slice_get w.actors reader ≡ actor → KeepsTime all until (turn_by w lane at reader items actor)
timed_by all until w lane at reader [] actor h reads waits there = h
timed_by all until w lane at reader (s ∷ others) None h reads waits there = h
timed_by all until w lane at reader (s ∷ others) (Some actor) h reads waits there =
    timed_of all until w h reader actor (made_by w.actors actor lane at s) others reads waits there

pub timed_turn : (all : List Role) (until : ℕ) (w : WorldState) (lane at : ℕ) → KeepsTime all until w → KeepsTime all until (turn w lane at)
unfolding turn
timed_turn all until w lane at h =
    let reader = reader_of (slice_get w.wires lane) in
    timed_by all until w lane at reader (waiting w lane) (slice_get w.actors reader) h refl refl refl

-- ---- the start, issues and settles

pub timed_issue : (all : List Role) (from until : ℕ) (w : WorldState) (issues : List Output) → KeepsTime all from w → AreSentBetween from until issues
    → KeepsTime all until (issue w issues)
unfolding issue
timed_issue all from until w issues h sent = record {
  wires = h.wires;
  lanes = deliver_timely w.wires w.actors 0 (driver_clock w.actors) from until w.lanes issues h.lanes sent (λ e. absurd (cc e));
  stores = λ number. omega (arith, h.stores number, sent_rises from until issues sent);
}

moment_settled : (moment : ℕ) (asked : List ℕ) (shows : Bool) (w : WorldState) (number : ℕ) → moment_at (settle moment asked shows w).actors number ≡ moment_at w.actors number
moment_settled moment asked shows w number = ap (λ o. option_map_or (λ (s : StoreState). s.moment) o 0) (stores_settled moment asked shows w number)

settled_as : (all : List Role) (until : ℕ) (w v : WorldState) → v.wires ≡ w.wires → v.lanes ≡ w.lanes → ((number : ℕ) → moment_at v.actors number ≡ moment_at w.actors number)
    → KeepsTime all until w → KeepsTime all until v
settled_as all until w v same items moments h = record {
  wires = same ∙ h.wires;
  lanes = λ lane.
      rw (same, items, moments (reader_of (slice_get w.wires lane))) (h.lanes lane);
  stores = λ number. omega (arith, moments number, h.stores number);
}

settled_wires : (moment : ℕ) (asked : List ℕ) (shows : Bool) (w : WorldState) → ((settle moment asked shows w).wires ≡ w.wires) × ((settle moment asked shows w).lanes ≡ w.lanes)
unfolding settle
settled_wires moment asked shows w = (refl, refl)

pub timed_settle : (all : List Role) (until moment : ℕ) (asked : List ℕ) (shows : Bool) (w : WorldState) → KeepsTime all until w → KeepsTime all until (settle moment asked shows w)
timed_settle all until moment asked shows w h =
    let same = settled_wires moment asked shows w in
    settled_as all until w (settle moment asked shows w) same.0 same.1 (moment_settled moment asked shows w) h

same_at : (count lane : ℕ) (items : List Stamped) → get_or (replicate count items) lane items ≡ items
same_at zero zero items = refl
same_at zero (suc lane) items = refl
same_at (suc count) zero items = refl
same_at (suc count) (suc lane) items = same_at count lane items

moment_if_new : (kind : Kind) (store : Option StoreState) → ((s : StoreState) → store ≡ Some s → (me : List ℕ) × (s ≡ new_store kind me))
    → option_map_or (λ (s : StoreState). s.moment) store 0 ≡ 0
moment_if_new kind None new = refl
moment_if_new kind (Some s) new = ap (λ (t : StoreState). t.moment) (new s refl).1

moment_new : (kind : Kind) (all : List Role) (number : ℕ) → moment_at (map (new_actor kind) all) number ≡ 0
moment_new kind all number = moment_if_new kind (store_at (map (new_actor kind) all) number) (starts_new kind all number)

pub timed_start : (lab : Laboratory) → KeepsTime (roles lab) 0 (start lab)
timed_start lab =
    let all = roles lab in
    record {
      wires = refl;
      lanes = λ lane.
          let reader = reader_of (slice_get (wires all) lane) in
          subst (IsTimely (moment_at (map (new_actor lab.kind) all) reader) 0 (is_driven (slice_get (wires all) lane))) (sym (same_at (length (wires all)) lane []))
          (record { between = omega (arith, moment_new lab.kind all reader); none = λ e. tt });
      stores = λ number. omega (arith, moment_new lab.kind all number);
    }
