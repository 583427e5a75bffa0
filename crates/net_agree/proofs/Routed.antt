-- Every world of every run is routed.
use Rattle.std.proofs.Common.{◌≡◌, ℕ, zero, suc, ◌+◌, ◌<◌, ◌≤◌, inl, inr, List, [], ◌∷◌, Option, Some, None, true, length, get_or, set, replicate, refl, sym, ap, ◌∙◌, subst, arith, length-set, get_or-set_same, get_or-set_other, Bool}
use Rattle.std.specs.Prelude.{slice_get}
use Rattle.std.specs.List.{Contains}
use Rattle.std.proofs.lemmas.Bool.{cases_eq, cases_lt}
use Rattle.std.proofs.lemmas.List.{set_past, get_or_past, length-replicate}
use Rattle.std.proofs.lemmas.List.Elements.{All-contains, All-from_recursion}
use Rattle.std.proofs.lemmas.Option.{none-some, same_Some, slice_get-get_or, slice_get_within}
use Rattle.or_base.specs.declared.item.Item.{Item}
use Rattle.or_base.specs.declared.item.Stamped.{Stamped}
use Rattle.or_base.specs.declared.kind.Kind.{Kind}
use Rattle.or_base.proofs.Members.{Contains-first, Contains-later}
use Rattle.or_actor.specs.declared.output.Output.{Output}
use Rattle.or_actor.specs.declared.output.Output.TheVariants.{To}
use Rattle.or_actor.specs.Steps.{TurnMade}
use Rattle.kv_store.specs.Store.{StoreState}
use Rattle.spark_node.specs.Spark.{SparkState}
use Rattle.net_laboratory.specs.Scenario.{Laboratory}
use Rattle.net_record.specs.declared.role.Role.{Role}
use Rattle.net_record.specs.declared.role.Role.TheVariants.{Driver as DriverRole}
use Rattle.net_record.specs.declared.kinds.AnyModule.TheVariants.{Spark}
use Rattle.net_record.specs.declared.part.Part.TheVariants.{Module}
use Rattle.net_record.specs.declared.phase.Phase.{Phase}
use Rattle.net_record.specs.declared.actor.ActorState.{ActorState}
use Rattle.net_record.specs.declared.wire.Wire.{Wire}
use Rattle.net_record.specs.Roles.{roles}
use Rattle.net_record.specs.Wires.{has_items_for, port_of, wires}
use Rattle.net_record.specs.Phases.{phases}
use Rattle.net_record.specs.Actors.{made_by, actor_after, outputs_of, entry_counts}
use Rattle.net_record.specs.Answers.{giving_of, desks_asked}
use Rattle.net_record.specs.World.{WorldState, world_of, start, deliver, waiting, reader_of, turn_of, turn_by, turn, issue, driver_clock, settle, greatest_clock}
use Rattle.net_record.specs.Run.{begin}
use Rattle.net_record.proofs.Delivered.{length-deliver}
use Rattle.net_record.specs.Reached.{IsReached}
use Rattle.net_record.specs.Reached.IsReached.{starts, turns, settles}
use Rattle.net_agree.specs.Routed.{IsStoreAt, MayWaitFor, KnowsPeers, HearsPeers, IsRouted, RunsAreRouted}
use Rattle.net_agree.proofs.RoutedLanes.{lane_is, port_is, IsDelivered, delivered_is}
use Rattle.net_agree.proofs.RoutedSends.{quiet_may_wait, part_sends}
use Rattle.net_agree.proofs.RoutedIssues.{quiet_item, IsQuietOutput, AreQuiet, ArePhasesQuiet, quiet_laboratory}
use Rattle.net_agree.proofs.RoutedActors.{contained, AreFit, turn_fit, set_fit, start_fit, mapped_fit, all_given_fit}

-- ---- worlds

-- what waits on these lanes may wait there
abbrev MayWait : List Role → List Wire → List (List Stamped) → Type 0
MayWait all ws lanes =
    (lane : ℕ) (wire : Wire) (role : Role) (s : Stamped) → slice_get ws lane ≡ Some wire → slice_get all wire.reader ≡ Some role → Contains (get_or lanes lane []) s
    → MayWaitFor all role s.item

-- what a writer sends may wait for the readers of its lanes
abbrev MaySend : List Role → ℕ → List Output → Type 0
MaySend all writer outputs =
    (from to : Role) (reader port : ℕ) (item : Item) → slice_get all writer ≡ Some from → has_items_for from to ≡ true → port ≡ port_of from to reader
    → Contains outputs (To port item) → MayWaitFor all to item

-- so what waits after a delivery may wait
may_deliver : (all : List Role) (ws : List Wire) (writer stamp : ℕ) (lanes : List (List Stamped)) (outputs : List Output) → ws ≡ wires all → MayWait all ws lanes → MaySend all writer outputs
    → MayWait all ws (deliver ws writer stamp lanes outputs)
may_deliver all ws writer stamp lanes outputs same waits sends lane wire role s there of among =
    elim (delivered_is ws writer stamp lanes outputs lane s among) [
      | inl before ↦ waits lane wire role s there of before
      | inr sent ↦ sent_to sent
    ] where
      sent_to : IsDelivered ws writer outputs lane s.item → MayWaitFor all role s.item
      sent_to sent =
          let joins = lane_is all ws lane wire same there in
          let ends = port_is ws writer sent.port lane wire sent.on there in
          let to : joins.to ≡ role = same_Some _ _ (sym joins.reader ∙ of) in
          subst (λ r. MayWaitFor all r s.item) to
          (sends joins.from joins.to wire.reader sent.port s.item (ap (slice_get all) (sym ends.0) ∙ joins.writer) joins.joined (sym ends.1 ∙ joins.port) sent.among)

-- a world is routed where its actors are fit and its items may wait
routed_of : (all : List Role) (w : WorldState) → w.wires ≡ wires all → length w.lanes ≡ length w.wires → AreFit all w.actors → MayWait all w.wires w.lanes → IsRouted all w
routed_of all w lanes as_many h waits = record {
  lanes = lanes;
  as_many = as_many;
  actors = h.as_many;
  parts = λ number actor role there of. ((h.fit number actor role there of).is);
  items = waits;
  knows = λ number s at. (by_store number s at);
  hears = λ number actor s there is. (by_spark number actor s there is);
} where
  role_of : (number : ℕ) (actor : ActorState) → slice_get w.actors number ≡ Some actor → slice_get all number ≡ Some (get_or all number DriverRole)
  role_of number actor there =
      let within : number < length all = omega (arith, slice_get_within w.actors number actor there, h.as_many) in
      slice_get-get_or all number DriverRole within

  by_store : (number : ℕ) (s : StoreState) → IsStoreAt w number s → KnowsPeers all s
  by_store number s at = (h.fit number at.actor (get_or all number DriverRole) at.there (role_of number at.actor at.there)).knows s at.is

  by_spark : (number : ℕ) (actor : ActorState) (s : SparkState) → slice_get w.actors number ≡ Some actor → actor.part ≡ Module (Spark s) → HearsPeers all s
  by_spark number actor s there is = (h.fit number actor (get_or all number DriverRole) there (role_of number actor there)).hears s is

fit_in : (all : List Role) (w : WorldState) → IsRouted all w → AreFit all w.actors
fit_in all w r = record {
  as_many = r.actors;
  fit = λ number actor role there of.
      record {
        is = r.parts number actor role there of;
        knows = λ s is. r.knows number s (record { actor = actor; there = there; is = is });
        hears = λ s is. r.hears number actor s there is;
      };
}

-- ---- a turn

-- what waits once the front item is taken waited before
fewer_wait : (lanes : List (List Stamped)) (lane : ℕ) (s : Stamped) (others : List Stamped) (number : ℕ) (t : Stamped) → get_or lanes lane [] ≡ s ∷ others
    → Contains (get_or (set lanes lane others) number []) t → Contains (get_or lanes number []) t
fewer_wait lanes lane s others number t front among =
    elim (cases_eq number lane) [
      | inl same ↦ elim (cases_lt lane (length lanes)) [
        | inl within ↦
            let here : get_or (set lanes lane others) number [] ≡ others = ap (λ n. get_or (set lanes lane others) n []) same ∙ get_or-set_same lanes lane others [] within in
            let was : s ∷ others ≡ get_or lanes number [] = sym front ∙ ap (λ n. get_or lanes n []) (sym same) in
            subst (λ items. Contains items t) was (Contains-later s others t (subst (λ items. Contains items t) here among))
        | inr past ↦ subst (λ ls. Contains (get_or ls number []) t) (set_past lanes lane others past) among
      ]
      | inr other ↦ subst (λ items. Contains items t) (get_or-set_other lanes lane number others [] other) among
    ]

-- the front item of a lane may wait for the lane's reader
front_may : (all : List Role) (w : WorldState) (lane : ℕ) (s : Stamped) (others : List Stamped) (role : Role) (wire : Option Wire) → IsRouted all w → waiting w lane ≡ s ∷ others
    → slice_get w.wires lane ≡ wire → slice_get all (reader_of wire) ≡ Some role → MayWaitFor all role s.item
front_may all w lane s others role None r front there of = absurd (nothing (sym (get_or_past w.lanes lane [] past) ∙ front)) where
  past : length w.lanes ≤ lane
  past =
      elim (cases_lt lane (length w.wires)) [
        | inl within ↦ absurd (none-some _ (sym there ∙ slice_get-get_or w.wires lane (record { writer = 0; port = 0; reader = 0 }) within))
        | inr beyond ↦ omega (arith, beyond, r.as_many)
      ]

  nothing : [] ≡ s ∷ others → ⊥
  nothing wrong = cc
front_may all w lane s others role (Some wire) r front there of =
    r.items lane wire role s there of (subst (λ items. Contains items s) (sym front) (Contains-first s others))

actor_sends : (all : List Role) (w : WorldState) (reader : ℕ) (actor : ActorState) (m : TurnMade) → IsRouted all w → slice_get w.actors reader ≡ Some actor
    → ((role : Role) → slice_get all reader ≡ Some role → MayWaitFor all role m.taken.item) → MaySend all reader (outputs_of actor m)
unfolding outputs_of
actor_sends all w reader actor m r there may from to number port item of joined named sent =
    part_sends all actor.part from to number m.lane m.taken.item m.at port item (r.parts reader actor from there of) (contained all reader from of)
    (λ s is. r.hears reader actor s there is) (may from of) joined named sent

turn_of_routed : (all : List Role) (w : WorldState) (reader : ℕ) (others : List Stamped) (actor : ActorState) (m : TurnMade) → IsRouted all w
    → waiting w m.lane ≡ m.taken ∷ others → slice_get w.actors reader ≡ Some actor → ((role : Role) → slice_get all reader ≡ Some role → MayWaitFor all role m.taken.item)
    → IsRouted all (turn_of w reader others actor m)
unfolding turn_of actor_after
turn_of_routed all w reader others actor m r front there may =
    let lanes = set w.lanes m.lane others in
    routed_of all (turn_of w reader others actor m) r.lanes
    (length-deliver w.wires reader m.stamp lanes (outputs_of actor m) ∙ length-set w.lanes m.lane others ∙ r.as_many)
    (set_fit all w.actors reader (actor_after actor m) (fit_in all w r)
    (λ role of. turn_fit all actor.part role m.lane m.taken.item m.at ((fit_in all w r).fit reader actor role there of) (may role of)))
    (may_deliver all w.wires reader m.stamp lanes (outputs_of actor m) r.lanes
    (λ lane wire role s on of among. r.items lane wire role s on of (fewer_wait w.lanes m.lane m.taken others lane s front among))
    (actor_sends all w reader actor m r there may))

turn_by_routed : (all : List Role) (w : WorldState) (lane at : ℕ) (items : List Stamped) (actor : Option ActorState) → IsRouted all w → waiting w lane ≡ items
    → slice_get w.actors (reader_of (slice_get w.wires lane)) ≡ actor → IsRouted all (turn_by w lane at (reader_of (slice_get w.wires lane)) items actor)
turn_by_routed all w lane at [] actor r front there = r
turn_by_routed all w lane at (s ∷ others) None r front there = r
turn_by_routed all w lane at (s ∷ others) (Some actor) r front there =
    turn_of_routed all w (reader_of (slice_get w.wires lane)) others actor (made_by w.actors actor lane at s) r front there
    (λ role of. front_may all w lane s others role (slice_get w.wires lane) r front refl of)

turn_routed : (all : List Role) (w : WorldState) (lane at : ℕ) → IsRouted all w → IsRouted all (turn w lane at)
unfolding turn
turn_routed all w lane at r = turn_by_routed all w lane at (waiting w lane) (slice_get w.actors (reader_of (slice_get w.wires lane))) r refl refl

-- ---- the start, a phase that begins, and a settle

none_wait : (n lane : ℕ) → get_or {A = List Stamped} (replicate n []) lane [] ≡ []
none_wait zero lane = refl
none_wait (suc n) zero = refl
none_wait (suc n) (suc lane) = none_wait n lane

start_routed : (kind : Kind) (all : List Role) → IsRouted all (world_of kind all)
start_routed kind all =
    routed_of all (world_of kind all) refl (length-replicate (length (wires all)) []) (start_fit kind all)
    (λ lane wire role s there of among. absurd (nothing s (subst (λ items. Contains items s) (none_wait (length (wires all)) lane) among))) where
      nothing : (s : Stamped) → Contains [] s → ⊥
      nothing s among = omega (arith, among.1)

issue_routed : (all : List Role) (w : WorldState) (issues : List Output) → AreQuiet issues → IsRouted all w → IsRouted all (issue w issues)
unfolding issue
issue_routed all w issues quiet r =
    routed_of all (issue w issues) r.lanes (length-deliver w.wires 0 (driver_clock w.actors) w.lanes issues ∙ r.as_many) (fit_in all w r)
    (may_deliver all w.wires 0 (driver_clock w.actors) w.lanes issues r.lanes r.items
    (λ from to reader port item of joined named sent.
    quiet_may_wait all to item (quiet_item item (All-contains IsQuietOutput issues (To port item) (All-from_recursion IsQuietOutput issues quiet) sent))))

begin_routed : (all : List Role) (w : WorldState) (later : List Phase) → ArePhasesQuiet later → IsRouted all w → IsRouted all (begin w later)
begin_routed all w [] quiet r = r
begin_routed all w (phase ∷ later) quiet r = issue_routed all w phase.issues quiet.0 r

settle_routed : (all : List Role) (w : WorldState) (moment : ℕ) (asked : List ℕ) (shows : Bool) → IsRouted all w → IsRouted all (settle moment asked shows w)
unfolding settle
settle_routed all w moment asked shows r =
    let given = giving_of w.actors asked in
    routed_of all (settle moment asked shows w) r.lanes r.as_many
    (mapped_fit all given.actors (greatest_clock w.actors + 1) (entry_counts given.actors) (all_given_fit all (record { actors = w.actors; answers = [] }) asked (fit_in all w r)))
    r.items

-- ---- the law

-- what an induction over a run carries: the phases that are left bring no messages and no news of neighbours and peers
record StaysRouted (lab : Laboratory) (w : WorldState) (later : List Phase) : Type 0 where
  routed : IsRouted (roles lab) w
  quiet : ArePhasesQuiet later

reached : (lab : Laboratory) {w : WorldState} {later : List Phase} → IsReached lab w later → StaysRouted lab w later
reached lab starts = record { routed = begin_routed (roles lab) (start lab) (phases lab) (quiet_laboratory lab) (start_routed lab.kind (roles lab)); quiet = quiet_laboratory lab }
reached lab (turns w phase later t before legal) =
    let h = reached lab before in
    record { routed = turn_routed (roles lab) w t.lane t.at h.routed; quiet = h.quiet }
reached lab (settles w phase later before drained) =
    let h = reached lab before in
    record {
      routed = begin_routed (roles lab) (settle phase.moment (desks_asked phase.issues) phase.shows_routes w) later h.quiet.1 (settle_routed (roles lab) w phase.moment (desks_asked phase.issues) phase.shows_routes h.routed);
      quiet = h.quiet.1;
    }

pub runs_are_routed : RunsAreRouted
runs_are_routed lab w later run = (reached lab run).routed
