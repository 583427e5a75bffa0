-- Decision of a node follows the node's store: it has taken the first entries of the store's journal, and all of them where no item waits.
use Rattle.std.proofs.Common.{◌≡◌, ℕ, suc, ◌<◌, List, [], ◌∷◌, ◌++◌, Bool, true, false, ◌&&◌, Some, cond, length, get_or, refl, sym, ap, ◌∙◌, subst, append-nil}
use Rattle.std.specs.Prelude.{IsTrue, slice_get}
use Rattle.std.proofs.lemmas.Bool.{and_right}
use Rattle.std.proofs.lemmas.Option.{none-some, same_Some, slice_get_within}
use Rattle.or_base.specs.declared.kind.Kind.{Kind}
use Rattle.or_base.specs.declared.kind.Kind.TheVariants.{Stores, Full}
use Rattle.or_base.specs.declared.route.Route.{Route}
use Rattle.kv_store.specs.Growth.{IsFront}
use Rattle.decision_core.specs.Decision.{DecisionState}
use Rattle.net_laboratory.specs.declared.declared.NodeDecl.{NodeDecl}
use Rattle.net_laboratory.specs.Scenario.{Laboratory}
use Rattle.net_laboratory.specs.Sound.{is_sound}
use Rattle.net_record.specs.declared.role.NodeModule.{NodeModule}
use Rattle.net_record.specs.declared.role.NodeModule.TheVariants.{Store as StoreRole, Decision as DecisionRole}
use Rattle.net_record.specs.declared.role.NodeSetup.{NodeSetup}
use Rattle.net_record.specs.declared.role.Role.TheVariants.{Node}
use Rattle.net_record.specs.declared.part.Part.{Part}
use Rattle.net_record.specs.declared.actor.ActorState.{ActorState}
use Rattle.net_record.specs.declared.phase.Phase.{Phase}
use Rattle.net_record.specs.Actors.{actor_at, decision_of, entries_of}
use Rattle.net_record.specs.Desk.{DeskState}
use Rattle.net_record.specs.Marks.{no_mark}
use Rattle.net_record.specs.Reached.{IsReached}
use Rattle.net_record.specs.Records.{journal_of, journals_of}
use Rattle.net_record.specs.Roles.{modules_of, store_number, decision_number, node_names, roles}
use Rattle.net_record.specs.World.{WorldState, is_drained, mark_of, marks_of, routes_told as routes_of_actor, all_routes, nodes_told}
use Rattle.net_record.proofs.Places.{setup_at}
use Rattle.net_agree.specs.Routed.{IsRouted}
use Rattle.net_agree.proofs.LiftedTurn.{role_there}
use Rattle.net_agree.proofs.Routed.{runs_are_routed}
use Rattle.net_answers.specs.Routed.{computes_routes, routes_due}
use Rattle.net_answers.proofs.Followed.{Follow, IsFollowing}
use Rattle.net_answers.proofs.FollowingRoles.{store_stands, decision_role, decision_stands, desk_names}
use Rattle.net_answers.proofs.FollowingLanes.{feed}
use Rattle.net_answers.proofs.FollowingWay.{entries_on}
use Rattle.net_answers.proofs.FollowingTurns.{had}
use Rattle.net_answers.proofs.FollowingRuns.{fed_reached}
use Rattle.net_answers.proofs.FollowingActors.{part_is, driver_is, decision_is, journal_is, desk_is}
use Rattle.net_answers.proofs.FollowingPlaces.{given_in_place, stores_counted, decisions_counted, routes_by, no_route, journals_given, marks_given, routes_given}
use Rattle.net_answers.proofs.FollowingTold.{routes_at, told_unshown, told_nowhere, told_shown, none_on_lane, node_in}

-- ---- one desk

module _ (lab : Laboratory) (sound : is_sound lab ≡ true) (w : WorldState) (later : List Phase) (reached : IsReached lab w later) (d : DeskState) (setup : NodeSetup)
    (store : slice_get (roles lab) d.store.owner ≡ Some (Node StoreRole d.node setup)) where
  abbrev its_decision : Part
  its_decision = (actor_at w.actors d.decision.owner).part

  follows : (kind : Kind) → slice_get (roles lab) d.decision.owner ≡ Some (decision_role kind d.node setup) → IsFollowing w.actors d
  follows Stores decision =
      let is = driver_is its_decision (part_is lab w d.decision.owner _ (runs_are_routed lab w later reached) decision) in
      let journal = entries_of (actor_at w.actors d.store.owner).part in
      record {
        front = subst (λ part. IsFront (entries_of part) journal) (sym is) (record { more = journal; is = refl });
        me = λ s e. absurd (none-some s (sym (ap decision_of is) ∙ e));
        none = λ e. ap entries_of is;
      }
  follows Full decision =
      let is = decision_is its_decision d.node setup (part_is lab w d.decision.owner _ (runs_are_routed lab w later reached) decision) in
      let lane = feed lab d.store.owner d.decision.owner d.node setup setup sound store decision in
      record {
        front = record { more = entries_on (get_or w.lanes lane.0 []); is = fed_reached lab sound d.store.owner d.decision.owner lane.0 lane.1 reached };
        me = λ s e. sym (ap (λ (t : DecisionState). t.me) (same_Some is.0 s (sym (ap decision_of is.1) ∙ e))) ∙ is.2;
        none = λ e. absurd (none-some is.0 (sym e ∙ ap decision_of is.1));
      }

-- in every world of a run each desk's Decision follows its store
pub follow_reached : (lab : Laboratory) → IsTrue (is_sound lab) → {w : WorldState} {later : List Phase} → IsReached lab w later → Follow w.actors
follow_reached lab sound {w} {later} reached number d is =
    let desk = desk_is lab w number d (runs_are_routed lab w later reached) is in
    let names = desk_names lab number d.node desk.setup desk.is in
    follows lab sound w later reached d desk.setup (ap (slice_get (roles lab)) (sym desk.store) ∙ names.0) lab.kind (ap (slice_get (roles lab)) (sym desk.decision) ∙ names.1)

-- ---- the routes of one node

-- where nodes have no Decision, nobody has routes
no_routes : (lab : Laboratory) (w : WorldState) → IsRouted (roles lab) w → lab.kind ≡ Stores → all_routes w.actors ≡ []
no_routes lab w r stores = none_given w.actors each where
  none_given : (actors : List ActorState) → ((i : ℕ) (actor : ActorState) → slice_get actors i ≡ Some actor → routes_by actor.part ≡ []) → all_routes actors ≡ []
  none_given [] none = refl
  none_given (actor ∷ actors) none = ap (λ rs. rs ++ all_routes actors) (none 0 actor refl) ∙ none_given actors (λ i a there. none (suc i) a there)

  each : (i : ℕ) (actor : ActorState) → slice_get w.actors i ≡ Some actor → routes_by actor.part ≡ []
  each i actor there =
      let has = role_there (roles lab) w i actor r there in
      no_route lab i actor.part has.0 stores has.1 has.2

module _ (lab : Laboratory) (sound : is_sound lab ≡ true) (w : WorldState) (later : List Phase) (reached : IsReached lab w later) (drained : is_drained w ≡ true)
    (place : ℕ) (node : NodeDecl) (there : slice_get lab.nodes place ≡ Some node) (full : lab.kind ≡ Full) where
  r : IsRouted (roles lab) w
  r = runs_are_routed lab w later reached

  abbrev modules : List NodeModule
  modules = modules_of lab.kind

  abbrev setup : NodeSetup
  setup = setup_at modules lab.links lab.ttl place node

  abbrev store : ℕ
  store = store_number modules place

  abbrev decision : ℕ
  decision = decision_number modules place

  within : place < length lab.nodes
  within = slice_get_within lab.nodes place node there

  store_role : slice_get (roles lab) store ≡ Some (Node StoreRole node.name setup)
  store_role = store_stands lab place node there

  its_role : slice_get (roles lab) decision ≡ Some (Node DecisionRole node.name setup)
  its_role = decision_stands lab place node there ∙ ap (λ (k : Kind). Some (decision_role k node.name setup)) full

  -- Decision took the whole journal
  all_taken : had w.actors store ≡ had w.actors decision
  all_taken =
      let lane = feed lab store decision node.name setup setup sound store_role its_role in
      fed_reached lab sound store decision lane.0 lane.1 reached
      ∙ ap (λ items. had w.actors decision ++ entries_on items) (none_on_lane w.lanes lane.0 drained) ∙ append-nil (had w.actors decision)

  journal : (place < length (journals_of w.actors)) × (get_or (journals_of w.actors) place [] ≡ get_or (journal_of (actor_at w.actors store).part) 0 [])
  journal = given_in_place lab w StoreRole (λ actor. journal_of actor.part) [] store place (Node StoreRole node.name setup) r journals_given store_role refl (stores_counted lab place within)

  marked : place < length (marks_of w.actors)
  marked = (given_in_place lab w StoreRole mark_of no_mark store place (Node StoreRole node.name setup) r marks_given store_role refl (stores_counted lab place within)).0

  its_routes : (place < length (all_routes w.actors)) × (get_or (all_routes w.actors) place [] ≡ get_or (routes_by (actor_at w.actors decision).part) 0 [])
  its_routes =
      given_in_place lab w DecisionRole routes_of_actor [] decision place (Node DecisionRole node.name setup) r routes_given its_role refl (decisions_counted lab place full within)

  told : routes_at (nodes_told w.actors true) place ≡ routes_due node.name (get_or (journals_of w.actors) place [])
  told =
      let is = decision_is (actor_at w.actors decision).part node.name setup (part_is lab w decision _ r its_role) in
      let s = is.0 in
      let taken : s.taken ≡ get_or (journals_of w.actors) place [] =
      sym (ap entries_of is.1) ∙ sym all_taken ∙ sym (journal_is (actor_at w.actors store).part node.name setup (part_is lab w store _ r store_role)) ∙ sym journal.1 in
      told_shown w.actors place marked its_routes.0 ∙ its_routes.1 ∙ ap (λ part. get_or (routes_by part) 0 []) is.1
      ∙ ap (λ name. routes_due name s.taken) is.2 ∙ ap (routes_due node.name) taken

-- where no item waits, what a settle tells of a node's routes is those from scratch over its store's journal
pub routes_told : (lab : Laboratory) → IsTrue (is_sound lab) → {w : WorldState} {later : List Phase} → IsReached lab w later → is_drained w ≡ true
    → (shows : Bool) (place : ℕ) (node : List ℕ) → slice_get (node_names lab) place ≡ Some node
    → (get_or (nodes_told w.actors shows) place no_mark).routes ≡ cond (computes_routes lab.kind && shows) (routes_due node (get_or (journals_of w.actors) place [])) []
routes_told lab sound {w} {later} reached drained false place node named =
    told_unshown w.actors place ∙ sym (ap (λ b. cond b (routes_due node (get_or (journals_of w.actors) place [])) []) (and_right (computes_routes lab.kind) false refl))
routes_told lab sound {w} {later} reached drained true place node named = by_kind lab.kind refl where
  due : List Route
  due = routes_due node (get_or (journals_of w.actors) place [])

  by_kind : (kind : Kind) → lab.kind ≡ kind → routes_at (nodes_told w.actors true) place ≡ cond (computes_routes lab.kind && true) due []
  by_kind Stores is =
      told_nowhere w.actors place (no_routes lab w (runs_are_routed lab w later reached) is)
      ∙ sym (ap (λ (k : Kind). cond (computes_routes k && true) due []) is)
  by_kind Full is =
      let found = node_in lab place node named in
      told lab sound w later reached drained place found.node found.there is
      ∙ ap (λ name. routes_due name (get_or (journals_of w.actors) place [])) found.named
      ∙ sym (ap (λ (k : Kind). cond (computes_routes k && true) due []) is)
