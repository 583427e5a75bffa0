-- A turn keeps every two stores that a link joins paired.
use Rattle.std.proofs.Common.{◌≡◌, ℕ, ◌-◌, ◌^◌, ◌<◌, List, ◌∷◌, Some, true, ◌+◌, ◌⊎◌, inl, inr, refl, sym, ap, ◌∙◌, subst, get_or, arith}
use Rattle.std.specs.Prelude.{slice_get}
use Rattle.std.specs.List.{Contains}
use Rattle.std.proofs.lemmas.Option.{slice_get_within, slice_get-get_or}
use Rattle.or_base.specs.declared.item.Item.{Item}
use Rattle.or_base.specs.declared.item.Item.TheVariants.{Net}
use Rattle.or_base.specs.declared.item.Stamped.{Stamped}
use Rattle.or_base.specs.declared.message.Msg.{Msg}
use Rattle.or_base.proofs.Members.{Contains-first}
use Rattle.or_actor.specs.declared.output.Output.TheVariants.{To}
use Rattle.or_actor.specs.Ports.{first_link_port}
use Rattle.or_actor.specs.Steps.{TurnMade}
use Rattle.kv_store.specs.Store.{StoreState, store_step}
use Rattle.kv_agree.specs.Orderly.{IsNotBefore}
use Rattle.kv_agree.specs.Traced.{TracedStore, traced_step}
use Rattle.kv_agree.specs.Paired.{IsPaired, ComesOf, IsBrought, StaysPaired}
use Rattle.net_laboratory.specs.Scenario.{Laboratory}
use Rattle.net_laboratory.specs.Sound.{is_sound}
use Rattle.net_link.specs.Link.{LinkState}
use Rattle.net_record.specs.declared.role.NodeModule.TheVariants.{Store as StoreRole}
use Rattle.net_record.specs.declared.role.NodeSetup.{NodeSetup}
use Rattle.net_record.specs.declared.role.Role.{Role}
use Rattle.net_record.specs.declared.role.Role.TheVariants.{Driver as DriverRole, Node, Link as LinkRole}
use Rattle.net_record.specs.declared.kinds.AnyModule.TheVariants.{Store, Link}
use Rattle.net_record.specs.declared.part.Part.{Part}
use Rattle.net_record.specs.declared.part.Part.TheVariants.{Driver, Desk, Module}
use Rattle.net_record.specs.declared.actor.ActorState.{ActorState}
use Rattle.net_record.specs.Roles.{roles}
use Rattle.net_record.specs.Actors.{store_of}
use Rattle.net_record.specs.World.{WorldState, waiting, turn_of, reader_of}
use Rattle.net_agree.specs.Routed.{IsOf, IsStoreAt, AreEnds, MayWaitFor, IsRouted}
use Rattle.net_agree.specs.Lifted.{link_of, trace_at, on_way, IsLifted}
use Rattle.net_agree.proofs.LiftedLists.{some_is}
use Rattle.net_agree.proofs.LiftedRoles.{one_place, ends_turned, one_peer, ends_differ}
use Rattle.net_agree.proofs.LiftedSparks.{IsLess, of_stores, kept_is, keeps, fewer_of_stores}
use Rattle.net_agree.proofs.LiftedWay.{IsSentBy, NamesLink, way_waiting, way_after}
use Rattle.net_agree.proofs.LiftedTaken.{same_store, HadTurn, HadNone, IsAfterTurn, after_turn}

-- ---- who is where

store_role : (part : Part) (role : Role) (s : StoreState) → store_of part ≡ Some s → IsOf part role → (setup : NodeSetup) × (role ≡ Node StoreRole s.me setup)
store_role Driver role s e of_role = cc
store_role (Desk d) role s e of_role = cc
store_role (Module (Store t)) role s e of_role = (of_role.0, of_role.1 ∙ ap (λ (u : StoreState). Node StoreRole u.me of_role.0) (some_is e))
store_role (Module _) role s e of_role = cc

pub link_role_of : (part : Part) (role : Role) (l : LinkState) → link_of part ≡ Some l → IsOf part role → role ≡ LinkRole l.link l.a l.b
link_role_of Driver role l e of_role = cc
link_role_of (Desk d) role l e of_role = cc
link_role_of (Module (Link k)) role l e of_role = of_role ∙ ap (λ (u : LinkState). LinkRole u.link u.a u.b) (some_is e)
link_role_of (Module _) role l e of_role = cc

-- each actor has a role
pub role_there : (all : List Role) (w : WorldState) (number : ℕ) (actor : ActorState) → IsRouted all w → slice_get w.actors number ≡ Some actor
    → (role : Role) × (slice_get all number ≡ Some role) × IsOf actor.part role
role_there all w number actor routed there =
    let within = slice_get_within w.actors number actor there in
    let role = get_or all number DriverRole in
    let is : slice_get all number ≡ Some role = slice_get-get_or all number DriverRole (omega (arith, within, routed.actors)) in
    (role, is, routed.parts number actor role there is)

store_there : (all : List Role) (w : WorldState) (number : ℕ) (s : StoreState) → IsRouted all w → IsStoreAt w number s → (setup : NodeSetup) × (slice_get all number ≡ Some (Node StoreRole s.me setup))
store_there all w number s routed x =
    let has = role_there all w number x.actor routed x.there in
    let is = store_role x.actor.part has.0 s x.is has.2 in
    (is.0, has.1 ∙ ap Some is.1)

-- two stores of one name are one actor
one_actor : (lab : Laboratory) (w : WorldState) (x y : ℕ) (s t : StoreState) → is_sound lab ≡ true → IsRouted (roles lab) w → IsStoreAt w x s → IsStoreAt w y t → s.me ≡ t.me → x ≡ y
one_actor lab w x y s t sound routed at_x at_y same =
    let role_x = store_there (roles lab) w x s routed at_x in
    let role_y = store_there (roles lab) w y t routed at_y in
    one_place lab x y role_x.0 role_y.0 t.me sound (subst (λ me. slice_get (roles lab) x ≡ Some (Node StoreRole me role_x.0)) same role_x.1) role_y.1

-- ---- one turn

module _ (lab : Laboratory) (sound : is_sound lab ≡ true) (stays : StaysPaired) (w : WorldState) (routed : IsRouted (roles lab) w) (lifted : IsLifted w lab)
    (reader : ℕ) (others : List Stamped) (actor : ActorState) (m : TurnMade) (waits : waiting w m.lane ≡ m.taken ∷ others) (there : slice_get w.actors reader ≡ Some actor)
    (reads : reader_of (slice_get w.wires m.lane) ≡ reader) (may : (role : Role) → slice_get (roles lab) reader ≡ Some role → MayWaitFor (roles lab) role m.taken.item)
    (in_time : (s : StoreState) → IsStoreAt w reader s → IsNotBefore s.moment m.taken.item)
    (few : (number : ℕ) (s : StoreState) → IsStoreAt (turn_of w reader others actor m) number s → s.sessions.last < 2 ^ 64 - 1) where
  abbrev now : WorldState
  now = turn_of w reader others actor m

  abbrev item : Item
  item = m.taken.item

  names : NamesLink actor.part item
  names l is n from msg e =
      let has = role_there (roles lab) w reader actor routed there in
      (may has.0 has.1).at_link l.link l.a l.b (link_role_of actor.part has.0 l is has.2) n from msg e

  -- a message that the store takes came from its peer, and was on its way
  is_brought : (link : ℕ) (s : StoreState) (you : List ℕ) → IsStoreAt w reader s → AreEnds (roles lab) link you s.me → IsBrought link (on_way w link you) item
  is_brought link s you x ends from msg e =
      let has = store_there (roles lab) w reader s routed x in
      let came = (may (Node StoreRole s.me has.0) has.1).from_peer s.me has.0 refl link from msg e in
      let peer : from ≡ you = one_peer lab link from you s.me came ends in
      way_waiting w m.lane m.taken link you msg (subst (λ ss. Contains ss m.taken) (sym waits) (Contains-first m.taken others)) (e ∙ ap (λ n. Net link n msg) peer)

  sender : (link : ℕ) (node : List ℕ) (msg : Msg) (by : IsSentBy actor.part item link node msg) → IsStoreAt w reader by.store
  sender link node msg by = record { actor = actor; there = there; is = by.is }

  -- what a store that had no turn has on its way was so before
  nothing_new : (link number : ℕ) (t : StoreState) → IsStoreAt w number t → (reader ≡ number → ⊥) → IsLess (on_way now link t.me) (on_way w link t.me)
  nothing_new link number t y other msg stores h =
      elim (way_after w reader others actor m waits there names link t.me msg stores h) [
        | inl before ↦ before
        | inr by ↦ absurd (other (one_actor lab w reader number by.store t sound routed (sender link t.me msg by) y by.me))
      ]

  -- what the store that had the turn has on its way it sent, or it was so before
  comes_of : (link : ℕ) (s : StoreState) → IsStoreAt w reader s → ComesOf (on_way w link s.me) (of_stores (on_way now link s.me)) s.me link (store_step s item).1
  comes_of link s x msg h =
      let kept = kept_is (on_way now link s.me) msg h in
      elim (way_after w reader others actor m waits there names link s.me msg kept.1 kept.0) [
        | inl before ↦ inl before
        | inr by ↦
            let same : by.store ≡ s = same_store w reader by.store s (sender link s.me msg by) x in
            inr (subst (λ (u : StoreState). Contains (store_step u item).1 (To (first_link_port + link) (Net link s.me msg))) same by.sent)
      ]

  at_reader : (number : ℕ) (s : StoreState) → reader ≡ number → IsStoreAt w number s → IsStoreAt w reader s
  at_reader number s here x = subst (λ n. IsStoreAt w n s) (sym here) x

  -- the starter had the turn
  starter_turn : (link y : ℕ) (s t now_s : StoreState) (a b : TracedStore) → a.store ≡ s → IsStoreAt w reader s → IsStoreAt w y t → (reader ≡ y → ⊥) → AreEnds (roles lab) link s.me t.me
      → now_s ≡ (store_step s item).0 → IsStoreAt now reader now_s
      → IsPaired link a b (on_way w link s.me) (on_way w link t.me) → IsPaired link (traced_step a item) b (on_way now link s.me) (on_way now link t.me)
  starter_turn link y s t now_s a b is x at_y other ends stepped x_now paired =
      let back = on_way w link t.me in
      let after = of_stores (on_way now link s.me) in
      let brought = is_brought link s t.me x (ends_turned (roles lab) link s.me t.me ends) in
      let in_order = subst (λ (u : StoreState). IsNotBefore u.moment item) (sym is) (in_time s x) in
      let comes = subst (λ (u : StoreState). ComesOf (on_way w link s.me) after u.me link (store_step u item).1) (sym is) (comes_of link s x) in
      let small : (store_step a.store item).0.sessions.last < 2 ^ 64 - 1 =
      subst (λ (u : StoreState). (store_step u item).0.sessions.last < 2 ^ 64 - 1) (sym is) (subst (λ (u : StoreState). u.sessions.last < 2 ^ 64 - 1) stepped (few reader now_s x_now)) in
      let taken = stays.starter link a b (on_way w link s.me) back after item brought in_order comes small paired in
      fewer_of_stores link (traced_step a item) b after back (on_way now link s.me) (on_way now link t.me) (keeps (on_way now link s.me)) (nothing_new link y t at_y other) taken

  -- the peer had it
  peer_turn : (link x : ℕ) (s t : StoreState) (a b : TracedStore) → b.store ≡ t → IsStoreAt w x s → IsStoreAt w reader t → (reader ≡ x → ⊥) → AreEnds (roles lab) link s.me t.me
      → IsPaired link a b (on_way w link s.me) (on_way w link t.me) → IsPaired link a (traced_step b item) (on_way now link s.me) (on_way now link t.me)
  peer_turn link x s t a b is at_x y other ends paired =
      let out = on_way w link s.me in
      let after = of_stores (on_way now link t.me) in
      let brought = is_brought link t s.me y ends in
      let in_order = subst (λ (u : StoreState). IsNotBefore u.moment item) (sym is) (in_time t y) in
      let comes = subst (λ (u : StoreState). ComesOf (on_way w link t.me) after u.me link (store_step u item).1) (sym is) (comes_of link t y) in
      let taken = stays.peer link a b out (on_way w link t.me) after item brought in_order comes paired in
      fewer_of_stores link a (traced_step b item) out after (on_way now link s.me) (on_way now link t.me) (nothing_new link x s at_x other) (keeps (on_way now link t.me)) taken

  abbrev After : ℕ → StoreState → Type 0
  After number s = IsAfterTurn w reader others actor m there reads number s

  traced_now : (number : ℕ) (s : StoreState) → After number s → (trace_at now number s).store ≡ s
  traced_now number s after = store_is after.turn where
    before : StoreState
    before = after.before

    was : (trace_at w number before).store ≡ before
    was = lifted.traced number before after.was

    store_is : HadTurn w reader others actor m there reads number before s ⊎ HadNone w reader others actor m there reads number before s → (trace_at now number s).store ≡ s
    store_is (inl had) = ap (λ (t : TracedStore). t.store) had.traced ∙ ap (λ u. (store_step u item).0) was ∙ sym had.is
    store_is (inr none) = ap (λ (t : TracedStore). t.store) none.traced ∙ was ∙ sym none.is

  -- the traces of two stores that were paired, each as the turn left it
  paired_now : (link x y : ℕ) (s t : StoreState) → IsStoreAt now x s → IsStoreAt now y t → (after_x : After x s) (after_y : After y t) → AreEnds (roles lab) link after_x.before.me after_y.before.me
      → IsPaired link (trace_at now x s) (trace_at now y t) (on_way now link after_x.before.me) (on_way now link after_y.before.me)
  paired_now link x y s t now_x now_y after_x after_y ends = paired_after after_x.turn after_y.turn where
    u : StoreState
    u = after_x.before

    v : StoreState
    v = after_y.before

    a : TracedStore
    a = trace_at w x u

    b : TracedStore
    b = trace_at w y v

    was : IsPaired link a b (on_way w link u.me) (on_way w link v.me)
    was = lifted.paired link x y u v after_x.was after_y.was ends

    both : (c d : TracedStore) → trace_at now x s ≡ c → trace_at now y t ≡ d → IsPaired link c d (on_way now link u.me) (on_way now link v.me)
        → IsPaired link (trace_at now x s) (trace_at now y t) (on_way now link u.me) (on_way now link v.me)
    both c d same_c same_d paired =
        subst (λ e. IsPaired link e (trace_at now y t) (on_way now link u.me) (on_way now link v.me)) (sym same_c)
        (subst (λ e. IsPaired link c e (on_way now link u.me) (on_way now link v.me)) (sym same_d) paired)

    paired_after : HadTurn w reader others actor m there reads x u s ⊎ HadNone w reader others actor m there reads x u s
        → HadTurn w reader others actor m there reads y v t ⊎ HadNone w reader others actor m there reads y v t
        → IsPaired link (trace_at now x s) (trace_at now y t) (on_way now link u.me) (on_way now link v.me)
    paired_after (inl had_x) (inl had_y) =
        let same : u ≡ v = same_store w reader u v (at_reader x u had_x.here after_x.was) (at_reader y v had_y.here after_y.was) in
        absurd (ends_differ lab link u.me v.me sound ends (ap (λ (r : StoreState). r.me) same))
    paired_after (inl had) (inr none) =
        let at_now : IsStoreAt now reader s = subst (λ n. IsStoreAt now n s) (sym had.here) now_x in
        both (traced_step a item) b had.traced none.traced
        (starter_turn link y u v s a b (lifted.traced x u after_x.was) (at_reader x u had.here after_x.was) after_y.was none.elsewhere ends had.is at_now was)
    paired_after (inr none) (inl had) =
        both a (traced_step b item) none.traced had.traced
        (peer_turn link x u v a b (lifted.traced y v after_y.was) after_x.was (at_reader y v had.here after_y.was) none.elsewhere ends was)
    paired_after (inr none_x) (inr none_y) =
        both a b none_x.traced none_y.traced
        (fewer_of_stores link a b (on_way w link u.me) (on_way w link v.me) (on_way now link u.me) (on_way now link v.me)
        (nothing_new link x u after_x.was none_x.elsewhere) (nothing_new link y v after_y.was none_y.elsewhere) was)

  pub lifted_turn : IsLifted now lab
  lifted_turn = record {
    traced = λ number s x. traced_now number s (after_turn w reader others actor m there reads number s x);
    paired = λ link x y s t at_x at_y ends.
        let after_x = after_turn w reader others actor m there reads x s at_x in
        let after_y = after_turn w reader others actor m there reads y t at_y in
        let u = after_x.before in
        let v = after_y.before in
        let joined : AreEnds (roles lab) link u.me v.me = subst (λ n. AreEnds (roles lab) link n v.me) after_x.one.0 (subst (λ n. AreEnds (roles lab) link s.me n) after_y.one.0 ends) in
        let paired = paired_now link x y s t at_x at_y after_x after_y joined in
        subst (λ n. IsPaired link (trace_at now x s) (trace_at now y t) (on_way now link n) (on_way now link t.me)) (sym after_x.one.0)
        (subst (λ n. IsPaired link (trace_at now x s) (trace_at now y t) (on_way now link u.me) (on_way now link n)) (sym after_y.one.0) paired);
  }
