-- The stores of a run agree at its settles, since every two that finished a full sync are paired.
use Rattle.std.proofs.Common.{◌≡◌, ℕ, suc, ◌+◌, List, [], ◌∷◌, Option, Some, None, inl, inr, refl, sym, ◌∙◌, ap, subst, arith}
use Rattle.std.specs.Prelude.{slice_get, option_map, option_to_list}
use Rattle.std.specs.List.{Contains, flat_map, enumerate_from}
use Rattle.std.proofs.lemmas.List.Elements.{All-contains, All-from_recursion, Contains-append_cases}
use Rattle.or_base.specs.declared.session.SyncDone.{SyncDone}
use Rattle.or_base.proofs.Members.{Contains-cases}
use Rattle.kv_store.specs.Store.{StoreState}
use Rattle.kv_agree.specs.Joined.{StoreSeen, ArePaired, PairedStoresAgree}
use Rattle.net_record.specs.declared.actor.ActorState.{ActorState}
use Rattle.net_record.specs.Roles.{roles}
use Rattle.net_record.specs.Actors.{store_of}
use Rattle.net_record.specs.World.{WorldState}
use Rattle.net_laboratory.specs.Scenario.{Laboratory}
use Rattle.net_agree.specs.Routed.{IsStoreAt, AreEnds, IsRouted, RunsAreRouted}
use Rattle.net_agree.specs.Lifted.{trace_at, on_way, IsLifted, RunsArePaired}
use Rattle.net_agree.proofs.LiftedRoles.{ends_turned}
use Rattle.net_agree.specs.Settled.{store_seen, stores_seen, RunsAgree}

-- ---- a store that is seen is one of the actors

record IsSeen (w : WorldState) (actors : List ActorState) (first : ℕ) (a : StoreSeen) : Type 0 where
  pub place : ℕ
  pub actor : ActorState
  pub store : StoreState
  pub there : slice_get actors place ≡ Some actor
  pub is : store_of actor.part ≡ Some store
  pub seen : a ≡ store_seen w (first + place) store

-- what a settle sees of an actor
abbrev seen_of : WorldState → ℕ × ActorState → List StoreSeen
seen_of w n = option_to_list (option_map (store_seen w n.0) (store_of n.1.part))

seen_if : (w : WorldState) (number : ℕ) (store : Option StoreState) (a : StoreSeen) → Contains (option_to_list (option_map (store_seen w number) store)) a
    → (s : StoreState) × (store ≡ Some s) × (a ≡ store_seen w number s)
seen_if w number None a h = absurd (omega (arith, h.1))
seen_if w number (Some s) a h =
    elim (Contains-cases (store_seen w number s) [] a h) [ inl same ↦ (s, refl, sym same) | inr there ↦ absurd (omega (arith, there.1)) ]

seen_place : (w : WorldState) (actors : List ActorState) (first : ℕ) (a : StoreSeen) → Contains (flat_map (seen_of w) (enumerate_from first actors)) a → IsSeen w actors first a
seen_place w [] first a h = absurd (omega (arith, h.1))
seen_place w (actor ∷ actors) first a h =
    elim (Contains-append_cases (seen_of w (first, actor)) (flat_map (seen_of w) (enumerate_from (first + 1) actors)) a h) [
      | inl here ↦
          let found = seen_if w first (store_of actor.part) a here in
          let number : first ≡ first + 0 = omega arith in
          record { place = 0; actor = actor; store = found.0; there = refl; is = found.1; seen = found.2 ∙ ap (λ n. store_seen w n found.0) number }
      | inr later ↦
          let found = seen_place w actors (first + 1) a later in
          let number : first + 1 + found.place ≡ first + suc found.place = omega arith in
          record { place = suc found.place; actor = found.actor; store = found.store; there = found.there; is = found.is; seen = found.seen ∙ ap (λ n. store_seen w n found.store) number }
    ]

store_at : (w : WorldState) (a : StoreSeen) (s : IsSeen w w.actors 0 a) → IsStoreAt w (0 + s.place) s.store
store_at w a s =
    let number : s.place ≡ 0 + s.place = omega arith in
    record { actor = s.actor; there = sym (ap (slice_get w.actors) number) ∙ s.there; is = s.is }

-- ---- and is paired with each with which it finished a full sync

seen_paired : (lab : Laboratory) (w : WorldState) → IsRouted (roles lab) w → IsLifted w lab → ArePaired (stores_seen w)
seen_paired lab w routed lifted d a b in_a in_b among with =
    let all = roles lab in
    let x = seen_place w w.actors 0 a in_a in
    let y = seen_place w w.actors 0 b in_b in
    let at_x = store_at w a x in
    let at_y = store_at w b y in
    let s = x.store in
    let t = y.store in
    let here : AreEnds all d.link d.peer s.me =
    All-contains (λ (d : SyncDone). AreEnds all d.link d.peer s.me) s.done d
    (All-from_recursion (λ (d : SyncDone). AreEnds all d.link d.peer s.me) s.done (routed.knows (0 + x.place) s at_x).done)
    (subst (λ (e : StoreSeen). Contains e.syncs d) x.seen among) in
    let peer : d.peer ≡ t.me = with ∙ ap (λ (e : StoreSeen). e.name) y.seen in
    let ends = ends_turned all d.link t.me s.me (subst (λ n. AreEnds all d.link n s.me) peer here) in
    let traced_a = lifted.traced (0 + x.place) s at_x in
    let traced_b = lifted.traced (0 + y.place) t at_y in
    record {
      starter = trace_at w (0 + x.place) s;
      peer = trace_at w (0 + y.place) t;
      out = on_way w d.link s.me;
      back = on_way w d.link t.me;
      paired = lifted.paired d.link (0 + x.place) (0 + y.place) s t at_x at_y ends;
      journal_a = ap (λ (u : StoreState). u.journal) traced_a ∙ sym (ap (λ (e : StoreSeen). e.journal) x.seen);
      makers_a = sym (ap (λ (e : StoreSeen). e.makers) x.seen);
      syncs_a = ap (λ (u : StoreState). u.done) traced_a ∙ sym (ap (λ (e : StoreSeen). e.syncs) x.seen);
      journal_b = ap (λ (u : StoreState). u.journal) traced_b ∙ sym (ap (λ (e : StoreSeen). e.journal) y.seen);
      makers_b = sym (ap (λ (e : StoreSeen). e.makers) y.seen);
    }

-- Where runs are paired and routed, the stores of a run agree at every settle.
pub runs_agree : RunsArePaired → RunsAreRouted → PairedStoresAgree → RunsAgree
runs_agree paired routed agree lab w phase later sound reached drained short =
    let pairs = seen_paired lab w (routed lab w (phase ∷ later) reached) (paired lab w (phase ∷ later) sound reached short) in
    record { quiet = agree.quiet (stores_seen w) pairs; one_round = agree.one_round (stores_seen w) pairs }
