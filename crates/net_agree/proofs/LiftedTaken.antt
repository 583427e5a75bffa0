-- After a turn, its reader's store is what it took with one item more, and every other store what it was.
use Rattle.std.proofs.Common.{◌≡◌, ℕ, zero, suc, List, [], ◌∷◌, ◌++◌, Some, ◌==◌, if◌then◌else◌, set, ◌⊎◌, inl, inr, refl, sym, ap, ◌∙◌, subst}
use Rattle.std.specs.Prelude.{slice_get}
use Rattle.std.proofs.lemmas.Bool.{cases_eq, eq-eqb, ne_eqb}
use Rattle.std.proofs.lemmas.List.{append-nil}
use Rattle.std.proofs.lemmas.List.Concat.{flat_map-append}
use Rattle.or_base.specs.declared.item.Item.{Item}
use Rattle.or_base.specs.declared.item.Stamped.{Stamped}
use Rattle.or_base.specs.TurnDone.{TurnDone}
use Rattle.or_actor.specs.Steps.{TurnMade, turn_done}
use Rattle.kv_store.specs.Store.{StoreState, store_step}
use Rattle.kv_agree.specs.Traced.{TracedStore, new_traced, traced_step, traced_after}
use Rattle.net_record.specs.declared.actor.ActorState.{ActorState}
use Rattle.net_record.specs.Actors.{store_of, actor_after}
use Rattle.net_record.specs.World.{WorldState, turn_of, reader_of}
use Rattle.net_agree.specs.Routed.{IsStoreAt}
use Rattle.net_agree.specs.Lifted.{taken_by, trace_at}
use Rattle.net_agree.proofs.CountedStores.{part_after}
use Rattle.net_agree.proofs.LiftedLists.{some_is}
use Rattle.net_agree.proofs.LiftedSends.{AreOfOne, turn_of_one}

-- ---- lists

get_set_same : {X : Type 0} (xs : List X) (i : ℕ) (x z : X) → slice_get xs i ≡ Some z → slice_get (set xs i x) i ≡ Some x
get_set_same [] i x z there = cc
get_set_same (y ∷ xs) zero x z there = refl
get_set_same (y ∷ xs) (suc i) x z there = get_set_same xs i x z there

get_set_other : {X : Type 0} (xs : List X) (i j : ℕ) (x : X) → (i ≡ j → ⊥) → slice_get (set xs i x) j ≡ slice_get xs j
get_set_other [] i j x other = refl
get_set_other (y ∷ xs) zero zero x other = absurd (other refl)
get_set_other (y ∷ xs) zero (suc j) x other = refl
get_set_other (y ∷ xs) (suc i) zero x other = refl
get_set_other (y ∷ xs) (suc i) (suc j) x other = get_set_other xs i j x (λ same. other (ap suc same))

-- ---- one actor

after_store : (actor : ActorState) (m : TurnMade) (s : StoreState) → store_of (actor_after actor m).part ≡ Some s
    → (before : StoreState) × (store_of actor.part ≡ Some before) × (s ≡ (store_step before m.taken.item).0)
unfolding actor_after
after_store actor m s e = part_after actor.part m.lane m.taken.item m.at s e

-- one actor is one store
pub same_store : (w : WorldState) (number : ℕ) (s t : StoreState) → IsStoreAt w number s → IsStoreAt w number t → s ≡ t
same_store w number s t x y =
    let actor : x.actor ≡ y.actor = some_is (sym x.there ∙ y.there) in
    some_is (sym x.is ∙ ap (λ (a : ActorState). store_of a.part) actor ∙ y.is)

-- ---- what was taken

traced_both : (t : TracedStore) (xs ys : List Item) → traced_after t (xs ++ ys) ≡ traced_after (traced_after t xs) ys
traced_both t [] ys = refl
traced_both t (x ∷ xs) ys = traced_both (traced_step t x) xs ys

module _ (w : WorldState) (reader : ℕ) (others : List Stamped) (actor : ActorState) (m : TurnMade) (there : slice_get w.actors reader ≡ Some actor)
    (reads : reader_of (slice_get w.wires m.lane) ≡ reader) where
  abbrev pub after : WorldState
  after = turn_of w reader others actor m

  abbrev takes : ℕ → TurnDone → List Item
  takes number t = if reader_of (slice_get w.wires t.lane) == number then t.item ∷ [] else []

  taken_more : (number : ℕ) → taken_by after number ≡ taken_by w number ++ (takes number (turn_done m) ++ [])
  unfolding turn_of
  taken_more number = flat_map-append (takes number) w.turns (turn_done m ∷ [])

  taken_here : (number : ℕ) → reader ≡ number → taken_by after number ≡ taken_by w number ++ m.taken.item ∷ []
  taken_here number here =
      taken_more number
      ∙ ap (λ test. taken_by w number ++ ((if test then m.taken.item ∷ [] else []) ++ [])) (eq-eqb (reader_of (slice_get w.wires m.lane)) number (reads ∙ here))

  taken_not : (number : ℕ) → (reader ≡ number → ⊥) → taken_by after number ≡ taken_by w number
  taken_not number other =
      taken_more number
      ∙ ap (λ test. taken_by w number ++ ((if test then m.taken.item ∷ [] else []) ++ [])) (ne_eqb (reader_of (slice_get w.wires m.lane)) number (λ same. other (sym reads ∙ same)))
      ∙ append-nil (taken_by w number)

  -- the store had the turn
  pub record HadTurn (number : ℕ) (before s : StoreState) : Type 0 where
    pub here : reader ≡ number
    pub is : s ≡ (store_step before m.taken.item).0
    pub traced : trace_at after number s ≡ traced_step (trace_at w number before) m.taken.item

  -- another actor had it
  pub record HadNone (number : ℕ) (before s : StoreState) : Type 0 where
    pub elsewhere : reader ≡ number → ⊥
    pub is : s ≡ before
    pub traced : trace_at after number s ≡ trace_at w number before

  -- a store after the turn, and as it was before
  pub record IsAfterTurn (number : ℕ) (s : StoreState) : Type 0 where
    pub before : StoreState
    pub was : IsStoreAt w number before
    pub one : AreOfOne before s
    pub turn : HadTurn number before s ⊎ HadNone number before s

  trace_of_one : (number : ℕ) (before s : StoreState) → AreOfOne before s → trace_at after number s ≡ traced_after (new_traced before.kind before.me) (taken_by after number)
  trace_of_one number before s one =
      ap (λ me. traced_after (new_traced s.kind me) (taken_by after number)) one.0 ∙ ap (λ kind. traced_after (new_traced kind before.me) (taken_by after number)) one.1

  had_turn : (number : ℕ) (s : StoreState) (a : ActorState) → reader ≡ number → slice_get (set w.actors reader (actor_after actor m)) number ≡ Some a → store_of a.part ≡ Some s
      → IsAfterTurn number s
  had_turn number s a here at is =
      let now : actor_after actor m ≡ a = some_is (sym (get_set_same w.actors reader (actor_after actor m) actor there) ∙ ap (slice_get (set w.actors reader (actor_after actor m))) here ∙ at) in
      let from = after_store actor m s (ap (λ (b : ActorState). store_of b.part) now ∙ is) in
      let before = from.0 in
      let one : AreOfOne before s = subst (AreOfOne before) (sym from.2) (turn_of_one before m.taken.item) in
      record {
        before = before;
        was = record { actor = actor; there = ap (slice_get w.actors) (sym here) ∙ there; is = from.1 };
        one = one;
        turn = inl (record {
          here = here;
          is = from.2;
          traced = trace_of_one number before s one ∙ ap (traced_after (new_traced before.kind before.me)) (taken_here number here)
              ∙ traced_both (new_traced before.kind before.me) (taken_by w number) (m.taken.item ∷ []);
        });
      }

  had_none : (number : ℕ) (s : StoreState) (a : ActorState) → (reader ≡ number → ⊥) → slice_get (set w.actors reader (actor_after actor m)) number ≡ Some a → store_of a.part ≡ Some s
      → IsAfterTurn number s
  had_none number s a other at is = record {
    before = s;
    was = record { actor = a; there = sym (get_set_other w.actors reader number (actor_after actor m) other) ∙ at; is = is };
    one = (refl, refl);
    turn = inr (record { elsewhere = other; is = refl; traced = ap (traced_after (new_traced s.kind s.me)) (taken_not number other) });
  }

  actors_after : after.actors ≡ set w.actors reader (actor_after actor m)
  unfolding turn_of
  actors_after = refl

  pub after_turn : (number : ℕ) (s : StoreState) → IsStoreAt after number s → IsAfterTurn number s
  after_turn number s x =
      let at = ap (λ all. slice_get all number) (sym actors_after) ∙ x.there in
      elim (cases_eq reader number) [ inl here ↦ had_turn number s x.actor here at x.is | inr other ↦ had_none number s x.actor other at x.is ]
