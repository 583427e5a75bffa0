-- The functions `least_cost` and `first_interfaces` are what the words on walks say.
use Rattle.std.proofs.Common.{◌≡◌, ℕ, zero, suc, ◌+◌, ◌<◌, ◌≤◌, min, List, [], ◌∷◌, length, map, Bool, true, false, cond, Option, Some, None, option_map, refl, sym, ◌∙◌, ap, subst, ◌⊎◌, inl, inr, arith}
use Rattle.std.specs.Prelude.{MatchOption, nat_le}
use Rattle.std.specs.List.{Contains, filter}
use Rattle.std.specs.Str.{bytes_eq}
use Rattle.std.proofs.lemmas.Slice.Eq.{bytes_eq-Decides}
use borrow.Author.Tests.{eqb-true, eq-eqb, leb-true, leb-false}
use Rattle.or_base.proofs.Members.{Contains-cases, Contains-first, Contains-later}
use Rattle.ls_graph.specs.declared.arc.Arc.{Arc}
use Rattle.ls_spf.specs.Walk.{IsWalk, cost, IsLeast, HasNoWalk, BeginsBy}
use Rattle.ls_spf.specs.Least.{lesser, least_first, staying, least_within, least_cost, add_up_to, begins_least, first_interfaces}
use Rattle.ls_spf.specs.Law.{CostsAreLeast, InterfacesAreFirst}
use Rattle.ls_spf.proofs.Listed.{none_among, both_true, found_in_filter, kept_in_filter, found_in_map, kept_in_map}
use Rattle.ls_spf.proofs.Walks.{short_walk, short-le}

pub record HasWalk (arcs : List Arc) (x y : List ℕ) (m : ℕ) : Type 0 where
  pub walk : List Arc
  pub is_walk : IsWalk arcs x walk y
  pub costs : cost walk ≡ m

-- there is a cost, and it is no more than `most`
pub record IsWithin (o : Option ℕ) (most : ℕ) : Type 0 where
  pub amount : ℕ
  pub is : o ≡ Some amount
  pub within : amount ≤ most

-- ---- the lesser of two

lesser_is_one : (o p : Option ℕ) (m : ℕ) → lesser o p ≡ Some m → (o ≡ Some m) ⊎ (p ≡ Some m)
lesser_is_one None p m e = inr e
lesser_is_one (Some k) None m e = inl e
lesser_is_one (Some k) (Some n) m e = by (nat_le k n) refl
  where
    by : (b : Bool) → nat_le k n ≡ b → (Some k ≡ Some m) ⊎ (Some n ≡ Some m)
    by true t = inl (let l : k ≤ n = leb-true k n t in let f : min k n ≡ k = omega arith in let g : min k n ≡ m = cc in cc)
    by false t = inr (let l : n < k = leb-false k n t in let f : min k n ≡ n = omega arith in let g : min k n ≡ m = cc in cc)

within_left : (o p : Option ℕ) (most : ℕ) → IsWithin o most → IsWithin (lesser o p) most
within_left None p most w = let f : None ≡ Some w.amount = w.is in cc
within_left (Some k) None most w = w
within_left (Some k) (Some n) most w =
    record { amount = min k n; is = refl; within = let l : w.amount ≤ most = w.within in let e : k ≡ w.amount = let f : Some k ≡ Some w.amount = w.is in cc in omega arith }

within_right : (o p : Option ℕ) (most : ℕ) → IsWithin p most → IsWithin (lesser o p) most
within_right None p most w = w
within_right (Some k) None most w = let f : None ≡ Some w.amount = w.is in cc
within_right (Some k) (Some n) most w =
    record { amount = min k n; is = refl; within = let l : w.amount ≤ most = w.within in let e : n ≡ w.amount = let f : Some n ≡ Some w.amount = w.is in cc in omega arith }

-- ---- each cost is that of a walk

staying_walk : (arcs : List Arc) (x y : List ℕ) (m : ℕ) (b : Bool) → bytes_eq x y ≡ b → cond b (Some 0) None ≡ Some m → HasWalk arcs x y m
staying_walk arcs x y m true e f = record { walk = []; is_walk = (bytes_eq-Decides x y).0 e; costs = let g : Some 0 ≡ Some m = f in cc }
staying_walk arcs x y m false e f = cc

first_then : (arcs : List Arc) (x y : List ℕ) (a : Arc) (m : ℕ) (after : Option ℕ) → Contains arcs a → a.from ≡ x → option_map (λ n. a.metric + n) after ≡ Some m
    → ((n : ℕ) → after ≡ Some n → HasWalk arcs a.to y n) → HasWalk arcs x y m
first_then arcs x y a m None c f e inner = cc
first_then arcs x y a m (Some n) c f e inner =
    let w = inner n refl in
    let sum : a.metric + n ≡ m = let h : Some (a.metric + n) ≡ Some m = e in cc in
    record { walk = a ∷ w.walk; is_walk = (c, f, w.is_walk); costs = let k : cost w.walk ≡ n = w.costs in omega arith }

first_walk : (arcs : List Arc) (x y : List ℕ) (after : Arc → Option ℕ) → ((a : Arc) (n : ℕ) → after a ≡ Some n → HasWalk arcs a.to y n)
    → (left : List Arc) → ((a : Arc) → Contains left a → Contains arcs a) → (m : ℕ) → least_first left x after ≡ Some m → HasWalk arcs x y m
first_walk arcs x y after inner [] among m e = cc
first_walk arcs x y after inner (a ∷ left) among m e =
    elim (lesser_is_one (cond (bytes_eq a.from x) (option_map (λ n. a.metric + n) (after a)) None) (least_first left x after) m e) as (λ _. HasWalk arcs x y m) [
      | inl f ↦ here (bytes_eq a.from x) refl f
      | inr f ↦ first_walk arcs x y after inner left (λ b c. among b (Contains-later a left b c)) m f
    ]
  where
    here : (b : Bool) → bytes_eq a.from x ≡ b → cond b (option_map (λ n. a.metric + n) (after a)) None ≡ Some m → HasWalk arcs x y m
    here true f g = first_then arcs x y a m (after a) (among a (Contains-first a left)) ((bytes_eq-Decides a.from x).0 f) g (inner a)
    here false f g = cc

cost_has_walk : (n : ℕ) (arcs : List Arc) (x y : List ℕ) (m : ℕ) → least_within n arcs x y ≡ Some m → HasWalk arcs x y m
cost_has_walk zero arcs x y m e = staying_walk arcs x y m (bytes_eq x y) refl e
cost_has_walk (suc n) arcs x y m e =
    elim (lesser_is_one (staying x y) (least_first arcs x (λ a. least_within n arcs a.to y)) m e) as (λ _. HasWalk arcs x y m) [
      | inl f ↦ staying_walk arcs x y m (bytes_eq x y) refl f
      | inr f ↦ first_walk arcs x y (λ a. least_within n arcs a.to y) (λ a k g. cost_has_walk n arcs a.to y k g) arcs (λ a c. c) m f
    ]

-- ---- each walk of so many arcs costs no less

staying_within : (x y : List ℕ) (most : ℕ) → x ≡ y → IsWithin (staying x y) most
staying_within x y most e = record { amount = 0; is = ap (λ b. cond b (Some 0) None) ((bytes_eq-Decides x y).1 e); within = omega arith }

first_within : (x : List ℕ) (after : Arc → Option ℕ) (a : Arc) (most : ℕ) → a.from ≡ x → IsWithin (after a) most
    → (left : List Arc) → Contains left a → IsWithin (least_first left x after) (a.metric + most)
first_within x after a most f w [] c = none_among c
first_within x after a most f w (b ∷ left) c =
    elim (Contains-cases b left a c) as (λ _. IsWithin (least_first (b ∷ left) x after) (a.metric + most)) [
      | inl same ↦ within_left (cond (bytes_eq b.from x) (option_map (λ n. b.metric + n) (after b)) None) (least_first left x after) (a.metric + most)
          (subst (λ (z : Arc). IsWithin (cond (bytes_eq z.from x) (option_map (λ n. z.metric + n) (after z)) None) (a.metric + most)) (sym same)
          (record {
            amount = a.metric + w.amount;
            is = ap (λ t. cond t (option_map (λ n. a.metric + n) (after a)) None) ((bytes_eq-Decides a.from x).1 f) ∙ ap (λ o. option_map (λ n. a.metric + n) o) w.is;
            within = let l : w.amount ≤ most = w.within in omega arith;
          }))
      | inr later ↦ within_right (cond (bytes_eq b.from x) (option_map (λ n. b.metric + n) (after b)) None) (least_first left x after) (a.metric + most)
          (first_within x after a most f w left later)
    ]

walk_within : (n : ℕ) (arcs : List Arc) (x : List ℕ) (walk : List Arc) (y : List ℕ) → length walk ≤ n → IsWalk arcs x walk y → IsWithin (least_within n arcs x y) (cost walk)
walk_within zero arcs x [] y l w = staying_within x y 0 w
walk_within zero arcs x (a ∷ walk) y l w = absurd (omega arith)
walk_within (suc n) arcs x [] y l w = within_left (staying x y) (least_first arcs x (λ a. least_within n arcs a.to y)) 0 (staying_within x y 0 w)
walk_within (suc n) arcs x (a ∷ walk) y l w =
    within_right (staying x y) (least_first arcs x (λ b. least_within n arcs b.to y)) (a.metric + cost walk)
    (first_within x (λ b. least_within n arcs b.to y) a (cost walk) w.1 (walk_within n arcs a.to walk y (omega arith) w.2) arcs w.0)

-- ---- the least cost

pub least_within_walk : (arcs : List Arc) (x : List ℕ) (walk : List Arc) (y : List ℕ) → IsWalk arcs x walk y → IsWithin (least_cost arcs x y) (cost walk)
unfolding least_cost
least_within_walk arcs x walk y w =
    let s = short_walk arcs x walk y w in
    let r = walk_within (length arcs) arcs x s.walk y (short-le arcs x y (cost walk) s) s.is_walk in
    record { amount = r.amount; is = r.is; within = let l : r.amount ≤ cost s.walk = r.within in let u : cost s.walk ≤ cost walk = s.within in omega arith }

pub least_has_walk : (arcs : List Arc) (x y : List ℕ) (m : ℕ) → least_cost arcs x y ≡ Some m → HasWalk arcs x y m
unfolding least_cost
least_has_walk arcs x y m e = cost_has_walk (length arcs) arcs x y m e

pub least_at : (arcs : List Arc) (x y : List ℕ) (m : ℕ) → least_cost arcs x y ≡ Some m → IsLeast arcs x y m
least_at arcs x y m e =
    let w = least_has_walk arcs x y m e in
    record {
      walk = w.walk;
      is_walk = w.is_walk;
      costs = w.costs;
      none_less = λ other v.
          let r = least_within_walk arcs x other y v in
          let same : r.amount ≡ m = let f : Some r.amount ≡ Some m = sym r.is ∙ e in cc in
          let l : r.amount ≤ cost other = r.within in omega arith;
    }

least_or_none : (arcs : List Arc) (x y : List ℕ) (o : Option ℕ) → least_cost arcs x y ≡ o → MatchOption o (HasNoWalk arcs x y) (λ n. IsLeast arcs x y n)
least_or_none arcs x y None e = λ walk w. let r = least_within_walk arcs x walk y w in let f : Some r.amount ≡ None = sym r.is ∙ e in cc
least_or_none arcs x y (Some m) e = least_at arcs x y m e

pub costs_are_least : CostsAreLeast
costs_are_least arcs x y = least_or_none arcs x y (least_cost arcs x y) refl

-- ---- the first interfaces

pub sum_from_test : (m metric : ℕ) (o : Option ℕ) → add_up_to (Some m) metric o ≡ true → (n : ℕ) × (o ≡ Some n) × (metric + n ≡ m)
sum_from_test m metric None e = cc
sum_from_test m metric (Some n) e = (n, refl, eqb-true (metric + n) m e)

module _ (arcs : List Arc) (x y interface : List ℕ) (m : ℕ) (is : least_cost arcs x y ≡ Some m) where
  pub begins_by : Contains (first_interfaces arcs x y) interface → BeginsBy arcs x y m interface
  unfolding first_interfaces
  begins_by c =
      let g = found_in_map (λ (a : Arc). a.own_if) (filter (begins_least arcs x y) arcs) interface c in
      let a = g.0 in
      let f = found_in_filter (begins_least arcs x y) arcs a g.1 in
      let p = both_true (bytes_eq a.from x) (add_up_to (least_cost arcs x y) a.metric (least_cost arcs a.to y)) f.1 in
      let s = sum_from_test m a.metric (least_cost arcs a.to y) (ap (λ o. add_up_to o a.metric (least_cost arcs a.to y)) (sym is) ∙ p.1) in
      let w = least_has_walk arcs a.to y s.0 s.1 in
      record {
        first = a;
        walk = w.walk;
        is_walk = (f.0, (bytes_eq-Decides a.from x).0 p.0, w.is_walk);
        costs = let k : cost w.walk ≡ s.0 = w.costs in let e : a.metric + s.0 ≡ m = s.2 in omega arith;
        named = g.2;
      }

  pub is_first : BeginsBy arcs x y m interface → Contains (first_interfaces arcs x y) interface
  unfolding first_interfaces
  is_first b =
      let a = b.first in
      let w : IsWalk arcs x (a ∷ b.walk) y = b.is_walk in
      let r = least_within_walk arcs a.to b.walk y w.2 in
      let v = least_has_walk arcs a.to y r.amount r.is in
      let l = least_at arcs x y m is in
      let k : m ≤ a.metric + cost v.walk = l.none_less (a ∷ v.walk) (w.0, w.1, v.is_walk) in
      let c : cost v.walk ≡ r.amount = v.costs in
      let u : r.amount ≤ cost b.walk = r.within in
      let s : a.metric + cost b.walk ≡ m = b.costs in
      let e : a.metric + r.amount ≡ m = omega arith in
      let sums : add_up_to (least_cost arcs x y) a.metric (least_cost arcs a.to y) ≡ true = rw (is, r.is) (eq-eqb (a.metric + r.amount) m e) in
      let test : begins_least arcs x y a ≡ true = rw ((bytes_eq-Decides a.from x).1 w.1) sums in
      subst (λ z. Contains (map (λ (c : Arc). c.own_if) (filter (begins_least arcs x y) arcs)) z) b.named
      (kept_in_map (λ (c : Arc). c.own_if) (filter (begins_least arcs x y) arcs) a (kept_in_filter (begins_least arcs x y) arcs a w.0 test))

pub interfaces_are_first : InterfacesAreFirst
interfaces_are_first arcs x y interface m is = (begins_by arcs x y interface m is, is_first arcs x y interface m is)
