-- The first interfaces of a node are what tight arcs hand on.
use Rattle.std.proofs.Common.{◌≡◌, ℕ, zero, suc, ◌+◌, ◌<◌, ◌≤◌, List, [], ◌∷◌, ◌++◌, Bool, true, false, cond, ◌&&◌, Some, refl, sym, ◌∙◌, ap, subst, ◌⊎◌, inl, inr, ◌↔◌, arith}
use Rattle.std.specs.List.{Contains, flat_map}
use Rattle.std.specs.Str.{bytes_eq}
use Rattle.std.proofs.lemmas.Slice.Eq.{bytes_eq-Decides}
use borrow.Author.Tests.{eq-eqb}
use Rattle.or_base.proofs.Members.{Contains-cases, Contains-first}
use Rattle.ls_graph.specs.declared.arc.Arc.{Arc}
use Rattle.ls_spf.specs.Walk.{IsWalk, cost, BeginsBy}
use Rattle.ls_spf.specs.Least.{least_cost, first_interfaces, add_up_to}
use Rattle.ls_spf.specs.Local.{HaveCosts, handed_on}
use Rattle.ls_spf.specs.Table.{ends_least, tight_arcs}
use Rattle.ls_spf.specs.Law.{UnionIsFirst}
use Rattle.ls_spf.proofs.Listed.{none_among, both_true, found_in_filter, kept_in_filter, found_in_joined, kept_in_joined}
use Rattle.ls_spf.proofs.Walks.{IsWalk-push, cost-push}
use Rattle.ls_spf.proofs.Exact.{least_at, least_has_walk, least_within_walk, sum_from_test, begins_by, is_first}

-- ---- the last arc of a walk

-- the last arc, and the walk before it, which has no arc or begins by the same
pub record EndsBy (arcs : List Arc) (x : List ℕ) (first : Arc) (walk : List Arc) (y : List ℕ) : Type 0 where
  pub last : Arc
  pub before : List Arc
  pub among : Contains arcs last
  pub to : last.to ≡ y
  pub costs : cost before + last.metric ≡ cost (first ∷ walk)
  pub is_walk : IsWalk arcs x before last.from
  pub begins : ((before ≡ []) × (last ≡ first)) ⊎ ((rest : List Arc) × (before ≡ first ∷ rest))

pub ends_by : (arcs : List Arc) (x : List ℕ) (a : Arc) (walk : List Arc) (y : List ℕ) → IsWalk arcs x (a ∷ walk) y → EndsBy arcs x a walk y
ends_by arcs x a [] y w = record { last = a; before = []; among = w.0; to = w.2; costs = omega arith; is_walk = sym w.1; begins = inl (refl, refl) }
ends_by arcs x a (b ∷ walk) y w =
    let r = ends_by arcs a.to b walk y w.2 in
    record {
      last = r.last;
      before = a ∷ r.before;
      among = r.among;
      to = r.to;
      costs = let c : cost r.before + r.last.metric ≡ b.metric + cost walk = r.costs in omega arith;
      is_walk = (w.0, w.1, r.is_walk);
      begins = inr (r.before, refl);
    }

-- ---- what tight arcs hand on

-- `me` costs nothing
pub me_is_free : (arcs : List Arc) (me : List ℕ) → least_cost arcs me me ≡ Some 0
me_is_free arcs me =
    let r = least_within_walk arcs me [] me refl in
    let z : r.amount ≡ 0 = let l : r.amount ≤ 0 = r.within in omega arith in r.is ∙ ap Some z

module _ (arcs : List Arc) (me : List ℕ) (some : HaveCosts arcs) (node interface : List ℕ) (m : ℕ) (is : least_cost arcs me node ≡ Some m)
    (hops : List ℕ → List (List ℕ))
    (before : (u : List ℕ) (k : ℕ) → k < m → least_cost arcs me u ≡ Some k → Contains (hops u) interface ↔ Contains (first_interfaces arcs me u) interface) where
  abbrev tests : Arc → Bool
  tests a = bytes_eq a.to node && ends_least arcs me m a

  -- one tight arc hands on only first interfaces
  handed_down : (a : Arc) (start : ℕ) (b : Bool) → Contains arcs a → a.to ≡ node → least_cost arcs me a.from ≡ Some start → a.metric + start ≡ m
      → bytes_eq a.from me ≡ b → Contains (cond b (a.own_if ∷ []) (hops a.from)) interface → BeginsBy arcs me node m interface
  handed_down a start true among to from sum e c =
      let leaves : a.from ≡ me = (bytes_eq-Decides a.from me).0 e in
      let free : 0 ≡ start = let f : Some 0 ≡ Some start = sym (me_is_free arcs me) ∙ (ap (least_cost arcs me) (sym leaves) ∙ from) in cc in
      elim (Contains-cases a.own_if [] interface c) as (λ _. BeginsBy arcs me node m interface) [
        | inl named ↦ record { first = a; walk = []; is_walk = (among, leaves, to); costs = omega arith; named = named }
        | inr none ↦ none_among none
      ]
  handed_down a start false among to from sum e c =
      let one : 1 ≤ a.metric = some a among in
      let b = begins_by arcs me a.from interface start from ((before a.from start (omega arith) from).0 c) in
      let more : cost (b.walk ++ a ∷ []) ≡ cost b.walk + a.metric = cost-push b.walk a in
      let costs_b : b.first.metric + cost b.walk ≡ start = b.costs in
      record {
        first = b.first;
        walk = b.walk ++ a ∷ [];
        is_walk = IsWalk-push arcs me (b.first ∷ b.walk) a node b.is_walk among to;
        costs = omega arith;
        named = b.named;
      }

  only_first : Contains (flat_map (handed_on me hops) (tight_arcs arcs me node m)) interface → Contains (first_interfaces arcs me node) interface
  only_first c =
      let j = found_in_joined (handed_on me hops) (tight_arcs arcs me node m) interface c in
      let a = j.0 in
      let f = found_in_filter tests arcs a j.1 in
      let p = both_true (bytes_eq a.to node) (ends_least arcs me m a) f.1 in
      let s = sum_from_test m a.metric (least_cost arcs me a.from) p.1 in
      is_first arcs me node interface m is
      (handed_down a s.0 (bytes_eq a.from me) f.0 ((bytes_eq-Decides a.to node).0 p.0) s.1 s.2 refl j.2)

  -- the last arc of a least walk hands on the interface by which this begins
  handed_by : (a : Arc) (start : ℕ) (b : Bool) → least_cost arcs me a.from ≡ Some start → a.metric + start ≡ m → 1 ≤ a.metric → bytes_eq a.from me ≡ b
      → ((a.from ≡ me) × (a.own_if ≡ interface)) ⊎ BeginsBy arcs me a.from start interface → Contains (cond b (a.own_if ∷ []) (hops a.from)) interface
  handed_by a start true from sum one e (inl (leaves, named)) = subst (λ z. Contains (a.own_if ∷ []) z) named (Contains-first a.own_if [])
  handed_by a start true from sum one e (inr b) =
      let leaves : a.from ≡ me = (bytes_eq-Decides a.from me).0 e in
      let free : 0 ≡ start = let f : Some 0 ≡ Some start = sym (me_is_free arcs me) ∙ (ap (least_cost arcs me) (sym leaves) ∙ from) in cc in
      let w : IsWalk arcs me (b.first ∷ b.walk) a.from = b.is_walk in
      let two : 1 ≤ b.first.metric = some b.first w.0 in
      let costs_b : b.first.metric + cost b.walk ≡ start = b.costs in absurd (omega arith)
  handed_by a start false from sum one e (inl (leaves, named)) =
      let t : bytes_eq a.from me ≡ true = (bytes_eq-Decides a.from me).1 leaves in let f : true ≡ false = sym t ∙ e in cc
  handed_by a start false from sum one e (inr b) = (before a.from start (omega arith) from).1 (is_first arcs me a.from interface start from b)

  begins_then : (b : BeginsBy arcs me node m interface) (t : EndsBy arcs me b.first b.walk node) (start : ℕ) → cost t.before ≡ start
      → ((t.before ≡ []) × (t.last ≡ b.first)) ⊎ ((rest : List Arc) × (t.before ≡ b.first ∷ rest))
      → ((t.last.from ≡ me) × (t.last.own_if ≡ interface)) ⊎ BeginsBy arcs me t.last.from start interface
  begins_then b t start c (inl (none, same)) =
      inl (sym (subst (λ w. IsWalk arcs me w t.last.from) none t.is_walk), ap (λ (a : Arc). a.own_if) same ∙ b.named)
  begins_then b t start c (inr (rest, shape)) =
      inr (record { first = b.first; walk = rest; is_walk = subst (λ w. IsWalk arcs me w t.last.from) shape t.is_walk; costs = ap cost (sym shape) ∙ c; named = b.named })

  every_first : Contains (first_interfaces arcs me node) interface → Contains (flat_map (handed_on me hops) (tight_arcs arcs me node m)) interface
  every_first c =
      let b = begins_by arcs me node interface m is c in
      let t = ends_by arcs me b.first b.walk node b.is_walk in
      let a = t.last in
      let r = least_within_walk arcs me t.before a.from t.is_walk in
      let w = least_has_walk arcs me a.from r.amount r.is in
      let l = least_at arcs me node m is in
      let none_less : m ≤ cost (w.walk ++ a ∷ []) = l.none_less (w.walk ++ a ∷ []) (IsWalk-push arcs me w.walk a node w.is_walk t.among t.to) in
      let more : cost (w.walk ++ a ∷ []) ≡ cost w.walk + a.metric = cost-push w.walk a in
      let costs_w : cost w.walk ≡ r.amount = w.costs in
      let within : r.amount ≤ cost t.before = r.within in
      let costs_t : cost t.before + a.metric ≡ b.first.metric + cost b.walk = t.costs in
      let costs_b : b.first.metric + cost b.walk ≡ m = b.costs in
      let sum : a.metric + r.amount ≡ m = omega arith in
      let same : cost t.before ≡ r.amount = omega arith in
      let sums : add_up_to (Some m) a.metric (least_cost arcs me a.from) ≡ true = rw r.is (eq-eqb (a.metric + r.amount) m sum) in
      let tight : tests a ≡ true = rw ((bytes_eq-Decides a.to node).1 t.to) sums in
      kept_in_joined (handed_on me hops) (tight_arcs arcs me node m) a interface (kept_in_filter tests arcs a t.among tight)
      (handed_by a r.amount (bytes_eq a.from me) r.is sum (some a t.among) refl (begins_then b t r.amount same t.begins))

  pub union_at : Contains (flat_map (handed_on me hops) (tight_arcs arcs me node m)) interface ↔ Contains (first_interfaces arcs me node) interface
  union_at = (only_first, every_first)

-- ---- hops that are so at each node

union_below : (bound : ℕ) (arcs : List Arc) (me : List ℕ) (some : HaveCosts arcs) (hops : List ℕ → List (List ℕ)) (interface : List ℕ)
    → ((v : List ℕ) (k : ℕ) → least_cost arcs me v ≡ Some k → Contains (hops v) interface ↔ Contains (flat_map (handed_on me hops) (tight_arcs arcs me v k)) interface)
    → (node : List ℕ) (m : ℕ) → m < bound → least_cost arcs me node ≡ Some m → Contains (hops node) interface ↔ Contains (first_interfaces arcs me node) interface
union_below zero arcs me some hops interface each node m l is = absurd (omega arith)
union_below (suc bound) arcs me some hops interface each node m l is =
    let u = union_at arcs me some node interface m is hops (λ v k less e. union_below bound arcs me some hops interface each v k (omega arith) e) in
    let h = each node m is in
    (λ c. u.0 (h.0 c), λ c. h.1 (u.1 c))

pub union_is_first : UnionIsFirst
union_is_first arcs me hops some interface each node m is = union_below (suc m) arcs me some hops interface each node m (omega arith) is
