-- Walks with an arc more, and walks cut short: some walk that costs no more has at most as many arcs as there are.
use Rattle.std.proofs.Common.{◌≡◌, ℕ, ◌+◌, ◌≤◌, List, [], ◌∷◌, ◌++◌, map, length, Bool, true, false, refl, sym, subst, ◌||◌, arith}
use Rattle.std.specs.List.{Contains, IsDistinct, AllByRecursion}
use Rattle.std.specs.Set.{is_member}
use Rattle.std.specs.Str.{bytes_eq}
use Rattle.std.proofs.lemmas.Slice.Eq.{bytes_eq-Decides}
use Rattle.std.proofs.lemmas.Cmp.{nat_list_eq_equiv}
use Rattle.std.proofs.lemmas.Map.Made.{length-le_from_is_member, is_member-Decides}
use Rattle.ls_graph.specs.declared.arc.Arc.{Arc}
use Rattle.ls_spf.specs.Walk.{IsWalk, cost}
use Rattle.ls_spf.proofs.Listed.{kept_in_map}

-- ---- an arc more at the end

pub IsWalk-push : (arcs : List Arc) (x : List ℕ) (walk : List Arc) (a : Arc) (y : List ℕ)
    → IsWalk arcs x walk a.from → Contains arcs a → a.to ≡ y → IsWalk arcs x (walk ++ a ∷ []) y
IsWalk-push arcs x [] a y w c e = (c, sym w, e)
IsWalk-push arcs x (b ∷ walk) a y w c e = (w.0, w.1, IsWalk-push arcs b.to walk a y w.2 c e)

pub cost-push : (walk : List Arc) (a : Arc) → cost (walk ++ a ∷ []) ≡ cost walk + a.metric
cost-push [] a = omega arith
cost-push (b ∷ walk) a = let e : cost (walk ++ a ∷ []) ≡ cost walk + a.metric = cost-push walk a in omega arith

-- ---- walks that leave no node twice

-- the nodes that the arcs leave
abbrev pub starts : List Arc → List (List ℕ)
starts walk = map (λ a. a.from) walk

-- a walk that leaves no node twice and costs no more
pub record HasShort (arcs : List Arc) (x y : List ℕ) (most : ℕ) : Type 0 where
  pub walk : List Arc
  pub is_walk : IsWalk arcs x walk y
  pub within : cost walk ≤ most
  pub distinct : IsDistinct bytes_eq (starts walk)

-- the part of such a walk from a node on that it leaves
cut : (arcs : List Arc) (x y v : List ℕ) (walk : List Arc) → IsWalk arcs x walk y → IsDistinct bytes_eq (starts walk)
    → is_member bytes_eq (starts walk) v ≡ true → HasShort arcs v y (cost walk)
unfolding IsDistinct
cut arcs x y v [] w d e = cc
cut arcs x y v (b ∷ walk) w d e = by (bytes_eq v b.from) refl e (cut arcs b.to y v walk w.2 d.1)
  where
    by : (t : Bool) → bytes_eq v b.from ≡ t → (t || is_member bytes_eq (starts walk) v) ≡ true
        → (is_member bytes_eq (starts walk) v ≡ true → HasShort arcs v y (cost walk)) → HasShort arcs v y (b.metric + cost walk)
    by true same f later = record { walk = b ∷ walk; is_walk = (w.0, sym ((bytes_eq-Decides v b.from).0 same), w.2); within = omega arith; distinct = d }
    by false other f later =
        let r = later f in
        record { walk = r.walk; is_walk = r.is_walk; within = let l : cost r.walk ≤ cost walk = r.within in omega arith; distinct = r.distinct }

apart_from_all : (v : List ℕ) (nodes : List (List ℕ)) → is_member bytes_eq nodes v ≡ false → AllByRecursion (λ q. bytes_eq v q ≡ false) nodes
apart_from_all v [] e = tt
apart_from_all v (q ∷ nodes) e = by (bytes_eq v q) refl e (apart_from_all v nodes)
  where
    by : (t : Bool) → bytes_eq v q ≡ t → (t || is_member bytes_eq nodes v) ≡ false
        → (is_member bytes_eq nodes v ≡ false → AllByRecursion (λ z. bytes_eq v z ≡ false) nodes) → AllByRecursion (λ z. bytes_eq v z ≡ false) (q ∷ nodes)
    by true f g later = cc
    by false f g later = (f, later g)

one_more : (arcs : List Arc) (x y : List ℕ) (a : Arc) (most : ℕ) → Contains arcs a → a.from ≡ x → (r : HasShort arcs a.to y most) (b : Bool)
    → is_member bytes_eq (starts r.walk) a.from ≡ b → HasShort arcs x y (a.metric + most)
unfolding IsDistinct
one_more arcs x y a most c from r true e =
    let s = cut arcs a.to y a.from r.walk r.is_walk r.distinct e in
    record {
      walk = s.walk;
      is_walk = subst (λ z. IsWalk arcs z s.walk y) from s.is_walk;
      within = let l : cost s.walk ≤ cost r.walk = s.within in let u : cost r.walk ≤ most = r.within in omega arith;
      distinct = s.distinct;
    }
one_more arcs x y a most c from r false e =
    record {
      walk = a ∷ r.walk;
      is_walk = (c, from, r.is_walk);
      within = let l : cost r.walk ≤ most = r.within in omega arith;
      distinct = (apart_from_all a.from (starts r.walk) e, r.distinct);
    }

pub short_walk : (arcs : List Arc) (x : List ℕ) (walk : List Arc) (y : List ℕ) → IsWalk arcs x walk y → HasShort arcs x y (cost walk)
unfolding IsDistinct
short_walk arcs x [] y w = record { walk = []; is_walk = w; within = omega arith; distinct = tt }
short_walk arcs x (a ∷ walk) y w =
    let r = short_walk arcs a.to walk y w.2 in
    one_more arcs x y a (cost walk) w.0 w.1 r (is_member bytes_eq (starts r.walk) a.from) refl

-- ---- how many arcs such a walk has

walk_starts : (arcs : List Arc) (x : List ℕ) (walk : List Arc) (y : List ℕ) → IsWalk arcs x walk y → (q : List ℕ)
    → is_member bytes_eq (starts walk) q ≡ true → is_member bytes_eq (starts arcs) q ≡ true
walk_starts arcs x [] y w q e = cc
walk_starts arcs x (a ∷ walk) y w q e = by (bytes_eq q a.from) refl e (walk_starts arcs a.to walk y w.2 q)
  where
    by : (t : Bool) → bytes_eq q a.from ≡ t → (t || is_member bytes_eq (starts walk) q) ≡ true
        → (is_member bytes_eq (starts walk) q ≡ true → is_member bytes_eq (starts arcs) q ≡ true) → is_member bytes_eq (starts arcs) q ≡ true
    by true same f later =
        (is_member-Decides bytes_eq-Decides (starts arcs) q).1 (subst (λ z. Contains (starts arcs) z) (sym ((bytes_eq-Decides q a.from).0 same)) (kept_in_map (λ (z : Arc). z.from) arcs a w.0))
    by false other f later = later f

length-starts : (arcs : List Arc) → length (starts arcs) ≡ length arcs
length-starts [] = refl
length-starts (a ∷ arcs) = let e : length (starts arcs) ≡ length arcs = length-starts arcs in omega arith

pub short-le : (arcs : List Arc) (x y : List ℕ) (most : ℕ) (r : HasShort arcs x y most) → length r.walk ≤ length arcs
short-le arcs x y most r =
    let l : length (starts r.walk) ≤ length (starts arcs) = length-le_from_is_member nat_list_eq_equiv (starts r.walk) (starts arcs) r.distinct (walk_starts arcs x r.walk y r.is_walk) in
    let e : length (starts r.walk) ≡ length r.walk = length-starts r.walk in
    let f : length (starts arcs) ≡ length arcs = length-starts arcs in omega arith
