-- Costs that are right at each arc and node alone are the least.
use Rattle.std.proofs.Common.{◌≡◌, ℕ, zero, suc, ◌+◌, ◌<◌, ◌≤◌, List, [], ◌∷◌, ◌++◌, Option, Some, None, refl, sym, ◌∙◌, ap, ◌⊎◌, inl, inr, arith}
use Rattle.ls_graph.specs.declared.arc.Arc.{Arc}
use Rattle.ls_spf.specs.Walk.{IsWalk, cost}
use Rattle.ls_spf.specs.Least.{least_cost}
use Rattle.ls_spf.specs.Local.{HaveCosts, IsTight, AreLocal}
use Rattle.ls_spf.specs.Law.{LocalIsLeast}
use Rattle.ls_spf.proofs.Walks.{IsWalk-push, cost-push}
use Rattle.ls_spf.proofs.Exact.{HasWalk, IsWithin, least_at, least_has_walk, least_within_walk}

module _ (arcs : List Arc) (me : List ℕ) (costs : List ℕ → Option ℕ) (some : HaveCosts arcs) (local : AreLocal arcs me costs) where
  -- the end of a walk costs no more than its start and the walk together
  walk_bounds : (x : List ℕ) (n : ℕ) (walk : List Arc) (y : List ℕ) → costs x ≡ Some n → IsWalk arcs x walk y → IsWithin (costs y) (n + cost walk)
  walk_bounds x n [] y e w = record { amount = n; is = ap costs (sym w) ∙ e; within = omega arith }
  walk_bounds x n (a ∷ walk) y e w =
      let r = local.relaxed a n w.0 (ap costs w.1 ∙ e) in
      let t = walk_bounds a.to r.end walk y r.to w.2 in
      record { amount = t.amount; is = t.is; within = let l : r.end ≤ n + a.metric = r.least in let u : t.amount ≤ r.end + cost walk = t.within in omega arith }

  walk_by : (v : List ℕ) (m : ℕ) → (v ≡ me) ⊎ ((a : Arc) × IsTight arcs costs v m a) → costs v ≡ Some m
      → ((u : List ℕ) (k : ℕ) → k < m → costs u ≡ Some k → HasWalk arcs me u k) → HasWalk arcs me v m
  walk_by v m (inl same) e before =
      let z : Some 0 ≡ Some m = sym local.here ∙ (ap costs (sym same) ∙ e) in
      record { walk = []; is_walk = sym same; costs = cc }
  walk_by v m (inr (a, t)) e before =
      let one : 1 ≤ a.metric = some a t.among in
      let sum : t.start + a.metric ≡ m = t.sum in
      let w = before a.from t.start (omega arith) t.from in
      let costs_w : cost w.walk ≡ t.start = w.costs in
      let costs_more : cost (w.walk ++ a ∷ []) ≡ cost w.walk + a.metric = cost-push w.walk a in
      record { walk = w.walk ++ a ∷ []; is_walk = IsWalk-push arcs me w.walk a v w.is_walk t.among t.to; costs = omega arith }

  walk_below : (bound : ℕ) (v : List ℕ) (m : ℕ) → m < bound → costs v ≡ Some m → HasWalk arcs me v m
  walk_below zero v m l e = absurd (omega arith)
  walk_below (suc bound) v m l e = walk_by v m (local.supported v m e) e (λ u k less f. walk_below bound u k (omega arith) f)

  cost_is_least : (v : List ℕ) (o p : Option ℕ) → costs v ≡ o → least_cost arcs me v ≡ p → o ≡ p
  cost_is_least v None None e f = refl
  cost_is_least v None (Some n) e f =
      let w = least_has_walk arcs me v n f in
      let r = walk_bounds me 0 w.walk v local.here w.is_walk in
      let g : Some r.amount ≡ None = sym r.is ∙ e in cc
  cost_is_least v (Some m) None e f =
      let w = walk_below (suc m) v m (omega arith) e in
      let r = least_within_walk arcs me w.walk v w.is_walk in
      let g : Some r.amount ≡ None = sym r.is ∙ f in cc
  cost_is_least v (Some m) (Some n) e f =
      let w = walk_below (suc m) v m (omega arith) e in
      let least = least_at arcs me v n f in
      let r = walk_bounds me 0 least.walk v local.here least.is_walk in
      let r_is : r.amount ≡ m = let g : Some r.amount ≡ Some m = sym r.is ∙ e in cc in
      let above : r.amount ≤ 0 + cost least.walk = r.within in
      let below : n ≤ cost w.walk = least.none_less w.walk w.is_walk in
      let costs_w : cost w.walk ≡ m = w.costs in
      let costs_least : cost least.walk ≡ n = least.costs in
      let same : m ≡ n = omega arith in ap Some same

pub local_is_least : LocalIsLeast
local_is_least arcs me costs some local v = cost_is_least arcs me costs some local v (costs v) (least_cost arcs me v) refl refl
