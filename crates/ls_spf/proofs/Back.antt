-- The least costs are right at each arc and node alone.
use Rattle.std.proofs.Common.{◌≡◌, ℕ, ◌+◌, ◌≤◌, List, [], ◌∷◌, ◌++◌, Some, refl, sym, ◌⊎◌, inl, inr, arith}
use Rattle.std.specs.List.{Contains}
use Rattle.ls_graph.specs.declared.arc.Arc.{Arc}
use Rattle.ls_spf.specs.Walk.{IsWalk, cost}
use Rattle.ls_spf.specs.Least.{least_cost}
use Rattle.ls_spf.specs.Local.{IsTight, IsRelaxed}
use Rattle.ls_spf.specs.Law.{LeastIsLocal}
use Rattle.ls_spf.proofs.Walks.{IsWalk-push, cost-push}
use Rattle.ls_spf.proofs.Exact.{least_has_walk, least_at, least_within_walk}
use Rattle.ls_spf.proofs.Hops.{ends_by, me_is_free}

module _ (arcs : List Arc) (me : List ℕ) where
  relaxed : (a : Arc) (n : ℕ) → Contains arcs a → least_cost arcs me a.from ≡ Some n → IsRelaxed (least_cost arcs me) a n
  relaxed a n among is =
      let w = least_has_walk arcs me a.from n is in
      let r = least_within_walk arcs me (w.walk ++ a ∷ []) a.to (IsWalk-push arcs me w.walk a a.to w.is_walk among refl) in
      let more : cost (w.walk ++ a ∷ []) ≡ cost w.walk + a.metric = cost-push w.walk a in
      let costs_w : cost w.walk ≡ n = w.costs in
      record { end = r.amount; to = r.is; least = let l : r.amount ≤ cost (w.walk ++ a ∷ []) = r.within in omega arith }

  supported_by : (node : List ℕ) (m : ℕ) → least_cost arcs me node ≡ Some m → (walk : List Arc) → IsWalk arcs me walk node → cost walk ≡ m
      → (node ≡ me) ⊎ ((a : Arc) × IsTight arcs (least_cost arcs me) node m a)
  supported_by node m is [] w c = inl (sym w)
  supported_by node m is (a ∷ walk) w c =
      let t = ends_by arcs me a walk node w in
      let r = least_within_walk arcs me t.before t.last.from t.is_walk in
      let v = least_has_walk arcs me t.last.from r.amount r.is in
      let l = least_at arcs me node m is in
      let none_less : m ≤ cost (v.walk ++ t.last ∷ []) = l.none_less (v.walk ++ t.last ∷ []) (IsWalk-push arcs me v.walk t.last node v.is_walk t.among t.to) in
      let more : cost (v.walk ++ t.last ∷ []) ≡ cost v.walk + t.last.metric = cost-push v.walk t.last in
      let costs_v : cost v.walk ≡ r.amount = v.costs in
      let within : r.amount ≤ cost t.before = r.within in
      let costs_t : cost t.before + t.last.metric ≡ a.metric + cost walk = t.costs in
      let costs_w : a.metric + cost walk ≡ m = c in
      inr (t.last, record { among = t.among; to = t.to; start = r.amount; from = r.is; sum = omega arith })

pub least_is_local : LeastIsLocal
least_is_local arcs me = record {
  here = me_is_free arcs me;
  relaxed = relaxed arcs me;
  supported = λ node m is. let w = least_has_walk arcs me node m is in supported_by arcs me node m is w.walk w.is_walk w.costs;
}
