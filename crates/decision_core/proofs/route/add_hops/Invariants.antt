use Rattle.std.proofs.Common.{◌≡◌, drop, fold}
use Rattle.std.specs.BTreeSet.{insert_key}
use Rattle.or_base.specs.Order.{bytes_cmp}
use Rattle.decision_core.proofs.route.add_hops.Given as goal

-- the interfaces so far, with those that are left
abbrev pub invariant-loop-hop : goal.invariant-loop-hop
invariant-loop-hop l = fold (insert_key bytes_cmp) l.all.keys (drop l.hop-index l.hops) ≡ fold (insert_key bytes_cmp) l.fn.all.keys l.hops
