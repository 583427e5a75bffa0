use Rattle.std.proofs.Common.{rules}
use Rattle.std.proofs.lemmas.Fn.{always_returns_same}
use Rattle.ls_graph.specs.Places.{pair_cmp, place_of}
use Rattle.ls_graph.proofs.Placing.{found_at}
use Rattle.ls_graph.proofs.search.search.Goals as goal

pub returns : goal.returns
returns c =
    found_at c.args.arcs.now (c.args.from.now, c.args.own_if.now) c.binary_search_by.result c.requires c.binary_search_by.ensures.bound
    (c.binary_search_by.ensures.position (λ b. pair_cmp (place_of b) (c.args.from.now, c.args.own_if.now)) (always_returns_same _ _ _ (λ a r f2 k. search rules)))
