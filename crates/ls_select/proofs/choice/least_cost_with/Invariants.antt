use Rattle.std.proofs.Common.{◌≡◌, fold, drop}
use Rattle.std.specs.Prelude.{min}
use Rattle.ls_select.specs.Selection.{distance_to}
use Rattle.ls_select.proofs.choice.least_cost_with.Given as goal

-- the least of those so far, and those that are left
abbrev pub invariant-loop-offer : goal.invariant-loop-offer
invariant-loop-offer l = fold (λ so_far o. min so_far (distance_to o)) l.least (drop l.offer-index l.offers) ≡ fold (λ so_far o. min so_far (distance_to o)) l.cost l.offers
