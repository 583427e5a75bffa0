use Rattle.std.proofs.Common.{◌≡◌, fold, drop}
use Rattle.std.specs.Prelude.{min}
use Rattle.ls_select.specs.declared.offer.Offer.{Offer}
use Rattle.ls_select.proofs.choice.least_distance_with.Given as goal

-- the least of those so far, and those that are left
abbrev pub invariant-loop-offer : goal.invariant-loop-offer
invariant-loop-offer l =
    fold (λ so_far (o : Offer). min so_far o.entry.distance) l.least (drop l.offer-index l.offers) ≡ fold (λ so_far (o : Offer). min so_far o.entry.distance) l.distance l.offers
