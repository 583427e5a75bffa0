use Rattle.std.proofs.Common.{◌≡◌, fold, drop}
use Rattle.std.specs.Prelude.{max}
use Rattle.ls_select.specs.declared.offer.Offer.{Offer}
use Rattle.ls_select.specs.Selection.{greatest_of}
use Rattle.ls_select.proofs.choice.greatest_path.Given as goal

-- the greatest of those so far, and those that are left
abbrev pub invariant-loop-offer : goal.invariant-loop-offer
invariant-loop-offer l = fold (λ so_far (o : Offer). max so_far o.entry.path) l.greatest (drop l.offer-index l.offers) ≡ greatest_of (λ (o : Offer). o.entry.path) l.offers
