use Rattle.std.proofs.Common.{◌≡◌, ◌++◌, drop}
use Rattle.ls_select.specs.Selection.{names_of}
use Rattle.ls_select.proofs.choice.names_of.Given as goal

-- the names so far, and those that are left
abbrev pub invariant-loop-offer : goal.invariant-loop-offer
invariant-loop-offer l = l.names.items ++ names_of (drop l.offer-index l.offers) ≡ names_of l.offers
