use Rattle.std.proofs.Common.{◌≡◌, ◌++◌, map}
use Rattle.decision_core.specs.Scratch.{offer_of}
use Rattle.decision_core.proofs.offers.offers_of.Given as goal

-- the offers so far, and those of the nodes that are left
abbrev pub invariant-loop-node : goal.invariant-loop-node
invariant-loop-node l = l.offers.items ++ map (offer_of l.records) l.node-iterator ≡ map (offer_of l.records) l.nodes.entries
