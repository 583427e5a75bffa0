use Rattle.std.proofs.Common.{◌≡◌, drop}
use Rattle.kv_store.specs.Store.{offer_all}
use Rattle.kv_store.proofs.offers.offer_all.Given as goal

-- offering what is left gives what offering all of it gives
abbrev pub invariant-loop-pair : goal.invariant-loop-pair
invariant-loop-pair l = offer_all l.table (drop l.pair-index l.pairs) l.now l.origin ≡ offer_all l.initial.table l.pairs l.now l.origin
