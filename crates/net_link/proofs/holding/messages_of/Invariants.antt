use Rattle.std.proofs.Common.{◌≡◌, ◌++◌, map}
use Rattle.std.specs.Vec.Iter.{into_iter_items}
use Rattle.net_link.proofs.holding.messages_of.Given as goal

-- the messages so far, and those that are left
abbrev pub invariant-loop-message : goal.invariant-loop-message
invariant-loop-message l = l.msgs.items ++ map (λ h. h.msg) (into_iter_items l.message-iterator) ≡ map (λ h. h.msg) (into_iter_items l.initial.message-iterator)
