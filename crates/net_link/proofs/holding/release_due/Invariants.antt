use Rattle.std.proofs.Common.{◌≡◌, ◌++◌, map, not}
use Rattle.std.specs.Vec.Iter.{into_iter_items}
use Rattle.std.specs.List.{filter}
use Rattle.net_link.specs.Link.{is_due}
use Rattle.net_link.proofs.holding.release_due.Given as goal

-- what stays and what is due: of those so far, and of those that are left
abbrev pub invariant-loop-message : goal.invariant-loop-message
invariant-loop-message l = record {
  kept : l.kept.items ++ filter (λ h. not (is_due h)) (into_iter_items l.message-iterator)
      ≡ filter (λ h. not (is_due h)) (into_iter_items l.initial.message-iterator);
  due : l.forwarded.items ++ map (λ h. h.msg) (filter is_due (into_iter_items l.message-iterator))
      ≡ l.initial.forwarded.items ++ map (λ h. h.msg) (filter is_due (into_iter_items l.initial.message-iterator));
}
