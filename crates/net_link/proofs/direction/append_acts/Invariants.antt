use Rattle.std.proofs.Common.{◌≡◌, ◌++◌}
use Rattle.std.specs.Vec.Iter.{into_iter_items}
use Rattle.net_link.proofs.direction.append_acts.Given as goal

-- the acts so far and those that are left
abbrev pub invariant-loop-act : goal.invariant-loop-act
invariant-loop-act l = l.script.items ++ into_iter_items l.act-iterator ≡ l.initial.script.items ++ into_iter_items l.initial.act-iterator
