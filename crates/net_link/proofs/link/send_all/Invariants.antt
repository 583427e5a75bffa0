use Rattle.std.proofs.Common.{◌≡◌, ◌++◌, map}
use Rattle.std.specs.Vec.Iter.{into_iter_items}
use Rattle.or_base.specs.declared.item.Item.TheVariants.{Net}
use Rattle.or_actor.specs.declared.output.Output.TheVariants.{To}
use Rattle.net_link.specs.End.{port_for}
use Rattle.net_link.proofs.link.send_all.Given as goal

-- what was sent so far, and what is left
abbrev pub invariant-loop-msg : goal.invariant-loop-msg
invariant-loop-msg l =
    l.out ++ map (λ msg. To (port_for l.end msg) (Net l.link l.from msg)) (into_iter_items l.msg-iterator)
    ≡ l.initial.out ++ map (λ msg. To (port_for l.end msg) (Net l.link l.from msg)) (into_iter_items l.initial.msg-iterator)
