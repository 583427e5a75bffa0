use Rattle.std.proofs.Common.{◌≡◌, ◌++◌, drop}
use Rattle.net_record.specs.World.{marks_of}
use Rattle.net_record.proofs.stores.marks_of.Given as goal

-- the marks so far and those of the actors that are left
abbrev pub invariant-loop-actor : goal.invariant-loop-actor
invariant-loop-actor l = l.marks.items ++ marks_of (drop l.actor-index l.actors) ≡ marks_of l.actors
