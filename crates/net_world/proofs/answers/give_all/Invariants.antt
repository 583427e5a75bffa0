use Rattle.std.proofs.Common.{◌≡◌, [], drop}
use Rattle.net_record.specs.Answers.{give_all}
use Rattle.net_world.specs.Sound.{StayClocked}
use Rattle.net_world.proofs.answers.give_all.Given as goal

-- what was given so far, and what the others give
abbrev pub invariant-loop-number : goal.invariant-loop-number
invariant-loop-number l = record {
  given :
      give_all (record { actors = l.actors.items; answers = l.answers.items }) (drop l.number-index l.numbers)
      ≡ give_all (record { actors = l.fn.actors.items; answers = [] }) l.numbers;
  clocks : StayClocked l.fn.actors.items l.actors.items;
}
