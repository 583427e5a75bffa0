use Rattle.std.proofs.Common.{rules, get_or}
use Rattle.net_world.proofs.Clocked.{clocked_then, given_more}
use Rattle.net_world.proofs.answers.give_all.Goals as goal

pub loop-number-preserved : goal.loop-number-preserved
loop-number-preserved c = record {
  given =
      given_more c.loop-number.actors.items c.give.new.actors.items c.loop-number.answers.items c.give.new.answers.items c.args.numbers.now c.loop-number.number-index
      (get_or c.args.numbers.now c.loop-number.number-index 0) _ c.loop-number-test.true (search rules) c.in_ok-give.ensures.given c.loop-number.invariant.given;
  clocks = clocked_then c.args.actors.now.items c.loop-number.actors.items c.give.new.actors.items c.loop-number.invariant.clocks c.give.ensures.clocks;
}
