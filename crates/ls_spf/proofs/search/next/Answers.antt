use Rattle.ls_spf.proofs.Steps.{next_least, next_gone}
use Rattle.ls_spf.proofs.search.next.Goals as goal

pub returns-clause-least : goal.returns-clause-least
returns-clause-least c = next_least c.args.waiting.now c.pop_first.result c.pop_first.ensures.least

pub returns-clause-gone : goal.returns-clause-gone
returns-clause-gone c = next_gone c.args.waiting.now c.pop_first.new.self c.pop_first.result c.pop_first.ensures.updates
