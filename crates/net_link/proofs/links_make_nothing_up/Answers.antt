use Rattle.net_link.proofs.Flow.{links_make_nothing_up}
use Rattle.net_link.proofs.links_make_nothing_up.Goals as goal

pub returns : goal.returns
returns c = links_make_nothing_up
