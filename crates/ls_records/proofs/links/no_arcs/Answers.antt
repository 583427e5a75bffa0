use Rattle.ls_records.proofs.Usable.{none_usable}
use Rattle.ls_records.proofs.links.no_arcs.Goals as goal

pub returns-clause-usable : goal.returns-clause-usable
returns-clause-usable c = none_usable c.usable_arcs_are_these.ensures c.args.me.now
