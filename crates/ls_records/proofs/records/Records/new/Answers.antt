use Rattle.ls_records.proofs.Holding.{nothing_known}
use Rattle.ls_records.proofs.records.Records.new.Goals as goal

pub returns : goal.returns
returns c = nothing_known c.args.me c.new.result c.new-2.result c.new.ensures c.new-2.ensures
