use Rattle.ls_spf.proofs.Exact.{costs_are_least, interfaces_are_first}
use Rattle.ls_spf.proofs.walks_are_least.Goals as goal

pub returns : goal.returns
returns c = record { costs = costs_are_least; interfaces = interfaces_are_first }
