use Rattle.std.proofs.Common.{option_copied}
use Rattle.ls_records.proofs.Holding.{prefix_held}
use Rattle.ls_records.proofs.records.Records.hold_prefix.Goals as goal

pub returns-clause-ok : goal.returns-clause-ok
returns-clause-ok c =
    prefix_held c.self.inside.links c.self.inside.prefixes c.hold.new.self c.args.self.now c.args.key.now c.args.node.now c.in_ok-node.node c.in_ok-db.db (option_copied c.args.value)
    c.self.view_is c.arcs-arcs.ensures.settled c.requires c.in_ok-node.ensures c.in_ok-db.ensures c.in_ok-prefixes.ensures.ok
