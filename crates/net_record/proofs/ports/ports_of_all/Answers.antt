use Rattle.std.proofs.Common.{rules}
use Rattle.net_record.proofs.Ported.{ports_more}
use Rattle.net_record.proofs.ports.ports_of_all.Goals as goal

pub loop-number-preserved : goal.loop-number-preserved
loop-number-preserved c =
    ports_more c.args.wires.now c.loop-number.number (record { writer = 0; port = 0; reader = 0 }) c.loop-number.ports.items c.add_port.new.ports.items
    (search rules) c.loop-number.invariant c.in_ok-add_port.ensures
