use Rattle.std.proofs.Common.{◌∙◌}
use Rattle.ls_graph.proofs.Placing.{taken_found, taken_absent}
use Rattle.ls_graph.proofs.search.take_arc.Goals as goal

pub returns-in-Ok : goal.returns-in-Ok
returns-in-Ok c =
    let items = c.args.arcs.now.items in
    let e = rw c.deref.ensures.value at c.in-Ok.ensures in
    c.remove-gone.ensures.items ∙ taken_found items c.args.arc.now c.in-Ok.index c.requires e.0 e.1

pub returns-in_default : goal.returns-in_default
returns-in_default c =
    let items = c.args.arcs.now.items in
    let found = c.in_default.ensures in
    let e = rw c.deref.ensures.value at found in
    taken_absent items c.args.arc.now c.in_default.field-0 e.0 e.1 e.2
