use Rattle.std.proofs.Common.{◌∙◌}
use Rattle.ls_graph.proofs.Placing.{read_found, read_absent, some_at}
use Rattle.ls_graph.proofs.search.arc_in.Goals as goal

pub returns-in-Ok : goal.returns-in-Ok
returns-in-Ok c =
    some_at c.args.arcs.now c.in-Ok.index _ c.in-Ok.ensures.0 c.index-arcs-index.is
    ∙ read_found c.args.arcs.now (c.args.from.now, c.args.own_if.now) c.in-Ok.index c.requires c.in-Ok.ensures.0 c.in-Ok.ensures.1

pub returns-in-Err : goal.returns-in-Err
returns-in-Err c =
    let e = c.in-Err.ensures in read_absent c.args.arcs.now (c.args.from.now, c.args.own_if.now) c.in-Err.field-0 e.0 e.1 e.2
