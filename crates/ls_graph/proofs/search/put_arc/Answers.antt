use Rattle.std.proofs.Common.{◌∙◌}
use Rattle.ls_graph.proofs.Placing.{put_found, put_absent}
use Rattle.ls_graph.proofs.search.put_arc.Goals as goal

pub returns-in-Ok-clause-ok : goal.returns-in-Ok-clause-ok
returns-in-Ok-clause-ok c =
    let items = c.args.arcs.now.items in
    let e = rw c.deref.ensures.value at c.in-Ok.ensures in
    put_found items c.args.arc c.in-Ok.index c.requires e.0 e.1

pub returns-in_ok-insert-in-Err-clause-ok : goal.returns-in_ok-insert-in-Err-clause-ok
returns-in_ok-insert-in-Err-clause-ok c =
    let items = c.args.arcs.now.items in
    let e = rw c.deref.ensures.value at c.in-Err.ensures in
    c.in_ok-insert-in-Err.ensures.items ∙ put_absent items c.args.arc c.in-Err.index e.0 e.1 e.2
