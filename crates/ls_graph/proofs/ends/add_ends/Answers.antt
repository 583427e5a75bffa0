use Rattle.ls_graph.proofs.Joining.{ends_added}
use Rattle.ls_graph.proofs.ends.add_ends.Goals as goal

pub returns : goal.returns
returns c =
    ends_added c.args.x.now c.args.a.now c.in_ok-copied.field-0 c.in_ok-copied-2.field-0 c.in_ok-copied-3.field-0 c.in_ok-copied-4.field-0
    c.args.places.now.keys c.insert.new.self.keys c.insert-2.new.self.keys
    c.in_ok-copied.ensures c.in_ok-copied-2.ensures c.in_ok-copied-3.ensures c.in_ok-copied-4.ensures
    c.in_ok-_is_new.ensures.updates.0 c.in_ok-_is_new-2.ensures.updates.0
