use Rattle.ls_records.proofs.Told.{added_more}
use Rattle.ls_records.proofs.index.add_all.Goals as goal

pub loop-entry-preserved : goal.loop-entry-preserved
loop-entry-preserved c =
    added_more c.args.index.now.entries c.loop-entry.index.entries c.add.new.index.entries c.args.node.now c.loop-entry.left.now c.in-Some.before.now c.args.entries.now c.in-Some.entry.now
    c.loop-entry.invariant c.in-Some.ensures.cases.0 c.in_ok-add.ensures
