use Rattle.std.proofs.Common.{◌≡◌, sym, subst, option_copied}
use Rattle.std.specs.Prelude.{IfSome}
use Rattle.ls_graph.specs.State.{IsSoundDatabase}
use Rattle.ls_records.proofs.Taking.{under_sound}
use Rattle.ls_records.proofs.reading.link_record_under.Goals as goal

pub returns-clause-sound : goal.returns-clause-sound
returns-clause-sound c =
    subst (λ found. IfSome found (λ d. IsSoundDatabase d × (d.node ≡ c.args.node.now))) (sym c.in_ok-db.ensures)
    (under_sound c.args.key.now c.args.node.now (option_copied c.args.value) c.requires)
