use Rattle.std.proofs.Common.{◌∙◌, ap}
use Rattle.ls_records.specs.Step.{rest_after}
use Rattle.ls_records.proofs.Starts.{stripped}
use Rattle.ls_records.proofs.reading.rest_after.Goals as goal

pub returns : goal.returns
returns c =
    stripped c.args.start.now c.as_str.result.now c.strip_prefix.result c.strip_prefix.ensures.cases ∙ ap (rest_after c.args.start.now) c.as_str.ensures
