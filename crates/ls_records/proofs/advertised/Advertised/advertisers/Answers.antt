use Rattle.std.proofs.Common.{◌∙◌, ap}
use Rattle.ls_records.specs.Records.{advertisers}
use Rattle.ls_records.proofs.Advertising.{found_index}
use Rattle.ls_records.proofs.advertised.Advertised.advertisers.Goals as goal

pub returns : goal.returns
returns c =
    found_index c.self.inside.index.entries c.self.inside.records.entries c.args.prefix.now c.get.result c.self.invariant c.len-len.ensures.ordered c.get.ensures.value
    ∙ ap (λ records. advertisers records c.args.prefix.now) c.self.view_is
