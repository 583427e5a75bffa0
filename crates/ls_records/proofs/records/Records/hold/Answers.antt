use Rattle.std.proofs.Common.{◌≡◌, ◌∙◌, option_copied, None, rules, codes}
use Rattle.ls_records.specs.Step.{rest_after}
use Rattle.ls_records.proofs.Holding.{neither_held, covers_none}
use Rattle.ls_records.proofs.records.Records.hold.Goals as goal

pub returns-clause-ok : goal.returns-clause-ok
returns-clause-ok c =
    let no_link : rest_after (codes "adj:") c.args.key.now ≡ None = search rules in
    let no_prefix : rest_after (codes "prefix:") c.args.key.now ≡ None = search rules in
    neither_held c.self.inside.links c.self.inside.prefixes c.args.self.now c.args.key.now (option_copied c.args.value) c.self.view_is c.arcs-arcs.ensures.settled no_link no_prefix

pub returns-clause-covers : goal.returns-clause-covers
returns-clause-covers c = covers_none c.args.self.now c.change_of_prefixes.result c.change_of_prefixes.ensures.links (c.change_of_prefixes.ensures.prefixes ∙ c.new.ensures.items)
