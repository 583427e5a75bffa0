use Rattle.std.proofs.Common.{◌∙◌, map, ap, rules}
use Rattle.std.proofs.lemmas.Fn.{filter_same}
use Rattle.prefix_manager.specs.Aggregates.{told}
use Rattle.prefix_manager.proofs.Counts.{told_kept}
use Rattle.prefix_manager.proofs.aggregate.remove_aggregate.Goals as goal

pub returns-clause-items : goal.returns-clause-items
returns-clause-items c = filter_same _ _ _ (λ x b f' k. search rules) _ _ c.retain.ensures.filtered

pub returns-clause-told : goal.returns-clause-told
returns-clause-told c = ap (map told) (returns-clause-items c) ∙ told_kept c.args.prefix.now c.args.aggregates.now.items
