use Rattle.std.proofs.Common.{◌∙◌, ap, not}
use Rattle.std.specs.List.{filter}
use Rattle.std.proofs.lemmas.List.Kept.{IsStrictlySortedBy-filter}
use Rattle.ls_spf.specs.Table.{place_cmp}
use Rattle.ls_spf.specs.Search.{is_before, is_up_to}
use Rattle.ls_spf.proofs.Leaving.{from_and_up_to}
use Rattle.ls_spf.proofs.search.arcs_from.Goals as goal

pub arcs_up_to-requires : goal.arcs_up_to-requires
arcs_up_to-requires c = rw c.arcs_not_before.ensures (IsStrictlySortedBy-filter place_cmp (λ a. not (is_before c.args.node.now a)) c.args.arcs.now c.requires)

pub returns : goal.returns
returns c = c.arcs_up_to.ensures ∙ (ap (filter (is_up_to c.args.node.now)) c.arcs_not_before.ensures ∙ from_and_up_to c.args.node.now c.args.arcs.now)
