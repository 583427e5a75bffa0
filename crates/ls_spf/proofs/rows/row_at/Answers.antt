use Rattle.std.proofs.Common.{◌≡◌, ◌∙◌, ap}
use Rattle.std.specs.List.{flat_map, list_any}
use Rattle.std.specs.Str.{bytes_eq}
use Rattle.ls_spf.specs.Least.{first_interfaces}
use Rattle.ls_spf.specs.Local.{handed_on}
use Rattle.ls_spf.specs.Table.{hops_of, tight_arcs}
use Rattle.ls_spf.proofs.Making.{hops_are, row_is}
use Rattle.ls_spf.proofs.rows.row_at.Goals as goal

pub returns : goal.returns
returns c = λ arcs node are below is tight.
    let me = c.args.me.now in
    let rows = c.args.rows.now.entries in
    let slice : c.as_slice.result.now ≡ tight_arcs arcs me node c.args.cost = c.as_slice.ensures.value ∙ tight in
    let hops : c.in_ok-hops.hops.items ≡ first_interfaces arcs me node =
    hops_are arcs me node c.args.cost are is rows below c.in_ok-hops.hops.items c.in_ok-hops.ensures.sorted
    (λ q. c.in_ok-hops.ensures.are q ∙ ap (λ z. list_any (λ x. bytes_eq x q) (flat_map (handed_on me (hops_of rows)) z)) slice) in
    row_is arcs me node c.args.cost c.from_vec.result c.from_vec-2.result (c.from_vec.ensures ∙ hops) (c.from_vec-2.ensures ∙ tight)
