use Rattle.std.proofs.Common.{◌≡◌, ◌||◌, ◌∙◌, sym, ap, arith, rules}
use Rattle.std.specs.List.{flat_map, list_any}
use Rattle.std.specs.Str.{bytes_eq}
use Rattle.std.proofs.Math.ListN.{drop_of_length-le}
use Rattle.ls_spf.specs.Local.{handed_on}
use Rattle.ls_spf.specs.Table.{hops_of}
use Rattle.ls_spf.specs.Rows.{is_in}
use Rattle.ls_spf.proofs.Steps.{names_in}
use Rattle.ls_spf.proofs.rows.hops_by.Goals as goal

pub returns-clause-are : goal.returns-clause-are
returns-clause-are c = λ q.
    let keys : c.in_ok-collect.field-0.items ≡ c.loop-arc.set.keys = search rules in
    ap (list_any (λ x. bytes_eq x q)) keys
    ∙ names_in c.loop-arc.set.keys q
    ∙ ap (λ z. list_any (λ x. bytes_eq x q) (flat_map (handed_on c.args.me.now (hops_of c.args.rows.now.entries)) z) || is_in c.loop-arc.set q)
    (sym (drop_of_length-le c.args.tight.now (omega (arith, c.loop-arc-test.false))))
    ∙ c.loop-arc.invariant q
