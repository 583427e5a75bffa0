use Rattle.std.proofs.Common.{◌≡◌, ◌∙◌, ap, rules, subst, sym}
use Rattle.std.specs.Map.{lookup}
use Rattle.std.specs.BTreeMap.{is_at}
use Rattle.or_base.specs.Order.{bytes_cmp}
use Rattle.ls_records.specs.Index.{IsIndexOf, entries_in}
use Rattle.ls_records.specs.Step.{changed}
use Rattle.ls_records.proofs.Advertising.{index_replaced, others_kept}
use Rattle.ls_records.proofs.advertised.Advertised.hold.Goals as goal

pub invariant_of-self-2 : goal.invariant_of-self-2
invariant_of-self-2 c =
    let i = c.self.inside in
    let is = subst (λ m. IsIndexOf m.entries i.records.entries) (sym c.replace-index.ensures.value) c.self.invariant in
    let put = c.in_ok-put.ensures ∙ ap (λ m. changed m.entries c.args.node c.args.db) c.replace-records.ensures.value in
    let old : c.entries_in-old.result.now ≡ entries_in (lookup (is_at (bytes_cmp c.args.node)) i.records.entries) = search rules in
    let new : c.entries_in.result.now ≡ entries_in c.args.db = search rules in
    index_replaced c.replace-index.result.entries c.reindex.new.index.entries i.records.entries c.put.new.records.entries c.args.node c.args.db c.entries_in-old.result.now c.entries_in.result.now
    is c.len-len.ensures.ordered (old, new, c.in_ok-list.ensures.told) put

pub returns-clause-others : goal.returns-clause-others
returns-clause-others c =
    let i = c.self.inside in
    let is = subst (λ m. IsIndexOf m.entries i.records.entries) (sym c.replace-index.ensures.value) c.self.invariant in
    let put = c.in_ok-put.ensures ∙ ap (λ m. changed m.entries c.args.node c.args.db) c.replace-records.ensures.value in
    let old : c.entries_in-old.result.now ≡ entries_in (lookup (is_at (bytes_cmp c.args.node)) i.records.entries) = search rules in
    let new : c.entries_in.result.now ≡ entries_in c.args.db = search rules in
    others_kept c.replace-index.result.entries c.reindex.new.index.entries i.records.entries c.put.new.records.entries c.args.self.now c.args.node c.args.db c.entries_in-old.result.now c.entries_in.result.now
    c.in_ok-list.list.items is c.len-len.ensures.ordered (old, new, c.in_ok-list.ensures.told) put c.self.view_is c.in_ok-list.ensures.changed
