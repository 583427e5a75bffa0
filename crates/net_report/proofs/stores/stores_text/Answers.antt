use Rattle.std.proofs.Common.{◌≡◌, ◌++◌, ◌+◌, ◌<◌, ◌≤◌, ◌∙◌, ap, refl, sym, length, drop, set, Some, append_assoc, append-nil, arith, string_bytes}
use Rattle.std.specs.List.{slice_get}
use Rattle.std.proofs.lemmas.Bool.{ltb-true}
use Rattle.std.proofs.lemmas.Option.{slice_get_read}
use Rattle.net_report.specs.Report.{store_text, stores_text}
use Rattle.net_report.specs.Indexes.{journals_of}
use Rattle.net_report.proofs.Places.{journals_kept, length_kept, one_store_more, no_stores_left}
use Rattle.net_report.proofs.stores.stores_text.Goals as goal

pub returns-in_err-store_text-clause-journals : goal.returns-in_err-store_text-clause-journals
returns-in_err-store_text-clause-journals c =
    journals_kept c.loop-place.indexes.items c.loop-place.place c.index_mut-index.result.now c.store_text.new.index c.index_mut-index.ensures.value c.store_text.ensures.journal
    ∙ c.loop-place.invariant.journals

pub loop-place-preserved : goal.loop-place-preserved
loop-place-preserved c =
    let indexes = c.loop-place.indexes.items in
    let place = c.loop-place.place in
    let index = c.index_mut-index.result.now in
    let node = c.in-Some.node.now in
    let mark = c.in-Some-get.mark.now in
    let there = c.in-Some.ensures.lookup in
    let there_too = c.in-Some-get.ensures.lookup in
    let named : slice_get c.args.nodes.now place ≡ Some node = slice_get_read c.args.nodes.now (length c.args.nodes.now) place node refl (ltb-true place (length c.args.nodes.now) (sym there.0)) there.1 in
    let marked : slice_get c.args.marks.now place ≡ Some mark = slice_get_read c.args.marks.now (length c.args.marks.now) place mark refl (ltb-true place (length c.args.marks.now) (sym there_too.0)) there_too.1 in
    let as_many : length indexes ≡ length c.args.indexes.now.items = length_kept c.args.indexes.now.items indexes c.loop-place.invariant.journals in
    let within : place < length indexes = omega (arith, as_many, c.args.indexes.now.ok.0, c.loop-place-test.true, c.len-place-end.ensures) in
    let kept : journals_of (set indexes place c.store_text.new.index) ≡ journals_of indexes =
    journals_kept indexes place index c.store_text.new.index c.index_mut-index.ensures.value c.store_text.ensures.journal in
    record {
      text =
          ap (λ js. string_bytes c.store_text.new.out ++ stores_text (drop (place + 1) c.args.nodes.now) (drop (place + 1) js) (drop (place + 1) c.args.marks.now) c.args.moment) kept
          ∙ ap (λ text. text ++ stores_text (drop (place + 1) c.args.nodes.now) (drop (place + 1) (journals_of indexes)) (drop (place + 1) c.args.marks.now) c.args.moment) c.in_ok-store_text.ensures.text
          ∙ append_assoc (string_bytes c.loop-place.out) (store_text node.name index.journal mark c.args.moment)
          (stores_text (drop (place + 1) c.args.nodes.now) (drop (place + 1) (journals_of indexes)) (drop (place + 1) c.args.marks.now) c.args.moment)
          ∙ ap (λ text. string_bytes c.loop-place.out ++ text)
          (sym (one_store_more c.args.nodes.now indexes c.args.marks.now place c.args.moment node index mark named marked within c.index_mut-index.ensures.value))
          ∙ c.loop-place.invariant.text;
      journals = kept ∙ c.loop-place.invariant.journals;
    }

pub returns-clause-text : goal.returns-clause-text
returns-clause-text c =
    let indexes = c.loop-place.indexes.items in
    let as_many : length indexes ≡ length c.args.indexes.now.items = length_kept c.args.indexes.now.items indexes c.loop-place.invariant.journals in
    let past : length indexes ≤ c.loop-place.place = omega (arith, as_many, c.args.indexes.now.ok.0, c.loop-place-test.false, c.len-place-end.ensures) in
    sym (append-nil (string_bytes c.loop-place.out))
    ∙ ap (λ text. string_bytes c.loop-place.out ++ text) (sym (no_stores_left c.args.nodes.now indexes c.args.marks.now c.loop-place.place c.args.moment past))
    ∙ c.loop-place.invariant.text
