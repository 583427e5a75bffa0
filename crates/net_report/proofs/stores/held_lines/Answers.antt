use Rattle.std.proofs.Common.{◌≡◌, ◌++◌, ◌∙◌, ap, map, rules, string_bytes}
use Rattle.kv_table.specs.Index.{told_at, held_pairs, entries_taken}
use Rattle.net_report.proofs.Places.{lines_of, lines_of_held}
use Rattle.net_report.proofs.stores.held_lines.Goals as goal

pub loop-key-init : goal.loop-key-init
loop-key-init c =
    let places = c.into_iter-key-iterator.result in
    let index = c.args.index.now in
    let all : places ≡ c.places-key-items.result.now.entries = search rules in
    let told : map (told_at index.journal) places ≡ held_pairs (entries_taken index) = ap (map (told_at index.journal)) all ∙ c.places-key-items.ensures in
    ap (λ text. string_bytes c.args.out.now ++ text)
    (ap (λ journal. lines_of (map (told_at journal) places) c.args.moment) c.journal-journal.ensures ∙ lines_of_held index places c.args.moment told)
