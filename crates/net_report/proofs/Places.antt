-- The lines of the keys that an index holds, and the stores from a place on.
use Rattle.std.proofs.Common.{◌≡◌, ℕ, ◌+◌, ◌<◌, ◌≤◌, List, [], ◌∷◌, ◌++◌, length, map, get_or, set, drop, Option, Some, refl, sym, ◌∙◌, ap, subst, drop_of_length-le, arith}
use Rattle.std.specs.List.{flat_map, slice_get}
use Rattle.std.proofs.Math.Seq.{map-set_same}
use Rattle.std.proofs.lemmas.List.{drop_more, get_or-map, length-map}
use Rattle.std.proofs.lemmas.Option.{slice_get_within, get_or_from_slice_get}
use Rattle.or_base.specs.declared.value.KvValue.{KvValue}
use Rattle.or_base.specs.declared.entry.JournalEntry.{JournalEntry}
use Rattle.or_base.specs.Journal.{holds, held_keys}
use Rattle.kv_table.specs.Index.{Taken, merged_at, told_at, held_pairs, entries_taken}
use Rattle.net_laboratory.specs.declared.declared.NodeDecl.{NodeDecl}
use Rattle.net_record.specs.declared.record.NodeMark.{NodeMark}
use Rattle.net_report.specs.Report.{held_line, held_lines, store_text, stores_text}
use Rattle.net_report.specs.Indexes.{journals_of}

-- ---- the lines of keys

-- a line for each key with what is held under it
abbrev pub lines_of : List (List ℕ × Option (KvValue × ℕ)) → ℕ → List ℕ
lines_of pairs moment = flat_map (λ pair. held_line pair.0 pair.1 moment) pairs

lines_of_keys : (journal : List JournalEntry) (keys : List (List ℕ)) (moment : ℕ)
    → lines_of (map {B = List ℕ × Option (KvValue × ℕ)} (λ key. (key, holds journal key)) keys) moment ≡ flat_map (λ key. held_line key (holds journal key) moment) keys
lines_of_keys journal [] moment = refl
lines_of_keys journal (key ∷ keys) moment = ap (λ text. held_line key (holds journal key) moment ++ text) (lines_of_keys journal keys moment)

pub lines_of_held : (taken : Taken) (places : List (List ℕ × ℕ)) (moment : ℕ) → map (told_at taken.journal) places ≡ held_pairs (entries_taken taken)
    → lines_of (map (told_at taken.journal) places) moment ≡ held_lines (entries_taken taken) moment
lines_of_held taken places moment told = ap (λ pairs. lines_of pairs moment) told ∙ lines_of_keys (entries_taken taken) (held_keys (entries_taken taken)) moment

-- ---- the stores from a place on

-- an index that takes entries is of the same journal still
pub journals_kept : (indexes : List Taken) (place : ℕ) (old new : Taken) → old ≡ get_or indexes place old → new.journal ≡ old.journal
    → journals_of (set indexes place new) ≡ journals_of indexes
journals_kept indexes place old new at kept = map-set_same (λ (t : Taken). t.journal) indexes place new old (kept ∙ ap (λ (t : Taken). t.journal) at)

pub length_kept : (before after : List Taken) → journals_of after ≡ journals_of before → length after ≡ length before
length_kept before after same = sym (length-map after (λ (t : Taken). t.journal)) ∙ ap length same ∙ length-map before (λ (t : Taken). t.journal)

from_found : {X : Type 0} (xs : List X) (place : ℕ) (x : X) → slice_get xs place ≡ Some x → drop place xs ≡ x ∷ drop (place + 1) xs
from_found xs place x found =
    drop_more xs place x (slice_get_within xs place x found) ∙ ap (λ y. y ∷ drop (place + 1) xs) (get_or_from_slice_get xs place x x found)

pub one_store_more : (nodes : List NodeDecl) (indexes : List Taken) (marks : List NodeMark) (place moment : ℕ) (node : NodeDecl) (index : Taken) (mark : NodeMark)
    → slice_get nodes place ≡ Some node → slice_get marks place ≡ Some mark → place < length indexes → index ≡ get_or indexes place index
    → stores_text (drop place nodes) (drop place (journals_of indexes)) (drop place marks) moment
    ≡ store_text node.name index.journal mark moment ++ stores_text (drop (place + 1) nodes) (drop (place + 1) (journals_of indexes)) (drop (place + 1) marks) moment
one_store_more nodes indexes marks place moment node index mark named marked within at =
    let length_same : length (journals_of indexes) ≡ length indexes = length-map indexes (λ (t : Taken). t.journal) in
    let there : place < length (journals_of indexes) = omega (arith, length_same, within) in
    let journals : drop place (journals_of indexes) ≡ index.journal ∷ drop (place + 1) (journals_of indexes) =
    drop_more (journals_of indexes) place index.journal there
    ∙ ap (λ j. j ∷ drop (place + 1) (journals_of indexes)) (get_or-map (λ (t : Taken). t.journal) indexes place index index.journal within ∙ ap (λ (t : Taken). t.journal) (sym at)) in
    ap (λ ns. stores_text ns (drop place (journals_of indexes)) (drop place marks) moment) (from_found nodes place node named)
    ∙ ap (λ js. stores_text (node ∷ drop (place + 1) nodes) js (drop place marks) moment) journals
    ∙ ap (λ ms. stores_text (node ∷ drop (place + 1) nodes) (index.journal ∷ drop (place + 1) (journals_of indexes)) ms moment) (from_found marks place mark marked)

no_stores : (nodes : List NodeDecl) (marks : List NodeMark) (moment : ℕ) → stores_text nodes [] marks moment ≡ []
no_stores [] marks moment = refl
no_stores (node ∷ nodes) marks moment = refl

-- where there are no more indexes there are no more stores
pub no_stores_left : (nodes : List NodeDecl) (indexes : List Taken) (marks : List NodeMark) (place moment : ℕ)
    → length indexes ≤ place → stores_text (drop place nodes) (drop place (journals_of indexes)) (drop place marks) moment ≡ []
no_stores_left nodes indexes marks place moment past =
    ap (λ js. stores_text (drop place nodes) js (drop place marks) moment)
    (drop_of_length-le (journals_of indexes) (subst (λ n. n ≤ place) (sym (length-map indexes (λ (t : Taken). t.journal))) past))
    ∙ no_stores (drop place nodes) (drop place marks) moment
