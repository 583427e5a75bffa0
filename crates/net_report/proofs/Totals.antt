-- The keys that an index counts, and where stores end.
use Rattle.std.proofs.Common.{◌≡◌, ℕ, ◌≤◌, List, [], ◌∷◌, length, map, drop, Option, refl, sym, ◌∙◌, ap, drop_of_length-le}
use Rattle.std.proofs.lemmas.List.{length-map}
use Rattle.or_base.specs.declared.value.KvValue.{KvValue}
use Rattle.or_base.specs.declared.entry.JournalEntry.{JournalEntry}
use Rattle.or_base.specs.Journal.{holds, held_keys}
use Rattle.kv_table.specs.Index.{told_at, held_pairs}
use Rattle.net_record.specs.declared.record.NodeMark.{NodeMark}
use Rattle.net_report.specs.Summary.{keys_of_stores}

-- an index has a place for each held key
pub places_counted : (journal taken : List JournalEntry) (places : List (List ℕ × ℕ)) → map (told_at journal) places ≡ held_pairs taken
    → length places ≡ length (held_keys taken)
places_counted journal taken places told =
    sym (length-map places (told_at journal)) ∙ ap length told
    ∙ length-map {B = List ℕ × Option (KvValue × ℕ)} (held_keys taken) (λ key. (key, holds taken key))

no_marks_count : (journals : List (List JournalEntry)) → keys_of_stores journals [] ≡ 0
no_marks_count [] = refl
no_marks_count (journal ∷ journals) = refl

-- where there are no more nodes nothing more is counted
pub no_marks_counted : (journals : List (List JournalEntry)) (marks : List NodeMark) (place : ℕ)
    → length marks ≤ place → keys_of_stores (drop place journals) (drop place marks) ≡ 0
no_marks_counted journals marks place past = ap (λ ms. keys_of_stores (drop place journals) ms) (drop_of_length-le marks past) ∙ no_marks_count (drop place journals)
