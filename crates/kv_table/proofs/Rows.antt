-- The rows of what is held, taken slot by slot, and what a digest makes of them.
use Rattle.std.proofs.Common.{◌≡◌, ℕ, List, [], ◌∷◌, ◌++◌, map, Option, Some, None, refl, sym, ◌∙◌, ap, append_assoc, subst}
use Rattle.std.specs.Prelude.{All, IfSome}
use Rattle.std.specs.Option.{option_map, option_to_list}
use Rattle.std.specs.List.{Contains, cons_option, filter_map}
use Rattle.std.specs.Map.{keys_of}
use Rattle.std.proofs.lemmas.List.Elements.{All-weaker, All-contains_itself}
use Rattle.or_base.specs.declared.value.KvValue.{KvValue}
use Rattle.or_base.specs.declared.digest.DigestRow.{DigestRow}
use Rattle.or_base.specs.declared.entry.JournalEntry.{JournalEntry}
use Rattle.or_base.specs.Journal.{holds, held_keys}
use Rattle.or_base.proofs.Members.{Contains-first, Contains-later}
use Rattle.kv_table.specs.declared.slot.Slot.{Slot}
use Rattle.kv_table.specs.Held.{with_hash, held_rows}
use Rattle.kv_table.specs.Slots.{slot_reads, HasItsHash, AreSlotsOf, row_in}
use Rattle.kv_table.specs.Digest.{row_with, row_of, digest_row, digest}
use Rattle.kv_table.proofs.Found.{keys_held}
use Rattle.kv_table.proofs.Indexes.{found_at, read_is_held}

-- ---- the walk over the slots

-- the same of a key with its slot
abbrev pub SlotHasItsHash : List JournalEntry → List ℕ × Slot → Type 0
SlotHasItsHash journal slotted = HasItsHash journal slotted.1

pub all_hashes : (journal : List JournalEntry) (slots : List (List ℕ × Slot)) → AreSlotsOf journal slots → All (SlotHasItsHash journal) slots
all_hashes journal slots kept = All-weaker (Contains slots) (SlotHasItsHash journal)
    (λ slotted there. subst (λ slot. IfSome slot (HasItsHash journal)) (found_at slots kept.places.ordered slotted.0 slotted.1 there) (kept.hashes slotted.0))
    slots (All-contains_itself slots)

-- one slot more is walked over
pub one_row_more : {X Y : Type 0} (f : X → Option Y) (rows before : List Y) (slot : X) (left later : List X) (all : List Y) → left ≡ slot ∷ later
    → rows ≡ before ++ option_to_list (f slot) → before ++ filter_map f left ≡ all → rows ++ filter_map f later ≡ all
one_row_more f rows before slot left later all is more rest =
    ap (λ ys. ys ++ filter_map f later) more ∙ by_row (f slot) ∙ ap (λ xs. before ++ filter_map f xs) (sym is) ∙ rest where
      by_row : (row : Option _) → (before ++ option_to_list row) ++ filter_map f later ≡ before ++ cons_option row (filter_map f later)
      by_row None = append_assoc before [] (filter_map f later)
      by_row (Some row) = append_assoc before (row ∷ []) (filter_map f later)

same_rows : {X Z : Type 0} (f : List ℕ × X → Option Z) (g : List ℕ → Option Z) (index : List (List ℕ × X)) → ((key : List ℕ) (kept : X) → Contains index (key, kept) → f (key, kept) ≡ g key)
    → filter_map f index ≡ filter_map g (keys_of index)
same_rows f g [] same = refl
same_rows f g (e ∷ index) same =
    ap (λ row. cons_option row (filter_map f index)) (same e.0 e.1 (Contains-first e index))
    ∙ ap (cons_option (g e.0)) (same_rows f g index (λ key kept there. same key kept (Contains-later e index (key, kept) there)))

pub rows_are : (journal : List JournalEntry) (slots : List (List ℕ × Slot)) → AreSlotsOf journal slots → filter_map (row_in journal) slots ≡ held_rows journal
unfolding held_rows
rows_are journal slots kept =
    same_rows (row_in journal) (λ key. option_map (λ held. (key, with_hash held)) (holds journal key)) slots
    (λ key slot there. ap (option_map (λ held. (key, with_hash held))) (read_is_held (slot_reads journal) journal slots kept.places key slot there))
    ∙ ap (filter_map (λ key. option_map (λ held. (key, with_hash held)) (holds journal key))) (keys_held (slot_reads journal) (λ held. Some held) journal slots kept.places)

-- ---- the digest

told_or_not : (key : List ℕ) (held : Option (KvValue × ℕ)) (rows : List (List ℕ × (KvValue × ℕ))) (told : List DigestRow) → map digest_row rows ≡ told
    → map digest_row (cons_option (option_map (λ h. (key, with_hash h)) held) rows) ≡ cons_option (option_map (λ h. row_with key h.0) held) told
told_or_not key None rows told same = same
told_or_not key (Some held) rows told same = ap (λ rest. row_with key held.0 ∷ rest) same

told_each : (journal : List JournalEntry) (keys : List (List ℕ))
    → map digest_row (filter_map (λ key. option_map (λ held. (key, with_hash held)) (holds journal key)) keys) ≡ filter_map (row_of journal) keys
told_each journal [] = refl
told_each journal (key ∷ keys) =
    told_or_not key (holds journal key) (filter_map (λ k. option_map (λ held. (k, with_hash held)) (holds journal k)) keys) (filter_map (row_of journal) keys) (told_each journal keys)

-- a digest tells of each held key
pub digest_is : (journal : List JournalEntry) → map digest_row (held_rows journal) ≡ digest journal
unfolding held_rows digest
digest_is journal = told_each journal (held_keys journal)
