-- An index of a journal, as an entry is appended, and what it tells.
use Rattle.std.proofs.Common.{◌≡◌, ℕ, ◌+◌, ◌<◌, List, [], ◌∷◌, ◌++◌, Bool, true, false, cond, map, length, take, get_or, Option, Some, None, refl, sym, ◌∙◌, ap, subst, reverse, arith}
use Rattle.std.specs.Prelude.{option_and_then}
use Rattle.std.specs.Option.{option_map}
use Rattle.std.specs.Str.{bytes_eq}
use Rattle.std.specs.List.{Contains}
use Rattle.std.specs.List.Sorted.{IsStrictlySortedBy}
use Rattle.std.specs.Map.{keys_of, lookup, remove_entry}
use Rattle.std.specs.BTreeMap.{is_at, insert_entry}
use Rattle.std.proofs.lemmas.Cmp.{nat_list_cmp_total, eq_by_cmp_equiv}
use Rattle.std.proofs.lemmas.List.{take_more}
use Rattle.std.proofs.lemmas.Option.{slice_get-get_or}
use Rattle.std.proofs.lemmas.Map.Keys.{IsDistinct-from_sorted}
use Rattle.std.proofs.lemmas.Map.Text.{is_eq-slice_cmp}
use Rattle.std.proofs.lemmas.Map.Views.{lookup-from_Contains}
use Rattle.or_base.specs.declared.value.KvValue.{KvValue}
use Rattle.or_base.specs.declared.value.Pair.{Pair}
use Rattle.or_base.specs.declared.origin.Origin.{Origin}
use Rattle.or_base.specs.declared.entry.JournalEntry.{JournalEntry}
use Rattle.or_base.specs.declared.entry.JournalEntry.TheVariants.{Merged, Expired, Cleared}
use Rattle.or_base.specs.Order.{bytes_cmp}
use Rattle.or_base.specs.Journal.{latest, holds}
use Rattle.or_base.proofs.Members.{Contains-first, Contains-later}
use Rattle.or_base.proofs.Offers.{holds_push}
use Rattle.or_timer.proofs.Entries.{lookup_with, lookup_without, ordered_with, ordered_without}
use Rattle.kv_table.specs.Index.{merged_by, merged_at, IsIndexOf, IsKeptOf, Taken, entries_taken, ArePlacesOf, told_at, held_pairs}
use Rattle.kv_table.proofs.Found.{keys_held}

-- ---- what is kept of a key changes, or goes

told_if : {X Y : Type 0} (reads : X → Y) (tells : KvValue × ℕ → Y) (here : Bool) (new old : Option X) (held new_held : Option (KvValue × ℕ))
    → option_map reads new ≡ option_map tells new_held → option_map reads old ≡ option_map tells held → option_map reads (cond here new old) ≡ option_map tells (cond here new_held held)
told_if reads tells true new old held new_held e f = e
told_if reads tells false new old held new_held e f = f

abbrev pub HasAt : {X : Type 0} → List (List ℕ × X) → List (List ℕ × X) → List ℕ → Option X → Type 0
HasAt index after key kept = (other : List ℕ) → lookup (is_at (bytes_cmp other)) after ≡ cond (is_at (bytes_cmp key) other) kept (lookup (is_at (bytes_cmp other)) index)

index_changed : {X Y : Type 0} (reads : X → Y) (tells : KvValue × ℕ → Y) (journal : List JournalEntry) (entry : JournalEntry) (index after : List (List ℕ × X)) (key : List ℕ) (kept : Option X) (held : Option (KvValue × ℕ))
    → IsIndexOf reads tells journal index → IsStrictlySortedBy bytes_cmp (keys_of after) → HasAt index after key kept
    → ((other : List ℕ) → latest (entry ∷ reverse journal) other ≡ cond (bytes_eq key other) held (holds journal other))
    → option_map reads kept ≡ option_map tells held → IsIndexOf reads tells (journal ++ entry ∷ []) after
index_changed reads tells journal entry index after key kept held old ordered has newest told = record {
  ordered = ordered;
  tell = λ other.
      ap (option_map reads) (has other)
      ∙ told_if reads tells (is_at (bytes_cmp key) other) kept (lookup (is_at (bytes_cmp other)) index) (holds journal other) held told (old.tell other)
      ∙ ap (option_map tells) (ap (λ t. cond t held (holds journal other)) (is_eq-slice_cmp key other) ∙ sym (newest other) ∙ sym (holds_push journal entry other));
}

-- ---- the entries

pub index_merged : {X Y : Type 0} (reads : X → Y) (tells : KvValue × ℕ → Y) (journal : List JournalEntry) (index after : List (List ℕ × X)) (pair : Pair) (now : ℕ) (origin : Origin) (kept : X)
    → IsIndexOf reads tells journal index → reads kept ≡ tells (pair.value, now) → after ≡ insert_entry bytes_cmp index pair.key kept
    → IsIndexOf reads tells (journal ++ Merged pair now origin ∷ []) after
index_merged reads tells journal index after pair now origin kept old told put =
    rw put (index_changed reads tells journal (Merged pair now origin) index (insert_entry bytes_cmp index pair.key kept) pair.key (Some kept) (Some (pair.value, now)) old
    (ordered_with pair.key kept index old.ordered) (λ other. lookup_with pair.key kept other index) (λ other. refl) (ap (λ t. Some t) told))

pub index_expired : {X Y : Type 0} (reads : X → Y) (tells : KvValue × ℕ → Y) (journal : List JournalEntry) (index after : List (List ℕ × X)) (key : List ℕ) (now : ℕ)
    → IsIndexOf reads tells journal index → after ≡ remove_entry (is_at (bytes_cmp key)) index
    → IsIndexOf reads tells (journal ++ Expired key now ∷ []) after
index_expired reads tells journal index after key now old taken =
    rw taken (index_changed reads tells journal (Expired key now) index (remove_entry (is_at (bytes_cmp key)) index) key None None old
    (ordered_without (is_at (bytes_cmp key)) index old.ordered) (λ other. lookup_without key other index old.ordered) (λ other. refl) refl)

pub index_cleared : {X Y : Type 0} (reads : X → Y) (tells : KvValue × ℕ → Y) (journal : List JournalEntry) (now : ℕ) → IsIndexOf reads tells (journal ++ Cleared now ∷ []) []
unfolding IsStrictlySortedBy
index_cleared reads tells journal now = record { ordered = tt; tell = λ key. ap (option_map tells) (sym (holds_push journal (Cleared now) key)) }

pub index_of_none : {X Y : Type 0} (reads : X → Y) (tells : KvValue × ℕ → Y) → IsIndexOf reads tells [] []
unfolding IsStrictlySortedBy
index_of_none reads tells = record { ordered = tt; tell = λ key. refl }

-- ---- what an index of places tells

same_for_each : {X Z : Type 0} (f : X → Z) (g : List ℕ → Z) (index : List (List ℕ × X)) → ((key : List ℕ) (kept : X) → Contains index (key, kept) → f kept ≡ g key)
    → map {B = List ℕ × Z} (λ e. (e.0, f e.1)) index ≡ map {B = List ℕ × Z} (λ key. (key, g key)) (keys_of index)
same_for_each f g [] same = refl
same_for_each {X = X} {Z = Z} f g (e ∷ index) same =
    let others : List (List ℕ × Z) = map {B = List ℕ × Z} (λ d. (d.0, f d.1)) index in
    let first : f e.1 ≡ g e.0 = same e.0 e.1 (Contains-first e index) in
    ap (λ z. (e.0, z) ∷ others) first
    ∙ ap (λ rest. (e.0, g e.0) ∷ rest) (same_for_each f g index (λ key kept there. same key kept (Contains-later e index (key, kept) there)))

as_held : {Y : Type 0} (told : Option Y) (held : Option Y) → Some told ≡ option_map (λ h. Some h) held → told ≡ held
as_held told None e = cc
as_held told (Some h) e = cc

-- a key's entry is what a look-up finds
pub found_at : {X : Type 0} (index : List (List ℕ × X)) → IsStrictlySortedBy bytes_cmp (keys_of index) → (key : List ℕ) (kept : X) → Contains index (key, kept)
    → lookup (is_at (bytes_cmp key)) index ≡ Some kept
found_at index ordered key kept there = lookup-from_Contains (eq_by_cmp_equiv nat_list_cmp_total) key kept index (IsDistinct-from_sorted bytes_cmp (keys_of index) ordered) there

-- what is read at an entry of an index is what is held under its key
pub read_is_held : {X : Type 0} (reads : X → Option (KvValue × ℕ)) (journal : List JournalEntry) (index : List (List ℕ × X)) → IsIndexOf reads (λ held. Some held) journal index
    → (key : List ℕ) (kept : X) → Contains index (key, kept) → reads kept ≡ holds journal key
read_is_held reads journal index told key kept there =
    as_held (reads kept) (holds journal key) (sym (ap (option_map reads) (found_at index told.ordered key kept there)) ∙ told.tell key)

pub places_told : (taken : Taken) (places : List (List ℕ × ℕ)) → ArePlacesOf taken places → map (told_at taken.journal) places ≡ held_pairs (entries_taken taken)
places_told taken places kept =
    let journal = entries_taken taken in
    same_for_each (merged_at taken.journal) (holds journal) places (read_is_held (merged_at taken.journal) journal places kept)
    ∙ ap (λ keys. map {B = List ℕ × Option (KvValue × ℕ)} (λ key. (key, holds journal key)) keys) (keys_held (merged_at taken.journal) (λ held. Some held) journal places kept)

-- ---- one entry more is taken

more_taken : (journal : List JournalEntry) (place : ℕ) (entry : JournalEntry) → place < length journal → entry ≡ get_or journal place entry
    → take (place + 1) journal ≡ take place journal ++ entry ∷ []
more_taken journal place entry within is = take_more journal place entry within ∙ ap (λ e. take place journal ++ e ∷ []) (sym is)

pub place_merged : (journal : List JournalEntry) (place : ℕ) (entry : JournalEntry) (pair : Pair) (now : ℕ) (origin : Origin) (places after : List (List ℕ × ℕ))
    → place < length journal → entry ≡ get_or journal place entry → entry ≡ Merged pair now origin → ArePlacesOf (record { journal = journal; count = place }) places
    → after ≡ insert_entry bytes_cmp places pair.key place → ArePlacesOf (record { journal = journal; count = place + 1 }) after
place_merged journal place entry pair now origin places after within at is old put =
    let read : merged_at journal place ≡ Some (pair.value, now) = ap (λ e. option_and_then merged_by e) (slice_get-get_or journal place entry within ∙ ap (λ e. Some e) (sym at ∙ is)) in
    subst (λ entries. IsIndexOf (merged_at journal) (λ held. Some held) entries after) (sym (more_taken journal place entry within at ∙ ap (λ e. take place journal ++ e ∷ []) is))
    (index_merged (merged_at journal) (λ held. Some held) (take place journal) places after pair now origin place old read put)

pub place_expired : (journal : List JournalEntry) (place : ℕ) (entry : JournalEntry) (key : List ℕ) (now : ℕ) (places after : List (List ℕ × ℕ))
    → place < length journal → entry ≡ get_or journal place entry → entry ≡ Expired key now → ArePlacesOf (record { journal = journal; count = place }) places
    → after ≡ remove_entry (is_at (bytes_cmp key)) places → ArePlacesOf (record { journal = journal; count = place + 1 }) after
place_expired journal place entry key now places after within at is old gone =
    subst (λ entries. IsIndexOf (merged_at journal) (λ held. Some held) entries after) (sym (more_taken journal place entry within at ∙ ap (λ e. take place journal ++ e ∷ []) is))
    (index_expired (merged_at journal) (λ held. Some held) (take place journal) places after key now old gone)

pub place_cleared : (journal : List JournalEntry) (place : ℕ) (entry : JournalEntry) (now : ℕ) (after : List (List ℕ × ℕ))
    → place < length journal → entry ≡ get_or journal place entry → entry ≡ Cleared now → after ≡ [] → ArePlacesOf (record { journal = journal; count = place + 1 }) after
place_cleared journal place entry now after within at is none =
    subst (λ entries. IsIndexOf (merged_at journal) (λ held. Some held) entries after) (sym (more_taken journal place entry within at ∙ ap (λ e. take place journal ++ e ∷ []) is))
    (subst (λ places. IsIndexOf (merged_at journal) (λ held. Some held) (take place journal ++ Cleared now ∷ []) places) (sym none)
    (index_cleared (merged_at journal) (λ held. Some held) (take place journal) now))

pub ruleset entry_taken = (place_merged, place_expired, place_cleared)

-- of no entry there are no places
pub no_places : (journal : List JournalEntry) (places : List (List ℕ × ℕ)) → places ≡ [] → IsKeptOf (record { journal = journal; count = 0 }) places
no_places journal places none = record {
  within = omega arith;
  places_of = subst (λ entries. ArePlacesOf (record { journal = journal; count = 0 }) entries) (sym none) (index_of_none (merged_at journal) (λ held. Some held));
}
