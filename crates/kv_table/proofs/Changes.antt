-- What is kept beside the journal, as an entry is appended.
use Rattle.std.proofs.Common.{◌≡◌, ℕ, zero, suc, ◌+◌, List, [], ◌∷◌, ◌++◌, Bool, true, false, cond, length, ◌&&◌, Option, Some, None, refl, sym, ◌∙◌, ap, subst, reverse}
use Rattle.std.specs.Prelude.{IfSome, is_none, ◌==◌, option_and_then}
use Rattle.std.specs.Option.{option_map}
use Rattle.std.specs.Str.{bytes_eq}
use Rattle.std.specs.declared.cmp.Ordering.{Ordering}
use Rattle.std.specs.declared.cmp.Ordering.TheVariants.{Less, Equal, Greater}
use Rattle.std.specs.Ordering.{is_eq, match_ordering}
use Rattle.std.specs.List.{slice_get}
use Rattle.std.specs.List.Sorted.{IsStrictlySortedBy}
use Rattle.std.specs.Map.{keys_of, lookup, remove_entry, set_value}
use Rattle.std.specs.BTreeMap.{is_at, insert_entry}
use Rattle.std.proofs.lemmas.Bool.{eqb-true}
use Rattle.std.proofs.lemmas.Map.Steps.{set_value_same}
use Rattle.std.proofs.lemmas.Map.Text.{is_eq-slice_cmp}
use Rattle.or_base.specs.declared.value.KvValue.{KvValue}
use Rattle.or_base.specs.declared.value.Pair.{Pair}
use Rattle.or_base.specs.declared.origin.Origin.{Origin}
use Rattle.or_base.specs.declared.entry.JournalEntry.{JournalEntry}
use Rattle.or_base.specs.declared.entry.JournalEntry.TheVariants.{Merged, Expired, Cleared}
use Rattle.or_base.specs.Order.{bytes_cmp}
use Rattle.or_base.specs.Journal.{latest, holds}
use Rattle.or_base.proofs.Offers.{holds_push}
use Rattle.or_timer.specs.Deadlines.{AreInKeyOrder, deadline_in, with_deadline, without_deadline}
use Rattle.or_timer.proofs.Entries.{same_key, at_itself, insert_found, lookup_with, lookup_without, ordered_with, ordered_without}
use Rattle.kv_value.specs.Hashing.{hash_of}
use Rattle.kv_table.specs.declared.slot.Slot.{Slot}
use Rattle.kv_table.proofs.Found.{some_same}
use Rattle.kv_table.proofs.Indexes.{HasAt, index_merged, index_expired, index_cleared, index_of_none}
use Rattle.kv_table.specs.Index.{merged_by, merged_at, IsIndexOf}
use Rattle.kv_table.specs.Slots.{slot_in, slot_reads, HasItsHash, AreSlotsOf, pair_in, pair_at, lacks_hash, AreDeadlinesOf, IsKeptFor, deadline_from, deadlines_with}

-- ---- places of a longer journal

same_place : (journal later : List JournalEntry) (place : ℕ) (entry : JournalEntry) → slice_get journal place ≡ Some entry → slice_get (journal ++ later) place ≡ Some entry
same_place [] later place entry at = cc
same_place (first ∷ journal) later zero entry at = at
same_place (first ∷ journal) later (suc place) entry at = same_place journal later place entry at

last_place : (journal : List JournalEntry) (entry : JournalEntry) → slice_get (journal ++ entry ∷ []) (length journal) ≡ Some entry
last_place [] entry = refl
last_place (first ∷ journal) entry = last_place journal entry

still_merged : (journal later : List JournalEntry) (place : ℕ) (merged : KvValue × ℕ) → merged_at journal place ≡ Some merged → merged_at (journal ++ later) place ≡ Some merged
still_merged journal later place merged at = by_entry (slice_get journal place) refl at where
  by_entry : (entry : Option JournalEntry) → slice_get journal place ≡ entry → option_and_then merged_by entry ≡ Some merged → merged_at (journal ++ later) place ≡ Some merged
  by_entry None is found = cc
  by_entry (Some entry) is found = ap (λ e. option_and_then merged_by e) (same_place journal later place entry is) ∙ found

still_told : (journal later : List JournalEntry) (slot : Option Slot) (held : Option (KvValue × ℕ)) → option_map (slot_reads journal) slot ≡ option_map (λ h. Some h) held
    → option_map (slot_reads (journal ++ later)) slot ≡ option_map (λ h. Some h) held
still_told journal later None held e = e
still_told journal later (Some s) None e = cc
still_told journal later (Some s) (Some h) e = ap (λ m. Some m) (still_merged journal later s.place h (some_same (slot_reads journal s) (Some h) e))

still_places : (journal later : List JournalEntry) (slots : List (List ℕ × Slot)) → IsIndexOf (slot_reads journal) (λ held. Some held) journal slots
    → IsIndexOf (slot_reads (journal ++ later)) (λ held. Some held) journal slots
still_places journal later slots kept = record { ordered = kept.ordered; tell = λ key. still_told journal later (slot_in slots key) (holds journal key) (kept.tell key) }

-- ---- hashes

still_hash : (journal later : List JournalEntry) (place : ℕ) (hash : Option ℕ) → HasItsHash journal (record { place = place; hash = hash })
    → HasItsHash (journal ++ later) (record { place = place; hash = hash })
still_hash journal later place None kept = tt
still_hash journal later place (Some hash) kept = by_read (merged_at journal place) refl kept where
  by_read : (merged : Option (KvValue × ℕ)) → merged_at journal place ≡ merged → option_map (λ m. hash_of m.0) merged ≡ Some hash
      → option_map (λ m. hash_of m.0) (merged_at (journal ++ later) place) ≡ Some hash
  by_read None is e = cc
  by_read (Some merged) is e = ap (option_map (λ m. hash_of m.0)) (still_merged journal later place merged is) ∙ e

hash_if : (P : Slot → Type 0) (here : Bool) (new old : Option Slot) → IfSome new P → IfSome old P → IfSome (cond here new old) P
hash_if P true new old e f = e
hash_if P false new old e f = f

still_hashes : (journal later : List JournalEntry) (slots : List (List ℕ × Slot)) → ((key : List ℕ) → IfSome (slot_in slots key) (HasItsHash journal))
    → (key : List ℕ) → IfSome (slot_in slots key) (HasItsHash (journal ++ later))
still_hashes journal later slots kept key = of_slot (slot_in slots key) (kept key) where
  of_slot : (slot : Option Slot) → IfSome slot (HasItsHash journal) → IfSome slot (HasItsHash (journal ++ later))
  of_slot None kept = tt
  of_slot (Some slot) kept = still_hash journal later slot.place slot.hash kept

has_slot : (slots after : List (List ℕ × Slot)) (key : List ℕ) (slot : Slot) → after ≡ insert_entry bytes_cmp slots key slot → HasAt slots after key (Some slot)
has_slot slots after key slot put other = ap (λ entries. slot_in entries other) put ∙ lookup_with key slot other slots

has_no_slot : (slots after : List (List ℕ × Slot)) (key : List ℕ) → IsStrictlySortedBy bytes_cmp (keys_of slots) → after ≡ remove_entry (is_at (bytes_cmp key)) slots → HasAt slots after key None
has_no_slot slots after key ordered taken other = ap (λ entries. slot_in entries other) taken ∙ lookup_without key other slots ordered

hashes_changed : (journal : List JournalEntry) (slots after : List (List ℕ × Slot)) (key : List ℕ) (new : Option Slot) → ((other : List ℕ) → IfSome (slot_in slots other) (HasItsHash journal))
    → HasAt slots after key new → IfSome new (HasItsHash journal) → (other : List ℕ) → IfSome (slot_in after other) (HasItsHash journal)
hashes_changed journal slots after key new old has right other =
    subst (λ slot. IfSome slot (HasItsHash journal)) (sym (has other))
    (hash_if (HasItsHash journal) (is_at (bytes_cmp key) other) new (slot_in slots other) right (old other))

-- ---- a key's deadline becomes this one, or goes

abbrev HasDeadline : List (List ℕ × ℕ) → List (List ℕ × ℕ) → List ℕ → Option ℕ → Type 0
HasDeadline deadlines after key deadline = (other : List ℕ) → deadline_in after other ≡ cond (is_at (bytes_cmp key) other) deadline (deadline_in deadlines other)

abbrev lost_at : Option (KvValue × ℕ) → Option ℕ
lost_at held = option_and_then (λ h. option_map (λ ttl. h.1 + ttl) h.0.ttl) held

lost_if : (here : Bool) (new held : Option (KvValue × ℕ)) → lost_at (cond here new held) ≡ cond here (lost_at new) (lost_at held)
lost_if true new held = refl
lost_if false new held = refl

deadlines_changed : (journal : List JournalEntry) (entry : JournalEntry) (deadlines after : List (List ℕ × ℕ)) (key : List ℕ) (held : Option (KvValue × ℕ))
    → AreDeadlinesOf journal deadlines → AreInKeyOrder after → HasDeadline deadlines after key (lost_at held)
    → ((other : List ℕ) → latest (entry ∷ reverse journal) other ≡ cond (bytes_eq key other) held (holds journal other))
    → AreDeadlinesOf (journal ++ entry ∷ []) after
deadlines_changed journal entry deadlines after key held kept ordered has newest = record {
  ordered = ordered;
  same = λ other.
      has other
      ∙ ap (λ t. cond t (lost_at held) (deadline_in deadlines other)) (is_eq-slice_cmp key other)
      ∙ ap (λ d. cond (bytes_eq key other) (lost_at held) d) (kept.same other)
      ∙ sym (lost_if (bytes_eq key other) held (holds journal other))
      ∙ ap lost_at (sym (newest other) ∙ sym (holds_push journal entry other));
}

has_deadline : (deadlines : List (List ℕ × ℕ)) (key : List ℕ) (deadline : Option ℕ) → AreInKeyOrder deadlines → HasDeadline deadlines (deadlines_with deadlines key deadline) key deadline
has_deadline deadlines key None ordered = λ other. lookup_without key other deadlines ordered
has_deadline deadlines key (Some deadline) ordered = λ other. lookup_with key deadline other deadlines

ordered_deadlines : (deadlines : List (List ℕ × ℕ)) (key : List ℕ) (deadline : Option ℕ) → AreInKeyOrder deadlines → AreInKeyOrder (deadlines_with deadlines key deadline)
ordered_deadlines deadlines key None ordered = ordered_without (is_at (bytes_cmp key)) deadlines ordered
ordered_deadlines deadlines key (Some deadline) ordered = ordered_with key deadline deadlines ordered

-- ---- the entries

pub kept_merged : (journal : List JournalEntry) (slots after : List (List ℕ × Slot)) (deadlines later : List (List ℕ × ℕ)) (pair : Pair) (now : ℕ) (origin : Origin) (place : ℕ)
    → IsKeptFor journal slots deadlines → place ≡ length journal
    → after ≡ insert_entry bytes_cmp slots pair.key (record { place = place; hash = None }) → later ≡ deadlines_with deadlines pair.key (deadline_from now pair.value.ttl)
    → IsKeptFor (journal ++ Merged pair now origin ∷ []) after later
kept_merged journal slots after deadlines later pair now origin place kept at put set =
    let entry : JournalEntry = Merged pair now origin in
    let slot : Slot = record { place = place; hash = None } in
    let here : merged_at (journal ++ entry ∷ []) place ≡ Some (pair.value, now) =
    ap (merged_at (journal ++ entry ∷ [])) at ∙ ap (λ e. option_and_then merged_by e) (last_place journal entry) in
    rw set (record {
      of_keys = record {
        places =
            index_merged (slot_reads (journal ++ entry ∷ [])) (λ held. Some held) journal slots after pair now origin slot
            (still_places journal (entry ∷ []) slots kept.of_keys.places) here put;
        hashes =
            hashes_changed (journal ++ entry ∷ []) slots after pair.key (Some slot) (still_hashes journal (entry ∷ []) slots kept.of_keys.hashes)
            (has_slot slots after pair.key slot put) tt;
      };
      of_lifetimes =
          deadlines_changed journal entry deadlines (deadlines_with deadlines pair.key (deadline_from now pair.value.ttl)) pair.key (Some (pair.value, now)) kept.of_lifetimes
          (ordered_deadlines deadlines pair.key (deadline_from now pair.value.ttl) kept.of_lifetimes.ordered)
          (has_deadline deadlines pair.key (deadline_from now pair.value.ttl) kept.of_lifetimes.ordered) (λ other. refl);
    })

-- a slot is written over where its key has one, with what it was or with what is merged now
pub kept_same : (journal items : List JournalEntry) (slots after : List (List ℕ × Slot)) (deadlines later : List (List ℕ × ℕ)) (key : List ℕ) (slot kept : Slot)
    → IsKeptFor journal slots deadlines → slot_in slots key ≡ Some slot → after ≡ set_value (is_at (bytes_cmp key)) slots kept → kept ≡ slot → items ≡ journal → later ≡ deadlines
    → IsKeptFor items after later
kept_same journal items slots after deadlines later key slot kept old found put same stays set =
    rw (stays, set) (subst (λ entries. IsKeptFor journal entries deadlines)
    (sym (put ∙ ap (set_value (is_at (bytes_cmp key)) slots) same ∙ set_value_same (is_at (bytes_cmp key)) slots slot found)) old)

pub kept_over : (journal items : List JournalEntry) (slots after : List (List ℕ × Slot)) (deadlines later : List (List ℕ × ℕ)) (pair : Pair) (now : ℕ) (origin : Origin) (slot kept : Slot)
    → IsKeptFor journal slots deadlines → slot_in slots pair.key ≡ Some slot → after ≡ set_value (is_at (bytes_cmp pair.key)) slots kept → kept ≡ record { place = length journal; hash = None }
    → items ≡ journal ++ Merged pair now origin ∷ [] → later ≡ deadlines_with deadlines pair.key (deadline_from now pair.value.ttl) → IsKeptFor items after later
kept_over journal items slots after deadlines later pair now origin slot kept old found put is pushed set =
    let new : Slot = record { place = length journal; hash = None } in
    let inserted : after ≡ insert_entry bytes_cmp slots pair.key new =
    put ∙ ap (set_value (is_at (bytes_cmp pair.key)) slots) is ∙ sym (insert_found pair.key new slot slots found old.of_keys.places.ordered) in
    subst (λ all. IsKeptFor all after later) (sym pushed) (kept_merged journal slots after deadlines later pair now origin (length journal) old refl inserted set)

pub slots_expired : (journal : List JournalEntry) (slots after : List (List ℕ × Slot)) (key : List ℕ) (now : ℕ) → AreSlotsOf journal slots
    → after ≡ remove_entry (is_at (bytes_cmp key)) slots → AreSlotsOf (journal ++ Expired key now ∷ []) after
slots_expired journal slots after key now kept taken =
    let entry : JournalEntry = Expired key now in
    record {
      places =
          index_expired (slot_reads (journal ++ entry ∷ [])) (λ held. Some held) journal slots after key now (still_places journal (entry ∷ []) slots kept.places) taken;
      hashes =
          hashes_changed (journal ++ entry ∷ []) slots after key None (still_hashes journal (entry ∷ []) slots kept.hashes)
          (has_no_slot slots after key kept.places.ordered taken) tt;
    }

pub kept_cleared : (journal : List JournalEntry) (now : ℕ) → IsKeptFor (journal ++ Cleared now ∷ []) [] []
unfolding IsStrictlySortedBy
kept_cleared journal now = record {
  of_keys = record { places = index_cleared (slot_reads (journal ++ Cleared now ∷ [])) (λ held. Some held) journal now; hashes = λ key. tt };
  of_lifetimes = record { ordered = tt; same = λ key. ap lost_at (sym (holds_push journal (Cleared now) key)) };
}

pub kept_for_none : IsKeptFor [] [] []
unfolding IsStrictlySortedBy
kept_for_none = record { of_keys = record { places = index_of_none (slot_reads []) (λ held. Some held); hashes = λ key. tt }; of_lifetimes = record { ordered = tt; same = λ key. refl } }

-- ---- a key with no slot has no deadline, so a deadline that was set can be taken back

pub none_set : (journal : List JournalEntry) (slots : List (List ℕ × Slot)) (deadlines : List (List ℕ × ℕ)) (key : List ℕ) → IsKeptFor journal slots deadlines
    → slot_in slots key ≡ None → deadline_in deadlines key ≡ None
none_set journal slots deadlines key kept none = kept.of_lifetimes.same key ∙ ap lost_at (not_held (holds journal key) (sym (ap (option_map (slot_reads journal)) none) ∙ kept.of_keys.places.tell key)) where
  not_held : (held : Option (KvValue × ℕ)) → option_map (slot_reads journal) None ≡ option_map (λ h. Some h) held → held ≡ None
  not_held None e = refl
  not_held (Some h) e = cc

pub taken_back : (deadlines : List (List ℕ × ℕ)) (key : List ℕ) (deadline : ℕ) → deadline_in deadlines key ≡ None
    → without_deadline (with_deadline deadlines key deadline) key ≡ deadlines
taken_back [] key deadline none = rw (at_itself key) refl
taken_back (e ∷ es) key deadline none = by_order (taken_back es key deadline) (bytes_cmp key e.0) refl where
  by_order : (deadline_in es key ≡ None → without_deadline (with_deadline es key deadline) key ≡ es) → (o : Ordering) → bytes_cmp key e.0 ≡ o
      → without_deadline (match_ordering o ((key, deadline) ∷ e ∷ es) ((e.0, deadline) ∷ es) (e ∷ with_deadline es key deadline)) key ≡ e ∷ es
  by_order rest Less below = rw (at_itself key) refl
  by_order rest Equal same =
      let wrong : Some e.1 ≡ None = sym (ap (λ o. cond (is_eq o) (Some e.1) (deadline_in es key)) same) ∙ none in absurd cc
  by_order rest Greater above =
      let later : deadline_in es key ≡ None = sym (ap (λ o. cond (is_eq o) (Some e.1) (deadline_in es key)) above) ∙ none in
      ap (λ o. cond (is_eq o) (with_deadline es key deadline) (e ∷ without_deadline (with_deadline es key deadline) key)) above ∙ ap (λ ds. e ∷ ds) (rest later)

-- ---- a hash is kept

-- a key's slot, which reads the same, is put anew
index_kept_again : {X Y : Type 0} (reads : X → Y) (tells : KvValue × ℕ → Y) (journal : List JournalEntry) (index after : List (List ℕ × X)) (key : List ℕ) (kept : X)
    → IsIndexOf reads tells journal index → option_map reads (lookup (is_at (bytes_cmp key)) index) ≡ Some (reads kept) → after ≡ insert_entry bytes_cmp index key kept
    → IsIndexOf reads tells journal after
index_kept_again reads tells journal index after key kept old same put = rw put (record {
  ordered = ordered_with key kept index old.ordered;
  tell = λ other. ap (option_map reads) (lookup_with key kept other index) ∙ by_key other (is_at (bytes_cmp key) other) refl;
}) where
  by_key : (other : List ℕ) (here : Bool) → is_at (bytes_cmp key) other ≡ here
      → option_map reads (cond here (Some kept) (lookup (is_at (bytes_cmp other)) index)) ≡ option_map tells (holds journal other)
  by_key other true at = sym same ∙ ap (λ k. option_map reads (lookup (is_at (bytes_cmp k)) index)) (same_key key other at) ∙ old.tell other
  by_key other false at = old.tell other

read_at : (journal : List JournalEntry) (slot : Option Slot) (place : ℕ) → lacks_hash slot place ≡ true → option_map (slot_reads journal) slot ≡ Some (merged_at journal place)
read_at journal None place lacks = cc
read_at journal (Some slot) place lacks = by_test (slot.place == place) refl lacks where
  by_test : (test : Bool) → (slot.place == place) ≡ test → (test && is_none slot.hash) ≡ true → Some (slot_reads journal slot) ≡ Some (merged_at journal place)
  by_test true e l = ap (λ p. Some (merged_at journal p)) (eqb-true slot.place place e)
  by_test false e l = cc

hash_at : (journal : List JournalEntry) (place : ℕ) (pair : Pair) → pair_at journal place ≡ Some pair → option_map (λ m. hash_of m.0) (merged_at journal place) ≡ Some (hash_of pair.value)
hash_at journal place pair at = by_entry (slice_get journal place) at where
  by_entry : (entry : Option JournalEntry) → option_and_then pair_in entry ≡ Some pair → option_map (λ m. hash_of m.0) (option_and_then merged_by entry) ≡ Some (hash_of pair.value)
  by_entry None e = cc
  by_entry (Some (Merged merged now origin)) e = ap (λ p. Some (hash_of p.value)) (some_same merged pair e)
  by_entry (Some (Expired key now)) e = cc
  by_entry (Some (Cleared now)) e = cc

pub hash_kept : (journal : List JournalEntry) (slots after : List (List ℕ × Slot)) (place : ℕ) (pair : Pair) (hash : ℕ) → AreSlotsOf journal slots
    → pair_at journal place ≡ Some pair → lacks_hash (slot_in slots pair.key) place ≡ true → hash ≡ hash_of pair.value
    → after ≡ insert_entry bytes_cmp slots pair.key (record { place = place; hash = Some hash }) → AreSlotsOf journal after
hash_kept journal slots after place pair hash kept at lacks is put =
    let slot : Slot = record { place = place; hash = Some hash } in
    record {
      places = index_kept_again (slot_reads journal) (λ held. Some held) journal slots after pair.key slot kept.places (read_at journal (slot_in slots pair.key) place lacks) put;
      hashes =
          hashes_changed journal slots after pair.key (Some slot) kept.hashes (has_slot slots after pair.key slot put)
          (hash_at journal place pair at ∙ ap (λ h. Some h) (sym is));
    }
