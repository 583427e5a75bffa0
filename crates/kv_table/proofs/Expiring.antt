-- The keys that a table loses are those that are due in its wheel, and what is left after that.
use Rattle.std.proofs.Common.{◌≡◌, ℕ, zero, suc, ◌+◌, ◌≤◌, List, [], ◌∷◌, ◌++◌, Bool, true, false, ◌&&◌, ◌||◌, cond, Option, Some, None, refl, sym, ◌∙◌, ap, map, append_assoc, arith}
use Rattle.std.specs.Prelude.{is_some, nat_le, nat_lt, ◌==◌, ◌≢◌, option_and_then}
use Rattle.std.specs.Option.{option_map}
use Rattle.std.specs.declared.cmp.Ordering.TheVariants.{Less}
use Rattle.std.specs.List.{AllByRecursion, filter, flat_map, range_with_len, list_any}
use Rattle.std.specs.List.Sorted.{IsStrictlySortedBy}
use Rattle.std.specs.Map.{keys_of, lookup}
use Rattle.std.specs.BTreeMap.{is_at}
use Rattle.std.proofs.lemmas.Bool.{le-leb, lt-leb, lt-ltb, le-ltb, ltb-true, ltb-false, leb-true, leb-false, eqb-true, eqb-false}
use Rattle.std.proofs.lemmas.List.{append-nil}
use Rattle.std.proofs.lemmas.Cmp.{nat_list_cmp_total, eq_by_cmp_equiv}
use Rattle.std.proofs.lemmas.List.Folds.{list_any-append}
use Rattle.std.proofs.lemmas.Map.Entries.{option_filter, lookup-filter-values}
use Rattle.std.proofs.lemmas.Map.Keys.{IsDistinct-from_sorted}
use Rattle.std.proofs.lemmas.Map.Made.{is_member-filter}
use Rattle.std.proofs.lemmas.Map.Text.{is_eq-slice_cmp}
use Rattle.or_base.specs.declared.value.KvValue.{KvValue}
use Rattle.or_base.specs.declared.entry.JournalEntry.{JournalEntry}
use Rattle.or_base.specs.declared.entry.JournalEntry.TheVariants.{Expired}
use Rattle.or_base.specs.Order.{bytes_cmp}
use Rattle.or_base.specs.Journal.{holds, held_keys}
use Rattle.or_base.specs.Law.{IsBeforeAll, AreInByteOrder}
use Rattle.or_base.proofs.HeldKeys.{held_keys_are_these}
use Rattle.or_base.proofs.Offers.{holds_push}
use Rattle.or_timer.specs.Deadlines as wheel
use Rattle.or_timer.proofs.DueKeys.{due_is}
use Rattle.or_timer.proofs.Entries.{same_key, test_back, ordered_kept, same_entries}
use Rattle.kv_table.specs.Expiry.{deadline_of, is_due_at, keys_lost_at, keys_lost, expire}
use Rattle.kv_table.specs.Slots.{AreDeadlinesOf}
use Rattle.kv_table.proofs.Found.{any_held}

-- ---- keys with what a function gives for them

abbrev entry_if : List ℕ → Option ℕ → List (List ℕ × ℕ) → List (List ℕ × ℕ)
entry_if key None entries = entries
entry_if key (Some deadline) entries = (key, deadline) ∷ entries

module _ (deadline : List ℕ → Option ℕ) where
  abbrev with_each : List (List ℕ) → List (List ℕ × ℕ)
  with_each [] = []
  with_each (key ∷ keys) = entry_if key (deadline key) (with_each keys)

  before_each_if : (first key : List ℕ) (d : Option ℕ) (entries : List (List ℕ × ℕ)) → bytes_cmp first key ≡ Less
      → AllByRecursion (λ other. bytes_cmp first other ≡ Less) (keys_of entries) → AllByRecursion (λ other. bytes_cmp first other ≡ Less) (keys_of (entry_if key d entries))
  before_each_if first key None entries less all = all
  before_each_if first key (Some d) entries less all = (less, all)

  before_each : (first : List ℕ) (keys : List (List ℕ)) → IsBeforeAll first keys → AllByRecursion (λ other. bytes_cmp first other ≡ Less) (keys_of (with_each keys))
  before_each first [] all = tt
  before_each first (key ∷ keys) all = before_each_if first key (deadline key) (with_each keys) all.0 (before_each first keys all.1)

  ordered_if : (key : List ℕ) (d : Option ℕ) (entries : List (List ℕ × ℕ)) → AllByRecursion (λ other. bytes_cmp key other ≡ Less) (keys_of entries)
      → IsStrictlySortedBy bytes_cmp (keys_of entries) → IsStrictlySortedBy bytes_cmp (keys_of (entry_if key d entries))
  unfolding IsStrictlySortedBy
  ordered_if key None entries before ordered = ordered
  ordered_if key (Some d) entries before ordered = (before, ordered)

  ordered_each : (keys : List (List ℕ)) → AreInByteOrder keys → IsStrictlySortedBy bytes_cmp (keys_of (with_each keys))
  unfolding IsStrictlySortedBy
  ordered_each [] ordered = tt
  ordered_each (key ∷ keys) ordered = ordered_if key (deadline key) (with_each keys) (before_each key keys ordered.0) (ordered_each keys ordered.1)

  lookup_here : (key other : List ℕ) (d : Option ℕ) (any : Bool) (entries : List (List ℕ × ℕ)) → is_at (bytes_cmp other) key ≡ true → deadline other ≡ d
      → lookup (is_at (bytes_cmp other)) entries ≡ cond any (deadline other) None → lookup (is_at (bytes_cmp other)) (entry_if key d entries) ≡ d
  lookup_here key other None true entries here is later = later ∙ is
  lookup_here key other None false entries here is later = later
  lookup_here key other (Some d) any entries here is later = ap (λ t. cond t (Some d) (lookup (is_at (bytes_cmp other)) entries)) here

  lookup_there : (key other : List ℕ) (d : Option ℕ) (entries : List (List ℕ × ℕ)) → is_at (bytes_cmp other) key ≡ false
      → lookup (is_at (bytes_cmp other)) (entry_if key d entries) ≡ lookup (is_at (bytes_cmp other)) entries
  lookup_there key other None entries there = refl
  lookup_there key other (Some d) entries there = ap (λ t. cond t (Some d) (lookup (is_at (bytes_cmp other)) entries)) there

  lookup_each : (other : List ℕ) (keys : List (List ℕ)) → lookup (is_at (bytes_cmp other)) (with_each keys) ≡ cond (list_any (is_at (bytes_cmp other)) keys) (deadline other) None
  lookup_each other [] = refl
  lookup_each other (key ∷ keys) = by_test (lookup_each other keys) (is_at (bytes_cmp other) key) refl where
    by_test : lookup (is_at (bytes_cmp other)) (with_each keys) ≡ cond (list_any (is_at (bytes_cmp other)) keys) (deadline other) None → (test : Bool) → is_at (bytes_cmp other) key ≡ test
        → lookup (is_at (bytes_cmp other)) (entry_if key (deadline key) (with_each keys)) ≡ cond (test || list_any (is_at (bytes_cmp other)) keys) (deadline other) None
    by_test rest true here =
        let same : other ≡ key = same_key other key here in
        ap (λ d. lookup (is_at (bytes_cmp other)) (entry_if key d (with_each keys))) (ap deadline (sym same))
        ∙ lookup_here key other (deadline other) (list_any (is_at (bytes_cmp other)) keys) (with_each keys) here refl rest
    by_test rest false there = lookup_there key other (deadline key) (with_each keys) there ∙ rest

  keys_at_if : (moment : ℕ) (key : List ℕ) (d : Option ℕ) (entries : List (List ℕ × ℕ)) (keys : List (List ℕ)) → wheel.keys_at entries moment ≡ keys
      → wheel.keys_at (entry_if key d entries) moment ≡ cond (is_due_at moment d) (key ∷ keys) keys
  keys_at_if moment key None entries keys same = same
  keys_at_if moment key (Some d) entries keys same = by_test (d == moment) where
    by_test : (test : Bool) → map (λ (e : List ℕ × ℕ). e.0) (cond test ((key, d) ∷ filter (λ (e : List ℕ × ℕ). e.1 == moment) entries) (filter (λ (e : List ℕ × ℕ). e.1 == moment) entries)) ≡ cond test (key ∷ keys) keys
    by_test true = ap (λ ks. key ∷ ks) same
    by_test false = same

  keys_at_each : (moment : ℕ) (keys : List (List ℕ)) → wheel.keys_at (with_each keys) moment ≡ filter (λ key. is_due_at moment (deadline key)) keys
  keys_at_each moment [] = refl
  keys_at_each moment (key ∷ keys) = keys_at_if moment key (deadline key) (with_each keys) (filter (λ k. is_due_at moment (deadline k)) keys) (keys_at_each moment keys)

-- ---- the wheel's deadlines are those of the held keys

if_held : (held : Bool) (d : Option ℕ) → (held ≡ false → d ≡ None) → cond held d None ≡ d
if_held true d none = refl
if_held false d none = sym (none refl)

none_if_not_held : (held : Option (KvValue × ℕ)) → is_some held ≡ false → option_and_then (λ h. option_map (λ ttl. h.1 + ttl) h.0.ttl) held ≡ None
none_if_not_held None e = refl
none_if_not_held (Some h) e = cc

deadline_or_none : (journal : List JournalEntry) (key : List ℕ) → cond (list_any (is_at (bytes_cmp key)) (held_keys journal)) (deadline_of journal key) None ≡ deadline_of journal key
deadline_or_none journal key =
    ap (λ t. cond t (deadline_of journal key) None) (any_held journal key)
    ∙ if_held (is_some (holds journal key)) (deadline_of journal key) (none_if_not_held (holds journal key))

deadlines_are : (journal : List JournalEntry) (deadlines : List (List ℕ × ℕ)) → AreDeadlinesOf journal deadlines → deadlines ≡ with_each (deadline_of journal) (held_keys journal)
deadlines_are journal deadlines kept =
    same_entries deadlines (with_each (deadline_of journal) (held_keys journal)) kept.ordered
    (ordered_each (deadline_of journal) (held_keys journal) (held_keys_are_these journal).ordered)
    (λ key. kept.same key ∙ sym (lookup_each (deadline_of journal) key (held_keys journal) ∙ deadline_or_none journal key))

same_at_each : (f g : ℕ → List (List ℕ)) → ((m : ℕ) → f m ≡ g m) → (moments : List ℕ) → flat_map f moments ≡ flat_map g moments
same_at_each f g same [] = refl
same_at_each f g same (m ∷ ms) = ap (λ ks. ks ++ flat_map f ms) (same m) ∙ ap (λ ks. g m ++ ks) (same_at_each f g same ms)

pub due_in_wheel : (journal : List JournalEntry) (deadlines : List (List ℕ × ℕ)) (now : ℕ) → AreDeadlinesOf journal deadlines → wheel.due deadlines now ≡ keys_lost journal now
unfolding keys_lost
due_in_wheel journal deadlines now kept =
    due_is deadlines now
    ∙ same_at_each (wheel.keys_at deadlines) (keys_lost_at journal)
    (λ m. ap (λ ds. wheel.keys_at ds m) (deadlines_are journal deadlines kept) ∙ keys_at_each (deadline_of journal) m (held_keys journal))
    (range_with_len 0 (now + 1))

-- ---- which keys are due

-- the deadline is one of n moments from the first on
abbrev is_within : ℕ → ℕ → Option ℕ → Bool
is_within moment n None = false
is_within moment n (Some d) = nat_le moment d && nat_lt d (moment + n)

within_none : (moment : ℕ) (d : Option ℕ) → is_within moment zero d ≡ false
within_none moment None = refl
within_none moment (Some d) = by_test (nat_le moment d) refl where
  by_test : (test : Bool) → nat_le moment d ≡ test → (test && nat_lt d (moment + zero)) ≡ false
  by_test true e = le-ltb d (moment + zero) (omega (arith, leb-true moment d e))
  by_test false e = refl

within_more : (moment n : ℕ) (d : Option ℕ) → (is_due_at moment d || is_within (moment + 1) n d) ≡ is_within moment (suc n) d
within_more moment n None = refl
within_more moment n (Some d) = by_test (d == moment) refl (nat_le moment d) refl where
  by_test : (here : Bool) → (d == moment) ≡ here → (from : Bool) → nat_le moment d ≡ from
      → (here || (nat_le (moment + 1) d && nat_lt d (moment + 1 + n))) ≡ (from && nat_lt d (moment + suc n))
  by_test true e true f = sym (lt-ltb d (moment + suc n) (omega (arith, eqb-true d moment e)))
  by_test true e false f = absurd (omega (arith, eqb-true d moment e, leb-false moment d f))
  by_test false e false f =
      ap (λ t. t && nat_lt d (moment + 1 + n)) (lt-leb (moment + 1) d (omega (arith, leb-false moment d f)))
  by_test false e true f =
      let apart : d ≢ moment = eqb-false d moment e in
      let above : moment ≤ d = leb-true moment d f in
      let longer : moment + 1 + n ≡ moment + suc n = omega arith in
      ap (λ t. t && nat_lt d (moment + 1 + n)) (le-leb (moment + 1) d (omega (arith, apart, above))) ∙ ap (λ m. nat_lt d m) longer

due_only_if_held : (held due : Bool) → (held ≡ false → due ≡ false) → (held && due) ≡ due
due_only_if_held true due none = refl
due_only_if_held false due none = sym (none refl)

any_due_at : (journal : List JournalEntry) (moment : ℕ) (key : List ℕ) → list_any (is_at (bytes_cmp key)) (keys_lost_at journal moment) ≡ is_due_at moment (deadline_of journal key)
any_due_at journal moment key =
    is_member-filter (eq_by_cmp_equiv nat_list_cmp_total) (λ k. is_due_at moment (deadline_of journal k)) key
    (λ other e. ap (λ k. is_due_at moment (deadline_of journal k)) (same_key key other e)) (held_keys journal)
    ∙ ap (λ t. t && is_due_at moment (deadline_of journal key)) (any_held journal key)
    ∙ due_only_if_held (is_some (holds journal key)) (is_due_at moment (deadline_of journal key))
    (λ not. ap (is_due_at moment) (none_if_not_held (holds journal key) not))

any_due_from : (journal : List JournalEntry) (key : List ℕ) (moment n : ℕ)
    → list_any (is_at (bytes_cmp key)) (flat_map (keys_lost_at journal) (range_with_len moment n)) ≡ is_within moment n (deadline_of journal key)
any_due_from journal key moment zero = sym (within_none moment (deadline_of journal key))
any_due_from journal key moment (suc n) =
    list_any-append (is_at (bytes_cmp key)) (keys_lost_at journal moment) (flat_map (keys_lost_at journal) (range_with_len (moment + 1) n))
    ∙ ap (λ t. t || list_any (is_at (bytes_cmp key)) (flat_map (keys_lost_at journal) (range_with_len (moment + 1) n))) (any_due_at journal moment key)
    ∙ ap (λ t. is_due_at moment (deadline_of journal key) || t) (any_due_from journal key (moment + 1) n)
    ∙ within_more moment n (deadline_of journal key)

any_due : (journal : List JournalEntry) (now : ℕ) (key : List ℕ) → list_any (is_at (bytes_cmp key)) (keys_lost journal now) ≡ is_within 0 (now + 1) (deadline_of journal key)
unfolding keys_lost
any_due journal now key = any_due_from journal key 0 (now + 1)

-- ---- what is held once keys are lost

lost_or_held : (here any : Bool) (held : Option (KvValue × ℕ)) → cond any None (cond here None held) ≡ cond (here || any) None held
lost_or_held true true held = refl
lost_or_held true false held = refl
lost_or_held false true held = refl
lost_or_held false false held = refl

held_after : (journal : List JournalEntry) (now : ℕ) (keys : List (List ℕ)) (key : List ℕ)
    → holds (journal ++ map (λ k. Expired k now) keys) key ≡ cond (list_any (is_at (bytes_cmp key)) keys) None (holds journal key)
held_after journal now [] key = ap (λ entries. holds entries key) (append-nil journal)
held_after journal now (first ∷ keys) key =
    ap (λ entries. holds entries key) (sym (append_assoc journal (Expired first now ∷ []) (map (λ k. Expired k now) keys)))
    ∙ held_after (journal ++ Expired first now ∷ []) now keys key
    ∙ ap (λ held. cond (list_any (is_at (bytes_cmp key)) keys) None held)
    (holds_push journal (Expired first now) key ∙ ap (λ t. cond t None (holds journal key)) (sym (is_eq-slice_cmp first key) ∙ test_back key first))
    ∙ lost_or_held (is_at (bytes_cmp key) first) (list_any (is_at (bytes_cmp key)) keys) (holds journal key)

lost_by_test : (lost : Bool) (held : Option (KvValue × ℕ)) → option_and_then (λ h. option_map (λ ttl. h.1 + ttl) h.0.ttl) (cond lost None held)
    ≡ cond lost None (option_and_then (λ h. option_map (λ ttl. h.1 + ttl) h.0.ttl) held)
lost_by_test true held = refl
lost_by_test false held = refl

within_first : (now d : ℕ) → is_within 0 (now + 1) (Some d) ≡ nat_lt d (now + 1)
within_first now d =
    let same : 0 + (now + 1) ≡ now + 1 = omega arith in
    ap (λ t. t && nat_lt d (0 + (now + 1))) (le-leb 0 d (omega arith)) ∙ ap (λ m. nat_lt d m) same

later_only : (now : ℕ) (d : Option ℕ) → cond (is_within 0 (now + 1) d) None d ≡ option_filter (λ deadline. nat_lt now deadline) d
later_only now None = refl
later_only now (Some d) = ap (λ t. cond t None (Some d)) (within_first now d) ∙ by_test (nat_lt d (now + 1)) refl where
  by_test : (test : Bool) → nat_lt d (now + 1) ≡ test → cond test None (Some d) ≡ cond (nat_lt now d) (Some d) None
  by_test true e = sym (ap (λ t. cond t (Some d) None) (le-ltb now d (omega (arith, ltb-true d (now + 1) e))))
  by_test false e = sym (ap (λ t. cond t (Some d) None) (lt-ltb now d (omega (arith, ltb-false d (now + 1) e))))

deadline_after : (journal : List JournalEntry) (now : ℕ) (key : List ℕ) → deadline_of (expire journal now) key ≡ option_filter (λ deadline. nat_lt now deadline) (deadline_of journal key)
deadline_after journal now key =
    ap (λ held. option_and_then (λ h. option_map (λ ttl. h.1 + ttl) h.0.ttl) held) (held_after journal now (keys_lost journal now) key)
    ∙ lost_by_test (list_any (is_at (bytes_cmp key)) (keys_lost journal now)) (holds journal key)
    ∙ ap (λ t. cond t None (deadline_of journal key)) (any_due journal now key)
    ∙ later_only now (deadline_of journal key)

pub deadlines_expired : (journal : List JournalEntry) (deadlines after : List (List ℕ × ℕ)) (now : ℕ) → AreDeadlinesOf journal deadlines → after ≡ wheel.after_due deadlines now
    → AreDeadlinesOf (expire journal now) after
deadlines_expired journal deadlines after now kept left = rw left (record {
  ordered = ordered_kept (λ e. nat_lt now e.1) deadlines kept.ordered;
  same = λ key.
      lookup-filter-values (eq_by_cmp_equiv nat_list_cmp_total) (λ deadline. nat_lt now deadline) key deadlines (IsDistinct-from_sorted bytes_cmp (keys_of deadlines) kept.ordered)
      ∙ ap (option_filter (λ deadline. nat_lt now deadline)) (kept.same key)
      ∙ sym (deadline_after journal now key);
})
