-- The keys that a journal holds: in byte order, each once, and exactly those under which something is held.
use Rattle.std.proofs.Common.{◌≡◌, ℕ, List, [], ◌∷◌, ◌++◌, Bool, true, false, cond, Option, Some, None, ◌⊎◌, inl, inr, refl, sym, ◌∙◌, ap, subst, reverse, arith}
use Rattle.std.specs.Prelude.{filter, is_some}
use Rattle.std.specs.Str.{bytes_eq}
use Rattle.std.specs.List.{Contains, AllByRecursion}
use Rattle.std.specs.declared.cmp.Ordering.{Ordering}
use Rattle.std.specs.declared.cmp.Ordering.TheVariants.{Less, Equal, Greater}
use Rattle.std.specs.BTreeSet.{insert_key}
use Rattle.std.specs.Ordering.{ordering_reverse}
use Rattle.std.proofs.lemmas.Bool.{false≢true}
use Rattle.std.proofs.lemmas.Cmp.{nat_list_cmp_total}
use Rattle.std.proofs.lemmas.List.{reverse-append, reverse-reverse}
use Rattle.std.proofs.lemmas.Map.Lookups.{exact_bytes}
use Rattle.std.proofs.lemmas.Slice.Eq.{bytes_eq-Decides}
use Rattle.or_base.specs.declared.entry.JournalEntry.{JournalEntry}
use Rattle.or_base.specs.declared.entry.JournalEntry.TheVariants.{Merged, Expired, Cleared}
use Rattle.or_base.specs.Order.{bytes_cmp}
use Rattle.or_base.specs.Journal.{latest, holds, with_merged_keys}
use Rattle.or_base.specs.Law.{IsBeforeAll, AreInByteOrder, HeldKeysAreThese}
use Rattle.or_base.proofs.Keys.{with_key_by}
use Rattle.or_base.proofs.Members.{Contains-first, Contains-later, Contains-cases}

-- what holds of the key and of all keys holds of all with the key
all_placed : (P : List ℕ → Type 0) (o : Ordering) (key first : List ℕ) (rest later : List (List ℕ)) → P key → P first → AllByRecursion P rest → AllByRecursion P later
    → AllByRecursion P (with_key_by o key first rest later)
all_placed P Less key first rest later here at all after = (here, (at, all))
all_placed P Equal key first rest later here at all after = (at, all)
all_placed P Greater key first rest later here at all after = (at, after)

all_with_key : (P : List ℕ → Type 0) (key : List ℕ) (keys : List (List ℕ)) → P key → AllByRecursion P keys → AllByRecursion P (insert_key bytes_cmp keys key)
all_with_key P key [] here all = (here, tt)
all_with_key P key (first ∷ rest) here all =
    all_placed P (bytes_cmp key first) key first rest (insert_key bytes_cmp rest key) here all.0 all.1 (all_with_key P key rest here all.1)

all_before : (key first : List ℕ) (keys : List (List ℕ)) → bytes_cmp key first ≡ Less → IsBeforeAll first keys → IsBeforeAll key keys
all_before key first [] less before = tt
all_before key first (other ∷ keys) less before =
    (nat_list_cmp_total.trans key first other less before.0, all_before key first keys less before.1)

less_back : (o p : Ordering) → o ≡ ordering_reverse p → p ≡ Greater → o ≡ Less
less_back o p e g = e ∙ ap ordering_reverse g

ordered_placed : (o : Ordering) (key first : List ℕ) (rest later : List (List ℕ)) → bytes_cmp key first ≡ o → IsBeforeAll first rest → AreInByteOrder rest
    → (bytes_cmp first key ≡ Less → IsBeforeAll first later) → AreInByteOrder later → AreInByteOrder (with_key_by o key first rest later)
ordered_placed Less key first rest later e before ordered follows after = ((e, all_before key first rest e before), (before, ordered))
ordered_placed Equal key first rest later e before ordered follows after = (before, ordered)
ordered_placed Greater key first rest later e before ordered follows after =
    (follows (less_back (bytes_cmp first key) (bytes_cmp key first) (nat_list_cmp_total.antisymm first key) e), after)

ordered_with_key : (key : List ℕ) (keys : List (List ℕ)) → AreInByteOrder keys → AreInByteOrder (insert_key bytes_cmp keys key)
ordered_with_key key [] ordered = (tt, tt)
ordered_with_key key (first ∷ rest) ordered =
    ordered_placed (bytes_cmp key first) key first rest (insert_key bytes_cmp rest key) refl ordered.0 ordered.1
    (λ less. all_with_key (λ other. bytes_cmp first other ≡ Less) key rest less ordered.0) (ordered_with_key key rest ordered.1)

ordered_merged : (keys : List (List ℕ)) (entries : List JournalEntry) → AreInByteOrder keys → AreInByteOrder (with_merged_keys keys entries)
ordered_merged keys [] ordered = ordered
ordered_merged keys (Merged pair at origin ∷ later) ordered = ordered_merged (insert_key bytes_cmp keys pair.key) later (ordered_with_key pair.key keys ordered)
ordered_merged keys (Expired name at ∷ later) ordered = ordered_merged keys later ordered
ordered_merged keys (Cleared at ∷ later) ordered = ordered_merged keys later ordered

all_filtered_if : (P : List ℕ → Type 0) (passes : Bool) (key : List ℕ) (kept : List (List ℕ)) → P key → AllByRecursion P kept → AllByRecursion P (cond passes (key ∷ kept) kept)
all_filtered_if P true key kept here all = (here, all)
all_filtered_if P false key kept here all = all

all_filtered : (P : List ℕ → Type 0) (test : List ℕ → Bool) (keys : List (List ℕ)) → AllByRecursion P keys → AllByRecursion P (filter test keys)
all_filtered P test [] all = tt
all_filtered P test (key ∷ keys) all = all_filtered_if P (test key) key (filter test keys) all.0 (all_filtered P test keys all.1)

ordered_filtered_if : (passes : Bool) (key : List ℕ) (kept : List (List ℕ)) → IsBeforeAll key kept → AreInByteOrder kept → AreInByteOrder (cond passes (key ∷ kept) kept)
ordered_filtered_if true key kept before ordered = (before, ordered)
ordered_filtered_if false key kept before ordered = ordered

ordered_filtered : (test : List ℕ → Bool) (keys : List (List ℕ)) → AreInByteOrder keys → AreInByteOrder (filter test keys)
ordered_filtered test [] ordered = tt
ordered_filtered test (key ∷ keys) ordered =
    ordered_filtered_if (test key) key (filter test keys) (all_filtered (λ other. bytes_cmp key other ≡ Less) test keys ordered.0) (ordered_filtered test keys ordered.1)

passes_if : (test : List ℕ → Bool) (key : List ℕ) (kept : List (List ℕ)) (passes : Bool) → test key ≡ passes → (k : List ℕ) → (Contains kept k → test k ≡ true)
    → Contains (cond passes (key ∷ kept) kept) k → test k ≡ true
passes_if test key kept true e k others h =
    elim (Contains-cases key kept k h) [ inl same ↦ subst (λ j. test j ≡ true) same e | inr there ↦ others there ]
passes_if test key kept false e k others h = others h

-- what a filter keeps passes its test
filter_passes : (test : List ℕ → Bool) (keys : List (List ℕ)) (k : List ℕ) → Contains (filter test keys) k → test k ≡ true
filter_passes test [] k h = absurd (omega (arith, h.1))
filter_passes test (key ∷ keys) k h = passes_if test key (filter test keys) (test key) refl k (filter_passes test keys k) h

keeps_if : (test : List ℕ → Bool) (key : List ℕ) (kept : List (List ℕ)) (passes : Bool) → test key ≡ passes → (k : List ℕ) → test k ≡ true
    → (key ≡ k) ⊎ Contains kept k → Contains (cond passes (key ∷ kept) kept) k
keeps_if test key kept true e k t (inl same) = subst (λ j. Contains (key ∷ kept) j) same (Contains-first key kept)
keeps_if test key kept true e k t (inr there) = Contains-later key kept k there
keeps_if test key kept false e k t (inl same) = absurd (false≢true (sym e ∙ ap test same ∙ t))
keeps_if test key kept false e k t (inr there) = there

later_kept : (test : List ℕ → Bool) (key : List ℕ) (keys : List (List ℕ)) (k : List ℕ) → (Contains keys k → Contains (filter test keys) k) → (key ≡ k) ⊎ Contains keys k → (key ≡ k) ⊎ Contains (filter test keys) k
later_kept test key keys k others (inl same) = inl same
later_kept test key keys k others (inr there) = inr (others there)

-- and keeps all that do
kept_or_not : (test : List ℕ → Bool) (keys : List (List ℕ)) (k : List ℕ) → test k ≡ true → Contains keys k → Contains (filter test keys) k
kept_or_not test [] k t h = absurd (omega (arith, h.1))
kept_or_not test (key ∷ keys) k t h =
    keeps_if test key (filter test keys) (test key) refl k t (later_kept test key keys k (kept_or_not test keys k t) (Contains-cases key keys k h))

has_placed : (o : Ordering) (key first : List ℕ) (rest later : List (List ℕ)) → bytes_cmp key first ≡ o → Contains later key → Contains (with_key_by o key first rest later) key
has_placed Less key first rest later e after = Contains-first key (first ∷ rest)
has_placed Equal key first rest later e after = subst (λ k. Contains (first ∷ rest) k) (sym (exact_bytes key first e)) (Contains-first first rest)
has_placed Greater key first rest later e after = Contains-later first later key after

-- the key is among the keys with it
has_key : (key : List ℕ) (keys : List (List ℕ)) → Contains (insert_key bytes_cmp keys key) key
has_key key [] = Contains-first key []
has_key key (first ∷ rest) = has_placed (bytes_cmp key first) key first rest (insert_key bytes_cmp rest key) refl (has_key key rest)

still_placed_at : (first : List ℕ) (rest later : List (List ℕ)) (k : List ℕ) → (first ≡ k) ⊎ Contains rest k → (Contains rest k → Contains later k) → Contains (first ∷ later) k
still_placed_at first rest later k (inl same) after = subst (λ j. Contains (first ∷ later) j) same (Contains-first first later)
still_placed_at first rest later k (inr there) after = Contains-later first later k (after there)

still_placed : (o : Ordering) (key first : List ℕ) (rest later : List (List ℕ)) (k : List ℕ) → Contains (first ∷ rest) k → (Contains rest k → Contains later k) → Contains (with_key_by o key first rest later) k
still_placed Less key first rest later k h after = Contains-later key (first ∷ rest) k h
still_placed Equal key first rest later k h after = h
still_placed Greater key first rest later k h after = still_placed_at first rest later k (Contains-cases first rest k h) after

-- and so is every key that was there
still_there : (key : List ℕ) (keys : List (List ℕ)) (k : List ℕ) → Contains keys k → Contains (insert_key bytes_cmp keys key) k
still_there key [] k h = absurd (omega (arith, h.1))
still_there key (first ∷ rest) k h = still_placed (bytes_cmp key first) key first rest (insert_key bytes_cmp rest key) k h (still_there key rest k)

with_merged_keys-append : (keys : List (List ℕ)) (entries : List JournalEntry) (last : List JournalEntry) → with_merged_keys keys (entries ++ last) ≡ with_merged_keys (with_merged_keys keys entries) last
with_merged_keys-append keys [] last = refl
with_merged_keys-append keys (Merged pair at origin ∷ later) last = with_merged_keys-append (insert_key bytes_cmp keys pair.key) later last
with_merged_keys-append keys (Expired name at ∷ later) last = with_merged_keys-append keys later last
with_merged_keys-append keys (Cleared at ∷ later) last = with_merged_keys-append keys later last

merged_here : (name key : List ℕ) (keys : List (List ℕ)) (same : Bool) → bytes_eq name key ≡ same → (same ≡ false → Contains keys key) → Contains (insert_key bytes_cmp keys name) key
merged_here name key keys true e older = subst (λ k. Contains (insert_key bytes_cmp keys name) k) ((bytes_eq-Decides name key).0 e) (has_key name keys)
merged_here name key keys false e older = still_there name keys key (older refl)

found_older : {X : Type 0} (same : Bool) (found : X) (older : Option X) → is_some (cond same (Some found) older) ≡ true → same ≡ false → is_some older ≡ true
found_older true found older h e = absurd (false≢true (sym e))
found_older false found older h e = h

not_here : {X : Type 0} (same : Bool) (older : Option X) → is_some (cond same None older) ≡ true → is_some older ≡ true
not_here true older h = absurd (false≢true h)
not_here false older h = h

-- a key under which something is held was merged
merged_if_held : (newest_first : List JournalEntry) (key : List ℕ) → is_some (latest newest_first key) ≡ true → Contains (with_merged_keys [] (reverse newest_first)) key
merged_if_held [] key h = absurd (false≢true h)
merged_if_held (Merged pair at origin ∷ older) key h =
    subst (λ ks. Contains ks key) (sym (ap (with_merged_keys []) (reverse-append (Merged pair at origin ∷ []) older) ∙ with_merged_keys-append [] (reverse older) (Merged pair at origin ∷ [])))
    (merged_here pair.key key (with_merged_keys [] (reverse older)) (bytes_eq pair.key key) refl
    (λ other. merged_if_held older key (found_older (bytes_eq pair.key key) (pair.value, at) (latest older key) h other)))
merged_if_held (Expired name at ∷ older) key h =
    subst (λ ks. Contains ks key) (sym (ap (with_merged_keys []) (reverse-append (Expired name at ∷ []) older) ∙ with_merged_keys-append [] (reverse older) (Expired name at ∷ [])))
    (merged_if_held older key (not_here (bytes_eq name key) (latest older key) h))
merged_if_held (Cleared at ∷ older) key h = absurd (false≢true h)

pub held_keys_are_these : HeldKeysAreThese
held_keys_are_these journal =
    let test : List ℕ → Bool = λ key. is_some (holds journal key) in
    record {
      ordered = ordered_filtered test (with_merged_keys [] journal) (ordered_merged [] journal tt);
      held = filter_passes test (with_merged_keys [] journal);
      all = λ key h. kept_or_not test (with_merged_keys [] journal) key h
          (subst (λ entries. Contains (with_merged_keys [] entries) key) (reverse-reverse journal) (merged_if_held (reverse journal) key h));
    }
