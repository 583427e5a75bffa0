-- A prefix that isn't listed has the advertisers that it had.
use Rattle.std.proofs.Common.{◌≡◌, ℕ, List, [], ◌∷◌, Bool, true, false, cond, Option, Some, None, refl, sym, ◌∙◌, ap, eqb-true}
use Rattle.std.specs.Prelude.{◌||◌, ◌&&◌, ◌==◌, fold}
use Rattle.std.specs.declared.cmp.Ordering.{Ordering}
use Rattle.std.specs.declared.cmp.Ordering.TheVariants.{Less, Equal, Greater}
use Rattle.std.specs.Ordering.{match_ordering}
use Rattle.std.specs.List.{AllByRecursion, list_any}
use Rattle.std.specs.BTreeSet.{insert_key}
use Rattle.std.proofs.lemmas.Bool.{false≢true, and_parts}
use Rattle.or_base.specs.Prefixes.{prefix_cmp, is_same_prefix}
use Rattle.or_base.specs.declared.database.PrefixEntry.{PrefixEntry}
use Rattle.or_base.specs.declared.prefix.Prefix.{Prefix}
use Rattle.ls_records.specs.Index.{Index, changed_prefixes, entry_among, entry_told, is_same_entry, stands, with_changed}
use Rattle.ls_records.proofs.Told.{exact_prefix, prefix_tests, prefix_itself, same_prefix}

-- ---- what is listed

any_placed : (test : Prefix → Bool) (key first : Prefix) (rest later : List Prefix) (o : Ordering) → prefix_cmp key first ≡ o → list_any test later ≡ (test key || list_any test rest)
    → list_any test (match_ordering o (key ∷ first ∷ rest) (first ∷ rest) (first ∷ later)) ≡ (test key || list_any test (first ∷ rest))
any_placed test key first rest later Less is after = refl
any_placed test key first rest later Equal is after = twice_any (test first) (list_any test rest) ∙ ap (λ k. test k || (test first || list_any test rest)) (sym (exact_prefix key first is)) where
  twice_any : (s t : Bool) → (s || t) ≡ (s || (s || t))
  twice_any true t = refl
  twice_any false t = refl
any_placed test key first rest later Greater is after = ap (λ t. test first || t) after ∙ other_way (test first) (test key) (list_any test rest) where
  other_way : (s t u : Bool) → (s || (t || u)) ≡ (t || (s || u))
  other_way true true u = refl
  other_way true false u = refl
  other_way false t u = refl

pub any_inserted : (test : Prefix → Bool) (key : Prefix) (keys : List Prefix) → list_any test (insert_key prefix_cmp keys key) ≡ (test key || list_any test keys)
any_inserted test key [] = refl
any_inserted test key (first ∷ rest) = any_placed test key first rest (insert_key prefix_cmp rest key) (prefix_cmp key first) refl (any_inserted test key rest)

none_of : (s t : Bool) → (s || t) ≡ false → (s ≡ false) × (t ≡ false)
none_of true t e = absurd cc
none_of false t e = (refl, e)

-- a prefix that isn't listed: each entry for it stands
abbrev Stands : Index → List ℕ → Prefix → PrefixEntry → Type 0
Stands index node p entry = is_same_prefix entry.prefix p ≡ true → stands (entry_told index entry.prefix node) entry ≡ true

one_listed : (index : Index) (node : List ℕ) (p : Prefix) (keys : List Prefix) (entry : PrefixEntry) (is : Bool) → stands (entry_told index entry.prefix node) entry ≡ is
    → list_any (is_same_prefix p) (cond is keys (insert_key prefix_cmp keys entry.prefix)) ≡ false → (list_any (is_same_prefix p) keys ≡ false) × Stands index node p entry
one_listed index node p keys entry true is none = (none, λ same. is)
one_listed index node p keys entry false is none =
    let parts = none_of (is_same_prefix p entry.prefix) (list_any (is_same_prefix p) keys) (sym (any_inserted (is_same_prefix p) entry.prefix keys) ∙ none) in
    (parts.1, λ same. absurd (false≢true (sym parts.0 ∙ ap (is_same_prefix p) (same_prefix entry.prefix p (prefix_tests entry.prefix p ∙ same)) ∙ sym (prefix_tests p p) ∙ prefix_itself p)))

all_listed : (index : Index) (node : List ℕ) (p : Prefix) (keys : List Prefix) (entries : List PrefixEntry) → list_any (is_same_prefix p) (fold (with_changed index node) keys entries) ≡ false
    → (list_any (is_same_prefix p) keys ≡ false) × AllByRecursion (Stands index node p) entries
all_listed index node p keys [] none = (none, tt)
all_listed index node p keys (entry ∷ entries) none =
    let later = all_listed index node p (with_changed index node keys entry) entries none in
    let first = one_listed index node p keys entry (stands (entry_told index entry.prefix node) entry) refl later.0 in
    (first.0, (first.1, later.1))

same_entry : (a b : PrefixEntry) → is_same_entry a b ≡ true → a ≡ b
same_entry a b e =
    let last = and_parts (is_same_prefix a.prefix b.prefix && a.path == b.path && a.source == b.source) (a.distance == b.distance) e in
    let third = and_parts (is_same_prefix a.prefix b.prefix && a.path == b.path) (a.source == b.source) last.0 in
    let second = and_parts (is_same_prefix a.prefix b.prefix) (a.path == b.path) third.0 in
    let prefix : a.prefix ≡ b.prefix = same_prefix a.prefix b.prefix (prefix_tests a.prefix b.prefix ∙ second.0) in
    ap (λ p. record { prefix = p; path = a.path; source = a.source; distance = a.distance }) prefix
    ∙ ap (λ n. record { prefix = b.prefix; path = n; source = a.source; distance = a.distance }) (eqb-true a.path b.path second.1)
    ∙ ap (λ n. record { prefix = b.prefix; path = b.path; source = n; distance = a.distance }) (eqb-true a.source b.source third.1)
    ∙ ap (λ n. record { prefix = b.prefix; path = b.path; source = b.source; distance = n }) (eqb-true a.distance b.distance last.1)

stood : (told : Option PrefixEntry) (entry : PrefixEntry) → stands told entry ≡ true → told ≡ Some entry
stood None entry e = absurd (false≢true e)
stood (Some own) entry e = ap Some (same_entry own entry e)

-- the entry for such a prefix is the one that is told
found_stands : (index : Index) (node : List ℕ) (p : Prefix) (entries : List PrefixEntry) → AllByRecursion (Stands index node p) entries → (x : PrefixEntry)
    → entry_among p entries ≡ Some x → entry_told index p node ≡ Some x
found_stands index node p [] all x e = absurd cc
found_stands index node p (entry ∷ entries) all x e = by_first (is_same_prefix entry.prefix p) refl (found_stands index node p entries all.1 x) e where
  by_first : (same : Bool) → is_same_prefix entry.prefix p ≡ same → (entry_among p entries ≡ Some x → entry_told index p node ≡ Some x)
      → cond same (Some entry) (entry_among p entries) ≡ Some x → entry_told index p node ≡ Some x
  by_first true same later found =
      ap (λ q. entry_told index q node) (sym (same_prefix entry.prefix p (prefix_tests entry.prefix p ∙ same)))
      ∙ stood (entry_told index entry.prefix node) entry (all.0 same) ∙ found
  by_first false same later found = later found

by_found : (old new told_before told_after : Option PrefixEntry) → ((x : PrefixEntry) → new ≡ Some x → told_before ≡ Some x) → ((x : PrefixEntry) → old ≡ Some x → told_after ≡ Some x)
    → told_before ≡ old → told_after ≡ new → new ≡ old
by_found old (Some x) before after now later is is' = sym (now x refl) ∙ is
by_found None None before after now later is is' = refl
by_found (Some x) None before after now later is is' = sym is' ∙ later x refl

-- a prefix that isn't listed has the same entry in both
pub same_entries : (before after : Index) (node : List ℕ) (old new : List PrefixEntry) (p : Prefix) → list_any (is_same_prefix p) (changed_prefixes before after node old new) ≡ false
    → entry_told before p node ≡ entry_among p old → entry_told after p node ≡ entry_among p new → entry_told after p node ≡ entry_told before p node
same_entries before after node old new p none is is' =
    let gone = all_listed after node p (fold (with_changed before node) [] new) old none in
    let come = all_listed before node p [] new gone.0 in
    is' ∙ by_found (entry_among p old) (entry_among p new) (entry_told before p node) (entry_told after p node) (found_stands before node p new come.1) (found_stands after node p old gone.1) is is' ∙ sym is
