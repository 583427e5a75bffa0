-- The prefixes that somebody advertises: those of the index, and those of the records.
use Rattle.std.proofs.Common.{◌≡◌, ◌≢◌, ℕ, List, [], ◌∷◌, ◌++◌, Bool, true, false, cond, Option, Some, None, refl, sym, ◌∙◌, ap}
use Rattle.std.specs.Prelude.{◌||◌, IfSome, option_map, fold, map, is_some}
use Rattle.std.specs.declared.cmp.Ordering.{Ordering}
use Rattle.std.specs.declared.cmp.Ordering.TheVariants.{Less, Equal, Greater}
use Rattle.std.specs.Ordering.{is_eq, match_ordering, ordering_reverse}
use Rattle.std.specs.List.{AllByRecursion, cons_option, filter_map, flat_map, list_any}
use Rattle.std.specs.List.Sorted.{IsStrictlySortedBy}
use Rattle.std.specs.Map.{keys_of, lookup}
use Rattle.std.specs.BTreeMap.{BTreeMap, is_at}
use Rattle.std.specs.BTreeSet.{BTreeSet, insert_key}
use Rattle.std.proofs.lemmas.Map.Made.{is_some-lookup}
use Rattle.std.proofs.lemmas.Map.Lookups.{btree_set_from_contains}
use Rattle.std.proofs.lemmas.Bool.{false≢true}
use Rattle.or_base.specs.Prefixes.{prefix_cmp, is_same_prefix}
use Rattle.or_base.specs.declared.database.PrefixDb.{PrefixDb}
use Rattle.or_base.specs.declared.database.PrefixEntry.{PrefixEntry}
use Rattle.or_base.specs.declared.prefix.Prefix.{Prefix}
use Rattle.ls_records.specs.Records.{advertised_by, advertised_prefixes, advertisers, entry_for, prefixes_in}
use Rattle.ls_records.specs.Change.{KeepsAdvertisers}
use Rattle.ls_records.specs.Law.{AdvertisedHaveAdvertisers}
use Rattle.ls_records.specs.Index.{Index, IsAdvertised, IsIndexOf, entry_among}
use Rattle.ls_records.proofs.Named.{AreByName}
use Rattle.ls_records.proofs.Advertising.{entries_of, found_at}
use Rattle.ls_records.proofs.Told.{exact_prefix, prefix_total, prefix_tests}
use Rattle.ls_records.proofs.Covering.{any_inserted}

any_folded : (test : Prefix → Bool) (keys more : List Prefix) → list_any test (fold (insert_key prefix_cmp) keys more) ≡ (list_any test more || list_any test keys)
any_folded test keys [] = refl
any_folded test keys (p ∷ more) =
    any_folded test (insert_key prefix_cmp keys p) more ∙ ap (λ t. list_any test more || t) (any_inserted test p keys)
    ∙ in_turn (test p) (list_any test more) (list_any test keys) where
      in_turn : (s t u : Bool) → (t || (s || u)) ≡ ((s || t) || u)
      in_turn true true u = refl
      in_turn true false u = refl
      in_turn false t u = refl

-- what is listed once each is what is listed
any_in_order : (test : Prefix → Bool) (xs : List Prefix) → list_any test (fold (insert_key prefix_cmp) [] xs) ≡ list_any test xs
any_in_order test xs = any_folded test [] xs ∙ or_nothing (list_any test xs) where
  or_nothing : (t : Bool) → (t || false) ≡ t
  or_nothing true = refl
  or_nothing false = refl

any_joined : (test : Prefix → Bool) (xs ys : List Prefix) → list_any test (xs ++ ys) ≡ (list_any test xs || list_any test ys)
any_joined test [] ys = refl
any_joined test (x ∷ xs) ys = ap (λ t. test x || t) (any_joined test xs ys) ∙ in_three (test x) (list_any test xs) (list_any test ys) where
  in_three : (s t u : Bool) → (s || (t || u)) ≡ ((s || t) || u)
  in_three true t u = refl
  in_three false t u = refl

-- ---- by the records

prefix_back : (p q : Prefix) → is_same_prefix p q ≡ is_same_prefix q p
prefix_back p q = sym (prefix_tests p q) ∙ ap is_eq (prefix_total.antisymm p q) ∙ reversed (prefix_cmp q p) ∙ prefix_tests q p where
  reversed : (o : Ordering) → is_eq (ordering_reverse o) ≡ is_eq o
  reversed Less = refl
  reversed Equal = refl
  reversed Greater = refl

some_if : (same : Bool) (entry : PrefixEntry) (found : Option PrefixEntry) → is_some (cond same (Some entry) found) ≡ (same || is_some found)
some_if true entry found = refl
some_if false entry found = refl

-- there is an entry where the prefix is among those of the entries
some_entry : (p : Prefix) (entries : List PrefixEntry) → is_some (entry_among p entries) ≡ list_any (is_same_prefix p) (map (λ entry. entry.prefix) entries)
some_entry p [] = refl
some_entry p (entry ∷ entries) =
    some_if (is_same_prefix entry.prefix p) entry (entry_among p entries)
    ∙ ap (λ t. t || is_some (entry_among p entries)) (prefix_back entry.prefix p)
    ∙ ap (λ t. is_same_prefix p entry.prefix || t) (some_entry p entries)

abbrev are_some : {X : Type 0} → List X → Bool
are_some [] = false
are_some (x ∷ xs) = true

some_more : (name : List ℕ) (found : Option PrefixEntry) (rest : List (List ℕ × PrefixEntry))
    → are_some (cons_option (option_map (λ entry. (name, entry)) found) rest) ≡ (is_some found || are_some rest)
some_more name None rest = refl
some_more name (Some x) rest = refl

some_advertise : (p : Prefix) (records : List (List ℕ × PrefixDb)) → are_some (filter_map (advertised_by p) records) ≡ list_any (is_same_prefix p) (flat_map prefixes_in records)
some_advertise p [] = refl
some_advertise p (e ∷ es) =
    some_more e.0 (entry_for p e.1) (filter_map (advertised_by p) es)
    ∙ ap (λ t. t || are_some (filter_map (advertised_by p) es)) (some_entry p e.1.entries)
    ∙ ap (λ t. list_any (is_same_prefix p) (prefixes_in e) || t) (some_advertise p es)
    ∙ sym (any_joined (is_same_prefix p) (prefixes_in e) (flat_map prefixes_in es))

-- a prefix is advertised where it has advertisers
pub some_listed : (p : Prefix) (records : List (List ℕ × PrefixDb)) → list_any (is_same_prefix p) (advertised_prefixes records) ≡ are_some (advertisers records p)
unfolding advertised_prefixes advertisers
some_listed p records = any_in_order (is_same_prefix p) (flat_map prefixes_in records) ∙ sym (some_advertise p records)

nothing_there : {X : Type 0} (xs : List X) → are_some xs ≡ false → [] ≡ xs
nothing_there [] e = refl
nothing_there (x ∷ xs) e = absurd (false≢true (sym e))

no_advertisers : (p : Prefix) → advertisers [] p ≡ []
unfolding advertisers
no_advertisers p = refl

-- without records a prefix that isn't listed has the advertisers that it had
pub keeps_none : (records : List (List ℕ × PrefixDb)) (listed : List Prefix) → listed ≡ advertised_prefixes records → KeepsAdvertisers records [] listed
keeps_none records listed is p none =
    no_advertisers p
    ∙ nothing_there (advertisers records p) (sym (some_listed p records) ∙ ap (list_any (is_same_prefix p)) (sym is) ∙ none)

-- ---- in order, each once

-- a prefix stands before all of these
abbrev IsBelow : Prefix → List Prefix → Type 0
IsBelow p keys = AllByRecursion (λ q. prefix_cmp p q ≡ Less) keys

below_all : (p first : Prefix) (keys : List Prefix) → prefix_cmp p first ≡ Less → IsBelow first keys → IsBelow p keys
below_all p first [] less all = tt
below_all p first (q ∷ keys) less all = (prefix_total.trans p first q less all.0, below_all p first keys less all.1)

below_placed : (p key first : Prefix) (rest later : List Prefix) (o : Ordering) → prefix_cmp p key ≡ Less → IsBelow p (first ∷ rest) → IsBelow p later
    → IsBelow p (match_ordering o (key ∷ first ∷ rest) (first ∷ rest) (first ∷ later))
below_placed p key first rest later Less here all after = (here, all)
below_placed p key first rest later Equal here all after = all
below_placed p key first rest later Greater here all after = (all.0, after)

below_inserted : (p key : Prefix) (keys : List Prefix) → prefix_cmp p key ≡ Less → IsBelow p keys → IsBelow p (insert_key prefix_cmp keys key)
below_inserted p key [] here all = (here, tt)
below_inserted p key (first ∷ rest) here all =
    below_placed p key first rest (insert_key prefix_cmp rest key) (prefix_cmp key first) here all (below_inserted p key rest here all.1)

ordered_placed : (key first : Prefix) (rest later : List Prefix) (o : Ordering) → prefix_cmp key first ≡ o → IsBelow first rest → IsStrictlySortedBy prefix_cmp rest
    → (prefix_cmp first key ≡ Less → IsBelow first later) → IsStrictlySortedBy prefix_cmp later
    → IsStrictlySortedBy prefix_cmp (match_ordering o (key ∷ first ∷ rest) (first ∷ rest) (first ∷ later))
unfolding IsStrictlySortedBy
ordered_placed key first rest later Less is below ordered follows after = ((is, below_all key first rest is below), (below, ordered))
ordered_placed key first rest later Equal is below ordered follows after = (below, ordered)
ordered_placed key first rest later Greater is below ordered follows after = (follows (prefix_total.antisymm first key ∙ ap ordering_reverse is), after)

ordered_inserted : (key : Prefix) (keys : List Prefix) → IsStrictlySortedBy prefix_cmp keys → IsStrictlySortedBy prefix_cmp (insert_key prefix_cmp keys key)
unfolding IsStrictlySortedBy
ordered_inserted key [] ordered = (tt, tt)
ordered_inserted key (first ∷ rest) ordered =
    ordered_placed key first rest (insert_key prefix_cmp rest key) (prefix_cmp key first) refl ordered.0 ordered.1
    (λ less. below_inserted first key rest less ordered.0) (ordered_inserted key rest ordered.1)

ordered_folded : (keys more : List Prefix) → IsStrictlySortedBy prefix_cmp keys → IsStrictlySortedBy prefix_cmp (fold (insert_key prefix_cmp) keys more)
ordered_folded keys [] ordered = ordered
ordered_folded keys (p ∷ more) ordered = ordered_folded (insert_key prefix_cmp keys p) more (ordered_inserted p keys ordered)

no_prefixes : IsStrictlySortedBy prefix_cmp []
unfolding IsStrictlySortedBy
no_prefixes = tt

pub ordered_prefixes : (records : List (List ℕ × PrefixDb)) → IsStrictlySortedBy prefix_cmp (advertised_prefixes records)
unfolding advertised_prefixes
ordered_prefixes records = ordered_folded [] (flat_map prefixes_in records) no_prefixes

-- ---- by either test of prefixes

either_test : (p : Prefix) (keys : List Prefix) → list_any (is_at (prefix_cmp p)) keys ≡ list_any (is_same_prefix p) keys
either_test p [] = refl
either_test p (q ∷ keys) = ap (λ t. t || list_any (is_at (prefix_cmp p)) keys) (prefix_tests p q) ∙ ap (λ t. is_same_prefix p q || t) (either_test p keys)

listed_tests : (records : List (List ℕ × PrefixDb)) (p : Prefix) → list_any (is_at (prefix_cmp p)) (advertised_prefixes records) ≡ are_some (advertisers records p)
listed_tests records p = either_test p (advertised_prefixes records) ∙ some_listed p records

something_there : {X : Type 0} (xs : List X) → are_some xs ≡ true → xs ≢ []
something_there [] e none = false≢true e
something_there (x ∷ xs) e none = cc

pub advertised_have_advertisers : AdvertisedHaveAdvertisers
advertised_have_advertisers = record {
  in_order = ordered_prefixes;
  some = λ records p listed. something_there (advertisers records p) (sym (listed_tests records p) ∙ listed);
  none = λ records p unlisted. sym (nothing_there (advertisers records p) (sym (listed_tests records p) ∙ unlisted));
}

-- ---- by the index

some_if_any : (all : Option (BTreeMap (List ℕ) PrefixEntry)) → IfSome all IsAdvertised → is_some all ≡ are_some (entries_of all)
some_if_any None advertised = refl
some_if_any (Some all) advertised = not_none all.entries advertised.0 where
  not_none : (entries : List (List ℕ × PrefixEntry)) → entries ≢ [] → true ≡ are_some entries
  not_none [] some = absurd (some refl)
  not_none (e ∷ es) some = refl

-- the prefixes of the index are those that somebody advertises
pub index_prefixes : (index : Index) (records : List (List ℕ × PrefixDb)) → IsIndexOf index records → AreByName records → IsStrictlySortedBy prefix_cmp (keys_of index)
    → keys_of index ≡ advertised_prefixes records
index_prefixes index records is ordered by_prefix =
    let these : BTreeSet Prefix = record { keys = keys_of index } in
    let those : BTreeSet Prefix = record { keys = advertised_prefixes records } in
    btree_set_from_contains prefix_total these those by_prefix (ordered_prefixes records)
    (λ p. sym (is_some-lookup (is_at (prefix_cmp p)) index)
    ∙ some_if_any (lookup (is_at (prefix_cmp p)) index) (is.advertised p)
    ∙ ap are_some (found_at (lookup (is_at (prefix_cmp p)) index) records p (is.advertised p) ordered (λ n. is.told p n))
    ∙ sym (listed_tests records p))
    exact_prefix

-- the index's prefixes, one after another, are those of the records
pub listed_all : (index : Index) (records : List (List ℕ × PrefixDb)) (shown : List (List ℕ × PrefixDb)) (listed : List Prefix) → IsIndexOf index records → AreByName records
    → IsStrictlySortedBy prefix_cmp (keys_of index) → records ≡ shown → listed ≡ keys_of index → listed ≡ advertised_prefixes shown
listed_all index records shown listed is ordered by_prefix view is' = is' ∙ index_prefixes index records is ordered by_prefix ∙ ap advertised_prefixes view
