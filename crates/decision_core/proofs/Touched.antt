-- Whoever advertises a prefix that isn't among the places isn't touched.
use Rattle.std.proofs.Common.{◌≡◌, ℕ, List, [], ◌∷◌, Bool, true, false, cond, Option, Some, None, map, refl, sym, ap, ◌∙◌}
use Rattle.std.specs.Prelude.{◌||◌, option_map}
use Rattle.std.specs.List.{AllByRecursion, cons_option, filter_map, find, list_any}
use Rattle.std.specs.BTreeMap.{is_at}
use Rattle.std.specs.BTreeSet.{insert_key}
use Rattle.std.proofs.lemmas.Bool.{or_parts, false≢true}
use Rattle.or_base.specs.Prefixes.{prefix_cmp, is_same_prefix}
use Rattle.or_base.specs.declared.database.PrefixDb.{PrefixDb}
use Rattle.or_base.specs.declared.database.PrefixEntry.{PrefixEntry}
use Rattle.or_base.specs.declared.prefix.Prefix.{Prefix}
use Rattle.ls_routes.specs.Routes.{is_listed}
use Rattle.ls_routes.proofs.Tables.{prefix_back}
use Rattle.ls_records.specs.Records.{advertised_by, advertisers, entry_for, prefixes_in}
use Rattle.ls_records.specs.Change.{is_that}
use Rattle.ls_records.proofs.Covering.{any_inserted}
use Rattle.ls_records.proofs.Told.{prefix_tests}
use Rattle.decision_core.specs.Reach.{with_prefixes, with_record_if, with_touched}

-- where no node is touched no prefix is added
pub none_touched : (records : List (List ℕ × PrefixDb)) (places : List Prefix) → with_touched (λ node. false) places records ≡ places
none_touched [] places = refl
none_touched (e ∷ records) places = none_touched records places

pub none_named : (records : List (List ℕ × PrefixDb)) (places : List Prefix) → with_touched (is_that None) places records ≡ places
none_named [] places = refl
none_named (e ∷ records) places = none_named records places

-- ---- a prefix that isn't among the places

pub out_of_both : (p : Prefix) (prefixes places : List Prefix) → is_listed (with_prefixes places prefixes) p ≡ false → (is_listed places p ≡ false) × (is_listed prefixes p ≡ false)
out_of_both p [] places out = (out, refl)
out_of_both p (q ∷ prefixes) places out =
    let later = out_of_both p prefixes (insert_key prefix_cmp places q) out in
    let parts = or_parts (is_at (prefix_cmp p) q) (is_listed places p) (sym (any_inserted (is_at (prefix_cmp p)) q places) ∙ later.0) in
    (parts.1, ap (λ t. t || is_listed prefixes p) parts.0 ∙ later.1)

-- a record of a touched node doesn't have it
abbrev pub LacksIf : (List ℕ → Bool) → Prefix → List ℕ × PrefixDb → Type 0
LacksIf touched p e = touched e.0 ≡ true → is_listed (prefixes_in e) p ≡ false

one_out : (touched : List ℕ → Bool) (p : Prefix) (places : List Prefix) (e : List ℕ × PrefixDb) (is : Bool) → touched e.0 ≡ is
    → is_listed (cond is (with_prefixes places (prefixes_in e)) places) p ≡ false → (is_listed places p ≡ false) × LacksIf touched p e
one_out touched p places e true is out =
    let both = out_of_both p (prefixes_in e) places out in
    (both.0, λ t. both.1)
one_out touched p places e false is out = (out, λ t. absurd (false≢true (sym is ∙ t)))

pub out_of_all : (touched : List ℕ → Bool) (p : Prefix) (records : List (List ℕ × PrefixDb)) (places : List Prefix) → is_listed (with_touched touched places records) p ≡ false
    → (is_listed places p ≡ false) × AllByRecursion (LacksIf touched p) records
out_of_all touched p [] places out = (out, tt)
out_of_all touched p (e ∷ records) places out =
    let later = out_of_all touched p records (with_record_if touched places e) out in
    let first = one_out touched p places e (touched e.0) refl later.0 in
    (first.0, (first.1, later.1))

-- ---- its advertisers

found_is_listed : (p : Prefix) (entries : List PrefixEntry) (entry : PrefixEntry) → find (λ x. is_same_prefix x.prefix p) entries ≡ Some entry
    → is_listed (map (λ x. x.prefix) entries) p ≡ true
found_is_listed p [] entry e = absurd cc
found_is_listed p (x ∷ entries) entry e = by_first (is_same_prefix x.prefix p) refl e (found_is_listed p entries entry) where
  same : is_at (prefix_cmp p) x.prefix ≡ is_same_prefix x.prefix p
  same = prefix_back x.prefix p ∙ prefix_tests x.prefix p

  by_first : (is : Bool) → is_same_prefix x.prefix p ≡ is → cond is (Some x) (find (λ y. is_same_prefix y.prefix p) entries) ≡ Some entry
      → (find (λ y. is_same_prefix y.prefix p) entries ≡ Some entry → is_listed (map (λ y. y.prefix) entries) p ≡ true)
      → (is_at (prefix_cmp p) x.prefix || is_listed (map (λ y. y.prefix) entries) p) ≡ true
  by_first true is e later = ap (λ t. t || is_listed (map (λ y. y.prefix) entries) p) (same ∙ is)
  by_first false is e later = ap (λ t. t || is_listed (map (λ y. y.prefix) entries) p) (same ∙ is) ∙ later e

-- no advertiser of the prefix is touched
pub untouched : (touched : List ℕ → Bool) (p : Prefix) (records : List (List ℕ × PrefixDb)) → AllByRecursion (LacksIf touched p) records
    → list_any (λ (a : List ℕ × PrefixEntry). touched a.0) (advertisers records p) ≡ false
unfolding advertisers
untouched touched p [] lack = refl
untouched touched p (e ∷ records) lack = by_entry (entry_for p e.1) refl (untouched touched p records lack.1) where
  by_touched : (entry : PrefixEntry) (is : Bool) → touched e.0 ≡ is → entry_for p e.1 ≡ Some entry → touched e.0 ≡ false
  by_touched entry true is found = absurd (false≢true (sym (lack.0 is) ∙ found_is_listed p e.1.entries entry found))
  by_touched entry false is found = is

  by_entry : (found : Option PrefixEntry) → entry_for p e.1 ≡ found
      → list_any (λ (a : List ℕ × PrefixEntry). touched a.0) (filter_map (advertised_by p) records) ≡ false
      → list_any (λ (a : List ℕ × PrefixEntry). touched a.0) (cons_option (advertised_by p e) (filter_map (advertised_by p) records)) ≡ false
  by_entry None is rest =
      ap (λ f. list_any (λ (a : List ℕ × PrefixEntry). touched a.0) (cons_option (option_map (λ (x : PrefixEntry). (e.0, x)) f) (filter_map (advertised_by p) records))) is ∙ rest
  by_entry (Some entry) is rest =
      ap (λ f. list_any (λ (a : List ℕ × PrefixEntry). touched a.0) (cons_option (option_map (λ (x : PrefixEntry). (e.0, x)) f) (filter_map (advertised_by p) records))) is
      ∙ ap (λ t. t || list_any (λ (a : List ℕ × PrefixEntry). touched a.0) (filter_map (advertised_by p) records)) (by_touched entry (touched e.0) refl is) ∙ rest
