-- A turn's entries, taken one by one into a map from their keys to origins.
use Rattle.std.proofs.Common.{◌≡◌, ℕ, List, [], ◌∷◌, ◌++◌, Bool, true, false, not, cond, map, Option, Some, None, refl, sym, ◌∙◌, ap, subst, append_assoc}
use Rattle.std.specs.List.{filter, filter_map, fold, last_or, cons_option, Contains}
use Rattle.std.specs.Str.{bytes_eq}
use Rattle.std.specs.Option.{option_map_or}
use Rattle.std.specs.Map.{keys_of, lookup, remove_entry}
use Rattle.std.specs.BTreeMap.{insert_entry, is_at}
use Rattle.std.proofs.lemmas.Cmp.{nat_list_cmp_total, eq_by_cmp_equiv}
use Rattle.std.proofs.lemmas.List.{append-nil}
use Rattle.std.proofs.lemmas.Map.Keys.{IsDistinct-from_sorted}
use Rattle.std.proofs.lemmas.Map.Text.{is_eq-slice_cmp}
use Rattle.std.proofs.lemmas.Map.Views.{lookup-from_Contains}
use Rattle.or_base.specs.declared.entry.JournalEntry.{JournalEntry}
use Rattle.or_base.specs.declared.entry.JournalEntry.TheVariants.{Merged, Expired, Cleared}
use Rattle.or_base.specs.declared.origin.Origin.{Origin}
use Rattle.or_base.specs.Order.{bytes_cmp}
use Rattle.or_base.specs.Journal.{held_keys}
use Rattle.or_base.proofs.Members.{Contains-first, Contains-later}
use Rattle.or_timer.proofs.Entries.{lookup_with, lookup_without}
use Rattle.kv_table.specs.Index.{IsIndexOf}
use Rattle.kv_table.proofs.Found.{keys_held}
use Rattle.kv_table.proofs.Indexes.{index_merged, index_expired, index_cleared, index_of_none}
use Rattle.kv_store.specs.Store.{begins_here, merge_origin, last_origin, is_own, own_keys, relayed_keys}
use Rattle.kv_store.specs.Origins.{KeyOrigins, with_entry, origins_of, begun_keys, other_keys}

-- ---- the last origin, as an entry is appended

abbrev or_before : Option Origin → Option Origin → Option Origin
or_before (Some origin) before = Some origin
or_before None before = before

last_one : (o found : Option Origin) → last_or o (cons_option found []) ≡ or_before found o
last_one o (Some origin) = refl
last_one o None = refl

last_from : (o first new : Option Origin) (all old : List Origin) → ((before : Option Origin) → last_or before all ≡ or_before new (last_or before old))
    → last_or o (cons_option first all) ≡ or_before new (last_or o (cons_option first old))
last_from o (Some origin) new all old later = later (Some origin)
last_from o None new all old later = later o

last_push : (f : JournalEntry → Option Origin) (o : Option Origin) (entries : List JournalEntry) (e : JournalEntry)
    → last_or o (filter_map f (entries ++ e ∷ [])) ≡ or_before (f e) (last_or o (filter_map f entries))
last_push f o [] e = last_one o (f e)
last_push f o (x ∷ xs) e = last_from o (f x) (f e) (filter_map f (xs ++ e ∷ [])) (filter_map f xs) (λ before. last_push f before xs e)

-- ---- what the map keeps

-- that a key is in the map says nothing but that
abbrev is_there : {X : Type 0} → X → Bool
is_there kept = true

-- exactly the held keys are in the map, each with the origin of its last merge
record AreOriginsOf (entries : List JournalEntry) (origins : KeyOrigins) : Type 0 where
  pub held : IsIndexOf is_there is_there entries origins
  pub last : (key : List ℕ) (origin : Origin) → lookup (is_at (bytes_cmp key)) origins ≡ Some origin → last_origin key entries ≡ Some origin

merged_origin : (here : Bool) (new origin : Origin) (rest last : Option Origin) → (rest ≡ Some origin → last ≡ Some origin) → cond here (Some new) rest ≡ Some origin
    → or_before (cond here (Some new) None) last ≡ Some origin
merged_origin true new origin rest last old e = e
merged_origin false new origin rest last old e = old e

left_origin : (gone : Bool) (origin : Origin) (rest : Option Origin) → cond gone None rest ≡ Some origin → rest ≡ Some origin
left_origin true origin rest e = cc
left_origin false origin rest e = e

one_more : (entries : List JournalEntry) (origins : KeyOrigins) (e : JournalEntry) → AreOriginsOf entries origins → AreOriginsOf (entries ++ e ∷ []) (with_entry origins e)
one_more entries origins (Merged pair at origin) old = record {
  held = index_merged is_there is_there entries origins (insert_entry bytes_cmp origins pair.key origin) pair at origin origin old.held refl refl;
  last = λ key found there.
      last_push (merge_origin key) None entries (Merged pair at origin)
      ∙ merged_origin (bytes_eq pair.key key) origin found (lookup (is_at (bytes_cmp key)) origins) (last_origin key entries) (old.last key found)
      (ap (λ t. cond t (Some origin) (lookup (is_at (bytes_cmp key)) origins)) (sym (is_eq-slice_cmp pair.key key)) ∙ sym (lookup_with pair.key origin key origins) ∙ there);
}
one_more entries origins (Expired name at) old = record {
  held = index_expired is_there is_there entries origins (remove_entry (is_at (bytes_cmp name)) origins) name at old.held refl;
  last = λ key found there.
      last_push (merge_origin key) None entries (Expired name at)
      ∙ old.last key found (left_origin (is_at (bytes_cmp name) key) found (lookup (is_at (bytes_cmp key)) origins)
      (sym (lookup_without name key origins old.held.ordered) ∙ there));
}
one_more entries origins (Cleared at) old = record {
  held = index_cleared is_there is_there entries at;
  last = λ key found there. cc;
}

all_taken : (before : List JournalEntry) (origins : KeyOrigins) (entries : List JournalEntry) → AreOriginsOf before origins → AreOriginsOf (before ++ entries) (fold with_entry origins entries)
all_taken before origins [] old = subst (λ all. AreOriginsOf all origins) (sym (append-nil before)) old
all_taken before origins (e ∷ entries) old =
    subst (λ all. AreOriginsOf all (fold with_entry (with_entry origins e) entries)) (append_assoc before (e ∷ []) entries)
    (all_taken (before ++ e ∷ []) (with_entry origins e) entries (one_more before origins e old))

origins_are : (entries : List JournalEntry) → AreOriginsOf entries (origins_of entries)
origins_are entries = all_taken [] [] entries (record { held = index_of_none is_there is_there; last = λ key origin there. cc })

-- ---- the keys, by a test of their origins

first_if : (test here : Bool) (key : List ℕ) (origins : KeyOrigins) (keys rest : List (List ℕ)) (o : List ℕ × Origin) → test ≡ here → o.0 ≡ key
    → map {B = List ℕ} (λ o. o.0) origins ≡ rest → map {B = List ℕ} (λ o. o.0) (cond test (o ∷ origins) origins) ≡ cond here (key ∷ rest) rest
first_if true true key origins keys rest o t k e = cc
first_if true false key origins keys rest o t k e = cc
first_if false true key origins keys rest o t k e = cc
first_if false false key origins keys rest o t k e = e

keys_by : (test : Origin → Bool) (tells : List ℕ → Bool) (origins : KeyOrigins) → ((key : List ℕ) (origin : Origin) → Contains origins (key, origin) → test origin ≡ tells key)
    → map {B = List ℕ} (λ o. o.0) (filter (λ o. test o.1) origins) ≡ filter tells (keys_of origins)
keys_by test tells [] same = refl
keys_by test tells (o ∷ origins) same =
    first_if (test o.1) (tells o.0) o.0 (filter (λ o. test o.1) origins) [] (filter tells (keys_of origins)) o (same o.0 o.1 (Contains-first o origins)) refl
    (keys_by test tells origins (λ key origin there. same key origin (Contains-later o origins (key, origin) there)))

own_of : (entries : List JournalEntry) (key : List ℕ) (origin : Origin) → Contains (origins_of entries) (key, origin) → begins_here origin ≡ is_own entries key
unfolding is_own
own_of entries key origin there =
    let kept = origins_are entries in
    sym (ap (λ last. option_map_or begins_here last false)
    (kept.last key origin (lookup-from_Contains (eq_by_cmp_equiv nat_list_cmp_total) key origin (origins_of entries) (IsDistinct-from_sorted bytes_cmp (keys_of (origins_of entries)) kept.held.ordered) there)))

keys_are : (entries : List JournalEntry) → keys_of (origins_of entries) ≡ held_keys entries
keys_are entries = keys_held is_there is_there entries (origins_of entries) (origins_are entries).held

pub keys_begun : (entries : List JournalEntry) (origins : KeyOrigins) → origins ≡ origins_of entries → begun_keys origins ≡ own_keys entries
unfolding own_keys
keys_begun entries origins e =
    ap begun_keys e ∙ keys_by begins_here (is_own entries) (origins_of entries) (own_of entries) ∙ ap (λ keys. filter (is_own entries) keys) (keys_are entries)

pub keys_other : (entries : List JournalEntry) (origins : KeyOrigins) → origins ≡ origins_of entries → other_keys origins ≡ relayed_keys entries
unfolding relayed_keys
keys_other entries origins e =
    ap other_keys e
    ∙ keys_by (λ o. not (begins_here o)) (λ key. not (is_own entries key)) (origins_of entries) (λ key origin there. ap not (own_of entries key origin there))
    ∙ ap (λ keys. filter (λ key. not (is_own entries key)) keys) (keys_are entries)

pub ruleset parting = (keys_begun, keys_other)

-- ---- a turn with one entry

pub own_of_one : (entry : JournalEntry) (keys : List (List ℕ)) → keys ≡ begun_keys (origins_of (entry ∷ [])) → keys ≡ own_keys (entry ∷ [])
own_of_one entry keys e = e ∙ keys_begun (entry ∷ []) (origins_of (entry ∷ [])) refl

pub relayed_of_one : (entry : JournalEntry) (keys : List (List ℕ)) → keys ≡ other_keys (origins_of (entry ∷ [])) → keys ≡ relayed_keys (entry ∷ [])
relayed_of_one entry keys e = e ∙ keys_other (entry ∷ []) (origins_of (entry ∷ [])) refl

pub ruleset of_one = (own_of_one, relayed_of_one)
