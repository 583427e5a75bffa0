-- The keys of an index of a journal are those that the journal holds.
use Rattle.std.proofs.Common.{◌≡◌, ℕ, List, [], ◌∷◌, Bool, true, false, Option, Some, None, refl, sym, ◌∙◌}
use Rattle.std.specs.Prelude.{is_some}
use Rattle.std.specs.Option.{option_map}
use Rattle.std.specs.List.{Contains, list_any}
use Rattle.std.specs.List.Sorted.{IsStrictlySortedBy}
use Rattle.std.specs.Map.{keys_of, lookup}
use Rattle.std.specs.BTreeMap.{is_at}
use Rattle.std.specs.BTreeSet.{BTreeSet}
use Rattle.std.proofs.lemmas.Bool.{false≢true}
use Rattle.std.proofs.lemmas.Cmp.{nat_list_cmp_total, eq_by_cmp_equiv}
use Rattle.std.proofs.lemmas.Map.Lookups.{exact_bytes, btree_set_from_contains}
use Rattle.std.proofs.lemmas.Map.Made.{is_some-lookup}
use Rattle.std.proofs.lemmas.Map.Views.{Contains-from_any, list_any-from_Contains}
use Rattle.or_base.specs.declared.value.KvValue.{KvValue}
use Rattle.or_base.specs.declared.entry.JournalEntry.{JournalEntry}
use Rattle.or_base.specs.Order.{bytes_cmp}
use Rattle.or_base.specs.Journal.{holds, held_keys}
use Rattle.or_base.specs.Law.{AreInByteOrder}
use Rattle.or_base.proofs.HeldKeys.{held_keys_are_these}
use Rattle.or_timer.proofs.Entries.{same_key}
use Rattle.kv_table.specs.Index.{IsIndexOf}

pub some_same : {A : Type 0} (a b : A) → Some a ≡ Some b → a ≡ b
some_same a b e = cc

is_some_told : {A B C : Type 0} (f : A → C) (g : B → C) (a : Option A) (b : Option B) → option_map f a ≡ option_map g b → is_some a ≡ is_some b
is_some_told f g None None e = refl
is_some_told f g None (Some b) e = cc
is_some_told f g (Some a) None e = cc
is_some_told f g (Some a) (Some b) e = refl

pub sorted_from_byte_order : (keys : List (List ℕ)) → AreInByteOrder keys → IsStrictlySortedBy bytes_cmp keys
unfolding IsStrictlySortedBy
sorted_from_byte_order [] ordered = tt
sorted_from_byte_order (key ∷ keys) ordered = (ordered.0, sorted_from_byte_order keys ordered.1)

-- a key is among the held keys exactly where something is held under it
pub any_held : (journal : List JournalEntry) (key : List ℕ) → list_any (is_at (bytes_cmp key)) (held_keys journal) ≡ is_some (holds journal key)
any_held journal key = by_test (is_some (holds journal key)) refl (list_any (is_at (bytes_cmp key)) (held_keys journal)) refl where
  by_test : (held : Bool) → is_some (holds journal key) ≡ held → (any : Bool) → list_any (is_at (bytes_cmp key)) (held_keys journal) ≡ any → any ≡ held
  by_test true h any a =
      sym a ∙ list_any-from_Contains (eq_by_cmp_equiv nat_list_cmp_total) key (held_keys journal) ((held_keys_are_these journal).all key h)
  by_test false h false a = refl
  by_test false h true a =
      let among : Contains (held_keys journal) key =
      Contains-from_any {eq = λ (k other : List ℕ). is_at (bytes_cmp k) other} (λ k other e. same_key k other e) key (held_keys journal) a in
      absurd (false≢true (sym h ∙ (held_keys_are_these journal).held key among))

pub keys_held : {X Y : Type 0} (reads : X → Y) (tells : KvValue × ℕ → Y) (journal : List JournalEntry) (index : List (List ℕ × X)) → IsIndexOf reads tells journal index → keys_of index ≡ held_keys journal
keys_held reads tells journal index kept =
    let those : BTreeSet (List ℕ) = record { keys = keys_of index } in
    let these : BTreeSet (List ℕ) = record { keys = held_keys journal } in
    btree_set_from_contains nat_list_cmp_total those these kept.ordered
    (sorted_from_byte_order (held_keys journal) (held_keys_are_these journal).ordered)
    (λ key. sym (is_some-lookup (is_at (bytes_cmp key)) index) ∙ is_some_told reads tells (lookup (is_at (bytes_cmp key)) index) (holds journal key) (kept.tell key) ∙ sym (any_held journal key))
    exact_bytes
