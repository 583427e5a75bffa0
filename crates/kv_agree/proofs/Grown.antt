-- What offers leave: journals that grow.
use Rattle.std.proofs.Common.{◌≡◌, ℕ, List, [], ◌∷◌, ◌++◌, true, Option, Some, sym, ◌∙◌, ap, subst, reverse, take, drop}
use Rattle.std.specs.Str.{bytes_eq}
use Rattle.std.specs.List.{Contains, All, AllByRecursion}
use Rattle.std.proofs.lemmas.Bool.{cond_both}
use Rattle.std.proofs.lemmas.List.{reverse-append, take-append-drop}
use Rattle.std.proofs.lemmas.List.Elements.{recursion_from_All}
use Rattle.std.proofs.lemmas.Slice.Eq.{bytes_eq-Decides}
use Rattle.or_base.specs.declared.value.KvValue.{KvValue}
use Rattle.or_base.specs.declared.value.Pair.{Pair}
use Rattle.or_base.specs.declared.entry.JournalEntry.{JournalEntry}
use Rattle.or_base.specs.declared.entry.JournalEntry.TheVariants.{Merged, Expired, Cleared}
use Rattle.or_base.specs.Journal.{latest, holds, held_value, exceeds}
use Rattle.kv_agree.specs.Exchange.{IsMadeFrom, IsMade, MergesOneOf}
use Rattle.kv_agree.proofs.Lists.{all_reversed}
use Rattle.kv_agree.proofs.Sent.{CoversAll}
use Rattle.kv_agree.proofs.Order.{IsAtLeast, at_least_itself, at_least_trans, value_in, exceeds-is_less, at_least_where_exceeds}

-- What is held under a key rose by some of these pairs, and by nothing else: a journal that covers the pairs, and holds at
-- least what was held before, holds at least what is held after.
pub record Rises (pairs : List Pair) (key : List ℕ) (before after : Option KvValue) : Type 0 where
  pub up : IsAtLeast after before
  pub no_further : (journal : List JournalEntry) → CoversAll journal pairs
      → IsAtLeast (held_value journal key) before → IsAtLeast (held_value journal key) after

module _ (pairs : List Pair) (key : List ℕ) where
  rises_by : (pair : Pair) (before : Option KvValue) (older : Option (KvValue × ℕ)) → bytes_eq pair.key key ≡ true → Contains pairs pair
      → exceeds pair.value older ≡ true → IsAtLeast (value_in older) before → Rises pairs key before (Some pair.value)
  rises_by pair before older named among exceeded up = record {
    up = at_least_trans (Some pair.value) (value_in older) before (at_least_where_exceeds pair.value older exceeded) up;
    no_further = λ journal covers _. subst (λ k. IsAtLeast (held_value journal k) (Some pair.value)) ((bytes_eq-Decides pair.key key).0 named)
        (sym (exceeds-is_less pair.value pair.value.ttl (holds journal pair.key)) ∙ covers pair among);
  }

  -- of entries from the newest to the oldest
  latest_rises : (newer older : List JournalEntry) → IsMadeFrom (newer ++ older) → AllByRecursion (MergesOneOf pairs) newer
      → Rises pairs key (value_in (latest older key)) (value_in (latest (newer ++ older) key))
  latest_rises [] older made merge = record { up = at_least_itself (value_in (latest older key)); no_further = λ journal covers up. up }
  latest_rises (Merged pair at origin ∷ newer) older made merge =
      let others = latest_rises newer older made.2 merge.1 in
      cond_both (bytes_eq pair.key key) (Some (pair.value, at)) (latest (newer ++ older) key) (λ held. Rises pairs key (value_in (latest older key)) (value_in held))
      (λ named. rises_by pair (value_in (latest older key)) (latest (newer ++ older) key) named merge.0
      (subst (λ k. exceeds pair.value (latest (newer ++ older) k) ≡ true) ((bytes_eq-Decides pair.key key).0 named) made.1) others.up)
      (λ other. others)
  latest_rises (Expired name at ∷ newer) older made merge = absurd merge.0
  latest_rises (Cleared at ∷ newer) older made merge = absurd merge.0

-- a journal from its newest entry on, in two parts
reversed_parts : (journal : List JournalEntry) (n : ℕ) → reverse (drop n journal) ++ reverse (take n journal) ≡ reverse journal
reversed_parts journal n = sym (reverse-append (take n journal) (drop n journal)) ∙ ap reverse (take-append-drop n journal)

-- what is held past a journal's first entries, where each later entry merged one of these pairs
pub rises_past : (pairs : List Pair) (journal : List JournalEntry) (n : ℕ) (key : List ℕ) → IsMade journal → All (MergesOneOf pairs) (drop n journal)
    → Rises pairs key (held_value (take n journal) key) (held_value journal key)
rises_past pairs journal n key made merge =
    subst (λ entries. Rises pairs key (held_value (take n journal) key) (value_in (latest entries key))) (reversed_parts journal n)
    (latest_rises pairs key (reverse (drop n journal)) (reverse (take n journal)) (subst IsMadeFrom (sym (reversed_parts journal n)) made)
    (recursion_from_All (MergesOneOf pairs) (reverse (drop n journal)) (all_reversed (MergesOneOf pairs) (drop n journal) merge)))
