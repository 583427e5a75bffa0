-- What a turn that takes a reply or a push appends to a journal, and what the journal covers then.
use Rattle.std.proofs.Common.{◌≡◌, ℕ, List, [], ◌∷◌, ◌++◌, length, drop, Bool, true, false, Option, Some, None, cond, refl, sym, ◌∙◌, ap, subst, append_assoc, arith}
use Rattle.std.specs.Prelude.{◌&&◌}
use Rattle.std.specs.Str.{bytes_eq}
use Rattle.std.specs.List.{Contains, AllByRecursion}
use Rattle.std.proofs.lemmas.Bool.{false≢true, cond_both, and_parts}
use Rattle.std.proofs.lemmas.List.{append-nil, drop_all}
use Rattle.std.proofs.lemmas.Slice.Eq.{bytes_eq-Decides}
use Rattle.or_base.specs.declared.value.KvValue.{KvValue}
use Rattle.or_base.specs.declared.value.Pair.{Pair}
use Rattle.or_base.specs.declared.entry.JournalEntry.{JournalEntry}
use Rattle.or_base.specs.declared.entry.JournalEntry.TheVariants.{Merged}
use Rattle.or_base.specs.declared.origin.Origin.{Origin}
use Rattle.or_base.specs.declared.origin.Origin.TheVariants as origin
use Rattle.or_base.specs.Journal.{holds, held_value, exceeds, is_taken, offer}
use Rattle.or_base.specs.Limits.{is_valid_pair}
use Rattle.or_base.proofs.Members.{Contains-first, Contains-later}
use Rattle.or_base.proofs.Offers.{holds_push}
use Rattle.or_base.proofs.Ordered.{not_below_itself}
use Rattle.kv_store.specs.Own.{OwnedKeys, offer_own, write_each, keys_to_write}
use Rattle.kv_store.specs.Store.{StoreState, offer_all, entries_since, with_own_written}
use Rattle.kv_agree.specs.Exchange.{MergesOneOf, Covers}
use Rattle.kv_agree.specs.Traced.{is_merged_from}
use Rattle.kv_agree.specs.Orderly.{AreValid}
use Rattle.kv_agree.proofs.Order.{IsAtLeast, at_least_itself, value_in, at_least_where_exceeds}
use Rattle.kv_agree.proofs.Sent.{covers_later}
use Rattle.kv_agree.proofs.PairedGrowth.{all_join, all_weaker}

-- ---- entries

-- a journal grew by entries of which each is such
pub record GrewBy (P : JournalEntry → Type 0) (before after : List JournalEntry) : Type 0 where
  pub more : List JournalEntry
  pub is : after ≡ before ++ more
  pub each : AllByRecursion P more

module _ (P : JournalEntry → Type 0) where
  grew_not : (journal : List JournalEntry) → GrewBy P journal journal
  grew_not journal = record { more = []; is = sym (append-nil journal); each = tt }

  grew_then : (first second third : List JournalEntry) → GrewBy P first second → GrewBy P second third → GrewBy P first third
  grew_then first second third f g = record {
    more = f.more ++ g.more;
    is = g.is ∙ ap (λ journal. journal ++ g.more) f.is ∙ append_assoc first f.more g.more;
    each = all_join P f.more g.more f.each g.each;
  }

  grew_if : (test : Bool) (journal : List JournalEntry) (entry : JournalEntry) → P entry → GrewBy P journal (cond test (journal ++ entry ∷ []) journal)
  grew_if true journal entry holds = record { more = entry ∷ []; is = refl; each = (holds, tt) }
  grew_if false journal entry holds = grew_not journal

  grew_by_offer : (journal : List JournalEntry) (pair : Pair) (now : ℕ) (origin : Origin) → P (Merged pair now origin) → GrewBy P journal (offer journal pair now origin)
  grew_by_offer journal pair now origin = grew_if (is_taken journal pair) journal (Merged pair now origin)

  grew_by_offers : (journal : List JournalEntry) (pairs : List Pair) (now : ℕ) (origin : Origin) → ((pair : Pair) → Contains pairs pair → P (Merged pair now origin))
      → GrewBy P journal (offer_all journal pairs now origin)
  grew_by_offers journal [] now origin each = grew_not journal
  grew_by_offers journal (pair ∷ pairs) now origin each =
      grew_then journal (offer journal pair now origin) (offer_all (offer journal pair now origin) pairs now origin)
      (grew_by_offer journal pair now origin (each pair (Contains-first pair pairs)))
      (grew_by_offers (offer journal pair now origin) pairs now origin (λ p there. each p (Contains-later pair pairs p there)))

  grew_by_own : (journal : List JournalEntry) (key : List ℕ) (now : ℕ) (value : Option KvValue) → ((pair : Pair) → P (Merged pair now origin.Own))
      → GrewBy P journal (offer_own journal key now value)
  grew_by_own journal key now None each = grew_not journal
  grew_by_own journal key now (Some value) each =
      let pair : Pair = record { key = key; value = value } in
      grew_by_offer journal pair now origin.Own (each pair)

  grew_by_writes : (me : List ℕ) (owned : OwnedKeys) (now : ℕ) (keys : List (List ℕ)) (journal : List JournalEntry) → ((pair : Pair) → P (Merged pair now origin.Own))
      → GrewBy P journal (write_each me owned now journal keys)
  grew_by_writes me owned now [] journal each = grew_not journal
  grew_by_writes me owned now (key ∷ keys) journal each =
      grew_then journal _ _ (grew_by_own journal key now _ each) (grew_by_writes me owned now keys _ each)

-- an entry that came so merged one of the pairs
abbrev pub MergesIfCame : (Origin → Bool) → List Pair → JournalEntry → Type 0
MergesIfCame came pairs entry = is_merged_from came entry ≡ true → MergesOneOf pairs entry

-- after pairs were offered, and the node wrote under its own keys: what came so merged one of the pairs
pub came_and_written : (s : StoreState) (keys : List (List ℕ)) (pairs : List Pair) (from : Origin) (came : Origin → Bool) → came origin.Own ≡ false
    → GrewBy (MergesIfCame came pairs) s.journal (write_each s.me s.owned s.moment (offer_all s.journal pairs s.moment from) keys)
came_and_written s keys pairs from came not_own =
    let offered = offer_all s.journal pairs s.moment from in
    grew_then (MergesIfCame came pairs) s.journal offered (write_each s.me s.owned s.moment offered keys)
    (grew_by_offers (MergesIfCame came pairs) s.journal pairs s.moment from (λ pair there is. there))
    (grew_by_writes (MergesIfCame came pairs) s.me s.owned s.moment keys offered (λ pair is. absurd (false≢true (sym not_own ∙ is))))

-- where an item left the journal as it was, and persists nothing, the node writes nothing
pub nothing_written : (s t : StoreState) → t.journal ≡ s.journal → (with_own_written t [] (entries_since s t)).journal ≡ s.journal
unfolding keys_to_write
nothing_written s t same =
    ap (λ entries. write_each t.me t.owned t.moment t.journal (keys_to_write t.owned [] entries))
    (ap (drop (length s.journal)) same ∙ drop_all (length s.journal) s.journal (omega arith))
    ∙ same

-- ---- what is covered

-- an offer leaves as much held under each key
offer_reaches : (journal : List JournalEntry) (pair : Pair) (now : ℕ) (origin : Origin) (key : List ℕ) → IsAtLeast (held_value (offer journal pair now origin) key) (held_value journal key)
offer_reaches journal pair now origin key =
    cond_both (is_taken journal pair) (journal ++ Merged pair now origin ∷ []) journal (λ after. IsAtLeast (held_value after key) (held_value journal key))
    (λ taken.
    subst (λ held. IsAtLeast (value_in held) (held_value journal key)) (sym (holds_push journal (Merged pair now origin) key))
    (cond_both (bytes_eq pair.key key) (Some (pair.value, now)) (holds journal key) (λ held. IsAtLeast (value_in held) (held_value journal key))
    (λ named.
    subst (λ k. IsAtLeast (Some pair.value) (held_value journal k)) ((bytes_eq-Decides pair.key key).0 named)
    (at_least_where_exceeds pair.value (holds journal pair.key) (and_parts (is_valid_pair pair) (exceeds pair.value (holds journal pair.key)) taken).1))
    (λ other. at_least_itself (held_value journal key))))
    (λ not_taken. at_least_itself (held_value journal key))

covers_after_offer : (journal : List JournalEntry) (pair other : Pair) (now : ℕ) (origin : Origin) → Covers journal other → Covers (offer journal pair now origin) other
covers_after_offer journal pair other now origin = covers_later journal (offer journal pair now origin) other (offer_reaches journal pair now origin other.key)

not_exceeded : (valid exceeded : Bool) → valid ≡ true → (valid && exceeded) ≡ false → exceeded ≡ false
not_exceeded true exceeded is not_both = not_both
not_exceeded false exceeded is not_both = cc

-- a pair within the limits is covered once it was offered
covers_offered : (journal : List JournalEntry) (pair : Pair) (now : ℕ) (origin : Origin) → is_valid_pair pair ≡ true → Covers (offer journal pair now origin) pair
covers_offered journal pair now origin valid =
    cond_both (is_taken journal pair) (journal ++ Merged pair now origin ∷ []) journal (λ after. Covers after pair)
    (λ taken.
    subst (λ held. exceeds pair.value held ≡ false) (sym (holds_push journal (Merged pair now origin) pair.key))
    (ap (λ test. exceeds pair.value (cond test (Some (pair.value, now)) (holds journal pair.key))) ((bytes_eq-Decides pair.key pair.key).1 refl)
    ∙ not_below_itself pair.value))
    (not_exceeded (is_valid_pair pair) (exceeds pair.value (holds journal pair.key)) valid)

covers_after_offers : (journal : List JournalEntry) (pairs : List Pair) (other : Pair) (now : ℕ) (origin : Origin) → Covers journal other → Covers (offer_all journal pairs now origin) other
covers_after_offers journal [] other now origin covered = covered
covers_after_offers journal (pair ∷ pairs) other now origin covered =
    covers_after_offers (offer journal pair now origin) pairs other now origin (covers_after_offer journal pair other now origin covered)

covers_all_offered : (journal : List JournalEntry) (pairs : List Pair) (now : ℕ) (origin : Origin) → AreValid pairs → AllByRecursion (Covers (offer_all journal pairs now origin)) pairs
covers_all_offered journal [] now origin valid = tt
covers_all_offered journal (pair ∷ pairs) now origin valid =
    let after = offer journal pair now origin in
    (covers_after_offers after pairs pair now origin (covers_offered journal pair now origin valid.0), covers_all_offered after pairs now origin valid.1)

covers_after_own : (journal : List JournalEntry) (key : List ℕ) (now : ℕ) (value : Option KvValue) (other : Pair) → Covers journal other → Covers (offer_own journal key now value) other
covers_after_own journal key now None other covered = covered
covers_after_own journal key now (Some value) other covered =
    let pair : Pair = record { key = key; value = value } in
    covers_after_offer journal pair other now origin.Own covered

covers_after_writes : (me : List ℕ) (owned : OwnedKeys) (now : ℕ) (keys : List (List ℕ)) (journal : List JournalEntry) (other : Pair) → Covers journal other
    → Covers (write_each me owned now journal keys) other
covers_after_writes me owned now [] journal other covered = covered
covers_after_writes me owned now (key ∷ keys) journal other covered =
    covers_after_writes me owned now keys _ other (covers_after_own journal key now _ other covered)

-- pairs within the limits are covered once they were offered, and the node wrote under its own keys
pub covered_and_written : (s : StoreState) (keys : List (List ℕ)) (pairs : List Pair) (origin : Origin) → AreValid pairs
    → AllByRecursion (Covers (write_each s.me s.owned s.moment (offer_all s.journal pairs s.moment origin) keys)) pairs
covered_and_written s keys pairs origin valid =
    let offered = offer_all s.journal pairs s.moment origin in
    all_weaker (Covers offered) (Covers (write_each s.me s.owned s.moment offered keys)) pairs
    (λ pair covered. covers_after_writes s.me s.owned s.moment keys offered pair covered) (covers_all_offered s.journal pairs s.moment origin valid)
