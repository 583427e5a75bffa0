-- What is sent of keys, and what it takes to cover it.
use Rattle.std.proofs.Common.{◌≡◌, ℕ, List, [], ◌∷◌, Bool, false, Option, Some, None, refl, sym, ◌∙◌, subst, arith}
use Rattle.std.specs.Prelude.{filter}
use Rattle.std.specs.List.{Contains, AllByRecursion}
use Rattle.std.proofs.lemmas.Bool.{false_from_ne_true}
use Rattle.std.proofs.lemmas.List.{nil_from_length}
use Rattle.std.proofs.lemmas.List.Elements.{All-contains, All-from_recursion}
use Rattle.or_base.specs.declared.value.KvValue.{KvValue}
use Rattle.or_base.specs.declared.value.Pair.{Pair}
use Rattle.or_base.specs.declared.entry.JournalEntry.{JournalEntry}
use Rattle.or_base.specs.Journal.{holds, held_value}
use Rattle.or_base.proofs.Members.{Contains-first}
use Rattle.kv_value.specs.declared.sent.Sent.{Sent}
use Rattle.kv_value.specs.declared.sent.Sent.TheVariants.{Forever, Left, Withheld}
use Rattle.kv_value.specs.Sending.{sent_ttl}
use Rattle.kv_table.specs.Sending.{pair_with, sent_of, sent_pairs, is_withheld, withholds, withheld_count}
use Rattle.kv_agree.specs.Exchange.{Covers}
use Rattle.kv_agree.proofs.Order.{IsAtLeast, at_least_itself, at_least_trans, value_in, exceeds-is_less}
use Rattle.kv_agree.proofs.Lists.{contains_at, all_of_each}
use Rattle.kv_agree.proofs.Rows.{filter_keeps}

-- the journal covers all of the pairs
abbrev pub CoversAll : List JournalEntry → List Pair → Type 0
CoversAll journal pairs = (pair : Pair) → Contains pairs pair → Covers journal pair

pub covers_all : (journal : List JournalEntry) (pairs : List Pair) → AllByRecursion (Covers journal) pairs → CoversAll journal pairs
covers_all journal pairs covered pair = All-contains (Covers journal) pairs pair (All-from_recursion (Covers journal) pairs covered)

-- what is covered stays so where as much is held
pub covers_later : (earlier later : List JournalEntry) (pair : Pair) → IsAtLeast (held_value later pair.key) (held_value earlier pair.key) → Covers earlier pair → Covers later pair
covers_later earlier later pair up covered =
    exceeds-is_less pair.value pair.value.ttl (holds later pair.key)
    ∙ at_least_trans (held_value later pair.key) (held_value earlier pair.key) (Some pair.value) up
    (sym (exceeds-is_less pair.value pair.value.ttl (holds earlier pair.key)) ∙ covered)

-- ---- what is sent of one key

reaches_pair : (journal : List JournalEntry) (key : List ℕ) (v : KvValue) (ttl : Option ℕ) → CoversAll journal (record { key = key; value = record v { ttl = ttl } } ∷ [])
    → IsAtLeast (held_value journal key) (Some v)
reaches_pair journal key v ttl covers =
    let pair : Pair = record { key = key; value = record v { ttl = ttl } } in
    sym (exceeds-is_less v ttl (holds journal key)) ∙ covers pair (Contains-first pair [])

reaches_value : (journal : List JournalEntry) (key : List ℕ) (v : KvValue) (sent : Sent) → is_withheld sent ≡ false
    → CoversAll journal (pair_with key v sent) → IsAtLeast (held_value journal key) (Some v)
reaches_value journal key v Forever e covers = reaches_pair journal key v None covers
reaches_value journal key v (Left ttl) e covers = reaches_pair journal key v (Some ttl) covers
reaches_value journal key v Withheld e covers = cc

reaches_held : (journal : List JournalEntry) (key : List ℕ) (held : Option (KvValue × ℕ)) (now : ℕ) → withholds held now ≡ false
    → CoversAll journal (sent_of key held now) → IsAtLeast (held_value journal key) (value_in held)
reaches_held journal key None now e covers = refl
reaches_held journal key (Some held) now e covers = reaches_value journal key held.0 (sent_ttl held.0.ttl held.1 now) e covers

covers_value : (journal : List JournalEntry) (key : List ℕ) (v : KvValue) (sent : Sent) → IsAtLeast (held_value journal key) (Some v)
    → AllByRecursion (Covers journal) (pair_with key v sent)
covers_value journal key v Forever up = (exceeds-is_less v None (holds journal key) ∙ up, tt)
covers_value journal key v (Left ttl) up = (exceeds-is_less v (Some ttl) (holds journal key) ∙ up, tt)
covers_value journal key v Withheld up = tt

covers_held : (journal : List JournalEntry) (key : List ℕ) (held : Option (KvValue × ℕ)) (now : ℕ) → IsAtLeast (held_value journal key) (value_in held)
    → AllByRecursion (Covers journal) (sent_of key held now)
covers_held journal key None now up = tt
covers_held journal key (Some held) now up = covers_value journal key held.0 (sent_ttl held.0.ttl held.1 now) up

-- ---- what is sent of some keys

-- what is sent of a journal it covers itself
pub covers_what_it_sends : (journal : List JournalEntry) (now : ℕ) (keys : List (List ℕ)) → CoversAll journal (sent_pairs journal now keys)
covers_what_it_sends journal now keys pair =
    All-contains (Covers journal) (sent_pairs journal now keys) pair
    (all_of_each (Covers journal) (λ key. sent_of key (holds journal key) now) keys
    (λ key. All-from_recursion (Covers journal) (sent_of key (holds journal key) now)
    (covers_held journal key (holds journal key) now (at_least_itself (held_value journal key)))))

none_withheld : (journal : List JournalEntry) (now : ℕ) (keys : List (List ℕ)) (key : List ℕ) → withheld_count journal now keys ≡ 0 → Contains keys key
    → withholds (holds journal key) now ≡ false
unfolding withheld_count
none_withheld journal now keys key none among =
    let test : List ℕ → Bool = λ k. withholds (holds journal k) now in
    false_from_ne_true (test key)
    (λ withheld.
    let nowhere : Contains [] key = subst (λ ks. Contains ks key) (nil_from_length (filter test keys) none) (filter_keeps test keys key withheld among) in
    omega (arith, nowhere.1))

-- a journal that covers all that another one sends of some keys, of which none is withheld, holds at least as much there
pub at_least_where_covered : (sender : List JournalEntry) (now : ℕ) (keys : List (List ℕ)) (journal : List JournalEntry) (key : List ℕ)
    → CoversAll journal (sent_pairs sender now keys) → withheld_count sender now keys ≡ 0 → Contains keys key
    → IsAtLeast (held_value journal key) (held_value sender key)
at_least_where_covered sender now keys journal key covers none among =
    reaches_held journal key (holds sender key) now (none_withheld sender now keys key none among)
    (λ pair sent. covers pair (contains_at (λ k. sent_of k (holds sender k) now) keys key pair among sent))
