-- One key more among keys in byte order, found from the front.
use Rattle.std.proofs.Common.{◌≡◌, ℕ, ◌+◌, ◌<◌, List, [], ◌∷◌, ◌++◌, length, get_or, take, drop, sym, ◌∙◌, ap, append_assoc}
use Rattle.std.specs.declared.cmp.Ordering.{Ordering}
use Rattle.std.specs.declared.cmp.Ordering.TheVariants.{Less, Equal, Greater}
use Rattle.std.proofs.lemmas.List.{drop_more, take_more, take-append-drop}
use Rattle.std.specs.Ordering.{match_ordering}
use Rattle.std.specs.BTreeSet.{insert_key}
use Rattle.or_base.specs.Order.{bytes_cmp}

-- keys with one key more, by how it compares with the first: before it, there already, or later
abbrev pub with_key_by : Ordering → List ℕ → List ℕ → List (List ℕ) → List (List ℕ) → List (List ℕ)
with_key_by o key first rest later = match_ordering o (key ∷ first ∷ rest) (first ∷ rest) (first ∷ later)

at_place : (key : List ℕ) (keys : List (List ℕ)) (place : ℕ) (first : List ℕ) → place < length keys → first ≡ get_or keys place first
    → insert_key bytes_cmp (drop place keys) key ≡ with_key_by (bytes_cmp key first) key first (drop (place + 1) keys) (insert_key bytes_cmp (drop (place + 1) keys) key)
at_place key keys place first within at =
    ap (λ ks. insert_key bytes_cmp ks key) (drop_more keys place first within ∙ ap (λ k. k ∷ drop (place + 1) keys) (sym at))

-- the key goes after this one
pub with_key_after : (key : List ℕ) (keys : List (List ℕ)) (place : ℕ) (first : List ℕ) → place < length keys → first ≡ get_or keys place first → bytes_cmp key first ≡ Greater
    → take (place + 1) keys ++ insert_key bytes_cmp (drop (place + 1) keys) key ≡ take place keys ++ insert_key bytes_cmp (drop place keys) key
with_key_after key keys place first within at greater =
    ap (λ ks. ks ++ insert_key bytes_cmp (drop (place + 1) keys) key) (take_more keys place first within)
    ∙ append_assoc (take place keys) (get_or keys place first ∷ []) (insert_key bytes_cmp (drop (place + 1) keys) key)
    ∙ ap (λ k. take place keys ++ (k ∷ insert_key bytes_cmp (drop (place + 1) keys) key)) (sym at)
    ∙ ap (λ ks. take place keys ++ ks)
    (sym (at_place key keys place first within at ∙ ap (λ o. with_key_by o key first (drop (place + 1) keys) (insert_key bytes_cmp (drop (place + 1) keys) key)) greater))

-- the key is there already
pub with_key_there : (key : List ℕ) (keys : List (List ℕ)) (place : ℕ) (first : List ℕ) → place < length keys → first ≡ get_or keys place first → bytes_cmp key first ≡ Equal
    → take place keys ++ insert_key bytes_cmp (drop place keys) key ≡ keys
with_key_there key keys place first within at equal =
    ap (λ ks. take place keys ++ ks)
    (at_place key keys place first within at
    ∙ ap (λ o. with_key_by o key first (drop (place + 1) keys) (insert_key bytes_cmp (drop (place + 1) keys) key)) equal
    ∙ ap (λ k. k ∷ drop (place + 1) keys) at ∙ sym (drop_more keys place first within))
    ∙ take-append-drop place keys

-- the key goes before this one
pub with_key_before : (key : List ℕ) (keys : List (List ℕ)) (place : ℕ) (first : List ℕ) → place < length keys → first ≡ get_or keys place first → bytes_cmp key first ≡ Less
    → take place keys ++ insert_key bytes_cmp (drop place keys) key ≡ take place keys ++ key ∷ drop place keys
with_key_before key keys place first within at less =
    ap (λ ks. take place keys ++ ks)
    (at_place key keys place first within at
    ∙ ap (λ o. with_key_by o key first (drop (place + 1) keys) (insert_key bytes_cmp (drop (place + 1) keys) key)) less
    ∙ ap (λ k. key ∷ k ∷ drop (place + 1) keys) at ∙ ap (λ ks. key ∷ ks) (sym (drop_more keys place first within)))

pub ruleset with_key_steps = (with_key_after, with_key_there, with_key_before)
