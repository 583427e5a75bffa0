-- What `read_words` answers.
use Rattle.std.proofs.Common.{◌≡◌, ◌∙◌, true, refl, sym, inl, inr, ap, subst, List, [], ◌∷◌, map, Some, None}
use Rattle.std.specs.Borrow.{Bor}
use Rattle.clap.specs.Values.{kind_of}
use Rattle.clap.specs.Walk.{Row, Text, nothing_held}
use Rattle.clap.specs.Simple.{App, built, is_simple, matches_of}
use Rattle.clap.specs.Kinds.{HasKind, IsAmong, Kinds}
use Rattle.clap.specs.Faults.{fault_of, is_simple_and_free}
use Rattle.clap.specs.declared.error.Error.{Error}
use Rattle.clap.specs.declared.error.kind.ErrorKind.{ErrorKind}
use Rattle.clap.specs.declared.error.kind.ErrorKind.TheVariants.{OutOfMemory}
use Rattle.clap.proofs.FaultLemmas.{leaf_fault}
use Rattle.lab_words.specs.Command.{IsCommand, command, command_with, modes, reference_to}
use Rattle.lab_words.specs.Words.{IsInRange, are_refused, asked_in, words_of}
use Rattle.lab_words.proofs.Faultless.{level_alike}
use Rattle.lab_words.proofs.Places.{AreBounded, stands, top, within}

-- where the names stand changes no words that are read
read_alike : (names others : Bor (List (Bor Text))) → map (λ s. s.now) names.now ≡ map (λ s. s.now) others.now → (words : List Text) → fault_of (command_with names) words ≡ []
    → (fault_of (command_with others) words ≡ []) × (matches_of (command_with others) words ≡ matches_of (command_with names) words)
    × IsInRange (asked_in (matches_of (command_with names) words))
read_alike names others same words e =
    let one = level_alike (top names) (top others).rules AreBounded (stands names others same) [] words (tt, tt)
    (sym (leaf_fault (built (command_with names)) nothing_held words refl) ∙ e) in
    let numbers = subst (λ rows. IsInRange (asked_in rows)) (sym one.4) (within names one.2 one.3) in
    (leaf_fault (built (command_with others)) nothing_held words refl ∙ one.0, one.1, numbers)

abbrev here : Bor (List (Bor Text))
here = reference_to (map reference_to modes)

-- words that are taken
pub accepts_words : (app : App) (rows : List Row) (words : List Text) (X : Type 0) → IsCommand app
    → (is_simple_and_free app ≡ true → fault_of app words ≡ [])
    → (is_simple app ≡ true → (rows ≡ matches_of app words) × X)
    → (words_of words ≡ Some (asked_in rows)) × IsInRange (asked_in rows)
unfolding words_of are_refused
accepts_words app rows words X is kinds matches =
    let none : fault_of (command_with is.0) words ≡ [] = ap (λ a. fault_of a words) (sym is.2) ∙ kinds (ap is_simple_and_free is.2) in
    let rows_are : rows ≡ matches_of (command_with is.0) words = (matches (ap is_simple is.2)).0 ∙ ap (λ a. matches_of a words) is.2 in
    let alike = read_alike is.0 here is.1 words none in
    let free : fault_of command words ≡ [] = alike.0 in
    let same : matches_of command words ≡ rows = alike.1 ∙ sym rows_are in
    (rw (free, same) refl, subst (λ rows. IsInRange (asked_in rows)) (sym rows_are) alike.2)

-- words that are refused, where memory didn't run out
pub refuses_words : (app : App) (e : Error) (k : ErrorKind) (words : List Text) → IsCommand app
    → (is_simple_and_free app ≡ true → HasKind (fault_of app words) e)
    → k ≡ kind_of e → (k ≡ OutOfMemory → ⊥) → words_of words ≡ None
unfolding words_of are_refused
refuses_words app e k words is kinds same other = go (fault_of command words) refl
  where
    no_kind : (ks : Kinds) → ks ≡ [] → IsAmong (kind_of e) ks → ⊥
    no_kind [] none among = among
    no_kind (x ∷ xs) none among = let bad : x ∷ xs ≡ [] = none in cc

    fails : fault_of command words ≡ [] → ⊥
    fails none =
        let free = ap (λ a. fault_of a words) is.2 ∙ (read_alike here is.0 (sym is.1) words none).0 in
        elim (kinds (ap is_simple_and_free is.2)) [
          | inl memory ↦ other (same ∙ memory)
          | inr among ↦ no_kind (fault_of app words) free among
        ]

    go : (ks : Kinds) → fault_of command words ≡ ks → words_of words ≡ None
    go [] none = absurd (fails none)
    go (x ∷ xs) some = rw some refl
