-- Pieces, by the place of the first separator.
use Rattle.std.proofs.Common.{◌≡◌, ℕ, zero, suc, ◌+◌, ◌<◌, ◌==◌, Bool, true, false, cond, List, [], ◌∷◌, length, get_or, take, drop, Some, None, refl, ap, ◌∙◌, add-one, arith}
use Rattle.std.specs.List.{position, position_or_len}
use Rattle.std.specs.Prelude.{not, nat_lt}
use Rattle.std.proofs.lemmas.List.Quantifiers.{position-Some}
use Rattle.std.proofs.lemmas.List.Sums.{prefix_len_passes}
use Rattle.std.proofs.lemmas.Bool.{ltb-false, not-true}
use Rattle.or_prefix.specs.Reading.{pieces, with_byte_before}

-- the pieces of a text, by whether its first byte is a separator
choice : ℕ → ℕ → List ℕ → Bool → List (List ℕ)
choice separator b bytes test = cond test ([] ∷ pieces separator bytes) (with_byte_before b (pieces separator bytes))

at_place : (separator : ℕ) (text : List ℕ) (place : ℕ) → place < length text → (get_or text place 0 == separator) ≡ true
    → ((k : ℕ) → k < place → (get_or text k 0 == separator) ≡ false)
    → pieces separator text ≡ take place text ∷ pieces separator (drop (suc place) text)
unfolding choice
at_place separator [] place within at before = absurd (omega arith)
at_place separator (b ∷ bytes) zero within at before = ap (choice separator b bytes) at
at_place separator (b ∷ bytes) (suc place) within at before =
    ap (choice separator b bytes) (before 0 (omega arith))
    ∙ ap (with_byte_before b) (at_place separator bytes place (omega arith) at (λ k h. before (suc k) (omega arith)))

nowhere : (separator : ℕ) (text : List ℕ) → ((k : ℕ) → k < length text → (get_or text k 0 == separator) ≡ false) → pieces separator text ≡ text ∷ []
unfolding choice
nowhere separator [] other = refl
nowhere separator (b ∷ bytes) other =
    ap (choice separator b bytes) (other 0 (omega arith))
    ∙ ap (with_byte_before b) (nowhere separator bytes (λ k h. other (suc k) (omega arith)))

-- the first piece ends at the first separator
pub pieces_cut : (separator : ℕ) (text : List ℕ) (place : ℕ) → position (λ b. b == separator) text ≡ Some place
    → pieces separator text ≡ take place text ∷ pieces separator (drop (place + 1) text)
pieces_cut separator text place found =
    let p = position-Some (λ b. b == separator) text place 0 found in
    rw add-one (at_place separator text place p.0 p.1 p.2)

unplaced : (test : Bool) (place : ℕ) → cond test (Some place) None ≡ None → test ≡ false
unplaced true place e = cc
unplaced false place e = refl

-- without a separator the text is the only piece
pub pieces_whole : (separator : ℕ) (text : List ℕ) → position (λ b. b == separator) text ≡ None → pieces separator text ≡ text ∷ []
pieces_whole separator text none =
    let found : ℕ → Bool = λ b. b == separator in
    let far = ltb-false (position_or_len found text) (length text) (unplaced (nat_lt (position_or_len found text) (length text)) (position_or_len found text) none) in
    nowhere separator text
    (λ k h. not-true (found (get_or text k 0)) (prefix_len_passes (λ b. not (found b)) text k 0 (omega (arith, far, h))))

pub ruleset cut_steps = (pieces_cut, pieces_whole)
