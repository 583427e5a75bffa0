-- Texts that were joined by a separator are cut there.
use Rattle.std.proofs.Common.{◌≡◌, ℕ, ◌==◌, Bool, true, false, ◌||◌, cond, List, [], ◌∷◌, ◌++◌, refl, ap, ◌∙◌, sym}
use Rattle.std.specs.List.{list_all, list_any}
use Rattle.std.proofs.lemmas.Bool.{and_parts, or_parts, eqb-true, eq-eqb}
use Rattle.or_prefix.specs.Reading.{pieces, with_byte_before}
use Rattle.or_prefix.specs.Printing.{join_texts}

abbrev pub has : ℕ → List ℕ → Bool
has separator text = list_any (λ b. b == separator) text

either : (test other : Bool) → other ≡ true → (test || other) ≡ true
either true other is = refl
either false other is = is

neither : (test other : Bool) → test ≡ false → other ≡ false → (test || other) ≡ false
neither true other first second = absurd cc
neither false other first second = second

pub has-append : (separator : ℕ) (xs ys : List ℕ) → has separator xs ≡ false → has separator ys ≡ false → has separator (xs ++ ys) ≡ false
has-append separator [] ys first second = second
has-append separator (x ∷ xs) ys first second =
    let parts = or_parts _ _ first in
    neither (x == separator) _ parts.0 (has-append separator xs ys parts.1 second)

pub has_behind : (separator : ℕ) (xs ys : List ℕ) → has separator ys ≡ true → has separator (xs ++ ys) ≡ true
has_behind separator [] ys some = some
has_behind separator (x ∷ xs) ys some = either (x == separator) _ (has_behind separator xs ys some)

other_byte : (test : ℕ → Bool) (separator b : ℕ) (same : Bool) → (b == separator) ≡ same → test separator ≡ false → test b ≡ true → same ≡ false
other_byte test separator b true is other passes = let wrong : true ≡ false = sym passes ∙ ap test (eqb-true b separator is) ∙ other in absurd cc
other_byte test separator b false is other passes = refl

-- no byte that fails the test stands where each byte passes it
pub passing : (test : ℕ → Bool) (separator : ℕ) (text : List ℕ) → test separator ≡ false → list_all test text ≡ true → has separator text ≡ false
passing test separator [] other all = refl
passing test separator (b ∷ text) other all =
    let parts = and_parts _ _ all in
    neither (b == separator) _ (other_byte test separator b (b == separator) refl other parts.0) (passing test separator text other parts.1)

piece_if : ℕ → ℕ → List ℕ → Bool → List (List ℕ)
piece_if separator b text test = cond test ([] ∷ pieces separator text) (with_byte_before b (pieces separator text))

pub pieces_whole : (separator : ℕ) (text : List ℕ) → has separator text ≡ false → pieces separator text ≡ text ∷ []
unfolding piece_if
pieces_whole separator [] free = refl
pieces_whole separator (b ∷ text) free =
    let parts = or_parts _ _ free in
    ap (piece_if separator b text) parts.0 ∙ ap (with_byte_before b) (pieces_whole separator text parts.1)

pub pieces_cut : (separator : ℕ) (text rest : List ℕ) → has separator text ≡ false
    → pieces separator (text ++ separator ∷ rest) ≡ text ∷ pieces separator rest
unfolding piece_if
pieces_cut separator [] rest free = ap (piece_if separator separator rest) (eq-eqb separator separator refl)
pieces_cut separator (b ∷ text) rest free =
    let parts = or_parts _ _ free in
    ap (piece_if separator b (text ++ separator ∷ rest)) parts.0 ∙ ap (with_byte_before b) (pieces_cut separator text rest parts.1)

module _ (separator : ℕ) (test : List ℕ → Bool) (free : (text : List ℕ) → test text ≡ true → has separator text ≡ false) where
  pub pieces_joined : (text : List ℕ) (texts : List (List ℕ)) → list_all test (text ∷ texts) ≡ true
      → pieces separator (join_texts separator (text ∷ texts)) ≡ text ∷ texts
  pieces_joined text [] all = pieces_whole separator text (free text (and_parts _ _ all).0)
  pieces_joined text (other ∷ others) all =
      let parts = and_parts _ _ all in
      pieces_cut separator text (join_texts separator (other ∷ others)) (free text parts.0) ∙ ap (λ ts. text ∷ ts) (pieces_joined other others parts.1)

module _ (separator byte : ℕ) (test : List ℕ → Bool) (free : (text : List ℕ) → test text ≡ true → has byte text ≡ false) where
  pub has_joined : (texts : List (List ℕ)) → (separator == byte) ≡ false → list_all test texts ≡ true → has byte (join_texts separator texts) ≡ false
  has_joined [] other all = refl
  has_joined (text ∷ []) other all = free text (and_parts _ _ all).0
  has_joined (text ∷ next ∷ texts) other all =
      let parts = and_parts _ _ all in
      has-append byte text _ (free text parts.0) (neither (separator == byte) _ other (has_joined (next ∷ texts) other parts.1))
