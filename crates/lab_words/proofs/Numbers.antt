-- Numbers as `clap` and `parse` read them.
use Rattle.std.proofs.Common.{◌≡◌, ◌∙◌, ◌^◌, ◌<◌, ◌≤◌, ◌&&◌, ℕ, Bool, cond, true, false, refl, sym, ap, arith, List, Option, Some, None, Result, Ok, Err, nat_lt, lt-ltb, ltb-true, le-leb, true≢false}
use Rattle.std.specs.Prelude.{unwrap_or, pos}
use Rattle.std.specs.Option.{option_map_or}
use Rattle.std.specs.Str.Parse.{IsNumeral, ParsesUnsigned, digits_value, without_leading_plus}
use Rattle.clap.specs.Lexer.{without_minus}
use Rattle.clap.specs.Matches.{ReadsOne, first_value}
use Rattle.clap.specs.Values.{IsSignedIn}
use Rattle.clap.specs.ValueTests.{accepts, is_numeral}
use Rattle.clap.specs.Walk.{Text, first_of, rows_of}
use Rattle.clap.specs.declared.parser.matches.Found.{Found}
use Rattle.clap.specs.declared.builder.value_parser.ValueParser.TheVariants as parser
use Rattle.clap.proofs.CallerReads.{signed_reads}
use Rattle.clap.proofs.ValueTestLemmas.{Accepts-accepts, accepts-Accepts}
use Rattle.clap.proofs.WalkLemmas.{both, first_value-rows}
use Rattle.lab_words.specs.Words.{number_in}

abbrev value_of : Text → ℕ
value_of text = digits_value 10 (without_leading_plus text)

-- the test of `number_in`
abbrev is_number : Text → Bool
is_number text = is_numeral (without_leading_plus text) && nat_lt (value_of text) (2 ^ 32)

abbrev IsNumber : Text → Type 0
IsNumber text = IsNumeral 10 (without_leading_plus text) × (value_of text < 2 ^ 32)

-- it says what `parse` asks for, as it does at `clap`'s own parser of whole numbers
is_number-IsNumber : (text : Text) → is_number text ≡ true → IsNumber text
is_number-IsNumber text e =
    let parts = both (is_numeral (without_leading_plus text)) (nat_lt (value_of text) (2 ^ 32)) e in
    let small : value_of text < 2 ^ 32 = ltb-true _ _ parts.1 in
    let passes : accepts false (parser.Unsigned 0 (value_of text)) text ≡ true =
    rw (parts.0, lt-ltb (value_of text) (2 ^ 64) (omega arith), le-leb 0 (value_of text) (omega arith), le-leb (value_of text) (value_of text) (omega arith)) refl in
    ((accepts-Accepts false (parser.Unsigned 0 (value_of text)) text passes).0, small)

IsNumber-is_number : (text : Text) → IsNumber text → is_number text ≡ true
IsNumber-is_number text h =
    let small : value_of text < 2 ^ 32 = h.1 in
    let passes = Accepts-accepts false (parser.Unsigned 0 (value_of text)) text (h.0, omega arith, omega arith, omega arith) in
    let digits : is_numeral (without_leading_plus text) ≡ true = (both (is_numeral (without_leading_plus text)) _ passes).0 in
    rw (digits, lt-ltb (value_of text) (2 ^ 32) small) refl

-- `parse`, and 0 where it fails
parsed : (E : Type 0) (text : Text) (o : Option ℕ) → ReadsOne {E = E} (λ bs r. ParsesUnsigned 32 10 bs r) text o → unwrap_or o 0 ≡ number_in text
parsed E text (Some n) h = rw (IsNumber-is_number text h.0) h.1
parsed E text None h = go (is_number text) refl
  where
    go : (b : Bool) → is_number text ≡ b → 0 ≡ cond b (value_of text) 0
    go false is = refl
    go true is = absurd (h.1 (is_number-IsNumber text is))

-- `get_one`, and 0 where it has nothing
pub number_read : (E : Type 0) (G : List ℕ → Result ℕ E → Type 0) (o : Option Text) (r : Option ℕ)
    → ((u : List ℕ) (x : Result ℕ E) → G u x → ParsesUnsigned 32 10 u x)
    → (o ≡ None → r ≡ None) → ((text : Text) → o ≡ Some text → ReadsOne G text r) → unwrap_or r 0 ≡ option_map_or number_in o 0
number_read E G None r parses none some = ap (λ x. unwrap_or x 0) (none refl)
number_read E G (Some text) r parses none some = parsed E text r (go r (some text refl))
  where
    go : (x : Option ℕ) → ReadsOne G text x → ReadsOne {E = E} (λ bs y. ParsesUnsigned 32 10 bs y) text x
    go (Some n) h = parses text (Ok n) h
    go None h = (h.0, parses text (Err h.0) h.1)

-- a text that passed the bounds reads as a number within them
pub number_within : (low high : ℕ) (text : Text) → high < 2 ^ 32 → IsSignedIn (pos low) (pos high) text
    → (low ≤ number_in (without_minus text)) × (number_in (without_minus text) ≤ high)
number_within low high text fits passed = go (is_number (without_minus text)) refl
  where
    reads : (o : Option ℕ) → ReadsOne {E = Unit {0}} (λ bs r. ParsesUnsigned 32 10 bs r) (without_minus text) o
        → (n : ℕ) × (o ≡ Some n) × (low ≤ n) × (n ≤ high)
    reads o h = signed_reads (Unit {0}) (λ bs r. ParsesUnsigned 32 10 bs r) 32 low high text o h (λ u x g. g) fits passed

    go : (b : Bool) → is_number (without_minus text) ≡ b
        → (low ≤ cond b (value_of (without_minus text)) 0) × (cond b (value_of (without_minus text)) 0 ≤ high)
    go true is =
        let got = reads (Some (value_of (without_minus text))) (is_number-IsNumber (without_minus text) is, refl) in
        let same : value_of (without_minus text) ≡ got.0 = ap (λ o. unwrap_or o 0) got.1 in
        (rw same got.2, rw same got.3)
    go false is =
        let got = reads None (tt, λ h. true≢false (sym (IsNumber-is_number (without_minus text) h) ∙ is)) in
        let bad : None ≡ Some got.0 = got.1 in
        cc

-- `get_str` and the rows
pub first_rows : (f : Found) (id : Text) → first_value f id ≡ first_of id (rows_of f)
first_rows f id = first_value-rows f id
