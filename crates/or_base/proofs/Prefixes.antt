-- A prefix is the prefix of its parts.
use Rattle.std.proofs.Common.{◌≡◌, ℕ, Bool, true, false, Some, None, refl, sym, ap, ◌∙◌}
use Rattle.std.proofs.Math.Bool.{Bool-set}
use Rattle.or_base.specs.Prefix.{is_prefix}
use Rattle.or_base.specs.Prefixes.{prefix_if, prefix_from}

of_parts : (v6 : Bool) (bits len : ℕ) (sound : is_prefix v6 bits len ≡ true) (test : Bool) (known : is_prefix v6 bits len ≡ test)
    → prefix_if v6 bits len test known ≡ Some (record { v6 = v6; bits = bits; len = len; sound = sound })
of_parts v6 bits len sound true known =
    ap (λ (proof : is_prefix v6 bits len ≡ true). Some (record { v6 = v6; bits = bits; len = len; sound = proof })) (Bool-set (is_prefix v6 bits len) true known sound)
of_parts v6 bits len sound false known = let wrong : true ≡ false = sym sound ∙ known in absurd cc

-- parts that are a prefix
pub prefix_from_parts : (v6 : Bool) (bits len : ℕ) (sound : is_prefix v6 bits len ≡ true)
    → prefix_from v6 bits len ≡ Some (record { v6 = v6; bits = bits; len = len; sound = sound })
unfolding prefix_from
prefix_from_parts v6 bits len sound = of_parts v6 bits len sound (is_prefix v6 bits len) refl

of_no_parts : (v6 : Bool) (bits len : ℕ) (test : Bool) (known : is_prefix v6 bits len ≡ test) → test ≡ false → prefix_if v6 bits len test known ≡ None
of_no_parts v6 bits len true known wrong = absurd cc
of_no_parts v6 bits len false known wrong = refl

-- parts that are none
pub prefix_from_none : (v6 : Bool) (bits len : ℕ) → is_prefix v6 bits len ≡ false → prefix_from v6 bits len ≡ None
unfolding prefix_from
prefix_from_none v6 bits len wrong = of_no_parts v6 bits len (is_prefix v6 bits len) refl wrong
