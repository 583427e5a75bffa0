-- What follows a start, in a text that begins so.
use Rattle.std.proofs.Common.{◌≡◌, ◌≢◌, ℕ, List, [], ◌∷◌, ◌++◌, Bool, true, false, cond, Option, Some, None, refl, sym, ◌∙◌, ap, eq-eqb, eqb-true}
use Rattle.std.specs.Prelude.{◌==◌, option_copied, MatchOption}
use Rattle.std.specs.Borrow.{Bor}
use Rattle.std.specs.Str.Pattern.{FindsTextPrefix, StripsPrefix}
use Rattle.ls_records.specs.Step.{rest_after}

rest_by_head : (c d : ℕ) (start key rest : List ℕ) (same : Bool) → (c == d) ≡ same → (rest_after start key ≡ Some rest → key ≡ start ++ rest)
    → cond same (rest_after start key) None ≡ Some rest → d ∷ key ≡ c ∷ start ++ rest
rest_by_head c d start key rest true same later e = ap (λ k. d ∷ k) (later e) ∙ ap (λ x. x ∷ start ++ rest) (sym (eqb-true c d same))
rest_by_head c d start key rest false same later e = absurd cc

pub rest_is : (start key rest : List ℕ) → rest_after start key ≡ Some rest → key ≡ start ++ rest
rest_is [] key rest e = cc
rest_is (c ∷ start) [] rest e = absurd cc
rest_is (c ∷ start) (d ∷ key) rest e = rest_by_head c d start key rest (c == d) refl (rest_is start key rest) e

pub rest_of : (start rest : List ℕ) → rest_after start (start ++ rest) ≡ Some rest
rest_of [] rest = refl
rest_of (c ∷ start) rest = ap (λ t. cond t (rest_after start (start ++ rest)) None) (eq-eqb c c refl) ∙ rest_of start rest

nothing_follows : (start key : List ℕ) (found : Option (List ℕ)) → rest_after start key ≡ found → ((rest : List ℕ) → key ≢ start ++ rest) → None ≡ found
nothing_follows start key None is lacks = refl
nothing_follows start key (Some rest) is lacks = absurd (lacks rest (rest_is start key rest is))

-- what is stripped of the start is what follows it
pub stripped : (start key : List ℕ) (found : Option (Bor (List ℕ))) → MatchOption found (FindsTextPrefix start key None) (λ x. StripsPrefix (FindsTextPrefix start) key x.now)
    → option_copied found ≡ rest_after start key
stripped start key None lacks = nothing_follows start key (rest_after start key) refl lacks
stripped start key (Some x) strips =
    sym (rest_of start x.now) ∙ ap (rest_after start) (sym (strips.1.1 ∙ ap (λ rest. start ++ rest) (sym strips.2)))
