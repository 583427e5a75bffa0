-- Weights are added one after another.
use Rattle.std.proofs.Common.{◌≡◌, ℕ, ◌+◌, ◌<◌, List, length, get_or, take, ap, ◌∙◌, sym, arith}
use Rattle.std.specs.Prelude.{sum_by}
use Rattle.std.proofs.lemmas.List.Sums.{sum_by_more}
use Rattle.or_base.specs.Counting.{saturate}

-- one more
pub weigh_more : {X : Type 0} (weigh : X → ℕ) (xs : List X) (i : ℕ) (x : X) (total sum after : ℕ)
    → i < length xs → x ≡ get_or xs i x → sum ≡ saturate (total + sum_by weigh (take i xs)) → after ≡ saturate (sum + weigh x)
    → after ≡ saturate (total + sum_by weigh (take (i + 1) xs))
weigh_more weigh xs i x total sum after within is so_far added =
    let more : sum_by weigh (take (i + 1) xs) ≡ sum_by weigh (take i xs) + weigh x = sum_by_more weigh xs i x within ∙ ap (λ y. sum_by weigh (take i xs) + weigh y) (sym is) in
    omega (arith, so_far, added, more)
