use Rattle.std.proofs.Common.{◌≡◌, ◌||◌, ℕ, List, drop}
use Rattle.std.specs.List.{list_any}
use Rattle.std.specs.Str.{bytes_eq}
use Rattle.ls_spf.specs.Rows.{is_in}
use Rattle.ls_spf.proofs.rows.put_all.Given as goal

-- what is put already and what is left are all
abbrev pub invariant-loop-name : goal.invariant-loop-name
invariant-loop-name l =
    (q : List ℕ) → (list_any (λ x. bytes_eq x q) (drop l.name-index l.names) || is_in l.set q) ≡ (list_any (λ x. bytes_eq x q) l.names || is_in l.initial.set q)
