use Rattle.std.proofs.Common.{◌≡◌, ◌||◌, ℕ, List, drop}
use Rattle.std.specs.List.{flat_map, list_any}
use Rattle.std.specs.Str.{bytes_eq}
use Rattle.ls_spf.specs.Local.{handed_on}
use Rattle.ls_spf.specs.Table.{hops_of}
use Rattle.ls_spf.specs.Rows.{is_in}
use Rattle.ls_spf.proofs.rows.hops_by.Given as goal

-- what is put already and what the arcs that are left hand on are all
abbrev pub invariant-loop-arc : goal.invariant-loop-arc
invariant-loop-arc l =
    (q : List ℕ) → (list_any (λ x. bytes_eq x q) (flat_map (handed_on l.me (hops_of l.rows.entries)) (drop l.arc-index l.tight)) || is_in l.set q)
    ≡ list_any (λ x. bytes_eq x q) (flat_map (handed_on l.me (hops_of l.rows.entries)) l.tight)
