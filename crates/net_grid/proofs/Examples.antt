-- The definitions on the least grid, and on a place of the greatest.
use Rattle.std.proofs.Common.{◌≡◌, ℕ, ◌+◌, ◌*◌, ◌^◌, List, [], ◌∷◌, false, Some, map, refl}
use Rattle.std.specs.Prelude.{codes}
use Rattle.std.specs.Fmt.{digits}
use Rattle.or_base.specs.Prefixes.{prefix_from}
use Rattle.net_laboratory.specs.declared.declared.LinkDecl.{LinkDecl}
use Rattle.net_laboratory.specs.declared.show.Show.{Show}
use Rattle.net_grid.specs.Grid.{place_at, link_right, link_down, grid_prefix, grid_scenario}

-- row by row
nodes-least : (show : Show) → map (λ node. node.name) (grid_scenario 2 show).nodes ≡ codes "n00" ∷ codes "n01" ∷ codes "n10" ∷ codes "n11" ∷ []
unfolding digits grid_scenario
nodes-least show = refl

link : List ℕ → List ℕ → List ℕ → List ℕ → LinkDecl
link a aif b bif = record { a = a; aif = aif; am = 1; b = b; bif = bif; bm = 1 }

-- from each node to the right, then down
links-least : (show : Show) → (grid_scenario 2 show).links
    ≡ link (codes "n00") (codes "if-n01") (codes "n01") (codes "if-n00")
    ∷ link (codes "n00") (codes "if-n10") (codes "n10") (codes "if-n00")
    ∷ link (codes "n01") (codes "if-n11") (codes "n11") (codes "if-n01")
    ∷ link (codes "n10") (codes "if-n11") (codes "n11") (codes "if-n10") ∷ []
unfolding digits link link_right link_down grid_scenario
links-least show = refl

-- 10.3.7.0/24
prefix-within : grid_prefix (place_at 3 7) ≡ Some (record { v6 = false; bits = 10 * 2 ^ 24 + 3 * 2 ^ 16 + 7 * 2 ^ 8; len = 24; sound = refl })
unfolding prefix_from grid_prefix
prefix-within = refl
