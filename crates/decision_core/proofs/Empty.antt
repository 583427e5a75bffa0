-- Before any entry there is no route.
use Rattle.std.proofs.Common.{◌≡◌, ℕ, List, [], refl}
use Rattle.ls_records.specs.Records.{prefix_records, advertised_prefixes}
use Rattle.decision_core.specs.Scratch.{scratch, routes_over}

pub none_at_first : (node : List ℕ) → scratch node [] ≡ []
unfolding scratch routes_over prefix_records advertised_prefixes
none_at_first node = refl
