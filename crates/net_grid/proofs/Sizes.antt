-- What each grid consists of.
use Rattle.std.proofs.Common.{◌≡◌, ℕ, ◌≤◌, ◌*◌, ◌-◌, zero, suc, length, refl, arith}
use Rattle.std.specs.Fmt.{digits}
use Rattle.or_base.specs.Prefixes.{prefix_from}
use Rattle.net_laboratory.specs.Amounts.{offers_in}
use Rattle.net_laboratory.specs.Scenario.{Laboratory}
use Rattle.net_laboratory.specs.declared.show.Show.{Show}
use Rattle.net_grid.specs.Grid.{least_grid_size, most_grid_size, link_right, link_down, grid_prefix, grid_scenario, AdvertisesOneEach}

-- what holds of each size in turn holds of all
pub by_size : (P : ℕ → Type 0) (size : ℕ) → least_grid_size ≤ size → size ≤ most_grid_size → P 2 → P 3 → P 4 → P 5 → P 6 → P 7 → P 8 → P size
by_size P zero low high at_2 at_3 at_4 at_5 at_6 at_7 at_8 = absurd (omega arith)
by_size P (suc zero) low high at_2 at_3 at_4 at_5 at_6 at_7 at_8 = absurd (omega arith)
by_size P (suc (suc zero)) low high at_2 at_3 at_4 at_5 at_6 at_7 at_8 = at_2
by_size P (suc (suc (suc zero))) low high at_2 at_3 at_4 at_5 at_6 at_7 at_8 = at_3
by_size P (suc (suc (suc (suc zero)))) low high at_2 at_3 at_4 at_5 at_6 at_7 at_8 = at_4
by_size P (suc (suc (suc (suc (suc zero))))) low high at_2 at_3 at_4 at_5 at_6 at_7 at_8 = at_5
by_size P (suc (suc (suc (suc (suc (suc zero)))))) low high at_2 at_3 at_4 at_5 at_6 at_7 at_8 = at_6
by_size P (suc (suc (suc (suc (suc (suc (suc zero))))))) low high at_2 at_3 at_4 at_5 at_6 at_7 at_8 = at_7
by_size P (suc (suc (suc (suc (suc (suc (suc (suc zero)))))))) low high at_2 at_3 at_4 at_5 at_6 at_7 at_8 = at_8
by_size P (suc (suc (suc (suc (suc (suc (suc (suc (suc n))))))))) low high at_2 at_3 at_4 at_5 at_6 at_7 at_8 = absurd (omega arith)

pub record HasItsSize (size : ℕ) (lab : Laboratory) : Type 0 where
  pub nodes : length lab.nodes ≡ size * size
  pub links : length lab.links ≡ 2 * size * (size - 1)
  pub prefixes : AdvertisesOneEach lab

pub grid_sizes : (size : ℕ) (show : Show) → least_grid_size ≤ size → size ≤ most_grid_size → HasItsSize size (grid_scenario size show)
unfolding digits prefix_from offers_in link_right link_down grid_prefix grid_scenario
grid_sizes size show low high =
    by_size (λ n. HasItsSize n (grid_scenario n show)) size low high
    (record { nodes = refl; links = refl; prefixes = refl })
    (record { nodes = refl; links = refl; prefixes = refl })
    (record { nodes = refl; links = refl; prefixes = refl })
    (record { nodes = refl; links = refl; prefixes = refl })
    (record { nodes = refl; links = refl; prefixes = refl })
    (record { nodes = refl; links = refl; prefixes = refl })
    (record { nodes = refl; links = refl; prefixes = refl })
