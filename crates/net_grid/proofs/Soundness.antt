-- Each grid is sound, by computation.
use Rattle.std.proofs.Common.{◌≡◌, ℕ, ◌≤◌, true, refl}
use Rattle.std.specs.Fmt.{digits}
use Rattle.or_base.specs.Limits.{is_node_name, is_interface_name}
use Rattle.or_base.specs.Prefixes.{prefix_from}
use Rattle.net_laboratory.specs.Amounts.{keys_in, owners_in, offers_in, has_offer_room, settles_in, ends_in_settle, last_tick}
use Rattle.net_laboratory.specs.Sound.{admits_node, admits_link, has_sound_fields, admits_command, is_sound}
use Rattle.net_laboratory.specs.declared.show.Show.{Show}
use Rattle.net_grid.specs.Grid.{least_grid_size, most_grid_size, link_right, link_down, grid_prefix, grid_scenario}
use Rattle.net_grid.proofs.Sizes.{by_size}

pub grids_are_sound : (size : ℕ) (show : Show) → least_grid_size ≤ size → size ≤ most_grid_size → is_sound (grid_scenario size show) ≡ true
unfolding digits is_node_name is_interface_name prefix_from keys_in owners_in offers_in has_offer_room settles_in ends_in_settle last_tick admits_node admits_link has_sound_fields admits_command is_sound link_right link_down grid_prefix grid_scenario
grids_are_sound size show low high =
    by_size (λ n. is_sound (grid_scenario n show) ≡ true) size low high refl refl refl refl refl refl refl
