use Rattle.net_grid.proofs.Sizes.{grid_sizes}
use Rattle.net_grid.proofs.laws.grids_are_of_their_size.Goals as goal

pub returns-clause-links : goal.returns-clause-links
returns-clause-links c = (grid_sizes c.args.size c.args.show c.requires.low c.requires.high).links

pub returns-clause-prefixes : goal.returns-clause-prefixes
returns-clause-prefixes c = (grid_sizes c.args.size c.args.show c.requires.low c.requires.high).prefixes
