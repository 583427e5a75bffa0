use Rattle.or_prefix.proofs.PrintedPrefixes.{prefix_again}
use Rattle.or_prefix.proofs.prefixes_are_read_again.Goals as goal

pub returns : goal.returns
returns c = prefix_again
