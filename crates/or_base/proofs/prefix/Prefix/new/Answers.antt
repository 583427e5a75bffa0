use Rattle.std.proofs.Common.{sym}
use Rattle.or_base.proofs.Prefixes.{prefix_from_parts}
use Rattle.or_base.proofs.prefix.Prefix.new.Goals as goal

pub returns-then-is_prefix-clause-prefix : goal.returns-then-is_prefix-clause-prefix
returns-then-is_prefix-clause-prefix c = sym (prefix_from_parts c.args.v6 c.args.bits c.args.len _)
