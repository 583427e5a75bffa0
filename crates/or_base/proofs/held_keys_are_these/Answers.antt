use Rattle.or_base.proofs.HeldKeys.{held_keys_are_these}
use Rattle.or_base.proofs.held_keys_are_these.Goals as goal

pub returns : goal.returns
returns c = held_keys_are_these
