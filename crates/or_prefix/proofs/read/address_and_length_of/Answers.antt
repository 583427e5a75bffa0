use Rattle.std.proofs.Common.{arith}
use Rattle.std.proofs.lemmas.Grind.{common_steps}
use Rattle.or_prefix.proofs.PartsFound.{address_and_length_found}
use Rattle.or_prefix.proofs.read.address_and_length_of.Goals as goal

pub returns : goal.returns
returns c =
    let e = address_and_length_found c.args.text.now c.in_ok-address.address.now c.in_ok-address.len.now c.in_ok-address-2.address c.in_ok-len.len in
    grind (arith, common_steps, e)
