use Rattle.std.proofs.Common.{arith}
use Rattle.std.proofs.lemmas.Grind.{common_steps}
use Rattle.or_prefix.proofs.Joins.{v6_no_before, v6_no_behind, v6_joined}
use Rattle.or_prefix.proofs.v6.v6_address.Goals as goal

pub returns-in_err-before-in-Some : goal.returns-in_err-before-in-Some
returns-in_err-before-in-Some c =
    let e = v6_no_before c.args.text.now c.in-Some.before.now c.in-Some.behind.now in
    grind (arith, common_steps, e)

pub returns-in_err-behind-in-Some : goal.returns-in_err-behind-in-Some
returns-in_err-behind-in-Some c =
    let e = v6_no_behind c.args.text.now c.in-Some.before.now c.in-Some.behind.now c.in_ok-before-in-Some.before in
    grind (arith, common_steps, e)

pub returns-in_ok-behind-in-Some : goal.returns-in_ok-behind-in-Some
returns-in_ok-behind-in-Some c =
    let e = v6_joined c.args.text.now c.in-Some.before.now c.in-Some.behind.now c.in_ok-before-in-Some.before c.in_ok-behind-in-Some.behind in
    grind (arith, common_steps, e)
