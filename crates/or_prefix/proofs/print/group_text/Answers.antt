use Rattle.std.proofs.Common.{arith, string_bytes}
use Rattle.std.proofs.lemmas.Grind.{common_steps}
use Rattle.or_prefix.proofs.Runs.{text_started}
use Rattle.or_prefix.proofs.print.group_text.Goals as goal

pub loop-group-init : goal.loop-group-init
loop-group-init c =
    let e = text_started c.args.groups.now c.in-Some.others.now (string_bytes c.args.out.now) (string_bytes c.write.new.self) c.in-Some.first.now in
    grind (arith, common_steps, e)
