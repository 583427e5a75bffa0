use Rattle.std.proofs.Common.{arith, string_bytes}
use Rattle.std.proofs.lemmas.Grind.{common_steps}
use Rattle.net_report.proofs.Hops.{text_begins}
use Rattle.net_report.proofs.routes.with_commas.Goals as goal

pub loop-hop-init : goal.loop-hop-init
loop-hop-init c =
    let e = text_begins c.args.hops.now c.in-Some.others.now (string_bytes c.args.out.now) (string_bytes c.push_str.new.self) c.in-Some.first.now in
    grind (arith, common_steps, e)
