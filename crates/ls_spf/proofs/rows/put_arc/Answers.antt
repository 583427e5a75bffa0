use Rattle.std.proofs.Common.{◌≡◌, ◌++◌, ◌∷◌, [], ◌∙◌, ap}
use Rattle.ls_spf.specs.Rows.{arcs_in}
use Rattle.ls_spf.proofs.Tight.{arcs_put}
use Rattle.ls_spf.proofs.rows.put_arc.Goals as goal

pub returns : goal.returns
returns c =
    let pushed : c.push.new.self.items ≡ arcs_in c.args.all.now (λ v. v.items) c.args.arc.now.to ++ c.args.arc.now ∷ [] =
    c.in_ok-push.ensures.items ∙ (ap (λ z. z ++ c.in_ok-copied.field-0 ∷ []) c.take_arcs-arcs.ensures.taken
    ∙ ap (λ z. arcs_in c.args.all.now (λ v. v.items) c.args.arc.now.to ++ z ∷ []) c.in_ok-copied.ensures) in
    arcs_put c.args.all.now c.take_arcs-arcs.new.all c.insert.new.self (λ v. v.items) c.args.arc.now.to c.in_ok-copied-2.field-0 c.push.new.self c.args.arc.now c.in_ok-copied-2.ensures pushed
    c.take_arcs-arcs.ensures.others c.in_ok-insert.ensures.updates.0
