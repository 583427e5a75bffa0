-- A Fib stays that of its node.
use Rattle.std.proofs.Common.{◌≡◌, List, [], ◌∷◌, Bool, true, false, cond, map, refl, ap}
use Rattle.or_base.specs.declared.item.Item.{Item}
use Rattle.or_base.specs.declared.item.Item.TheVariants.{Routes, Tick}
use Rattle.ls_routes.specs.Routes.{applied}
use Rattle.fib_core.specs.declared.op.FibOp.{FibOp}
use Rattle.fib_core.specs.declared.op.FibOp.TheVariants.{Whole}
use Rattle.fib_core.specs.Agent.{ops_of, until_refused}
use Rattle.fib_core.specs.Fib.{FibState, asked, programmed, mended, fib_after, fib_step}

programmed_me : (fib : FibState) (ops : List FibOp) (dirty : Bool) → fib.dirty ≡ dirty → (programmed fib ops).me ≡ fib.me
programmed_me fib ops true e = ap (λ (d : Bool). (cond d fib (asked fib (until_refused fib.agent ops))).me) e
programmed_me fib ops false e = ap (λ (d : Bool). (cond d fib (asked fib (until_refused fib.agent ops))).me) e

mended_me : (fib : FibState) (dirty : Bool) → fib.dirty ≡ dirty → (mended fib).me ≡ fib.me
mended_me fib true e = ap (λ (d : Bool). (cond d (asked fib (Whole (map (λ r. r.1) fib.wanted) ∷ [])) fib).me) e
mended_me fib false e = ap (λ (d : Bool). (cond d (asked fib (Whole (map (λ r. r.1) fib.wanted) ∷ [])) fib).me) e

pub fib_me : (fib : FibState) (item : Item) → (fib_step fib item).0.me ≡ fib.me
unfolding fib_after
fib_me fib (Routes delta) = programmed_me (record fib { wanted = applied fib.wanted delta }) (ops_of delta) fib.dirty refl
fib_me fib (Tick at) = mended_me fib fib.dirty refl
fib_me fib _ = refl
