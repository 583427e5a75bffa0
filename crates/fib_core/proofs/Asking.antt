-- What is asked one by one comes to what is asked of all: the same calls, up to the first refusal.
use Rattle.std.proofs.Common.{◌≡◌, ◌∙◌, ℕ, List, [], ◌∷◌, ◌++◌, Bool, true, false, cond, fold, refl, sym, ap}
use Rattle.or_base.specs.declared.prefix.Prefix.{Prefix}
use Rattle.or_base.specs.declared.route.Route.{Route}
use Rattle.fib_core.specs.declared.op.FibOp.{FibOp}
use Rattle.fib_core.specs.Agent.{AgentState, is_refused, agent_after, answers, until_refused}
use Rattle.fib_core.specs.Fib.{FibState, last_answer, programmed}

-- behind a first call, which was refused or not, to an agent that is this one now
behind_first : (me : List ℕ) (wanted : List (Prefix × Route)) (agent : AgentState) (refused : Bool) (ops : List FibOp)
    → record {
      me = me;
      wanted = wanted;
      agent = fold agent_after agent (cond refused [] (until_refused agent ops));
      dirty = last_answer refused (answers agent (cond refused [] (until_refused agent ops)));
    }
    ≡ programmed (record { me = me; wanted = wanted; agent = agent; dirty = refused }) ops
behind_first me wanted agent true ops = refl
behind_first me wanted agent false ops = refl

none_if : (me : List ℕ) (wanted : List (Prefix × Route)) (agent : AgentState) (dirty : Bool)
    → programmed (record { me = me; wanted = wanted; agent = agent; dirty = dirty }) [] ≡ record { me = me; wanted = wanted; agent = agent; dirty = dirty }
none_if me wanted agent true = refl
none_if me wanted agent false = refl

first_if : (me : List ℕ) (wanted : List (Prefix × Route)) (agent : AgentState) (dirty : Bool) (op : FibOp) (ops : List FibOp)
    → programmed (record { me = me; wanted = wanted; agent = agent; dirty = dirty }) (op ∷ ops)
    ≡ programmed (programmed (record { me = me; wanted = wanted; agent = agent; dirty = dirty }) (op ∷ [])) ops
first_if me wanted agent true op ops = refl
first_if me wanted agent false op ops =
    behind_first me wanted (agent_after agent op) (is_refused agent) ops
    ∙ ap (λ fib. programmed fib ops)
    (sym (behind_first me wanted (agent_after agent op) (is_refused agent) [] ∙ none_if me wanted (agent_after agent op) (is_refused agent)))

pub programmed_first : (fib : FibState) (op : FibOp) (ops : List FibOp) → programmed fib (op ∷ ops) ≡ programmed (programmed fib (op ∷ [])) ops
programmed_first fib op ops = first_if fib.me fib.wanted fib.agent fib.dirty op ops

pub programmed_none : (fib : FibState) → programmed fib [] ≡ fib
programmed_none fib = none_if fib.me fib.wanted fib.agent fib.dirty

pub programmed_both : (fib : FibState) (xs ys : List FibOp) → programmed fib (xs ++ ys) ≡ programmed (programmed fib xs) ys
programmed_both fib [] ys = ap (λ f. programmed f ys) (sym (programmed_none fib))
programmed_both fib (op ∷ xs) ys =
    programmed_first fib op (xs ++ ys) ∙ programmed_both (programmed fib (op ∷ [])) xs ys
    ∙ ap (λ f. programmed f ys) (sym (programmed_first fib op xs))
