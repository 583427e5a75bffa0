-- Which calls of the agent are refused, and what Fib's turns ask of it.
use Rattle.std.proofs.Common.{◌≡◌, ◌∙◌, ℕ, ◌+◌, ◌-◌, ◌<◌, ◌≤◌, ◌^◌, List, [], ◌∷◌, ◌++◌, Bool, true, false, cond, fold, map, ◌&&◌, ◌==◌, refl, sym, ap, arith}
use Rattle.std.specs.Prelude.{nat_lt}
use Rattle.std.specs.List.{AllByRecursion, enumerate_from}
use Rattle.std.proofs.lemmas.Bool.{ltb-true, ltb-false, ne_eqb, or_from}
use Rattle.std.proofs.lemmas.List.Sums.{fold-append}
use Rattle.or_base.specs.Counting.{saturate}
use Rattle.or_base.specs.Memory.{is_listed}
use Rattle.or_base.specs.declared.item.Item.{Item}
use Rattle.or_base.specs.declared.item.Item.TheVariants.{Tick, Routes}
use Rattle.or_base.specs.declared.prefix.Prefix.{Prefix}
use Rattle.or_base.specs.declared.route.Route.{Route}
use Rattle.ls_routes.specs.Routes.{applied}
use Rattle.fib_core.specs.declared.op.FibOp.{FibOp}
use Rattle.fib_core.specs.declared.op.FibOp.TheVariants.{Whole}
use Rattle.fib_core.specs.Agent.{AgentState, new_agent, is_refused, agent_after, table_after, answers, ops_of, until_refused}
use Rattle.fib_core.specs.Fib.{FibState, new_fib, last_answer, asked, fib_after}
use Rattle.fib_core.specs.Law.{ListedCallsAreRefused, asked_in, asked_over, DirtyByTheLastCall}

-- ---- one call

-- the agent after a call that was refused, or not
abbrev pub agent_if : Bool → AgentState → FibOp → AgentState
agent_if refused agent op =
    cond refused (record agent { calls = saturate (agent.calls + 1); faults = agent.faults + 1 })
    (record agent { calls = saturate (agent.calls + 1); table = table_after agent.table op })

calls_if : (refused : Bool) (agent : AgentState) (op : FibOp) → (agent_if refused agent op).calls ≡ saturate (agent.calls + 1)
calls_if true agent op = refl
calls_if false agent op = refl

failing_if : (refused : Bool) (agent : AgentState) (op : FibOp) → (agent_if refused agent op).failing ≡ agent.failing
failing_if true agent op = refl
failing_if false agent op = refl

pub calls_after : (agent : AgentState) (op : FibOp) → (agent_after agent op).calls ≡ saturate (agent.calls + 1)
calls_after agent op = calls_if (is_refused agent) agent op

pub failing_after : (agent : AgentState) (op : FibOp) → (agent_after agent op).failing ≡ agent.failing
failing_after agent op = failing_if (is_refused agent) agent op

-- ---- listed calls

-- after so many calls the next is refused
abbrev pub refuses : List ℕ → ℕ → Bool
refuses failing calls = nat_lt calls (2 ^ 64 - 1) && is_listed (calls + 1) failing

unlisted : (n : ℕ) (failing : List ℕ) → 2 ^ 64 ≤ n → AllByRecursion (λ m. m < 2 ^ 64) failing → is_listed n failing ≡ false
unlisted n [] past small = refl
unlisted n (m ∷ failing) past small = or_from (m == n) (is_listed n failing) (ne_eqb m n (λ e. absurd (omega (arith, past, small.0, e)))) (unlisted n failing past small.1)

refused_if : (k : ℕ) (failing : List ℕ) (before_last : Bool) → nat_lt k (2 ^ 64 - 1) ≡ before_last → AllByRecursion (λ m. m < 2 ^ 64) failing
    → refuses failing (saturate k) ≡ is_listed (k + 1) failing
refused_if k failing true is small =
    let before = ltb-true k (2 ^ 64 - 1) is in
    let same : saturate k ≡ k = omega (arith, before) in
    ap (refuses failing) same ∙ ap (λ test. test && is_listed (k + 1) failing) is
refused_if k failing false is small =
    let past = ltb-false k (2 ^ 64 - 1) is in
    let same : saturate k ≡ 2 ^ 64 - 1 = omega (arith, past) in
    ap (refuses failing) same ∙ sym (unlisted (k + 1) failing (omega (arith, past)) small)

numbered : (failing : List ℕ) (agent : AgentState) (k : ℕ) (ops : List FibOp) → agent.failing ≡ failing → agent.calls ≡ saturate k
    → AllByRecursion (λ n. n < 2 ^ 64) failing → answers agent ops ≡ map (λ (call : ℕ × FibOp). is_listed call.0 failing) (enumerate_from (k + 1) ops)
numbered failing agent k [] f c small = refl
numbered failing agent k (op ∷ ops) f c small =
    let here : is_refused agent ≡ is_listed (k + 1) failing =
    (λ i. refuses (f i) (c i)) ∙ refused_if k failing (nat_lt k (2 ^ 64 - 1)) refl small in
    let next : saturate (saturate k + 1) ≡ saturate (k + 1) = omega arith in
    let later = numbered failing (agent_after agent op) (k + 1) ops (failing_after agent op ∙ f) (calls_after agent op ∙ ap (λ n. saturate (n + 1)) c ∙ next) small in
    λ i. here i ∷ later i

pub listed_calls_are_refused : ListedCallsAreRefused
listed_calls_are_refused failing ops small = numbered failing (new_agent failing) 0 ops refl refl small

-- ---- calls of turns

answers_both : (agent : AgentState) (xs ys : List FibOp) → answers agent (xs ++ ys) ≡ answers agent xs ++ answers (fold agent_after agent xs) ys
answers_both agent [] ys = refl
answers_both agent (op ∷ xs) ys = ap (λ rest. is_refused agent ∷ rest) (answers_both (agent_after agent op) xs ys)

unless_dirty_agent : (dirty : Bool) (fib : FibState) (ops : List FibOp) → (cond dirty fib (asked fib ops)).agent ≡ fold agent_after fib.agent (cond dirty [] ops)
unless_dirty_agent true fib ops = refl
unless_dirty_agent false fib ops = refl

unless_dirty_answer : (dirty : Bool) (fib : FibState) (ops : List FibOp)
    → (cond dirty fib (asked fib ops)).dirty ≡ last_answer fib.dirty (answers fib.agent (cond dirty [] ops))
unless_dirty_answer true fib ops = refl
unless_dirty_answer false fib ops = refl

where_dirty_agent : (dirty : Bool) (fib : FibState) (ops : List FibOp) → (cond dirty (asked fib ops) fib).agent ≡ fold agent_after fib.agent (cond dirty ops [])
where_dirty_agent true fib ops = refl
where_dirty_agent false fib ops = refl

where_dirty_answer : (dirty : Bool) (fib : FibState) (ops : List FibOp)
    → (cond dirty (asked fib ops) fib).dirty ≡ last_answer fib.dirty (answers fib.agent (cond dirty ops []))
where_dirty_answer true fib ops = refl
where_dirty_answer false fib ops = refl

agent_in : (fib : FibState) (item : Item) → (fib_after fib item).agent ≡ fold agent_after fib.agent (asked_in fib item)
unfolding fib_after
agent_in fib (Routes delta) = unless_dirty_agent fib.dirty (record fib { wanted = applied fib.wanted delta }) (until_refused fib.agent (ops_of delta))
agent_in fib (Tick at) = where_dirty_agent fib.dirty fib (Whole (map (λ (e : Prefix × Route). e.1) fib.wanted) ∷ [])
agent_in fib _ = refl

dirty_in : (fib : FibState) (item : Item) → (fib_after fib item).dirty ≡ last_answer fib.dirty (answers fib.agent (asked_in fib item))
unfolding fib_after
dirty_in fib (Routes delta) = unless_dirty_answer fib.dirty (record fib { wanted = applied fib.wanted delta }) (until_refused fib.agent (ops_of delta))
dirty_in fib (Tick at) = where_dirty_answer fib.dirty fib (Whole (map (λ (e : Prefix × Route). e.1) fib.wanted) ∷ [])
dirty_in fib _ = refl

agent_over : (fib : FibState) (items : List Item) → (fold fib_after fib items).agent ≡ fold agent_after fib.agent (asked_over fib items)
agent_over fib [] = refl
agent_over fib (item ∷ items) =
    let rest = asked_over (fib_after fib item) items in
    agent_over (fib_after fib item) items
    ∙ ap (λ agent. fold agent_after agent rest) (agent_in fib item)
    ∙ sym (fold-append agent_after fib.agent (asked_in fib item) rest)

failing_all : (agent : AgentState) (ops : List FibOp) → (fold agent_after agent ops).failing ≡ agent.failing
failing_all agent [] = refl
failing_all agent (op ∷ ops) = failing_all (agent_after agent op) ops ∙ failing_after agent op

-- the calls that are refused stay listed
pub failing_over : (fib : FibState) (items : List Item) → (fold fib_after fib items).agent.failing ≡ fib.agent.failing
failing_over fib items = ap (λ (agent : AgentState). agent.failing) (agent_over fib items) ∙ failing_all fib.agent (asked_over fib items)

dirty_over : (fib : FibState) (items : List Item) → (fold fib_after fib items).dirty ≡ last_answer fib.dirty (answers fib.agent (asked_over fib items))
dirty_over fib [] = refl
dirty_over fib (item ∷ items) =
    let rest = asked_over (fib_after fib item) items in
    let now = asked_in fib item in
    dirty_over (fib_after fib item) items
    ∙ (λ i. last_answer (dirty_in fib item i) (answers (agent_in fib item i) rest))
    ∙ sym (fold-append (λ (earlier answer : Bool). answer) fib.dirty (answers fib.agent now) (answers (fold agent_after fib.agent now) rest))
    ∙ ap (last_answer fib.dirty) (sym (answers_both fib.agent now rest))

pub dirty_by_the_last_call : DirtyByTheLastCall
dirty_by_the_last_call me failing items = record { agent = agent_over (new_fib me failing) items; dirty = dirty_over (new_fib me failing) items }
