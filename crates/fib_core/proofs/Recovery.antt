-- Ticks mend: each refused one uses up a call that is listed.
use Rattle.std.proofs.Common.{◌≡◌, ◌∙◌, ℕ, ◌+◌, ◌-◌, ◌<◌, ◌≤◌, ◌^◌, List, [], ◌∷◌, Bool, true, false, cond, length, fold, map, ◌||◌, ◌==◌, refl, sym, ap, subst, arith}
use Rattle.std.specs.Prelude.{nat_lt}
use Rattle.std.specs.List.{filter}
use Rattle.std.proofs.lemmas.Bool.{lt-ltb, le-ltb, ltb-true, eqb-true, and_parts, both_ways}
use Rattle.or_base.specs.Counting.{saturate}
use Rattle.or_base.specs.Memory.{is_listed}
use Rattle.or_base.specs.declared.item.Item.TheVariants.{Tick}
use Rattle.or_base.specs.declared.prefix.Prefix.{Prefix}
use Rattle.or_base.specs.declared.route.Route.{Route}
use Rattle.fib_core.specs.declared.op.FibOp.{FibOp}
use Rattle.fib_core.specs.declared.op.FibOp.TheVariants.{Whole}
use Rattle.fib_core.specs.Agent.{AgentState, is_refused, agent_after}
use Rattle.fib_core.specs.Fib.{FibState, new_fib, asked, fib_after}
use Rattle.fib_core.specs.Law.{fib_after_items, IsMended, TicksMend, EnoughTicksMend}
use Rattle.fib_core.proofs.Calls.{calls_after, failing_after, failing_over}
use Rattle.fib_core.proofs.Programmed.{IsInStep, in_step_after, in_step_over, new_in_step}

-- ---- one tick

-- the only call of a tick of a dirty Fib
abbrev whole_of : FibState → FibOp
whole_of fib = Whole (map (λ (e : Prefix × Route). e.1) fib.wanted)

clean_if : (dirty : Bool) (fib : FibState) (op : FibOp) → fib.dirty ≡ dirty → is_refused fib.agent ≡ false → (cond dirty (asked fib (op ∷ [])) fib).dirty ≡ false
clean_if true fib op is clear = clear
clean_if false fib op is clear = is

tick_cleans : (fib : FibState) (at : ℕ) → is_refused fib.agent ≡ false → (fib_after fib (Tick at)).dirty ≡ false
unfolding fib_after
tick_cleans fib at clear = clean_if fib.dirty fib (whole_of fib) refl clear

tick_mends : (fib : FibState) (at : ℕ) → IsInStep fib → is_refused fib.agent ≡ false → IsMended (fib_after fib (Tick at))
tick_mends fib at step clear =
    let clean = tick_cleans fib at clear in
    record { clean = clean; same = (in_step_after fib (Tick at) step).same clean }

pub ticks_mend : TicksMend
ticks_mend me failing items at clear = tick_mends (fib_after_items me failing items) at (in_step_over (new_fib me failing) items (new_in_step me failing)) clear

-- ---- a clean Fib

-- a tick changes nothing of a clean Fib
idle : (fib : FibState) (at : ℕ) → fib.dirty ≡ false → fib_after fib (Tick at) ≡ fib
unfolding fib_after
idle fib at clean = ap (λ dirty. cond dirty (asked fib (whole_of fib ∷ [])) fib) clean

mended_stays : (fib : FibState) (ticks : List ℕ) → IsMended fib → IsMended (fold fib_after fib (map Tick ticks))
mended_stays fib [] is = is
mended_stays fib (at ∷ ticks) is = mended_stays (fib_after fib (Tick at)) ticks (subst IsMended (sym (idle fib at is.clean)) is)

-- ---- listed calls that are still to come

-- how many listed numbers come after so many calls
abbrev coming : List ℕ → ℕ → ℕ
coming failing calls = length (filter (λ n. nat_lt calls n) failing)

coming_le_if : (later : Bool) (n : ℕ) (xs all : List ℕ) → length xs ≤ length all → length (cond later (n ∷ xs) xs) ≤ length (n ∷ all)
coming_le_if true n xs all le = omega (arith, le)
coming_le_if false n xs all le = omega (arith, le)

coming_le : (failing : List ℕ) (calls : ℕ) → coming failing calls ≤ length failing
coming_le [] calls = omega arith
coming_le (n ∷ failing) calls = coming_le_if (nat_lt calls n) n (filter (λ m. nat_lt calls m) failing) failing (coming_le failing calls)

no_more_if : (after before : Bool) (n : ℕ) (xs ys : List ℕ) → (after ≡ true → before ≡ true) → length xs ≤ length ys
    → length (cond after (n ∷ xs) xs) ≤ length (cond before (n ∷ ys) ys)
no_more_if true true n xs ys e le = omega (arith, le)
no_more_if true false n xs ys e le = absurd (both_ways false refl (e refl))
no_more_if false true n xs ys e le = omega (arith, le)
no_more_if false false n xs ys e le = le

later_too : (n calls : ℕ) → nat_lt (calls + 1) n ≡ true → nat_lt calls n ≡ true
later_too n calls is = let later = ltb-true (calls + 1) n is in lt-ltb calls n (omega (arith, later))

no_more : (failing : List ℕ) (calls : ℕ) → coming failing (calls + 1) ≤ coming failing calls
no_more [] calls = omega arith
no_more (n ∷ failing) calls =
    no_more_if (nat_lt (calls + 1) n) (nat_lt calls n) n (filter (λ m. nat_lt (calls + 1) m) failing) (filter (λ m. nat_lt calls m) failing)
    (later_too n calls) (no_more failing calls)

fewer_if : (here after before : Bool) (listed : Bool) (n : ℕ) (xs ys : List ℕ) → (here ≡ true → (after ≡ false) × (before ≡ true)) → (after ≡ true → before ≡ true)
    → length xs ≤ length ys → (listed ≡ true → length xs < length ys) → (here || listed) ≡ true
    → length (cond after (n ∷ xs) xs) < length (cond before (n ∷ ys) ys)
fewer_if true true before listed n xs ys at e le less is = absurd (both_ways true (at refl).0 refl)
fewer_if true false true listed n xs ys at e le less is = omega (arith, le)
fewer_if true false false listed n xs ys at e le less is = absurd (both_ways false refl (at refl).1)
fewer_if false true true listed n xs ys at e le less is = let h = less is in omega (arith, h)
fewer_if false true false listed n xs ys at e le less is = absurd (both_ways false refl (e refl))
fewer_if false false true listed n xs ys at e le less is = omega (arith, le)
fewer_if false false false listed n xs ys at e le less is = less is

at_next : (n calls : ℕ) → (n == calls + 1) ≡ true → (nat_lt (calls + 1) n ≡ false) × (nat_lt calls n ≡ true)
at_next n calls is =
    let e = eqb-true n (calls + 1) is in
    (le-ltb (calls + 1) n (omega (arith, e)), lt-ltb calls n (omega (arith, e)))

-- a call that is listed is one of them no longer
fewer : (failing : List ℕ) (calls : ℕ) → is_listed (calls + 1) failing ≡ true → coming failing (calls + 1) < coming failing calls
fewer [] calls is = cc
fewer (n ∷ failing) calls is =
    fewer_if (n == calls + 1) (nat_lt (calls + 1) n) (nat_lt calls n) (is_listed (calls + 1) failing) n
    (filter (λ m. nat_lt (calls + 1) m) failing) (filter (λ m. nat_lt calls m) failing)
    (at_next n calls) (later_too n calls) (no_more failing calls) (fewer failing calls) is

fewer_coming : (agent : AgentState) (op : FibOp) → is_refused agent ≡ true
    → coming (agent_after agent op).failing (agent_after agent op).calls < coming agent.failing agent.calls
fewer_coming agent op is =
    let parts = and_parts (nat_lt agent.calls (2 ^ 64 - 1)) (is_listed (agent.calls + 1) agent.failing) is in
    let below = ltb-true agent.calls (2 ^ 64 - 1) parts.0 in
    let next : saturate (agent.calls + 1) ≡ agent.calls + 1 = omega (arith, below) in
    let same : coming (agent_after agent op).failing (agent_after agent op).calls ≡ coming agent.failing (agent.calls + 1) =
    λ i. coming (failing_after agent op i) ((calls_after agent op ∙ next) i) in
    let less = fewer agent.failing agent.calls parts.1 in
    omega (arith, same, less)

-- ---- ticks one after another

tick_asks : (fib : FibState) (at : ℕ) → fib.dirty ≡ true → (fib_after fib (Tick at)).agent ≡ agent_after fib.agent (whole_of fib)
unfolding fib_after
tick_asks fib at dirty = ap (λ d. (cond d (asked fib (whole_of fib ∷ [])) fib).agent) dirty

enough_if : (dirty refused : Bool) (fib : FibState) (at : ℕ) (ticks : List ℕ) → fib.dirty ≡ dirty → is_refused fib.agent ≡ refused → IsInStep fib
    → (dirty ≡ true → refused ≡ true → IsMended (fold fib_after (fib_after fib (Tick at)) (map Tick ticks)))
    → IsMended (fold fib_after (fib_after fib (Tick at)) (map Tick ticks))
enough_if false refused fib at ticks is is' step later = mended_stays fib (at ∷ ticks) (record { clean = is; same = step.same is })
enough_if true false fib at ticks is is' step later = mended_stays (fib_after fib (Tick at)) ticks (tick_mends fib at step is')
enough_if true true fib at ticks is is' step later = later refl refl

enough : (fib : FibState) (ticks : List ℕ) → IsInStep fib → coming fib.agent.failing fib.agent.calls < length ticks → IsMended (fold fib_after fib (map Tick ticks))
enough fib [] step less = absurd (omega (arith, less))
enough fib (at ∷ ticks) step less =
    enough_if fib.dirty (is_refused fib.agent) fib at ticks refl refl step
    (λ dirty refused.
    let asks = tick_asks fib at dirty in
    let same = ap (λ (agent : AgentState). coming agent.failing agent.calls) asks in
    let fewer_now = fewer_coming fib.agent (whole_of fib) refused in
    enough (fib_after fib (Tick at)) ticks (in_step_after fib (Tick at) step) (omega (arith, less, same, fewer_now)))

pub enough_ticks_mend : EnoughTicksMend
enough_ticks_mend me failing items ticks less =
    let fib = fib_after_items me failing items in
    let same = failing_over (new_fib me failing) items in
    let le = coming_le fib.agent.failing fib.agent.calls in
    let all = ap length same in
    enough fib ticks (in_step_over (new_fib me failing) items (new_in_step me failing)) (omega (arith, le, all, less))
