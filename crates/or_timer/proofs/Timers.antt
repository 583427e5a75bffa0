-- The timers that stand beside the deadlines, as both change.
use Rattle.std.proofs.Common.{◌≡◌, ℕ, ◌<◌, List, [], Bool, true, false, ◌&&◌, cond, Option, Some, None, refl, sym, ◌∙◌, ap, arith}
use Rattle.std.specs.Prelude.{◌==◌, ◌≢◌}
use Rattle.std.specs.declared.cmp.Ordering.{Ordering}
use Rattle.std.specs.declared.cmp.Ordering.TheVariants.{Less, Equal, Greater}
use Rattle.std.specs.Cmp.{IsTotalOrder}
use Rattle.std.specs.Ordering.{is_eq, nat_cmp, ordering_then}
use Rattle.std.specs.List.{list_any}
use Rattle.std.specs.List.Sorted.{IsStrictlySortedBy}
use Rattle.std.specs.BTreeMap.{is_at}
use Rattle.std.specs.Option.{option_map_or}
use Rattle.std.proofs.lemmas.Bool.{eq-eqb, ne_eqb, eqb-true}
use Rattle.std.proofs.lemmas.Cmp.{nat_cmp_total, nat_list_cmp_total, on_total, then_total, ranked, by_ranked}
use Rattle.std.proofs.lemmas.Map.Lookups.{CmpEqualImpliesEq, exact_unsigned, exact_bytes, exact_pairs}
use Rattle.or_base.specs.Order.{bytes_cmp}
use Rattle.or_timer.specs.Deadlines.{AreInKeyOrder, deadline_in, with_deadline, timer_cmp, is_timer_of, AreTimersOf}
use Rattle.or_timer.proofs.Entries.{same_key, lookup_with, ordered_with}

pub timer_cmp_total : IsTotalOrder timer_cmp
timer_cmp_total = then_total (on_total (λ (timer : ℕ × List ℕ). timer.0) nat_cmp_total) (on_total (λ (timer : ℕ × List ℕ). timer.1) nat_list_cmp_total)

pub exact_timers : CmpEqualImpliesEq timer_cmp
exact_timers = exact_pairs nat_cmp bytes_cmp exact_unsigned exact_bytes

-- ---- a timer is another where both parts are

then_equal : (o p : Ordering) → is_eq (ordering_then o p) ≡ (is_eq o && is_eq p)
then_equal Less p = refl
then_equal Equal p = refl
then_equal Greater p = refl

number_equal : (a b : ℕ) → is_eq (nat_cmp a b) ≡ (a == b)
number_equal a b =
    by_ranked (a < b) (a ≡ b) (b < a) (nat_cmp a b) (ranked a b (nat_cmp a b) refl)
    (λ e less. ap is_eq e ∙ sym (ne_eqb a b (λ same. omega (arith, less, same))))
    (λ e same. ap is_eq e ∙ sym (eq-eqb a b same))
    (λ e more. ap is_eq e ∙ sym (ne_eqb a b (λ same. omega (arith, more, same))))

timer_equal : (deadline : ℕ) (key : List ℕ) (timer : ℕ × List ℕ)
    → is_at (timer_cmp (deadline, key)) timer ≡ ((deadline == timer.0) && is_at (bytes_cmp key) timer.1)
timer_equal deadline key timer =
    then_equal (nat_cmp deadline timer.0) (bytes_cmp key timer.1) ∙ ap (λ t. t && is_at (bytes_cmp key) timer.1) (number_equal deadline timer.0)

-- ---- one key's deadline changes

abbrev is_deadline : Option ℕ → ℕ → Bool
is_deadline deadline moment = option_map_or (λ d. d == moment) deadline false

deadline_if : (here : Bool) (new old : Option ℕ) (moment : ℕ) → is_deadline (cond here new old) moment ≡ cond here (is_deadline new moment) (is_deadline old moment)
deadline_if true new old moment = refl
deadline_if false new old moment = refl

-- what a timer of the key is, where its deadline is known
at_key : (deadlines : List (List ℕ × ℕ)) (key : List ℕ) (known : Option ℕ) (timer : ℕ × List ℕ) → deadline_in deadlines key ≡ known → is_at (bytes_cmp key) timer.1 ≡ true
    → is_timer_of deadlines timer ≡ is_deadline known timer.0
at_key deadlines key known timer is here =
    ap (λ k. is_deadline (deadline_in deadlines k) timer.0) (sym (same_key key timer.1 here)) ∙ ap (λ d. is_deadline d timer.0) is

-- the deadlines after one key's deadline became this, or none
abbrev pub HasDeadline : List (List ℕ × ℕ) → List (List ℕ × ℕ) → List ℕ → Option ℕ → Type 0
HasDeadline deadlines after key new = (other : List ℕ) → deadline_in after other ≡ cond (is_at (bytes_cmp key) other) new (deadline_in deadlines other)

-- timers that contain this one, or not, and are otherwise as before
abbrev pub HasTimer : List (ℕ × List ℕ) → List (ℕ × List ℕ) → ℕ × List ℕ → Bool → Type 0
HasTimer timers after timer there =
    (other : ℕ × List ℕ) → list_any (is_at (timer_cmp other)) after ≡ cond (is_at (timer_cmp timer) other) there (list_any (is_at (timer_cmp other)) timers)

changed : (deadlines after : List (List ℕ × ℕ)) (timers later : List (ℕ × List ℕ)) (key : List ℕ) (new : Option ℕ)
    → AreTimersOf deadlines timers → AreInKeyOrder after → IsStrictlySortedBy timer_cmp later → HasDeadline deadlines after key new
    → ((timer : ℕ × List ℕ) → list_any (is_at (timer_cmp timer)) later ≡ cond (is_at (bytes_cmp key) timer.1) (is_deadline new timer.0) (is_timer_of deadlines timer))
    → AreTimersOf after later
changed deadlines after timers later key new sound keys_ordered timers_ordered has same = record {
  keys_ordered = keys_ordered;
  timers_ordered = timers_ordered;
  same = λ timer.
      same timer
      ∙ sym (deadline_if (is_at (bytes_cmp key) timer.1) new (deadline_in deadlines timer.1) timer.0)
      ∙ ap (λ d. is_deadline d timer.0) (sym (has timer.1));
}

-- ---- the tests of one timer: this moment, this key, there before

when_added : (moment here there : Bool) → (here ≡ true → there ≡ false) → cond (moment && here) true there ≡ cond here moment there
when_added true true there none = refl
when_added true false there none = refl
when_added false true there none = none refl
when_added false false there none = refl

when_removed : (moment here there : Bool) → (here ≡ true → there ≡ moment) → cond (moment && here) false there ≡ cond here false there
when_removed true true there known = refl
when_removed true false there known = refl
when_removed false true there known = known refl
when_removed false false there known = refl

when_replaced : (old new here there : Bool) → (here ≡ true → there ≡ old) → (old ≡ true → new ≡ false)
    → cond (old && here) false (cond (new && here) true there) ≡ cond here new there
when_replaced true true true there known apart = cc (apart refl)
when_replaced true false true there known apart = refl
when_replaced false true true there known apart = refl
when_replaced false false true there known apart = known refl
when_replaced true true false there known apart = refl
when_replaced true false false there known apart = refl
when_replaced false true false there known apart = refl
when_replaced false false false there known apart = refl

when_put_back : (moment here there : Bool) → (here ≡ true → there ≡ false) → cond (moment && here) false (cond (moment && here) true there) ≡ there
when_put_back true true there none = sym (none refl)
when_put_back true false there none = refl
when_put_back false true there none = refl
when_put_back false false there none = refl

-- ---- the four changes

pub timers_added : (deadlines after : List (List ℕ × ℕ)) (timers later : List (ℕ × List ℕ)) (key : List ℕ) (deadline : ℕ)
    → AreTimersOf deadlines timers → deadline_in deadlines key ≡ None → AreInKeyOrder after → IsStrictlySortedBy timer_cmp later
    → HasDeadline deadlines after key (Some deadline) → HasTimer timers later (deadline, key) true → AreTimersOf after later
timers_added deadlines after timers later key deadline sound none keys_ordered timers_ordered has put =
    changed deadlines after timers later key (Some deadline) sound keys_ordered timers_ordered has
    (λ timer. put timer ∙ ap (λ t. cond t true (list_any (is_at (timer_cmp timer)) timers)) (timer_equal deadline key timer)
    ∙ ap (λ there. cond ((deadline == timer.0) && is_at (bytes_cmp key) timer.1) true there) (sound.same timer)
    ∙ when_added (deadline == timer.0) (is_at (bytes_cmp key) timer.1) (is_timer_of deadlines timer) (at_key deadlines key None timer none))

pub timers_removed : (deadlines after : List (List ℕ × ℕ)) (timers later : List (ℕ × List ℕ)) (key : List ℕ) (deadline : ℕ)
    → AreTimersOf deadlines timers → deadline_in deadlines key ≡ Some deadline → AreInKeyOrder after → IsStrictlySortedBy timer_cmp later
    → HasDeadline deadlines after key None → HasTimer timers later (deadline, key) false → AreTimersOf after later
timers_removed deadlines after timers later key deadline sound known keys_ordered timers_ordered has taken =
    changed deadlines after timers later key None sound keys_ordered timers_ordered has
    (λ timer. taken timer ∙ ap (λ t. cond t false (list_any (is_at (timer_cmp timer)) timers)) (timer_equal deadline key timer)
    ∙ ap (λ there. cond ((deadline == timer.0) && is_at (bytes_cmp key) timer.1) false there) (sound.same timer)
    ∙ when_removed (deadline == timer.0) (is_at (bytes_cmp key) timer.1) (is_timer_of deadlines timer) (at_key deadlines key (Some deadline) timer known))

pub timers_replaced : (deadlines after : List (List ℕ × ℕ)) (timers between later : List (ℕ × List ℕ)) (key : List ℕ) (old deadline : ℕ)
    → AreTimersOf deadlines timers → deadline_in deadlines key ≡ Some old → old ≢ deadline → after ≡ with_deadline deadlines key deadline → IsStrictlySortedBy timer_cmp later
    → HasTimer timers between (deadline, key) true → HasTimer between later (old, key) false → AreTimersOf after later
timers_replaced deadlines after timers between later key old deadline sound known apart written timers_ordered put taken =
    rw written (changed deadlines (with_deadline deadlines key deadline) timers later key (Some deadline) sound
    (ordered_with key deadline deadlines sound.keys_ordered) timers_ordered (λ other. lookup_with key deadline other deadlines)
    (λ timer.
    let here = is_at (bytes_cmp key) timer.1 in
    taken timer ∙ ap (λ t. cond t false (list_any (is_at (timer_cmp timer)) between)) (timer_equal old key timer)
    ∙ ap (λ there. cond ((old == timer.0) && here) false there)
    (put timer ∙ ap (λ t. cond t true (list_any (is_at (timer_cmp timer)) timers)) (timer_equal deadline key timer)
    ∙ ap (λ there. cond ((deadline == timer.0) && here) true there) (sound.same timer))
    ∙ when_replaced (old == timer.0) (deadline == timer.0) here (is_timer_of deadlines timer) (at_key deadlines key (Some old) timer known)
    (λ e. ne_eqb deadline timer.0 (λ same. apart (eqb-true old timer.0 e ∙ sym same)))))

-- what was added is taken back
pub timers_put_back : (deadlines after : List (List ℕ × ℕ)) (timers between later : List (ℕ × List ℕ)) (key : List ℕ) (deadline : ℕ)
    → AreTimersOf deadlines timers → deadline_in deadlines key ≡ None → after ≡ deadlines → IsStrictlySortedBy timer_cmp later
    → HasTimer timers between (deadline, key) true → HasTimer between later (deadline, key) false → AreTimersOf after later
timers_put_back deadlines after timers between later key deadline sound none unchanged timers_ordered put taken =
    rw unchanged (record {
      keys_ordered = sound.keys_ordered;
      timers_ordered = timers_ordered;
      same = λ timer.
          let test = ((deadline == timer.0) && is_at (bytes_cmp key) timer.1) in
          taken timer ∙ ap (λ t. cond t false (list_any (is_at (timer_cmp timer)) between)) (timer_equal deadline key timer)
          ∙ ap (λ there. cond test false there)
          (put timer ∙ ap (λ t. cond t true (list_any (is_at (timer_cmp timer)) timers)) (timer_equal deadline key timer)
          ∙ ap (λ there. cond test true there) (sound.same timer))
          ∙ when_put_back (deadline == timer.0) (is_at (bytes_cmp key) timer.1) (is_timer_of deadlines timer) (at_key deadlines key None timer none);
    })

pub no_timers : AreTimersOf [] []
unfolding IsStrictlySortedBy
no_timers = record { keys_ordered = tt; timers_ordered = tt; same = λ timer. refl }
