-- A running session goes on with each step that doesn't end it.
use Rattle.std.proofs.Common.{◌≡◌, ℕ, List, [], ◌∷◌, Option, Some, None, Bool, true, false, cond, Result, Ok, Err, refl, sym, ◌∙◌, ap, subst, arith}
use Rattle.std.specs.Prelude.{◌==◌, ◌&&◌}
use Rattle.std.specs.Option.{IsSomeAnd}
use Rattle.std.specs.Ordering.{nat_cmp, is_eq, match_ordering}
use Rattle.std.specs.declared.cmp.Ordering.{Ordering}
use Rattle.std.specs.declared.cmp.Ordering.TheVariants.{Less, Equal, Greater}
use Rattle.std.proofs.lemmas.Bool.{eqb-true, eqb-false, le-ltb, eq-eqb}
use Rattle.std.proofs.lemmas.Cmp.{ranked}
use Rattle.or_base.specs.ByLink.{at_link, with_link, without_link}
use Rattle.kv_sync.specs.declared.session.SyncPhase.{SyncPhase}
use Rattle.kv_sync.specs.declared.session.SyncPhase.TheVariants.{Dumped, Pushed}
use Rattle.kv_sync.specs.declared.session.Session.{Session}
use Rattle.kv_sync.specs.declared.session.Stale.{Stale}
use Rattle.kv_sync.specs.Sessions.{SessionsState, session_on, with_started_session, is_in, current, current_of, current_if, session_after_reply, with_more_withheld, after_reply, after_ack, after_push}
use Rattle.kv_sync.specs.Law.{start, reply, push, ack, drop_link, drop_all, is_onward, GoesOnAs, SessionsGoOn}
use Rattle.kv_sync.proofs.Law.{found_where_current}

-- ---- maps by link

not_here : (link other : ℕ) → (link ≡ other → ⊥) → is_eq (nat_cmp link other) ≡ false
not_here link other apart = by_order (nat_cmp link other) refl where
  by_order : (o : Ordering) → nat_cmp link other ≡ o → is_eq o ≡ false
  by_order Less is = refl
  by_order Equal is = absurd (apart (ranked link other Equal (sym is)))
  by_order Greater is = refl

same_number : (n : ℕ) → nat_cmp n n ≡ Equal
same_number n = rw (le-ltb n n (omega arith), eq-eqb n n refl) refl

pub at_link-with_link : {A : Type 0} (link : ℕ) (a : A) (es : List (ℕ × A)) → at_link (with_link es link a) link ≡ Some a
at_link-with_link link a [] = rw (same_number link) refl
at_link-with_link {A = A} link a (e ∷ es) = by_order (at_link-with_link link a es) (nat_cmp link e.0) refl where
  by_order : at_link (with_link es link a) link ≡ Some a
      → (o : Ordering) → nat_cmp link e.0 ≡ o
      → at_link (match_ordering o ((link, a) ∷ e ∷ es) ((e.0, a) ∷ es) (e ∷ with_link es link a)) link ≡ Some a
  by_order later Less is = rw (same_number link) refl
  by_order later Equal is = rw is refl
  by_order later Greater is = rw is later

pub at_link-with_other : {A : Type 0} (link other : ℕ) (a : A) (es : List (ℕ × A)) → (link ≡ other → ⊥) → at_link (with_link es other a) link ≡ at_link es link
at_link-with_other link other a [] apart = rw (not_here link other apart) refl
at_link-with_other {A = A} link other a (e ∷ es) apart = by_order (at_link-with_other link other a es apart) (nat_cmp other e.0) refl where
  by_order : at_link (with_link es other a) link ≡ at_link es link
      → (o : Ordering) → nat_cmp other e.0 ≡ o
      → at_link (match_ordering o ((other, a) ∷ e ∷ es) ((e.0, a) ∷ es) (e ∷ with_link es other a)) link ≡ at_link (e ∷ es) link
  by_order later Less is = rw (not_here link other apart) refl
  by_order later Equal is =
      let same : other ≡ e.0 = ranked other e.0 Equal (sym is) in
      rw (not_here link e.0 (λ here. apart (here ∙ sym same))) refl
  by_order later Greater is = ap (λ found. cond (is_eq (nat_cmp link e.0)) (Some e.1) found) later

pub at_link-without_other : {A : Type 0} (link other : ℕ) (es : List (ℕ × A)) → (link ≡ other → ⊥) → at_link (without_link es other) link ≡ at_link es link
at_link-without_other link other [] apart = refl
at_link-without_other {A = A} link other (e ∷ es) apart = by_order (at_link-without_other link other es apart) (nat_cmp other e.0) refl where
  by_order : at_link (without_link es other) link ≡ at_link es link
      → (o : Ordering) → nat_cmp other e.0 ≡ o
      → at_link (cond (is_eq o) es (e ∷ without_link es other)) link ≡ at_link (e ∷ es) link
  by_order later Less is = ap (λ found. cond (is_eq (nat_cmp link e.0)) (Some e.1) found) later
  by_order later Equal is =
      let same : other ≡ e.0 = ranked other e.0 Equal (sym is) in
      sym (ap (λ test. cond test (Some e.1) (at_link es link)) (not_here link e.0 (λ here. apart (here ∙ sym same))))
  by_order later Greater is = ap (λ found. cond (is_eq (nat_cmp link e.0)) (Some e.1) found) later

-- ---- one session

some_and : (P : Session → Type 0) (o : Option Session) (t : Session) → o ≡ Some t → P t → IsSomeAnd o P
some_and P o t is here = rw is here

the_same : {u v : Session} → Some u ≡ Some v → u ≡ v
the_same one = cc

stays : (phase : SyncPhase) → is_onward phase phase ≡ true
stays Dumped = refl
stays Pushed = refl

arrives : (phase : SyncPhase) → is_onward phase Pushed ≡ true
arrives Dumped = refl
arrives Pushed = refl

same_session : (t : Session) → GoesOnAs t t
same_session t = record { number = refl; peer = refl; a0 = refl; phase = stays t.phase }

unchanged : (o : Option Session) (t : Session) → o ≡ Some t → IsSomeAnd o (GoesOnAs t)
unchanged o t is = some_and (GoesOnAs t) o t is (same_session t)

written : (on link : ℕ) (t u v : Session) (es : List (ℕ × Session)) → at_link es link ≡ Some t → at_link es on ≡ Some u → GoesOnAs u v
    → IsSomeAnd (at_link (with_link es on v) link) (GoesOnAs t)
written on link t u v es found here goes = by_test (on == link) refl where
  by_test : (test : Bool) → (on == link) ≡ test → IsSomeAnd (at_link (with_link es on v) link) (GoesOnAs t)
  by_test true is =
      let same : on ≡ link = eqb-true on link is in
      let one : u ≡ t = the_same (sym here ∙ ap (at_link es) same ∙ found) in
      some_and (GoesOnAs t) (at_link (with_link es on v) link) v (ap (λ l. at_link (with_link es l v) link) same ∙ at_link-with_link link v es)
      (subst (λ (w : Session). GoesOnAs w v) one goes)
  by_test false is = unchanged (at_link (with_link es on v) link) t (at_link-with_other link on v es (λ same. eqb-false on link is (sym same)) ∙ found)

err_not_ok : {e : Stale} {t : Session} → Err e ≡ Ok t → ⊥
err_not_ok same = cc

in_where_current : (t u : Session) (number : ℕ) (phase : SyncPhase) → current_of (Some t) number phase ≡ Ok u → is_in t number phase ≡ true
in_where_current t u number phase is = by_test (is_in t number phase) is where
  by_test : (test : Bool) → current_if test t ≡ Ok u → test ≡ true
  by_test true ok = refl
  by_test false ok = absurd (err_not_ok ok)

true_not_false : {X : Type 0} → true ≡ false → X
true_not_false wrong = cc

-- ---- each step

after_a_reply : (s : SessionsState) (on b0 withheld link : ℕ) (t : Session) (r : Result Session Stale) → ((u : Session) → r ≡ Ok u → session_on s on ≡ Some u)
    → session_on s link ≡ Some t → IsSomeAnd (session_on (after_reply s on b0 withheld r) link) (GoesOnAs t)
after_a_reply s on b0 withheld link t (Ok u) here found =
    written on link t u (session_after_reply u b0 withheld) s.running found (here u refl) (record { number = refl; peer = refl; a0 = refl; phase = arrives u.phase })
after_a_reply s on b0 withheld link t (Err stale) here found = unchanged (session_on s link) t found

after_a_push : (s : SessionsState) (on withheld link : ℕ) (t : Session) (r : Option Session) → session_on s on ≡ r
    → session_on s link ≡ Some t → IsSomeAnd (session_on (after_push s on withheld r) link) (GoesOnAs t)
after_a_push s on withheld link t (Some u) here found =
    written on link t u (with_more_withheld u withheld) s.running found here (record { number = refl; peer = refl; a0 = refl; phase = stays u.phase })
after_a_push s on withheld link t None here found = unchanged (session_on s link) t found

without_other : (s : SessionsState) (on link : ℕ) (t : Session) → (on == link) ≡ false → session_on s link ≡ Some t
    → IsSomeAnd (at_link (without_link s.running on) link) (GoesOnAs t)
without_other s on link t other found =
    unchanged (at_link (without_link s.running on) link) t (at_link-without_other link on s.running (λ same. eqb-false on link other (sym same)) ∙ found)

after_an_ack : (s : SessionsState) (on number link : ℕ) (t : Session) (r : Result Session Stale) → current_of (session_on s on) number Pushed ≡ r
    → session_on s link ≡ Some t → (on == link && is_in t number Pushed) ≡ false → IsSomeAnd (session_on (after_ack s on r) link) (GoesOnAs t)
after_an_ack s on number link t (Ok u) is found other = by_test (on == link) refl where
  by_test : (test : Bool) → (on == link) ≡ test → IsSomeAnd (at_link (without_link s.running on) link) (GoesOnAs t)
  by_test true same =
      let here : session_on s on ≡ Some t = ap (session_on s) (eqb-true on link same) ∙ found in
      let is_its : is_in t number Pushed ≡ true = in_where_current t u number Pushed (sym (ap (λ running. current_of running number Pushed) here) ∙ is) in
      true_not_false (sym (ap (λ test. test && is_in t number Pushed) same ∙ is_its) ∙ other)
  by_test false apart = without_other s on link t apart found
after_an_ack s on number link t (Err stale) is found other = unchanged (session_on s link) t found

pub sessions_go_on : SessionsGoOn
unfolding with_started_session current
sessions_go_on s (start on peer a0) link t found other =
    unchanged (session_on (with_started_session s on peer a0) link) t (at_link-with_other link on _ s.running (λ same. eqb-false on link other (sym same)) ∙ found)
sessions_go_on s (reply on number b0 withheld) link t found other =
    after_a_reply s on b0 withheld link t (current s on number Dumped) (found_where_current (session_on s on) number Dumped) found
sessions_go_on s (push on withheld) link t found other = after_a_push s on withheld link t (session_on s on) refl found
sessions_go_on s (ack on number) link t found other = after_an_ack s on number link t (current s on number Pushed) refl found other
sessions_go_on s (drop_link on) link t found other = without_other s on link t other found
sessions_go_on s drop_all link t found other = true_not_false other
