-- Numbers rise, and the sessions that run have numbers of their own.
use Rattle.std.proofs.Common.{◌≡◌, ℕ, suc, ◌+◌, ◌^◌, ◌<◌, length, List, [], ◌∷◌, Option, Some, None, Bool, true, false, Result, Ok, Err, refl, arith}
use Rattle.std.specs.Ordering.{nat_cmp}
use Rattle.std.specs.BTreeMap.{is_at}
use Rattle.std.specs.Map.{remove_entry}
use Rattle.kv_sync.specs.declared.session.SyncPhase.{SyncPhase}
use Rattle.kv_sync.specs.declared.session.SyncPhase.TheVariants.{Dumped, Pushed}
use Rattle.or_base.specs.Counting.{saturate}
use Rattle.kv_sync.specs.declared.session.Session.{Session}
use Rattle.kv_sync.specs.declared.session.Stale.{Stale}
use Rattle.kv_sync.specs.Sessions.{SessionsState, no_sessions, session_on, with_started_session, current, current_if, current_of, is_in, session_after_reply, with_more_withheld, after_reply, after_ack, after_push}
use Rattle.kv_sync.specs.Running.{AreNumbered}
use Rattle.kv_sync.specs.Law.{Step, start, reply, push, ack, drop_link, drop_all, after_step, after_steps, numbers_given, RiseFrom, NumbersAreNew}
use Rattle.kv_sync.proofs.Numbers.{numbered_none, numbered_started, numbered_kept, numbered_without}

-- ---- numbers rise

last_after_reply : (s : SessionsState) (link b0 withheld : ℕ) (answer : Result Session Stale) → s.last ≡ (after_reply s link b0 withheld answer).last
last_after_reply s link b0 withheld (Ok session) = refl
last_after_reply s link b0 withheld (Err stale) = refl

last_after_push : (s : SessionsState) (link withheld : ℕ) (running : Option Session) → s.last ≡ (after_push s link withheld running).last
last_after_push s link withheld (Some session) = refl
last_after_push s link withheld None = refl

last_after_ack : (s : SessionsState) (link : ℕ) (answer : Result Session Stale) → s.last ≡ (after_ack s link answer).last
last_after_ack s link (Ok session) = refl
last_after_ack s link (Err stale) = refl

rise_same : (last other : ℕ) (numbers : List ℕ) → last ≡ other → RiseFrom other numbers → RiseFrom last numbers
rise_same last other numbers same rising = rw same rising

abbrev Rises : SessionsState → List Step → Type 0
Rises s steps = s.last + length (numbers_given s steps) < 2 ^ 64 → RiseFrom s.last (numbers_given s steps)

rises_same : (s next : SessionsState) (steps : List Step) → s.last ≡ next.last → Rises next steps → s.last + length (numbers_given next steps) < 2 ^ 64
    → RiseFrom s.last (numbers_given next steps)
rises_same s next steps same rises fits = rise_same s.last next.last (numbers_given next steps) same (rises (omega (arith, fits, same)))

rise : (s : SessionsState) (steps : List Step) → Rises s steps
unfolding with_started_session
rise s [] fits = tt
rise s (start link peer a0 ∷ steps) fits =
    let next = with_started_session s link peer a0 in
    let within : s.last + suc (length (numbers_given next steps)) < 2 ^ 64 = fits in
    let last : next.last ≡ saturate (s.last + 1) = refl in
    (omega (arith, within), rise next steps (omega (arith, within, last)))
rise s (reply link number b0 withheld ∷ steps) fits =
    let next = after_reply s link b0 withheld (current s link number Dumped) in
    rises_same s next steps (last_after_reply s link b0 withheld (current s link number Dumped)) (rise next steps) fits
rise s (push link withheld ∷ steps) fits =
    let next = after_push s link withheld (session_on s link) in
    rises_same s next steps (last_after_push s link withheld (session_on s link)) (rise next steps) fits
rise s (ack link number ∷ steps) fits =
    let next = after_ack s link (current s link number Pushed) in
    rises_same s next steps (last_after_ack s link (current s link number Pushed)) (rise next steps) fits
rise s (drop_link link ∷ steps) fits = rise (record { last = s.last; running = remove_entry (is_at (nat_cmp link)) s.running }) steps fits
rise s (drop_all ∷ steps) fits = rise (record { last = s.last; running = [] }) steps fits

-- ---- numbers of their own

pub found_where_current : (running : Option Session) (number : ℕ) (phase : SyncPhase) (t : Session) → current_of running number phase ≡ Ok t → running ≡ Some t
found_where_current None number phase t is = absurd (err_not_ok is) where
  err_not_ok : {e : Stale} → Err e ≡ Ok t → ⊥
  err_not_ok same = cc
found_where_current (Some u) number phase t is = by_test (is_in u number phase) is where
  by_test : (test : Bool) → current_if test u ≡ Ok t → Some u ≡ Some t
  by_test true is = cc
  by_test false is = cc

abbrev IsFine : SessionsState → Type 0
IsFine s = AreNumbered s.last s.running

fine_after_reply : (s : SessionsState) (link b0 withheld : ℕ) (answer : Result Session Stale) → ((t : Session) → answer ≡ Ok t → session_on s link ≡ Some t)
    → IsFine s → IsFine (after_reply s link b0 withheld answer)
fine_after_reply s link b0 withheld (Ok t) found fine = numbered_kept s.last link (session_after_reply t b0 withheld) t s.running _ refl (found t refl) refl fine
fine_after_reply s link b0 withheld (Err stale) found fine = fine

fine_after_push : (s : SessionsState) (link withheld : ℕ) (running : Option Session) → session_on s link ≡ running → IsFine s → IsFine (after_push s link withheld running)
fine_after_push s link withheld (Some t) found fine = numbered_kept s.last link (with_more_withheld t withheld) t s.running _ refl found refl fine
fine_after_push s link withheld None found fine = fine

fine_without : (s : SessionsState) (link : ℕ) → IsFine s → IsFine (record { last = s.last; running = remove_entry (is_at (nat_cmp link)) s.running })
fine_without s link fine = numbered_without s.last (is_at (nat_cmp link)) s.running _ refl fine

fine_after_ack : (s : SessionsState) (link : ℕ) (answer : Result Session Stale) → IsFine s → IsFine (after_ack s link answer)
fine_after_ack s link (Ok t) fine = fine_without s link fine
fine_after_ack s link (Err stale) fine = fine

fine_after_step : (s : SessionsState) (step : Step) → IsFine s → IsFine (after_step s step)
unfolding with_started_session current
fine_after_step s (start link peer a0) fine = numbered_started s.last (saturate (s.last + 1)) link _ s.running _ refl refl fine refl
fine_after_step s (reply link number b0 withheld) fine =
    fine_after_reply s link b0 withheld (current s link number Dumped) (found_where_current (session_on s link) number Dumped) fine
fine_after_step s (push link withheld) fine = fine_after_push s link withheld (session_on s link) refl fine
fine_after_step s (ack link number) fine = fine_after_ack s link (current s link number Pushed) fine
fine_after_step s (drop_link link) fine = fine_without s link fine
fine_after_step s drop_all fine = numbered_none s.last fine.fits

fine_after_steps : (s : SessionsState) (steps : List Step) → IsFine s → IsFine (after_steps s steps)
fine_after_steps s [] fine = fine
fine_after_steps s (step ∷ steps) fine = fine_after_steps (after_step s step) steps (fine_after_step s step fine)

pub numbers_are_new : NumbersAreNew
numbers_are_new = record {
  rise = rise;
  apart = λ steps. fine_after_steps no_sessions steps (numbered_none 0 (omega arith));
}
