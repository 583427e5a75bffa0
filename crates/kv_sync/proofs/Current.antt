-- What follows where a message is of the link's running session.
use Rattle.std.proofs.Common.{◌≡◌, ℕ, List, Option, Some, None, Bool, true, false, Result, Ok, Err, refl, sym, ◌∙◌, ap}
use Rattle.std.specs.Option.{IfSome}
use Rattle.std.specs.Result.{result_map_both}
use Rattle.std.specs.Map.{lookup}
use Rattle.std.specs.Ordering.{nat_cmp}
use Rattle.std.specs.BTreeMap.{insert_entry, is_at}
use Rattle.kv_sync.specs.declared.session.SyncPhase.{SyncPhase}
use Rattle.kv_sync.specs.declared.session.SyncPhase.TheVariants.{Dumped, Pushed}
use Rattle.kv_sync.specs.declared.session.Session.{Session}
use Rattle.kv_sync.specs.declared.session.Stale.{Stale}
use Rattle.kv_sync.specs.Sessions.{SessionsState, session_on, current, current_if, current_of, is_in, stale_of, session_after_reply, with_more_withheld, done_of, after_reply}
use Rattle.kv_sync.specs.Running.{AreNumbered}
use Rattle.kv_sync.proofs.Numbers.{some_not_none, numbered_kept}

-- what is answered where nothing is told of the session
abbrev pub told : Result Session Stale → Result (Unit {0}) Stale
told answer = result_map_both (λ session. tt) (λ stale. stale) answer

-- a session runs, and it is the current one
pub record IsCurrent (running : Option Session) (number : ℕ) (phase : SyncPhase) : Type 0 where
  pub session : Session
  pub found : running ≡ Some session
  pub current : current_of running number phase ≡ Ok session

err_not_ok : (e : Stale) (r : Result (Unit {0}) Stale) → r ≡ Err e → r ≡ Ok tt → ⊥
err_not_ok e r err ok = cc

pub found_current : (running : Option Session) (number : ℕ) (phase : SyncPhase) → told (current_of running number phase) ≡ Ok tt → IsCurrent running number phase
found_current None number phase ok = absurd (err_not_ok (stale_of None) (told (Err (stale_of None))) refl ok)
found_current (Some t) number phase ok = by_test (is_in t number phase) refl ok where
  by_test : (test : Bool) → is_in t number phase ≡ test → told (current_if test t) ≡ Ok tt → IsCurrent (Some t) number phase
  by_test true is ok = record { session = t; found = refl; current = ap (λ test. current_if test t) is }
  by_test false is ok = absurd (err_not_ok (stale_of (Some t)) (told (Err (stale_of (Some t)))) refl ok)

pub some_of : {X : Type 0} (P : X → Type 0) (o : Option X) (x : X) → o ≡ Some x → IfSome o P → P x
some_of P o x e all = rw e at all

pub none_runs : (running : Option Session) (number : ℕ) (phase : SyncPhase) → running ≡ None → IsCurrent running number phase → ⊥
none_runs running number phase none is = some_not_none is.found none

the_same : {X : Type 0} {u v : X} → Some u ≡ Some v → u ≡ v
the_same one = cc

-- ---- a reply

abbrev pub IsWritten : ℕ → (Session → Session) → List (ℕ × Session) → List (ℕ × Session) → Type 0
IsWritten link change running after = IfSome (lookup (is_at (nat_cmp link)) running) (λ s. after ≡ insert_entry nat_cmp running link (change s))

written_at : (link : ℕ) (change : Session → Session) (running after : List (ℕ × Session)) (s : Session) → lookup (is_at (nat_cmp link)) running ≡ Some s
    → IsWritten link change running after → after ≡ insert_entry nat_cmp running link (change s)
written_at link change running after s found written =
    some_of (λ s. after ≡ insert_entry nat_cmp running link (change s)) (lookup (is_at (nat_cmp link)) running) s found written

pub reply_numbered : (last link number b0 withheld : ℕ) (running after : List (ℕ × Session)) → IsCurrent (lookup (is_at (nat_cmp link)) running) number Dumped
    → IsWritten link (λ s. session_after_reply s b0 withheld) running after → AreNumbered last running → AreNumbered last after
reply_numbered last link number b0 withheld running after is written numbered =
    numbered_kept last link (session_after_reply is.session b0 withheld) is.session running after
    (written_at link (λ s. session_after_reply s b0 withheld) running after is.session is.found written) is.found refl numbered

pub reply_state : (s : SessionsState) (link number b0 withheld : ℕ) (after : List (ℕ × Session)) → IsCurrent (session_on s link) number Dumped
    → IsWritten link (λ t. session_after_reply t b0 withheld) s.running after
    → record { last = s.last; running = after } ≡ after_reply s link b0 withheld (current s link number Dumped)
unfolding current
reply_state s link number b0 withheld after is written =
    ap (λ running. record { last = s.last; running = running }) (written_at link (λ t. session_after_reply t b0 withheld) s.running after is.session is.found written)
    ∙ sym (ap (after_reply s link b0 withheld) is.current)

-- ---- a push

pub push_numbered : (last link more : ℕ) (s : Session) (running after : List (ℕ × Session)) → lookup (is_at (nat_cmp link)) running ≡ Some s
    → IsWritten link (λ t. with_more_withheld t more) running after → AreNumbered last running → AreNumbered last after
push_numbered last link more s running after found written numbered =
    numbered_kept last link (with_more_withheld s more) s running after (written_at link (λ t. with_more_withheld t more) running after s found written) found refl numbered

-- ---- an acknowledgement

pub ack_answer : (s : SessionsState) (link number : ℕ) (gone : Session) → IsCurrent (session_on s link) number Pushed → session_on s link ≡ Some gone
    → Ok (done_of link gone) ≡ result_map_both {E = Stale} {D = Stale} (done_of link) (λ stale. stale) (current s link number Pushed)
unfolding current
ack_answer s link number gone is found =
    ap (λ t. Ok (done_of link t)) (the_same (sym found ∙ is.found)) ∙ sym (ap (λ answer. result_map_both {E = Stale} {D = Stale} (done_of link) (λ stale. stale) answer) is.current)
