-- The session of one link where that of a link is dropped, and where a message is of it.
use Rattle.std.proofs.Common.{◌≡◌, ℕ, List, [], ◌∷◌, Option, Some, None, Bool, true, false, cond, Ok, refl, sym, ◌∙◌, ap, subst, arith}
use Rattle.std.specs.Prelude.{◌==◌}
use Rattle.std.specs.List.{AllByRecursion}
use Rattle.std.specs.Ordering.{nat_cmp, is_eq}
use Rattle.std.specs.declared.cmp.Ordering.{Ordering}
use Rattle.std.specs.declared.cmp.Ordering.TheVariants.{Less, Equal, Greater}
use Rattle.std.proofs.lemmas.Bool.{false≢true, and_parts, eqb-true}
use Rattle.std.proofs.lemmas.Cmp.{ranked}
use Rattle.or_base.specs.ByLink.{at_link, without_link}
use Rattle.kv_sync.specs.declared.session.SyncPhase.{SyncPhase}
use Rattle.kv_sync.specs.declared.session.SyncPhase.TheVariants.{Dumped, Pushed}
use Rattle.kv_sync.specs.declared.session.Session.{Session}
use Rattle.kv_sync.specs.Sessions.{same_phase, is_in, current_if, current_of}
use Rattle.kv_sync.specs.Running.{IsApart, AreApart}

-- ---- a link whose session is dropped

none_later : (link : ℕ) (entry : ℕ × Session) (later : List (ℕ × Session)) → link ≡ entry.0 → AllByRecursion (IsApart entry) later → at_link later link ≡ None
none_later link entry [] same apart = refl
none_later link entry (next ∷ later) same apart = by_order (none_later link entry later same apart.1) (nat_cmp link next.0) refl where
  by_order : at_link later link ≡ None → (o : Ordering) → o ≡ nat_cmp link next.0 → cond (is_eq o) (Some next.1) (at_link later link) ≡ None
  by_order none Less is = none
  by_order none Equal is = absurd (omega (arith, same, apart.0.0, ranked link next.0 Equal is))
  by_order none Greater is = none

pub at_link-without_link : (link : ℕ) (entries : List (ℕ × Session)) → AreApart entries → at_link (without_link entries link) link ≡ None
at_link-without_link link [] apart = refl
at_link-without_link link (entry ∷ entries) apart = by_order (at_link-without_link link entries apart.1) (nat_cmp link entry.0) refl where
  by_order : at_link (without_link entries link) link ≡ None
      → (o : Ordering) → o ≡ nat_cmp link entry.0 → at_link (cond (is_eq o) entries (entry ∷ without_link entries link)) link ≡ None
  by_order none Less is = ap (λ here. cond (is_eq here) (Some entry.1) (at_link (without_link entries link) link)) (sym is) ∙ none
  by_order none Equal is = none_later link entry entries (ranked link entry.0 Equal is) apart.0
  by_order none Greater is = ap (λ here. cond (is_eq here) (Some entry.1) (at_link (without_link entries link) link)) (sym is) ∙ none

-- ---- the current session

-- this session runs, and has this number and this phase
pub record Runs (running : Option Session) (number : ℕ) (phase : SyncPhase) (session : Session) : Type 0 where
  pub found : running ≡ Some session
  pub numbered : session.number ≡ number
  pub in_phase : session.phase ≡ phase

phases_same : (first second : SyncPhase) → same_phase first second ≡ true → first ≡ second
phases_same Dumped Dumped same = refl
phases_same Dumped Pushed same = absurd (false≢true same)
phases_same Pushed Dumped same = absurd (false≢true same)
phases_same Pushed Pushed same = refl

none_current : (number : ℕ) (phase : SyncPhase) (session : Session) → current_of None number phase ≡ Ok session → ⊥
none_current number phase session is = cc

runs_if : (running session : Session) (number : ℕ) (phase : SyncPhase) (test : Bool) → is_in running number phase ≡ test → current_if test running ≡ Ok session
    → Runs (Some running) number phase session
runs_if running session number phase true is_its is =
    let tests = and_parts (running.number == number) (same_phase running.phase phase) is_its in
    let same : running ≡ session = cc in
    record {
      found = ap Some same;
      numbered = subst (λ (u : Session). u.number ≡ number) same (eqb-true running.number number tests.0);
      in_phase = subst (λ (u : Session). u.phase ≡ phase) same (phases_same running.phase phase tests.1);
    }
runs_if running session number phase false is_its is = absurd (err_not_ok is) where
  err_not_ok : current_if false running ≡ Ok session → ⊥
  err_not_ok wrong = cc

-- where a message is of the link's running session
pub runs_where_current : (running : Option Session) (number : ℕ) (phase : SyncPhase) (session : Session) → current_of running number phase ≡ Ok session → Runs running number phase session
runs_where_current None number phase session is = absurd (none_current number phase session is)
runs_where_current (Some running) number phase session is = runs_if running session number phase (is_in running number phase) refl is
