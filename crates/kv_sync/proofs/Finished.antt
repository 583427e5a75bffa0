-- The numbers of all full syncs that a store started, as sessions start, go on and end.
use Rattle.std.proofs.Common.{◌≡◌, ℕ, ◌+◌, List, [], ◌∷◌, ◌++◌, Option, Some, None, cond, get_or, refl, sym, ap, subst, arith}
use Rattle.std.specs.Prelude.{◌≢◌, All}
use Rattle.std.specs.List.{AllByRecursion}
use Rattle.std.specs.Map.{values_of}
use Rattle.std.specs.Ordering.{nat_cmp, is_eq}
use Rattle.std.specs.declared.cmp.Ordering.{Ordering}
use Rattle.std.specs.declared.cmp.Ordering.TheVariants.{Less, Equal, Greater}
use Rattle.std.specs.BTreeMap.{is_at}
use Rattle.std.proofs.lemmas.List.Elements.{All-nil, All-push, All-map, All-weaker, All-from_recursion}
use Rattle.std.proofs.lemmas.List.Quantifiers.{all_pairs_push}
use Rattle.std.proofs.lemmas.Map.Views.{All-values-insert_entry, All-map-remove_entry, IfSome-lookup_from_All}
use Rattle.or_base.specs.declared.session.SyncDone.{SyncDone}
use Rattle.or_base.specs.ByLink.{at_link, without_link}
use Rattle.or_base.specs.Counting.{saturate}
use Rattle.kv_sync.specs.declared.session.SyncPhase.TheVariants.{Dumped}
use Rattle.kv_sync.specs.declared.session.Session.{Session}
use Rattle.kv_sync.specs.Sessions.{SessionsState, no_sessions, session_on, with_session, without_session, without_sessions, with_started_session, session_after_reply, with_more_withheld, done_of, after_push}
use Rattle.kv_sync.specs.Running.{AreApart, HasGivenNumber, HaveOwnNumbers, HasAnotherNumber, IsUnlikeDone, AreAllNumbered}
use Rattle.kv_sync.proofs.Numbers.{IsUnlike, some_not_none, found_apart, found_given, unlike_others, numbered_none, numbered_started, numbered_kept, numbered_without}
use Rattle.kv_sync.proofs.Current.{some_of}

the_same : {u v : Session} → Some u ≡ Some v → u ≡ v
the_same one = cc

-- a session that runs has no finished sync's number
found_unlike : (link : ℕ) (t : Session) (es : List (ℕ × Session)) (done : List SyncDone) → at_link es link ≡ Some t → All (IsUnlikeDone done) (values_of es) → IsUnlikeDone done t
found_unlike link t es done found all =
    some_of (IsUnlikeDone done) (at_link es link) t found (IfSome-lookup_from_All (IsUnlikeDone done) (is_at (nat_cmp link)) es all)

-- the sessions of other links have other numbers
others_unlike : (link : ℕ) (t : Session) (es : List (ℕ × Session)) → AreApart es → at_link es link ≡ Some t → AllByRecursion (IsUnlike t.number) (without_link es link)
others_unlike link t [] apart found = absurd (some_not_none found refl)
others_unlike link t (e ∷ es) apart found = by_order (others_unlike link t es apart.1) (nat_cmp link e.0) found where
  by_order : (at_link es link ≡ Some t → AllByRecursion (IsUnlike t.number) (without_link es link))
      → (o : Ordering) → cond (is_eq o) (Some e.1) (at_link es link) ≡ Some t → AllByRecursion (IsUnlike t.number) (cond (is_eq o) es (e ∷ without_link es link))
  by_order later Less found = ((λ same. found_apart e link t es apart.0 found (sym same)), later found)
  by_order later Equal found = unlike_others e t es (ap (λ u. u.number) (the_same found)) apart.0
  by_order later Greater found = ((λ same. found_apart e link t es apart.0 found (sym same)), later found)

abbrev IsUnlikeOne : ℕ → Session → Type 0
IsUnlikeOne number session = number ≢ session.number

-- sessions that share no number with finished syncs, nor with one more
unlike_more : (done : List SyncDone) (sync : SyncDone) (sessions : List Session) → All (IsUnlikeDone done) sessions → All (IsUnlikeOne sync.session) sessions
    → All (IsUnlikeDone (done ++ sync ∷ [])) sessions
unlike_more done sync sessions all one k d within =
    All-push (HasAnotherNumber (get_or sessions k d).number) done sync (all k d within) (one k d within)

-- ---- together

pub all_numbered_none : AreAllNumbered no_sessions []
all_numbered_none = record {
  running = numbered_none 0 (omega arith);
  given = All-nil (HasGivenNumber 0);
  apart = λ fits i j d order within. absurd (omega (arith, within));
  unshared = λ fits. All-nil (IsUnlikeDone []);
}

-- a session starts
pub all_numbered_started : (s : SessionsState) (link : ℕ) (peer : List ℕ) (a0 : ℕ) (done : List SyncDone) → AreAllNumbered s done
    → AreAllNumbered (with_started_session s link peer a0) done
unfolding with_started_session
all_numbered_started s link peer a0 done all =
    let next = saturate (s.last + 1) in
    let t : Session = record { number = next; peer = peer; a0 = a0; b0 = 0; withheld = 0; phase = Dumped } in
    record {
      running = numbered_started s.last next link t s.running _ refl refl all.running refl;
      given = All-weaker (HasGivenNumber s.last) (HasGivenNumber next) (λ sync before. omega (arith, before, all.running.fits)) done all.given;
      apart = λ fits. all.apart (omega (arith, fits));
      unshared = λ fits.
          All-values-insert_entry nat_cmp link t (IsUnlikeDone done) s.running (all.unshared (omega (arith, fits)))
          (All-weaker (HasGivenNumber s.last) (HasAnotherNumber next) (λ sync before same. omega (arith, before, same, fits)) done all.given);
    }

-- a session goes on
all_numbered_kept : (s : SessionsState) (link : ℕ) (t u : Session) (done : List SyncDone) → session_on s link ≡ Some t → t.number ≡ u.number → AreAllNumbered s done
    → AreAllNumbered (with_session s link u) done
all_numbered_kept s link t u done found same all = record {
  running = numbered_kept s.last link u t s.running _ refl found same all.running;
  given = all.given;
  apart = all.apart;
  unshared = λ fits.
      All-values-insert_entry nat_cmp link u (IsUnlikeDone done) s.running (all.unshared fits)
      (subst (λ number. All (HasAnotherNumber number) done) same (found_unlike link t s.running done found (all.unshared fits)));
}

-- its reply has arrived
pub all_numbered_replied : (s : SessionsState) (link b0 withheld : ℕ) (t : Session) (done : List SyncDone) → session_on s link ≡ Some t → AreAllNumbered s done
    → AreAllNumbered (with_session s link (session_after_reply t b0 withheld)) done
all_numbered_replied s link b0 withheld t done found all = all_numbered_kept s link t (session_after_reply t b0 withheld) done found refl all

-- what was wanted is pushed
pub all_numbered_pushed : (s : SessionsState) (link withheld : ℕ) (running : Option Session) (done : List SyncDone) → session_on s link ≡ running → AreAllNumbered s done
    → AreAllNumbered (after_push s link withheld running) done
all_numbered_pushed s link withheld None done found all = all
all_numbered_pushed s link withheld (Some t) done found all = all_numbered_kept s link t (with_more_withheld t withheld) done found refl all

-- the session of a link is dropped
pub all_numbered_without : (s : SessionsState) (link : ℕ) (done : List SyncDone) → AreAllNumbered s done → AreAllNumbered (without_session s link) done
all_numbered_without s link done all = record {
  running = numbered_without s.last (is_at (nat_cmp link)) s.running _ refl all.running;
  given = all.given;
  apart = all.apart;
  unshared = λ fits. All-map-remove_entry (is_at (nat_cmp link)) (λ e. e.1) (IsUnlikeDone done) s.running (all.unshared fits);
}

-- all are dropped
pub all_numbered_dropped : (s : SessionsState) (done : List SyncDone) → AreAllNumbered s done → AreAllNumbered (without_sessions s) done
all_numbered_dropped s done all = record {
  running = numbered_none s.last all.running.fits;
  given = all.given;
  apart = all.apart;
  unshared = λ fits. All-nil (IsUnlikeDone done);
}

-- the session of a link is finished
pub all_numbered_finished : (s : SessionsState) (link : ℕ) (t : Session) (done : List SyncDone) → session_on s link ≡ Some t → AreAllNumbered s done
    → AreAllNumbered (without_session s link) (done ++ done_of link t ∷ [])
all_numbered_finished s link t done found all =
    let rest = all_numbered_without s link done all in
    record {
      running = rest.running;
      given = All-push (HasGivenNumber s.last) done (done_of link t) all.given (found_given s.last link t s.running all.running.given found);
      apart = λ fits. all_pairs_push HaveOwnNumbers done (done_of link t) (all.apart fits) (found_unlike link t s.running done found (all.unshared fits));
      unshared = λ fits.
          unlike_more done (done_of link t) (values_of (without_link s.running link)) (rest.unshared fits)
          (All-map (IsUnlikeOne t.number) (λ e. e.1) (without_link s.running link)
          (All-from_recursion (IsUnlike t.number) (without_link s.running link) (others_unlike link t s.running (all.running.apart fits) found)));
    }
