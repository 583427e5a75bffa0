-- The numbers of running sessions, as links get sessions and lose them.
use Rattle.std.proofs.Common.{◌≡◌, ℕ, ◌+◌, ◌^◌, ◌<◌, ◌≤◌, List, [], ◌∷◌, Option, Some, None, Bool, true, false, cond, refl, sym, ◌∙◌, ap, arith}
use Rattle.std.specs.Prelude.{◌≢◌}
use Rattle.std.specs.List.{AllByRecursion}
use Rattle.std.specs.Map.{lookup, remove_entry}
use Rattle.std.specs.Ordering.{nat_cmp, is_eq, match_ordering}
use Rattle.std.specs.declared.cmp.Ordering.{Ordering}
use Rattle.std.specs.declared.cmp.Ordering.TheVariants.{Less, Equal, Greater}
use Rattle.std.specs.BTreeMap.{insert_entry, is_at}
use Rattle.std.proofs.lemmas.Cmp.{ranked}
use Rattle.or_base.specs.Counting.{saturate}
use Rattle.kv_sync.specs.declared.session.Session.{Session}
use Rattle.kv_sync.specs.Running.{IsGiven, IsApart, AreApart, AreNumbered}

-- no session of the entries has this number
abbrev pub IsUnlike : ℕ → ℕ × Session → Type 0
IsUnlike number entry = number ≢ entry.1.number

pub some_not_none : {X : Type 0} {x : X} {o : Option X} → o ≡ Some x → o ≡ None → ⊥
some_not_none some none = cc

the_same : {u v : Session} → Some u ≡ Some v → u ≡ v
the_same one = cc

-- ---- one session more

given_with : (last link : ℕ) (s : Session) (es : List (ℕ × Session)) → AllByRecursion (IsGiven last) es → s.number ≤ last
    → AllByRecursion (IsGiven last) (insert_entry nat_cmp es link s)
given_with last link s [] given number = (number, tt)
given_with last link s (e ∷ es) given number = by_order (given_with last link s es given.1 number) (nat_cmp link e.0) where
  by_order : AllByRecursion (IsGiven last) (insert_entry nat_cmp es link s)
      → (o : Ordering) → AllByRecursion (IsGiven last) (match_ordering o ((link, s) ∷ e ∷ es) ((e.0, s) ∷ es) (e ∷ insert_entry nat_cmp es link s))
  by_order later Less = (number, given)
  by_order later Equal = (number, given.1)
  by_order later Greater = (given.0, later)

apart_with : (e : ℕ × Session) (link : ℕ) (s : Session) (es : List (ℕ × Session)) → AllByRecursion (IsApart e) es → IsApart e (link, s)
    → AllByRecursion (IsApart e) (insert_entry nat_cmp es link s)
apart_with e link s [] apart one = (one, tt)
apart_with e link s (f ∷ es) apart one = by_order (apart_with e link s es apart.1 one) (nat_cmp link f.0) where
  by_order : AllByRecursion (IsApart e) (insert_entry nat_cmp es link s)
      → (o : Ordering) → AllByRecursion (IsApart e) (match_ordering o ((link, s) ∷ f ∷ es) ((f.0, s) ∷ es) (f ∷ insert_entry nat_cmp es link s))
  by_order later Less = (one, apart)
  by_order later Equal = ((apart.0.0, one.1), apart.1)
  by_order later Greater = (apart.0, later)

-- a session on an earlier link, or in the place of this one
apart_before : (e : ℕ × Session) (link : ℕ) (s : Session) (es : List (ℕ × Session)) → link ≤ e.0 → AllByRecursion (IsApart e) es
    → AllByRecursion (IsUnlike s.number) es → AllByRecursion (IsApart (link, s)) es
apart_before e link s [] before apart unlike = tt
apart_before e link s (f ∷ es) before apart unlike =
    ((omega (arith, before, apart.0.0), unlike.0), apart_before e link s es before apart.1 unlike.1)

added : (link : ℕ) (s : Session) (es : List (ℕ × Session)) → AreApart es → AllByRecursion (IsUnlike s.number) es → AreApart (insert_entry nat_cmp es link s)
added link s [] apart unlike = (tt, tt)
added link s (e ∷ es) apart unlike = by_order (added link s es apart.1 unlike.1) (nat_cmp link e.0) refl where
  by_order : AreApart (insert_entry nat_cmp es link s) → (o : Ordering) → nat_cmp link e.0 ≡ o → AreApart (match_ordering o ((link, s) ∷ e ∷ es) ((e.0, s) ∷ es) (e ∷ insert_entry nat_cmp es link s))
  by_order later Less is =
      let below : link < e.0 = ranked link e.0 Less (sym is) in
      (((below, unlike.0), apart_before e link s es (omega (arith, below)) apart.0 unlike.1), apart)
  by_order later Equal is = (apart_before e e.0 s es (omega arith) apart.0 unlike.1, apart.1)
  by_order later Greater is =
      let above : e.0 < link = ranked link e.0 Greater (sym is) in
      let other : e.1.number ≢ s.number = λ same. unlike.0 (sym same) in
      (apart_with e link s es apart.0 (above, other), later)

-- ---- a session in the place of the one with its number

none_after : (e : ℕ × Session) (link : ℕ) (es : List (ℕ × Session)) → link ≤ e.0 → AllByRecursion (IsApart e) es → lookup (is_at (nat_cmp link)) es ≡ None
none_after e link [] before apart = refl
none_after e link (f ∷ es) before apart = by_order (none_after e link es before apart.1) (nat_cmp link f.0) refl where
  by_order : lookup (is_at (nat_cmp link)) es ≡ None
      → (o : Ordering) → nat_cmp link f.0 ≡ o → cond (is_eq o) (Some f.1) (lookup (is_at (nat_cmp link)) es) ≡ None
  by_order later Less is = later
  by_order later Equal is =
      let same : link ≡ f.0 = ranked link f.0 Equal (sym is) in
      absurd (omega (arith, same, before, apart.0.0))
  by_order later Greater is = later

pub found_apart : (e : ℕ × Session) (link : ℕ) (t : Session) (es : List (ℕ × Session)) → AllByRecursion (IsApart e) es
    → lookup (is_at (nat_cmp link)) es ≡ Some t → e.1.number ≢ t.number
found_apart e link t [] apart found = absurd (some_not_none found refl)
found_apart e link t (f ∷ es) apart found = by_order (found_apart e link t es apart.1) (nat_cmp link f.0) found where
  by_order : (lookup (is_at (nat_cmp link)) es ≡ Some t → e.1.number ≢ t.number)
      → (o : Ordering) → cond (is_eq o) (Some f.1) (lookup (is_at (nat_cmp link)) es) ≡ Some t → e.1.number ≢ t.number
  by_order later Less found = later found
  by_order later Equal found = λ same. apart.0.1 (same ∙ ap (λ u. u.number) (sym (the_same found)))
  by_order later Greater found = later found

pub found_given : (last link : ℕ) (t : Session) (es : List (ℕ × Session)) → AllByRecursion (IsGiven last) es → lookup (is_at (nat_cmp link)) es ≡ Some t → t.number ≤ last
found_given last link t [] given found = absurd (some_not_none found refl)
found_given last link t (e ∷ es) given found = by_order (found_given last link t es given.1) (nat_cmp link e.0) found where
  by_order : (lookup (is_at (nat_cmp link)) es ≡ Some t → t.number ≤ last)
      → (o : Ordering) → cond (is_eq o) (Some e.1) (lookup (is_at (nat_cmp link)) es) ≡ Some t → t.number ≤ last
  by_order later Less found = later found
  by_order later Equal found =
      let same : e.1.number ≡ t.number = ap (λ u. u.number) (the_same found) in
      omega (arith, given.0, same)
  by_order later Greater found = later found

pub unlike_others : (e : ℕ × Session) (s : Session) (es : List (ℕ × Session)) → e.1.number ≡ s.number → AllByRecursion (IsApart e) es → AllByRecursion (IsUnlike s.number) es
unlike_others e s [] same apart = tt
unlike_others e s (f ∷ es) same apart = (λ other. apart.0.1 (same ∙ other), unlike_others e s es same apart.1)

replaced : (link : ℕ) (s t : Session) (es : List (ℕ × Session)) → AreApart es → lookup (is_at (nat_cmp link)) es ≡ Some t → t.number ≡ s.number
    → AreApart (insert_entry nat_cmp es link s)
replaced link s t [] apart found same = absurd (some_not_none found refl)
replaced link s t (e ∷ es) apart found same = by_order (λ there. replaced link s t es apart.1 there same) (nat_cmp link e.0) refl found where
  by_order : (lookup (is_at (nat_cmp link)) es ≡ Some t → AreApart (insert_entry nat_cmp es link s))
      → (o : Ordering) → nat_cmp link e.0 ≡ o → cond (is_eq o) (Some e.1) (lookup (is_at (nat_cmp link)) es) ≡ Some t
      → AreApart (match_ordering o ((link, s) ∷ e ∷ es) ((e.0, s) ∷ es) (e ∷ insert_entry nat_cmp es link s))
  by_order later Less is found =
      let below : link < e.0 = ranked link e.0 Less (sym is) in
      absurd (some_not_none found (none_after e link es (omega (arith, below)) apart.0))
  by_order later Equal is found =
      let number : e.1.number ≡ s.number = ap (λ u. u.number) (the_same found) ∙ same in
      (apart_before e e.0 s es (omega arith) apart.0 (unlike_others e s es number apart.0), apart.1)
  by_order later Greater is found =
      let above : e.0 < link = ranked link e.0 Greater (sym is) in
      let other : e.1.number ≢ s.number = λ one. found_apart e link t es apart.0 found (one ∙ sym same) in
      (apart_with e link s es apart.0 (above, other), later found)

-- ---- one session less

all_without : (P : ℕ × Session → Type 0) (test : ℕ → Bool) (es : List (ℕ × Session)) → AllByRecursion P es → AllByRecursion P (remove_entry test es)
all_without P test [] all = tt
all_without P test (e ∷ es) all = by_test (all_without P test es all.1) (test e.0) where
  by_test : AllByRecursion P (remove_entry test es) → (here : Bool) → AllByRecursion P (cond here es (e ∷ remove_entry test es))
  by_test later true = all.1
  by_test later false = (all.0, later)

apart_without : (test : ℕ → Bool) (es : List (ℕ × Session)) → AreApart es → AreApart (remove_entry test es)
apart_without test [] apart = tt
apart_without test (e ∷ es) apart = by_test (apart_without test es apart.1) (test e.0) where
  by_test : AreApart (remove_entry test es) → (here : Bool) → AreApart (cond here es (e ∷ remove_entry test es))
  by_test later true = apart.1
  by_test later false = (all_without (IsApart e) test es apart.0, later)

-- ---- together

given_more : (last next : ℕ) (es : List (ℕ × Session)) → last ≤ next → AllByRecursion (IsGiven last) es → AllByRecursion (IsGiven next) es
given_more last next [] more given = tt
given_more last next (e ∷ es) more given = (omega (arith, more, given.0), given_more last next es more given.1)

unlike_given : (last number : ℕ) (es : List (ℕ × Session)) → last < number → AllByRecursion (IsGiven last) es → AllByRecursion (IsUnlike number) es
unlike_given last number [] above given = tt
unlike_given last number (e ∷ es) above given = ((λ same. omega (arith, above, given.0, same)), unlike_given last number es above given.1)

pub numbered_none : (last : ℕ) → last < 2 ^ 64 → AreNumbered last []
numbered_none last fits = record { fits = fits; given = tt; apart = λ within. tt }

-- a session starts, with the next number
pub numbered_started : (last next link : ℕ) (s : Session) (running after : List (ℕ × Session)) → next ≡ saturate (last + 1) → after ≡ insert_entry nat_cmp running link s
    → AreNumbered last running → s.number ≡ next → AreNumbered next after
numbered_started last next link s running after is e numbered number = rw e (record {
  fits = omega (arith, is);
  given = given_with next link s running (given_more last next running (omega (arith, is, numbered.fits)) numbered.given) (omega (arith, number));
  apart = λ within.
      added link s running (numbered.apart (omega (arith, is, within))) (unlike_given last s.number running (omega (arith, is, number, within)) numbered.given);
})

-- a session goes on
pub numbered_kept : (last link : ℕ) (s t : Session) (running after : List (ℕ × Session)) → after ≡ insert_entry nat_cmp running link s
    → lookup (is_at (nat_cmp link)) running ≡ Some t → t.number ≡ s.number → AreNumbered last running → AreNumbered last after
numbered_kept last link s t running after e found same numbered =
    let number = found_given last link t running numbered.given found in rw e (record {
      fits = numbered.fits;
      given = given_with last link s running numbered.given (omega (arith, same, number));
      apart = λ within. replaced link s t running (numbered.apart within) found same;
    })

-- a session goes
pub numbered_without : (last : ℕ) (test : ℕ → Bool) (running after : List (ℕ × Session)) → after ≡ remove_entry test running
    → AreNumbered last running → AreNumbered last after
numbered_without last test running after e numbered = rw e (record {
  fits = numbered.fits;
  given = all_without (IsGiven last) test running numbered.given;
  apart = λ within. apart_without test running (numbered.apart within);
})
