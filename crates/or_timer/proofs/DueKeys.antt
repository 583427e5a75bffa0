-- The keys that are due are those of the timers up to the moment, in the order of the timers.
use Rattle.std.proofs.Common.{◌≡◌, ◌↔◌, length, drop, ℕ, zero, suc, ◌+◌, ◌<◌, ◌≤◌, List, [], ◌∷◌, ◌++◌, Bool, true, false, ◌||◌, cond, Option, Some, None, refl, sym, ◌∙◌, ap, subst, map, arith}
use Rattle.std.specs.Prelude.{nat_le, nat_lt, ◌==◌, ◌≢◌}
use Rattle.std.specs.declared.cmp.Ordering.{Ordering}
use Rattle.std.specs.declared.cmp.Ordering.TheVariants.{Less, Equal, Greater}
use Rattle.std.specs.Ordering.{is_eq, is_gt, nat_cmp, ordering_then}
use Rattle.std.specs.List.{Contains, filter, flat_map, range_with_len, list_any, slice_get}
use Rattle.std.specs.List.Sorted.{IsStrictlySortedBy}
use Rattle.std.specs.Map.{keys_of, lookup, remove_entry}
use Rattle.std.specs.BTreeMap.{is_at}
use Rattle.std.specs.Option.{option_map_or, IsSome}
use Rattle.std.proofs.lemmas.Bool.{false≢true, leb-true, leb-false, eq-eqb, ne_eqb, eqb-true, eqb-false, lt-ltb, le-ltb}
use Rattle.std.proofs.lemmas.Cmp.{nat_cmp_total, nat_list_cmp_total, eq_by_cmp_equiv, tied_itself}
use Rattle.std.proofs.lemmas.List.Elements.{All-from_recursion, All-contains}
use Rattle.std.proofs.lemmas.Map.{lookup-none}
use Rattle.std.proofs.lemmas.Map.Entries.{none_below_head}
use Rattle.std.proofs.lemmas.Map.Keys.{sorted_head, sorted_tail, IsDistinct-from_sorted, le_from_not_gt}
use Rattle.std.proofs.lemmas.Map.Lookups.{exact_bytes}
use Rattle.std.proofs.lemmas.Map.Views.{lookup-from_Contains, Contains-from_any}
use Rattle.or_base.specs.Order.{bytes_cmp}
use Rattle.or_base.proofs.Members.{Contains-first, Contains-later}
use Rattle.or_timer.specs.Deadlines.{AreInKeyOrder, deadline_in, without_deadline, keys_at, due, after_due, timer_cmp, AreTimersOf, keys_until}
use Rattle.or_timer.proofs.Entries.{equal_from_test, lookup_without, ordered_without}
use Rattle.or_timer.proofs.Timers.{timer_cmp_total, exact_timers, timers_removed}

-- ---- the first timer is the least

timer_of_entry : (deadlines : List (List ℕ × ℕ)) (timers : List (ℕ × List ℕ)) (entry : List ℕ × ℕ) → AreTimersOf deadlines timers → Contains deadlines entry
    → list_any (is_at (timer_cmp (entry.1, entry.0))) timers ≡ true
timer_of_entry deadlines timers entry sound among =
    let found : deadline_in deadlines entry.0 ≡ Some entry.1 =
    lookup-from_Contains (eq_by_cmp_equiv nat_list_cmp_total) entry.0 entry.1 deadlines (IsDistinct-from_sorted bytes_cmp (keys_of deadlines) sound.keys_ordered) among in
    sound.same (entry.1, entry.0) ∙ ap (λ d. option_map_or (λ e. e == entry.1) d false) found ∙ eq-eqb entry.1 entry.1 refl

first_or_later : (first timer : ℕ × List ℕ) (here : Bool) (there : Bool) → is_at (timer_cmp timer) first ≡ here → (there ≡ true → timer_cmp first timer ≡ Less) → (here || there) ≡ true
    → is_gt (timer_cmp first timer) ≡ false
first_or_later first timer true there at later any =
    let same : timer ≡ first = exact_timers timer first (equal_from_test (timer_cmp timer first) at) in
    ap (λ t. is_gt (timer_cmp first t)) same ∙ ap is_gt (tied_itself timer_cmp_total first)
first_or_later first timer false there at later any = ap is_gt (later any)

first_is_least : (deadlines : List (List ℕ × ℕ)) (first : ℕ × List ℕ) (timers : List (ℕ × List ℕ)) (entry : List ℕ × ℕ) → AreTimersOf deadlines (first ∷ timers) → Contains deadlines entry
    → is_gt (timer_cmp first (entry.1, entry.0)) ≡ false
first_is_least deadlines first timers entry sound among =
    let timer : ℕ × List ℕ = (entry.1, entry.0) in
    first_or_later first timer (is_at (timer_cmp timer) first) (list_any (is_at (timer_cmp timer)) timers) refl
    (λ any. All-contains (λ other. timer_cmp first other ≡ Less) timers timer
    (All-from_recursion (λ other. timer_cmp first other ≡ Less) timers (sorted_head timer_cmp first timers sound.timers_ordered))
    (Contains-from_any {eq = λ (a b : ℕ × List ℕ). is_at (timer_cmp a) b} (λ a b e. exact_timers a b (equal_from_test (timer_cmp a b) e)) timer timers any))
    (timer_of_entry deadlines (first ∷ timers) entry sound among)

not_greater_then : (o p : Ordering) → is_gt (ordering_then o p) ≡ false → is_gt o ≡ false
not_greater_then Less p e = refl
not_greater_then Equal p e = refl
not_greater_then Greater p e = e

first_is_no_later : (first : ℕ × List ℕ) (entry : List ℕ × ℕ) → is_gt (timer_cmp first (entry.1, entry.0)) ≡ false → first.0 ≤ entry.1
first_is_no_later first entry least =
    le_from_not_gt first.0 entry.1 (not_greater_then (nat_cmp first.0 entry.1) (bytes_cmp first.1 entry.0) least)

first_by_key : (first : ℕ × List ℕ) (entry : List ℕ × ℕ) → is_gt (timer_cmp first (entry.1, entry.0)) ≡ false → entry.1 ≡ first.0 → is_gt (bytes_cmp first.1 entry.0) ≡ false
first_by_key first entry least same =
    let tied : nat_cmp first.0 entry.1 ≡ Equal = ap (λ d. nat_cmp first.0 d) same ∙ tied_itself nat_cmp_total first.0 in
    sym (ap (λ o. is_gt (ordering_then o (bytes_cmp first.1 entry.0))) tied) ∙ least

-- ---- what is left once the first timer is taken

in_rest : (first other : ℕ × List ℕ) (timers : List (ℕ × List ℕ)) → IsStrictlySortedBy timer_cmp (first ∷ timers)
    → list_any (is_at (timer_cmp other)) timers ≡ cond (is_at (timer_cmp first) other) false (list_any (is_at (timer_cmp other)) (first ∷ timers))
in_rest first other timers ordered = by_test (is_at (timer_cmp first) other) refl where
  not_again : list_any (is_at (timer_cmp first)) timers ≡ true → ⊥
  not_again any =
      let among : Contains timers first = Contains-from_any {eq = λ (a b : ℕ × List ℕ). is_at (timer_cmp a) b} (λ a b e. exact_timers a b (equal_from_test (timer_cmp a b) e)) first timers any in
      let less : timer_cmp first first ≡ Less =
      All-contains (λ other. timer_cmp first other ≡ Less) timers first
      (All-from_recursion (λ other. timer_cmp first other ≡ Less) timers (sorted_head timer_cmp first timers ordered)) among
      in
      let wrong : Less ≡ Equal = sym less ∙ tied_itself timer_cmp_total first in cc

  absent : (any : Bool) → list_any (is_at (timer_cmp first)) timers ≡ any → any ≡ false
  absent true e = absurd (not_again e)
  absent false e = refl

  apart : is_at (timer_cmp first) other ≡ false → (at : Bool) → is_at (timer_cmp other) first ≡ at → at ≡ false
  apart e true at =
      let same : other ≡ first = exact_timers other first (equal_from_test (timer_cmp other first) at) in
      let itself : is_at (timer_cmp first) other ≡ true = ap (λ t. is_at (timer_cmp first) t) same ∙ ap is_eq (tied_itself timer_cmp_total first) in
      absurd (false≢true (sym e ∙ itself))
  apart e false at = refl

  by_test : (test : Bool) → is_at (timer_cmp first) other ≡ test
      → list_any (is_at (timer_cmp other)) timers ≡ cond test false (list_any (is_at (timer_cmp other)) (first ∷ timers))
  by_test true e =
      let same : first ≡ other = exact_timers first other (equal_from_test (timer_cmp first other) e) in
      sym (ap (λ t. list_any (is_at (timer_cmp t)) timers) same) ∙ absent (list_any (is_at (timer_cmp first)) timers) refl
  by_test false e = sym (ap (λ t. t || list_any (is_at (timer_cmp other)) timers) (apart e (is_at (timer_cmp other) first) refl))

pub first_deadline : (deadlines : List (List ℕ × ℕ)) (first : ℕ × List ℕ) (timers : List (ℕ × List ℕ)) → AreTimersOf deadlines (first ∷ timers)
    → deadline_in deadlines first.1 ≡ Some first.0
first_deadline deadlines first timers sound =
    known (deadline_in deadlines first.1)
    (sym (sound.same first) ∙ ap (λ t. t || list_any (is_at (timer_cmp first)) timers) (ap is_eq (tied_itself timer_cmp_total first))) where
      known : (d : Option ℕ) → option_map_or (λ e. e == first.0) d false ≡ true → d ≡ Some first.0
      known None e = absurd (false≢true e)
      known (Some d) e = ap Some (eqb-true d first.0 e)

pub first_taken : (deadlines : List (List ℕ × ℕ)) (first : ℕ × List ℕ) (timers : List (ℕ × List ℕ)) → AreTimersOf deadlines (first ∷ timers)
    → AreTimersOf (without_deadline deadlines first.1) timers
first_taken deadlines first timers sound =
    timers_removed deadlines (without_deadline deadlines first.1) (first ∷ timers) timers first.1 first.0 sound (first_deadline deadlines first timers sound)
    (ordered_without (is_at (bytes_cmp first.1)) deadlines sound.keys_ordered) (sorted_tail timer_cmp first timers sound.timers_ordered)
    (λ other. lookup_without first.1 other deadlines sound.keys_ordered) (λ other. in_rest first other timers sound.timers_ordered)

-- ---- one key fewer

pub filter_removed : (passes : ℕ → Bool) (test : List ℕ → Bool) (deadlines : List (List ℕ × ℕ)) (deadline : ℕ) → lookup test deadlines ≡ Some deadline → passes deadline ≡ false
    → filter (λ (entry : List ℕ × ℕ). passes entry.1) (remove_entry test deadlines) ≡ filter (λ (entry : List ℕ × ℕ). passes entry.1) deadlines
filter_removed passes test [] deadline found fails = refl
filter_removed passes test (e ∷ es) deadline found fails = by_test (λ later. filter_removed passes test es deadline later fails) (test e.0) refl where
  by_test : (lookup test es ≡ Some deadline → filter (λ (entry : List ℕ × ℕ). passes entry.1) (remove_entry test es) ≡ filter (λ (entry : List ℕ × ℕ). passes entry.1) es)
      → (here : Bool) → test e.0 ≡ here
      → filter (λ (entry : List ℕ × ℕ). passes entry.1) (cond here es (e ∷ remove_entry test es)) ≡ filter (λ (entry : List ℕ × ℕ). passes entry.1) (e ∷ es)
  by_test rest true at =
      let same : Some e.1 ≡ Some deadline = sym (ap (λ t. cond t (Some e.1) (lookup test es)) at) ∙ found in
      let here : e.1 ≡ deadline = cc in
      sym (ap (λ t. cond t (e ∷ filter (λ (entry : List ℕ × ℕ). passes entry.1) es) (filter (λ (entry : List ℕ × ℕ). passes entry.1) es)) (ap passes here ∙ fails))
  by_test rest false at =
      let later : lookup test es ≡ Some deadline = sym (ap (λ t. cond t (Some e.1) (lookup test es)) at) ∙ found in
      ap (λ kept. cond (passes e.1) (e ∷ kept) kept) (rest later)

none_at : (moment : ℕ) (deadlines : List (List ℕ × ℕ)) → ((entry : List ℕ × ℕ) → Contains deadlines entry → moment < entry.1) → keys_at deadlines moment ≡ []
none_at moment [] above = refl
none_at moment (e ∷ es) above =
    ap (λ t. map (λ (entry : List ℕ × ℕ). entry.0) (cond t (e ∷ filter (λ (entry : List ℕ × ℕ). entry.1 == moment) es) (filter (λ (entry : List ℕ × ℕ). entry.1 == moment) es)))
    (ne_eqb e.1 moment (λ same. omega (arith, same, above e (Contains-first e es))))
    ∙ none_at moment es (λ entry among. above entry (Contains-later e es entry among))

abbrev at_deadline : ℕ → List (List ℕ × ℕ) → List (List ℕ × ℕ)
at_deadline deadline deadlines = filter (λ (entry : List ℕ × ℕ). entry.1 == deadline) deadlines

first_at : (key : List ℕ) (deadline : ℕ) (deadlines : List (List ℕ × ℕ)) → lookup (is_at (bytes_cmp key)) deadlines ≡ Some deadline → AreInKeyOrder deadlines
    → ((entry : List ℕ × ℕ) → Contains deadlines entry → entry.1 ≡ deadline → is_gt (bytes_cmp key entry.0) ≡ false)
    → filter (λ (entry : List ℕ × ℕ). entry.1 == deadline) deadlines ≡ (key, deadline) ∷ filter (λ (entry : List ℕ × ℕ). entry.1 == deadline) (without_deadline deadlines key)
first_at key deadline [] found ordered least = cc
first_at key deadline (e ∷ es) found ordered least =
    by_order (λ later. first_at key deadline es later (sorted_tail bytes_cmp e.0 (keys_of es) ordered) (λ entry among. least entry (Contains-later e es entry among)))
    (bytes_cmp key e.0) refl where
      by_order : (lookup (is_at (bytes_cmp key)) es ≡ Some deadline → at_deadline deadline es ≡ (key, deadline) ∷ at_deadline deadline (without_deadline es key))
          → (o : Ordering) → bytes_cmp key e.0 ≡ o
          → at_deadline deadline (e ∷ es) ≡ (key, deadline) ∷ at_deadline deadline (cond (is_eq o) es (e ∷ without_deadline es key))
      by_order rest Less below =
          let none : lookup (is_at (bytes_cmp key)) (e ∷ es) ≡ None =
          lookup-none (is_at (bytes_cmp key)) (e ∷ es) (none_below_head nat_list_cmp_total key e es ordered below) in
          let wrong : None ≡ Some deadline = sym none ∙ found in absurd cc
      by_order rest Equal same =
          let named : key ≡ e.0 = exact_bytes key e.0 same in
          let read : Some e.1 ≡ Some deadline = sym (ap (λ o. cond (is_eq o) (Some e.1) (lookup (is_at (bytes_cmp key)) es)) same) ∙ found in
          let here : e.1 ≡ deadline = cc in
          let whole : e ≡ (key, deadline) = ap (λ k. (k, e.1)) (sym named) ∙ ap (λ d. (key, d)) here in
          ap (λ t. cond t (e ∷ at_deadline deadline es) (at_deadline deadline es)) (eq-eqb e.1 deadline here) ∙ ap (λ f. f ∷ at_deadline deadline es) whole
      by_order rest Greater above =
          let later : lookup (is_at (bytes_cmp key)) es ≡ Some deadline = sym (ap (λ o. cond (is_eq o) (Some e.1) (lookup (is_at (bytes_cmp key)) es)) above) ∙ found in
          let other : (e.1 == deadline) ≡ false =
          ne_eqb e.1 deadline (λ same. false≢true (sym (least e (Contains-first e es) same) ∙ ap is_gt above)) in
          ap (λ t. cond t (e ∷ at_deadline deadline es) (at_deadline deadline es)) other
          ∙ rest later
          ∙ ap (λ kept. (key, deadline) ∷ kept)
          (sym (ap (λ t. cond t (e ∷ at_deadline deadline (without_deadline es key)) (at_deadline deadline (without_deadline es key))) other))

-- ---- moment by moment

same_moments : (f g : ℕ → List (List ℕ)) (moment n : ℕ) → ((m : ℕ) → moment ≤ m → f m ≡ g m) → flat_map f (range_with_len moment n) ≡ flat_map g (range_with_len moment n)
same_moments f g moment zero same = refl
same_moments f g moment (suc n) same =
    ap (λ ks. ks ++ flat_map f (range_with_len (moment + 1) n)) (same moment (omega arith))
    ∙ ap (λ ks. g moment ++ ks) (same_moments f g (moment + 1) n (λ m above. same m (omega (arith, above))))

no_moments : (f : ℕ → List (List ℕ)) (moment n : ℕ) → ((m : ℕ) → m < moment + n → f m ≡ []) → flat_map f (range_with_len moment n) ≡ []
no_moments f moment zero none = refl
no_moments f moment (suc n) none =
    ap (λ ks. ks ++ flat_map f (range_with_len (moment + 1) n)) (none moment (omega arith))
    ∙ no_moments f (moment + 1) n (λ m below. none m (omega (arith, below)))

-- two are the same but at a moment, where the one has a key more, and the one has none before it
first_moment : (f g : ℕ → List (List ℕ)) (key : List ℕ) (deadline moment n : ℕ) → moment ≤ deadline → deadline < moment + n
    → ((m : ℕ) → m < deadline → f m ≡ []) → ((m : ℕ) → m ≢ deadline → f m ≡ g m) → f deadline ≡ key ∷ g deadline
    → flat_map f (range_with_len moment n) ≡ key ∷ flat_map g (range_with_len moment n)
first_moment f g key deadline moment zero above below none same here = absurd (omega (arith, above, below))
first_moment f g key deadline moment (suc n) above below none same here =
    by_test (λ after. first_moment f g key deadline (moment + 1) n after (omega (arith, below)) none same here) (moment == deadline) refl where
      by_test : (moment + 1 ≤ deadline → flat_map f (range_with_len (moment + 1) n) ≡ key ∷ flat_map g (range_with_len (moment + 1) n))
          → (test : Bool) → (moment == deadline) ≡ test
          → f moment ++ flat_map f (range_with_len (moment + 1) n) ≡ key ∷ (g moment ++ flat_map g (range_with_len (moment + 1) n))
      by_test rest true e =
          let at : moment ≡ deadline = eqb-true moment deadline e in
          ap (λ ks. ks ++ flat_map f (range_with_len (moment + 1) n)) (ap f at ∙ here ∙ ap (λ d. key ∷ g d) (sym at))
          ∙ ap (λ ks. key ∷ (g moment ++ ks)) (same_moments f g (moment + 1) n (λ m over. same m (λ is. omega (arith, over, is, at))))
      by_test rest false e =
          let apart : moment ≢ deadline = eqb-false moment deadline e in
          let before : moment < deadline = omega (arith, above, apart) in
          let nothing : g moment ≡ [] = sym (same moment apart) ∙ none moment before in
          ap (λ ks. ks ++ flat_map f (range_with_len (moment + 1) n)) (none moment before)
          ∙ rest (omega (arith, before))
          ∙ ap (λ ks. key ∷ (ks ++ flat_map g (range_with_len (moment + 1) n))) (sym nothing)

-- ---- the first timer is due first

pub first_due : (deadlines : List (List ℕ × ℕ)) (first : ℕ × List ℕ) (timers : List (ℕ × List ℕ)) (now : ℕ) → AreTimersOf deadlines (first ∷ timers) → first.0 ≤ now
    → due deadlines now ≡ first.1 ∷ due (without_deadline deadlines first.1) now
unfolding due
first_due deadlines first timers now sound reached =
    let known = first_deadline deadlines first timers sound in
    first_moment (keys_at deadlines) (keys_at (without_deadline deadlines first.1)) first.1 first.0 0 (now + 1) (omega arith) (omega (arith, reached))
    (λ m before. none_at m deadlines (λ entry among. omega (arith, before, first_is_no_later first entry (first_is_least deadlines first timers entry sound among))))
    (λ m apart. ap (map (λ (entry : List ℕ × ℕ). entry.0))
    (sym (filter_removed (λ d. d == m) (is_at (bytes_cmp first.1)) deadlines first.0 known (ne_eqb first.0 m (λ same. apart (sym same))))))
    (ap (map (λ (entry : List ℕ × ℕ). entry.0))
    (first_at first.1 first.0 deadlines known sound.keys_ordered (λ entry among. first_by_key first entry (first_is_least deadlines first timers entry sound among))))

-- the moments at which keys are due
pub due_is : (deadlines : List (List ℕ × ℕ)) (now : ℕ) → due deadlines now ≡ flat_map (keys_at deadlines) (range_with_len 0 (now + 1))
unfolding due
due_is deadlines now = refl

pub none_due : (deadlines : List (List ℕ × ℕ)) (now : ℕ) → ((entry : List ℕ × ℕ) → Contains deadlines entry → now < entry.1) → due deadlines now ≡ []
unfolding due
none_due deadlines now above =
    no_moments (keys_at deadlines) 0 (now + 1) (λ m below. none_at m deadlines (λ entry among. omega (arith, below, above entry among)))

pub all_left : (deadlines : List (List ℕ × ℕ)) (now : ℕ) → ((entry : List ℕ × ℕ) → Contains deadlines entry → now < entry.1) → after_due deadlines now ≡ deadlines
all_left [] now above = refl
all_left (e ∷ es) now above =
    ap (λ t. cond t (e ∷ after_due es now) (after_due es now)) (lt-ltb now e.1 (above e (Contains-first e es)))
    ∙ ap (λ entries. e ∷ entries) (all_left es now (λ entry among. above entry (Contains-later e es entry among)))

pub all_later : (deadlines : List (List ℕ × ℕ)) (first : ℕ × List ℕ) (timers : List (ℕ × List ℕ)) (now : ℕ) → AreTimersOf deadlines (first ∷ timers) → now < first.0
    → (entry : List ℕ × ℕ) → Contains deadlines entry → now < entry.1
all_later deadlines first timers now sound later entry among =
    omega (arith, later, first_is_no_later first entry (first_is_least deadlines first timers entry sound among))

pub none_set : (deadlines : List (List ℕ × ℕ)) (now : ℕ) → AreTimersOf deadlines [] → (entry : List ℕ × ℕ) → Contains deadlines entry → now < entry.1
none_set deadlines now sound entry among = absurd (false≢true (timer_of_entry deadlines [] entry sound among))

pub left_once_taken : (deadlines : List (List ℕ × ℕ)) (first : ℕ × List ℕ) (timers : List (ℕ × List ℕ)) (now : ℕ) → AreTimersOf deadlines (first ∷ timers) → first.0 ≤ now
    → after_due (without_deadline deadlines first.1) now ≡ after_due deadlines now
left_once_taken deadlines first timers now sound reached =
    filter_removed (λ d. nat_lt now d) (is_at (bytes_cmp first.1)) deadlines first.0 (first_deadline deadlines first timers sound) (le-ltb now first.0 reached)

-- ---- the keys of the timers up to a moment

pub due_until : (now : ℕ) (timers : List (ℕ × List ℕ)) (deadlines : List (List ℕ × ℕ)) → AreTimersOf deadlines timers → due deadlines now ≡ keys_until now timers
due_until now [] deadlines sound = none_due deadlines now (none_set deadlines now sound)
due_until now (first ∷ timers) deadlines sound =
    by_test (due_until now timers (without_deadline deadlines first.1) (first_taken deadlines first timers sound)) (nat_le first.0 now) refl where
      by_test : due (without_deadline deadlines first.1) now ≡ keys_until now timers → (test : Bool) → nat_le first.0 now ≡ test
          → due deadlines now ≡ cond test (first.1 ∷ keys_until now timers) []
      by_test rest true e = first_due deadlines first timers now sound (leb-true first.0 now e) ∙ ap (λ ks. first.1 ∷ ks) rest
      by_test rest false e = none_due deadlines now (all_later deadlines first timers now sound (leb-false first.0 now e))

-- ---- the least timer, as a set tells it

pub no_first : {A : Type 0} (first : Option A) (timers : List (ℕ × List ℕ)) → first ≡ None → (IsSome first ↔ (0 < length timers)) → timers ≡ []
no_first first [] is h = refl
no_first None (timer ∷ timers) is h = absurd (false≢true (h.1 (omega arith)))
no_first (Some a) (timer ∷ timers) is h = cc

pub first_of : (timers : List (ℕ × List ℕ)) (first : ℕ × List ℕ) → slice_get timers 0 ≡ Some first → timers ≡ first ∷ drop 1 timers
first_of [] first is = cc
first_of (timer ∷ timers) first is = ap (λ t. t ∷ timers) (some_same is) where
  some_same : Some timer ≡ Some first → timer ≡ first
  some_same e = cc

pub none_due_of_none : (deadlines : List (List ℕ × ℕ)) (timers : List (ℕ × List ℕ)) (now : ℕ) → AreTimersOf deadlines timers → timers ≡ []
    → (due deadlines now ≡ []) × (deadlines ≡ after_due deadlines now)
none_due_of_none deadlines timers now sound none =
    let set = none_set deadlines now (subst (AreTimersOf deadlines) none sound) in
    (none_due deadlines now set, sym (all_left deadlines now set))

pub none_due_yet : (deadlines : List (List ℕ × ℕ)) (timers : List (ℕ × List ℕ)) (first : ℕ × List ℕ) (now : ℕ) → AreTimersOf deadlines timers → slice_get timers 0 ≡ Some first → now < first.0
    → (due deadlines now ≡ []) × (deadlines ≡ after_due deadlines now)
none_due_yet deadlines timers first now sound is later =
    let all = all_later deadlines first (drop 1 timers) now (subst (AreTimersOf deadlines) (first_of timers first is) sound) later in
    (none_due deadlines now all, sym (all_left deadlines now all))

pub reached_first : (timers : List (ℕ × List ℕ)) (taken first : ℕ × List ℕ) (rest : List (ℕ × List ℕ)) (now : ℕ) → timers ≡ taken ∷ rest → slice_get timers 0 ≡ Some first → first.0 ≤ now
    → taken.0 ≤ now
reached_first timers taken first rest now is at reached =
    let read : Some taken ≡ Some first = sym (ap (λ all. slice_get all 0) is) ∙ at in
    let same : taken ≡ first = cc in
    subst (λ t. t.0 ≤ now) (sym same) reached
