-- The search sees a node: what it knows then.
use Rattle.std.proofs.Common.{◌≡◌, ℕ, suc, ◌+◌, ◌*◌, ◌^◌, ◌<◌, ◌≤◌, ◌==◌, List, [], ◌∷◌, length, Bool, true, false, cond, not, Option, Some, None, refl, sym, ◌∙◌, ap, subst, ◌⊎◌, inl, inr, arith, get_or, drop}
use Rattle.std.proofs.Math.Seq.{drop-cons}
use Rattle.std.proofs.Math.Numerals.{add-one}
use Rattle.std.specs.List.{Contains}
use Rattle.std.specs.Option.{option_map_or}
use Rattle.std.specs.Str.{bytes_eq}
use Rattle.std.proofs.lemmas.Slice.Eq.{bytes_eq-Decides}
use borrow.Author.Tests.{ltb-true, ltb-false, eqb-true, eqb-false, eq-eqb}
use Rattle.or_base.proofs.Members.{Contains-cases, Contains-first, Contains-later}
use Rattle.ls_graph.specs.declared.arc.Arc.{Arc}
use Rattle.ls_spf.specs.Local.{IsRelaxed}
use Rattle.ls_spf.specs.Table.{AreArcs}
use Rattle.ls_spf.specs.Search.{is_news, costs_after, waiting_after, WaitRightly, is_settled, unsettled, ahead, IsSupported, IsSettling}

-- ---- two names, two functions

one_or_two_by : (x y : List ℕ) (b : Bool) → bytes_eq x y ≡ b → ((bytes_eq x y ≡ true) × (x ≡ y)) ⊎ (bytes_eq x y ≡ false)
one_or_two_by x y true e = inl (e, (bytes_eq-Decides x y).0 e)
one_or_two_by x y false e = inr e

pub one_or_two : (x y : List ℕ) → ((bytes_eq x y ≡ true) × (x ≡ y)) ⊎ (bytes_eq x y ≡ false)
one_or_two x y = one_or_two_by x y (bytes_eq x y) refl

-- functions that agree at each argument are equal
pub same_costs : {A B : Type 0} (f g : A → B) → ((x : A) → f x ≡ g x) → f ≡ g
same_costs f g h = λ i x. h x i

pub same_waiting : {A B C : Type 0} (f g : A → B → C) → ((x : A) (y : B) → f x y ≡ g x y) → f ≡ g
same_waiting f g h = λ i x y. h x y i

-- ---- news

pub stale_known : (o : Option ℕ) (c : ℕ) → is_news o c ≡ false → (m : ℕ) × (o ≡ Some m) × (m ≤ c)
stale_known None c e = cc
stale_known (Some m) c e = (m, refl, ltb-false c m e)

pub news_less : (o : Option ℕ) (c m : ℕ) → is_news o c ≡ true → o ≡ Some m → c < m
news_less None c m e f = cc
news_less (Some k) c m e f = let same : k ≡ m = cc in let l : c < k = ltb-true c k e in omega arith

pub settled_from : (costs : List ℕ → Option ℕ) (waiting : ℕ → List ℕ → Bool) (q : List ℕ) (n : ℕ) (b : Bool) → costs q ≡ Some n → waiting n q ≡ b
    → is_settled costs waiting q ≡ not b
settled_from costs waiting q n b e w = ap (λ o. option_map_or (λ k. not (waiting k q)) o false) e ∙ ap not w

unsettled_same : (s t : List ℕ → Bool) (arcs : List Arc) → ((q : List ℕ) → s q ≡ t q) → unsettled s arcs ≡ unsettled t arcs
unsettled_same s t [] h = refl
unsettled_same s t (a ∷ arcs) h = let r = unsettled_same s t arcs h in let e = h a.to in cc

-- ---- what waits does so at its cost, whatever is seen

module _ (costs : List ℕ → Option ℕ) (waiting : ℕ → List ℕ → Bool) (y : List ℕ) (c : ℕ) (rightly : WaitRightly costs waiting) where
  rightly_by : (n : ℕ) (q : List ℕ) (news at : Bool) → (at ≡ true → y ≡ q)
      → cond news (cond at (c == n) (waiting n q)) (waiting n q) ≡ true → cond news (cond at (Some c) (costs q)) (costs q) ≡ Some n
  rightly_by n q true true same w = ap Some (eqb-true c n w)
  rightly_by n q true false same w = rightly n q w
  rightly_by n q false at same w = rightly n q w

  pub rightly_after : WaitRightly (costs_after costs y c) (waiting_after costs waiting y c)
  rightly_after n q w = rightly_by n q (is_news (costs y) c) (bytes_eq y q) (bytes_eq-Decides y q).0 w

-- ---- an arc that leaves the node settled last is looked at

module _ (arcs : List Arc) (me : List ℕ) (costs : List ℕ → Option ℕ) (waiting : ℕ → List ℕ → Bool) (last : ℕ) (x : List ℕ) (most : ℕ) (a : Arc) (rest : List Arc)
    (h : IsSettling arcs me costs waiting last x most (a ∷ rest)) (some : 1 ≤ a.metric) (low : a.metric < 2 ^ 31) where
  among : Contains arcs a
  among = (h.leave a (Contains-first a rest)).0

  start_is : costs a.from ≡ Some last
  start_is = ap costs (h.leave a (Contains-first a rest)).1 ∙ h.settled

  leave_then : (b : Arc) → Contains rest b → Contains arcs b × (b.from ≡ x)
  leave_then b c = h.leave b (Contains-later a rest b c)

  -- the arc itself, among those that were still to be looked at
  is_arc : (costs' : List ℕ → Option ℕ) (b : Arc) (n end : ℕ) → a ≡ b → costs b.from ≡ Some n → costs' a.to ≡ Some end → end ≤ last + a.metric → IsRelaxed costs' b n
  is_arc costs' b n end same e f l =
      let start : last ≡ n = let g : Some last ≡ Some n = sym start_is ∙ (ap (λ (z : Arc). costs z.from) same ∙ e) in cc in
      let metric : a.metric ≡ b.metric = ap (λ (z : Arc). z.metric) same in
      record { end = end; to = ap (λ (z : Arc). costs' z.to) (sym same) ∙ f; least = omega arith }

  -- ---- no news: nothing changes

  module _ (stale : is_news (costs a.to) (last + a.metric) ≡ false) where
    stale_relaxed : (b : Arc) (n : ℕ) → costs b.from ≡ Some n → IsRelaxed costs b n ⊎ Contains (a ∷ rest) b → IsRelaxed costs b n ⊎ Contains rest b
    stale_relaxed b n e (inl r) = inl r
    stale_relaxed b n e (inr c) =
        elim (Contains-cases a rest b c) as (λ _. IsRelaxed costs b n ⊎ Contains rest b) [
          | inl same ↦ let k = stale_known (costs a.to) (last + a.metric) stale in inl (is_arc costs b n k.0 same e k.1 k.2)
          | inr later ↦ inr later
        ]

    stale_step : IsSettling arcs me costs waiting last x most rest
    stale_step =
        let s = h.search in
        record {
          search = record {
            here = s.here;
            supported = s.supported;
            rightly = s.rightly;
            waits_above = s.waits_above;
            settled_below = s.settled_below;
            relaxed = λ b n c e w. stale_relaxed b n e (s.relaxed b n c e w);
            small = s.small;
          };
          leave = leave_then;
          settled = h.settled;
          waits_no_more = h.waits_no_more;
          left = h.left;
          room = h.room;
        }

  -- ---- news: the node that the arc leads to has the new cost, and waits

  module _ (news : is_news (costs a.to) (last + a.metric) ≡ true) where
    costs_then : List ℕ → Option ℕ
    costs_then q = cond (bytes_eq a.to q) (Some (last + a.metric)) (costs q)

    waiting_then : ℕ → List ℕ → Bool
    waiting_then n q = cond (bytes_eq a.to q) ((last + a.metric) == n) (waiting n q)

    cost_there : (q : List ℕ) → bytes_eq a.to q ≡ true → costs_then q ≡ Some (last + a.metric)
    unfolding costs_then
    cost_there q e = ap (λ b. cond b (Some (last + a.metric)) (costs q)) e

    cost_apart : (q : List ℕ) → bytes_eq a.to q ≡ false → costs_then q ≡ costs q
    unfolding costs_then
    cost_apart q e = ap (λ b. cond b (Some (last + a.metric)) (costs q)) e

    waits_there : (n : ℕ) (q : List ℕ) → bytes_eq a.to q ≡ true → waiting_then n q ≡ ((last + a.metric) == n)
    unfolding waiting_then
    waits_there n q e = ap (λ b. cond b ((last + a.metric) == n) (waiting n q)) e

    waits_apart : (n : ℕ) (q : List ℕ) → bytes_eq a.to q ≡ false → waiting_then n q ≡ waiting n q
    unfolding waiting_then
    waits_apart n q e = ap (λ b. cond b ((last + a.metric) == n) (waiting n q)) e

    -- the new cost is what the map has there
    new_is : (q : List ℕ) (n : ℕ) → bytes_eq a.to q ≡ true → costs_then q ≡ Some n → last + a.metric ≡ n
    new_is q n t e = let g : Some (last + a.metric) ≡ Some n = sym (cost_there q t) ∙ e in cc

    no_dearer : (q : List ℕ) (m : ℕ) → costs q ≡ Some m → (k : ℕ) × (costs_then q ≡ Some k) × (k ≤ m)
    no_dearer q m e =
        elim (one_or_two a.to q) as (λ _. (k : ℕ) × (costs_then q ≡ Some k) × (k ≤ m)) [
          | inl (t, same) ↦
              let l : last + a.metric < m = news_less (costs a.to) (last + a.metric) m news (ap costs same ∙ e) in
              (last + a.metric, cost_there q t, omega arith)
          | inr f ↦ (m, cost_apart q f ∙ e, omega arith)
        ]

    -- what costs no more than x isn't where the arc leads
    cheap_apart : (q : List ℕ) (m : ℕ) → costs q ≡ Some m → m ≤ last → bytes_eq a.to q ≡ false
    cheap_apart q m e l =
        elim (one_or_two a.to q) as (λ _. bytes_eq a.to q ≡ false) [
          | inl (t, same) ↦ let u : last + a.metric < m = news_less (costs a.to) (last + a.metric) m news (ap costs same ∙ e) in absurd (omega arith)
          | inr f ↦ f
        ]

    start_then : costs_then a.from ≡ Some last
    start_then = cost_apart a.from (cheap_apart a.from last start_is (omega arith)) ∙ start_is

    still_supported : (v : List ℕ) (m : ℕ) → (v ≡ me) ⊎ IsSupported arcs costs v m → (v ≡ me) ⊎ IsSupported arcs costs_then v m
    still_supported v m (inl e) = inl e
    still_supported v m (inr s) =
        let k = no_dearer s.arc.from s.start s.from in
        let l : k.0 ≤ s.start = k.2 in let u : s.start + s.arc.metric ≤ m = s.sum in
        inr (record { arc = s.arc; among = s.among; to = s.to; start = k.0; from = k.1; sum = omega arith })

    supported_then : (v : List ℕ) (m : ℕ) → costs_then v ≡ Some m → (v ≡ me) ⊎ IsSupported arcs costs_then v m
    supported_then v m e =
        elim (one_or_two a.to v) as (λ _. (v ≡ me) ⊎ IsSupported arcs costs_then v m) [
          | inl (t, same) ↦ let m_is : last + a.metric ≡ m = new_is v m t e in
              inr (record { arc = a; among = among; to = same; start = last; from = start_then; sum = omega arith })
          | inr f ↦ still_supported v m (h.search.supported v m (sym (cost_apart v f) ∙ e))
        ]

    rest_then : (b : Arc) (n : ℕ) → costs b.from ≡ Some n → IsRelaxed costs b n ⊎ Contains (a ∷ rest) b → IsRelaxed costs_then b n ⊎ Contains rest b
    rest_then b n e (inl r) =
        let k = no_dearer b.to r.end r.to in
        inl (record { end = k.0; to = k.1; least = let l : k.0 ≤ r.end = k.2 in let u : r.end ≤ n + b.metric = r.least in omega arith })
    rest_then b n e (inr c) =
        elim (Contains-cases a rest b c) as (λ _. IsRelaxed costs_then b n ⊎ Contains rest b) [
          | inl same ↦ inl (is_arc costs_then b n (last + a.metric) same e (cost_there a.to ((bytes_eq-Decides a.to a.to).1 refl)) (omega arith))
          | inr later ↦ inr later
        ]

    relaxed_then : (b : Arc) (n : ℕ) → Contains arcs b → costs_then b.from ≡ Some n → waiting_then n b.from ≡ false → IsRelaxed costs_then b n ⊎ Contains rest b
    relaxed_then b n c e w =
        elim (one_or_two a.to b.from) as (λ _. IsRelaxed costs_then b n ⊎ Contains rest b) [
          | inl (t, same) ↦ absurd (eqb-false (last + a.metric) n (sym (waits_there n b.from t) ∙ w) (new_is b.from n t e))
          | inr f ↦ let g : costs b.from ≡ Some n = sym (cost_apart b.from f) ∙ e in
              rest_then b n g (h.search.relaxed b n c g (sym (waits_apart n b.from f) ∙ w))
        ]

    rightly_then : WaitRightly costs_then waiting_then
    rightly_then n q w =
        elim (one_or_two a.to q) as (λ _. costs_then q ≡ Some n) [
          | inl (t, _) ↦ cost_there q t ∙ ap Some (eqb-true (last + a.metric) n (sym (waits_there n q t) ∙ w))
          | inr f ↦ cost_apart q f ∙ h.search.rightly n q (sym (waits_apart n q f) ∙ w)
        ]

    waits_above_then : (n : ℕ) (q : List ℕ) → waiting_then n q ≡ true → last ≤ n
    waits_above_then n q w =
        elim (one_or_two a.to q) as (λ _. last ≤ n) [
          | inl (t, _) ↦ let e : last + a.metric ≡ n = eqb-true (last + a.metric) n (sym (waits_there n q t) ∙ w) in omega arith
          | inr f ↦ h.search.waits_above n q (sym (waits_apart n q f) ∙ w)
        ]

    settled_below_then : (n : ℕ) (q : List ℕ) → costs_then q ≡ Some n → waiting_then n q ≡ false → n ≤ last
    settled_below_then n q e w =
        elim (one_or_two a.to q) as (λ _. n ≤ last) [
          | inl (t, _) ↦ absurd (eqb-false (last + a.metric) n (sym (waits_there n q t) ∙ w) (new_is q n t e))
          | inr f ↦ h.search.settled_below n q (sym (cost_apart q f) ∙ e) (sym (waits_apart n q f) ∙ w)
        ]

    -- ---- what is left to do stays: the node wasn't settled, and isn't

    waits_or_settled : (m : ℕ) (b : Bool) → waiting m a.to ≡ b → costs a.to ≡ Some m → is_settled costs waiting a.to ≡ false
    waits_or_settled m true w e = settled_from costs waiting a.to m true e w
    waits_or_settled m false w e =
        let l : m ≤ last = h.search.settled_below m a.to e w in
        let u : last + a.metric < m = news_less (costs a.to) (last + a.metric) m news e in absurd (omega arith)

    unsettled_before : (o : Option ℕ) → costs a.to ≡ o → is_settled costs waiting a.to ≡ false
    unsettled_before None e = ap (λ z. option_map_or (λ k. not (waiting k a.to)) z false) e
    unsettled_before (Some m) e = waits_or_settled m (waiting m a.to) refl e

    settled_then : (q : List ℕ) → is_settled costs_then waiting_then q ≡ is_settled costs waiting q
    settled_then q =
        elim (one_or_two a.to q) as (λ _. is_settled costs_then waiting_then q ≡ is_settled costs waiting q) [
          | inl (t, same) ↦
              settled_from costs_then waiting_then q (last + a.metric) true (cost_there q t) (waits_there (last + a.metric) q t ∙ eq-eqb (last + a.metric) (last + a.metric) refl)
              ∙ (sym (unsettled_before (costs a.to) refl) ∙ ap (is_settled costs waiting) same)
          | inr f ↦ ap (λ z. option_map_or (λ k. not (waiting_then k q)) z false) (cost_apart q f)
              ∙ ap (λ g. option_map_or g (costs q) false) (same_costs (λ k. not (waiting_then k q)) (λ k. not (waiting k q)) (λ k. ap not (waits_apart k q f)))
        ]

    ahead_then : ahead arcs me costs_then waiting_then ≡ ahead arcs me costs waiting
    ahead_then = let e = unsettled_same (is_settled costs_then waiting_then) (is_settled costs waiting) arcs settled_then in let f = settled_then me in cc

    small_then : (v : List ℕ) (m : ℕ) → costs_then v ≡ Some m → m + 2 ^ 31 * ahead arcs me costs waiting ≤ 2 ^ 31 * (length arcs + 1)
    small_then v m e =
        elim (one_or_two a.to v) as (λ _. m + 2 ^ 31 * ahead arcs me costs waiting ≤ 2 ^ 31 * (length arcs + 1)) [
          | inl (t, _) ↦
              let m_is : last + a.metric ≡ m = new_is v m t e in
              let r : last + 2 ^ 31 + 2 ^ 31 * ahead arcs me costs waiting ≤ 2 ^ 31 * (length arcs + 1) = h.room in omega arith
          | inr f ↦ h.search.small v m (sym (cost_apart v f) ∙ e)
        ]

    x_apart : bytes_eq a.to x ≡ false
    x_apart = cheap_apart x last h.settled (omega arith)

    news_step : IsSettling arcs me costs_then waiting_then last x most rest
    news_step = record {
      search = record {
        here = cost_apart me (cheap_apart me 0 h.search.here (omega arith)) ∙ h.search.here;
        supported = supported_then;
        rightly = rightly_then;
        waits_above = waits_above_then;
        settled_below = settled_below_then;
        relaxed = relaxed_then;
        small = λ v m e. let s : m + 2 ^ 31 * ahead arcs me costs waiting ≤ 2 ^ 31 * (length arcs + 1) = small_then v m e in rw ahead_then s;
      };
      leave = leave_then;
      settled = cost_apart x x_apart ∙ h.settled;
      waits_no_more = waits_apart last x x_apart ∙ h.waits_no_more;
      left = rw ahead_then h.left;
      room = rw ahead_then h.room;
    }

  -- ---- both

  seen_by : (b : Bool) → is_news (costs a.to) (last + a.metric) ≡ b
      → IsSettling arcs me (λ q. cond b (cond (bytes_eq a.to q) (Some (last + a.metric)) (costs q)) (costs q))
      (λ n q. cond b (cond (bytes_eq a.to q) ((last + a.metric) == n) (waiting n q)) (waiting n q)) last x most rest
  unfolding costs_then waiting_then
  seen_by true e = news_step e
  seen_by false e = stale_step e

  pub seen : IsSettling arcs me (costs_after costs a.to (last + a.metric)) (waiting_after costs waiting a.to (last + a.metric)) last x most rest
  seen = seen_by (is_news (costs a.to) (last + a.metric)) refl

-- ---- one step of the loop over the arcs that leave a node

module _ (costs costs' : List ℕ → Option ℕ) (waiting waiting' : ℕ → List ℕ → Bool) where
  pub rightly_now : (y : List ℕ) (c : ℕ) → WaitRightly costs waiting → ((q : List ℕ) → costs' q ≡ costs_after costs y c q)
      → ((n : ℕ) (q : List ℕ) → waiting' n q ≡ waiting_after costs waiting y c n q) → WaitRightly costs' waiting'
  rightly_now y c rightly f g n q w = f q ∙ rightly_after costs waiting y c rightly n q (sym (g n q) ∙ w)

  pub looked_at : (arcs : List Arc) (me : List ℕ) (start : ℕ) (node : List ℕ) (most : ℕ) (leaving : List Arc) (i : ℕ) (a : Arc) (metric : ℕ)
      → AreArcs arcs → i < length leaving → a ≡ get_or leaving i a → metric ≡ a.metric
      → ((q : List ℕ) → costs' q ≡ costs_after costs a.to (start + metric) q)
      → ((n : ℕ) (q : List ℕ) → waiting' n q ≡ waiting_after costs waiting a.to (start + metric) n q)
      → IsSettling arcs me costs waiting start node most (drop i leaving) → IsSettling arcs me costs' waiting' start node most (drop (i + 1) leaving)
  looked_at arcs me start node most leaving i a metric are within at is f g h =
      let rest = drop (i + 1) leaving in
      let cons : drop i leaving ≡ a ∷ rest =
      drop-cons leaving i a within ∙ (ap (λ z. z ∷ drop (suc i) leaving) (sym at) ∙ ap (λ k. a ∷ drop k leaving) (sym (add-one i))) in
      let first : IsSettling arcs me costs waiting start node most (a ∷ rest) = subst (λ z. IsSettling arcs me costs waiting start node most z) cons h in
      let metrics = are.metrics a (first.leave a (Contains-first a rest)).0 in
      let s = seen arcs me costs waiting start node most a rest first metrics.0 metrics.1 in
      let sum : start + a.metric ≡ start + metric = ap (λ k. start + k) (sym is) in
      let p : costs_after costs a.to (start + a.metric) ≡ costs' = same_costs (costs_after costs a.to (start + a.metric)) costs' (λ q. ap (λ k. costs_after costs a.to k q) sum ∙ sym (f q)) in
      let r : waiting_after costs waiting a.to (start + a.metric) ≡ waiting' =
      same_waiting (waiting_after costs waiting a.to (start + a.metric)) waiting' (λ n q. ap (λ k. waiting_after costs waiting a.to k n q) sum ∙ sym (g n q)) in
      subst (λ w. IsSettling arcs me costs' w start node most rest) r
      (subst (λ z. IsSettling arcs me z (waiting_after costs waiting a.to (start + a.metric)) start node most rest) p s)
