-- The search starts, settles its next node, and ends.
use Rattle.std.proofs.Common.{◌≡◌, ℕ, ◌+◌, ◌*◌, ◌^◌, ◌≤◌, ◌==◌, List, [], ◌∷◌, length, Bool, true, false, cond, not, ◌&&◌, Option, Some, None, refl, sym, ◌∙◌, ap, ◌⊎◌, inl, inr, arith}
use Rattle.std.specs.List.{Contains, filter}
use Rattle.std.specs.Option.{option_map_or}
use Rattle.std.specs.Str.{bytes_eq}
use Rattle.std.proofs.lemmas.Slice.Eq.{bytes_eq-Decides}
use borrow.Author.Tests.{eqb-true, eq-eqb}
use Rattle.or_base.proofs.Members.{Contains-cases}
use Rattle.ls_graph.specs.declared.arc.Arc.{Arc}
use Rattle.ls_spf.specs.Local.{IsTight, IsRelaxed, AreLocal}
use Rattle.ls_spf.specs.Search.{is_settled, unsettled, ahead, IsSupported, IsSearch, IsSettling}
use Rattle.ls_spf.proofs.Listed.{none_among, found_in_filter, kept_in_filter}
use Rattle.ls_spf.proofs.Seeing.{one_or_two, settled_from}

-- ---- how many are unsettled

one_at_most : (b : Bool) → cond b 0 1 ≤ 1
one_at_most true = omega arith
one_at_most false = omega arith

none_where : (b : Bool) → b ≡ true → cond b 0 1 ≤ 0
none_where b e = rw e (omega arith)

one_where : (b : Bool) → b ≡ false → 1 ≤ cond b 0 1
one_where b e = rw e (omega arith)

no_more_at : (b c : Bool) → (b ≡ true → c ≡ true) → cond c 0 1 ≤ cond b 0 1
no_more_at true c h = let e : c ≡ true = h refl in rw e (omega arith)
no_more_at false c h = one_at_most c

no_more : (s t : List ℕ → Bool) → ((q : List ℕ) → s q ≡ true → t q ≡ true) → (arcs : List Arc) → unsettled t arcs ≤ unsettled s arcs
no_more s t h [] = omega arith
no_more s t h (a ∷ arcs) =
    let r : unsettled t arcs ≤ unsettled s arcs = no_more s t h arcs in
    let e : cond (t a.to) 0 1 ≤ cond (s a.to) 0 1 = no_more_at (s a.to) (t a.to) (h a.to) in omega arith

one_less : (s t : List ℕ → Bool) → ((q : List ℕ) → s q ≡ true → t q ≡ true) → (arcs : List Arc) (a : Arc) → Contains arcs a → s a.to ≡ false → t a.to ≡ true
    → unsettled t arcs + 1 ≤ unsettled s arcs
one_less s t h [] a c e f = none_among c
one_less s t h (b ∷ arcs) a c e f =
    elim (Contains-cases b arcs a c) as (λ _. unsettled t (b ∷ arcs) + 1 ≤ unsettled s (b ∷ arcs)) [
      | inl same ↦
          let r : unsettled t arcs ≤ unsettled s arcs = no_more s t h arcs in
          let u : cond (t b.to) 0 1 ≤ 0 = none_where (t b.to) (ap (λ (z : Arc). t z.to) same ∙ f) in
          let v : 1 ≤ cond (s b.to) 0 1 = one_where (s b.to) (ap (λ (z : Arc). s z.to) same ∙ e) in omega arith
      | inr later ↦
          let r : unsettled t arcs + 1 ≤ unsettled s arcs = one_less s t h arcs a later e f in
          let u : cond (t b.to) 0 1 ≤ cond (s b.to) 0 1 = no_more_at (s b.to) (t b.to) (h b.to) in omega arith
    ]

unsettled-le : (s : List ℕ → Bool) (arcs : List Arc) → unsettled s arcs ≤ length arcs
unsettled-le s [] = omega arith
unsettled-le s (a ∷ arcs) = let r : unsettled s arcs ≤ length arcs = unsettled-le s arcs in let e : cond (s a.to) 0 1 ≤ 1 = one_at_most (s a.to) in omega arith

-- ---- the least node that waits is settled

module _ (arcs : List Arc) (me : List ℕ) (costs : List ℕ → Option ℕ) (waiting waiting' : ℕ → List ℕ → Bool) (last c : ℕ) (x : List ℕ)
    (h : IsSearch arcs me costs waiting last []) (waited : waiting c x ≡ true) (least : (n : ℕ) (q : List ℕ) → waiting n q ≡ true → c ≤ n)
    (now : (n : ℕ) (q : List ℕ) → waiting' n q ≡ cond ((c == n) && bytes_eq x q) false (waiting n q)) where
  it_is : ℕ → List ℕ → Bool
  it_is n q = (c == n) && bytes_eq x q

  it_or_not_by : (n : ℕ) (q : List ℕ) (b d : Bool) → (c == n) ≡ b → bytes_eq x q ≡ d → ((it_is n q ≡ true) × (c ≡ n) × (x ≡ q)) ⊎ (it_is n q ≡ false)
  unfolding it_is
  it_or_not_by n q true true e f = inl (rw e f, eqb-true c n e, (bytes_eq-Decides x q).0 f)
  it_or_not_by n q true false e f = inr (rw e f)
  it_or_not_by n q false d e f = inr (rw e refl)

  it_or_not : (n : ℕ) (q : List ℕ) → ((it_is n q ≡ true) × (c ≡ n) × (x ≡ q)) ⊎ (it_is n q ≡ false)
  it_or_not n q = it_or_not_by n q (c == n) (bytes_eq x q) refl refl

  gone : (n : ℕ) (q : List ℕ) → it_is n q ≡ true → waiting' n q ≡ false
  unfolding it_is
  gone n q e = now n q ∙ ap (λ b. cond b false (waiting n q)) e

  stays : (n : ℕ) (q : List ℕ) → it_is n q ≡ false → waiting' n q ≡ waiting n q
  unfolding it_is
  stays n q e = now n q ∙ ap (λ b. cond b false (waiting n q)) e

  waited_before : (n : ℕ) (q : List ℕ) → waiting' n q ≡ true → waiting n q ≡ true
  waited_before n q w = elim (it_or_not n q) as (λ _. waiting n q ≡ true) [ inl t ↦ let f = gone n q t.0 in cc | inr f ↦ sym (stays n q f) ∙ w ]

  cost_is : costs x ≡ Some c
  cost_is = h.rightly c x waited

  here_it_is : it_is c x ≡ true
  unfolding it_is
  here_it_is = rw (eq-eqb c c refl) ((bytes_eq-Decides x x).1 refl)

  waits_no_more : waiting' c x ≡ false
  waits_no_more = gone c x here_it_is

  settled_below_now : (n : ℕ) (q : List ℕ) → costs q ≡ Some n → waiting' n q ≡ false → n ≤ c
  settled_below_now n q e w =
      elim (it_or_not n q) as (λ _. n ≤ c) [
        | inl t ↦ let s : c ≡ n = t.1 in omega arith
        | inr f ↦ let l : n ≤ last = h.settled_below n q e (sym (stays n q f) ∙ w) in let u : last ≤ c = h.waits_above c x waited in omega arith
      ]

  none_left : (b : Arc) (n : ℕ) → IsRelaxed costs b n ⊎ Contains [] b → IsRelaxed costs b n
  none_left b n (inl r) = r
  none_left b n (inr none) = none_among none

  leaves_x : Arc → Bool
  leaves_x a = bytes_eq a.from x

  relaxed_now : (b : Arc) (n : ℕ) → Contains arcs b → costs b.from ≡ Some n → waiting' n b.from ≡ false → IsRelaxed costs b n ⊎ Contains (filter leaves_x arcs) b
  unfolding leaves_x
  relaxed_now b n among e w =
      elim (it_or_not n b.from) as (λ _. IsRelaxed costs b n ⊎ Contains (filter leaves_x arcs) b) [
        | inl t ↦ inr (kept_in_filter leaves_x arcs b among ((bytes_eq-Decides b.from x).1 (sym t.2)))
        | inr f ↦ inl (none_left b n (h.relaxed b n among e (sym (stays n b.from f) ∙ w)))
      ]

  leave_now : (b : Arc) → Contains (filter leaves_x arcs) b → Contains arcs b × (b.from ≡ x)
  unfolding leaves_x
  leave_now b i = let f = found_in_filter leaves_x arcs b i in (f.0, (bytes_eq-Decides b.from x).0 f.1)

  -- ---- less is left to do

  stays_settled_by : (q : List ℕ) (n : ℕ) (b : Bool) → waiting n q ≡ b → costs q ≡ Some n → is_settled costs waiting q ≡ true → is_settled costs waiting' q ≡ true
  stays_settled_by q n true w e s = let f : false ≡ true = sym (settled_from costs waiting q n true e w) ∙ s in cc
  stays_settled_by q n false w e s =
      settled_from costs waiting' q n false e (elim (it_or_not n q) as (λ _. waiting' n q ≡ false) [ inl t ↦ gone n q t.0 | inr f ↦ stays n q f ∙ w ])

  stays_settled_at : (q : List ℕ) (o : Option ℕ) → costs q ≡ o → is_settled costs waiting q ≡ true → is_settled costs waiting' q ≡ true
  stays_settled_at q None e s = let f : false ≡ true = sym (ap (λ z. option_map_or (λ k. not (waiting k q)) z false) e) ∙ s in cc
  stays_settled_at q (Some n) e s = stays_settled_by q n (waiting n q) refl e s

  stays_settled : (q : List ℕ) → is_settled costs waiting q ≡ true → is_settled costs waiting' q ≡ true
  stays_settled q s = stays_settled_at q (costs q) refl s

  x_before : is_settled costs waiting x ≡ false
  x_before = settled_from costs waiting x c true cost_is waited

  x_now : is_settled costs waiting' x ≡ true
  x_now = settled_from costs waiting' x c false cost_is waits_no_more

  less_ahead_by : (x ≡ me) ⊎ IsSupported arcs costs x c → ahead arcs me costs waiting' + 1 ≤ ahead arcs me costs waiting
  less_ahead_by (inl e) =
      let r : unsettled (is_settled costs waiting') arcs ≤ unsettled (is_settled costs waiting) arcs = no_more (is_settled costs waiting) (is_settled costs waiting') stays_settled arcs in
      let s : 1 ≤ cond (is_settled costs waiting me) 0 1 = one_where (is_settled costs waiting me) (ap (is_settled costs waiting) (sym e) ∙ x_before) in
      let t : cond (is_settled costs waiting' me) 0 1 ≤ 0 = none_where (is_settled costs waiting' me) (ap (is_settled costs waiting') (sym e) ∙ x_now) in omega arith
  less_ahead_by (inr p) =
      let r : unsettled (is_settled costs waiting') arcs + 1 ≤ unsettled (is_settled costs waiting) arcs =
      one_less (is_settled costs waiting) (is_settled costs waiting') stays_settled arcs p.arc p.among (ap (is_settled costs waiting) p.to ∙ x_before) (ap (is_settled costs waiting') p.to ∙ x_now) in
      let s : cond (is_settled costs waiting' me) 0 1 ≤ cond (is_settled costs waiting me) 0 1 = no_more_at (is_settled costs waiting me) (is_settled costs waiting' me) (stays_settled me) in
      omega arith

  pub less_ahead : ahead arcs me costs waiting' + 1 ≤ ahead arcs me costs waiting
  less_ahead = less_ahead_by (h.supported x c cost_is)

  pub next_settled : IsSettling arcs me costs waiting' c x (ahead arcs me costs waiting') (filter (λ a. bytes_eq a.from x) arcs)
  unfolding leaves_x
  next_settled =
      let f : ahead arcs me costs waiting' + 1 ≤ ahead arcs me costs waiting = less_ahead in
      record {
        search = record {
          here = h.here;
          supported = h.supported;
          rightly = λ n q w. h.rightly n q (waited_before n q w);
          waits_above = λ n q w. least n q (waited_before n q w);
          settled_below = settled_below_now;
          relaxed = relaxed_now;
          small = λ v m e. let s : m + 2 ^ 31 * ahead arcs me costs waiting ≤ 2 ^ 31 * (length arcs + 1) = h.small v m e in omega arith;
        };
        leave = leave_now;
        settled = cost_is;
        waits_no_more = waits_no_more;
        left = omega arith;
        room = let s : c + 2 ^ 31 * ahead arcs me costs waiting ≤ 2 ^ 31 * (length arcs + 1) = h.small x c cost_is in omega arith;
      }

  pub next_small : c ≤ 2 ^ 31 * (length arcs + 1)
  next_small = let s : c + 2 ^ 31 * ahead arcs me costs waiting ≤ 2 ^ 31 * (length arcs + 1) = h.small x c cost_is in omega arith

-- ---- nothing waits

module _ (arcs : List Arc) (me : List ℕ) (costs : List ℕ → Option ℕ) (waiting : ℕ → List ℕ → Bool) (last : ℕ)
    (h : IsSearch arcs me costs waiting last []) (none : (n : ℕ) (q : List ℕ) → waiting n q ≡ false) where
  all_relaxed : (a : Arc) (n : ℕ) → Contains arcs a → costs a.from ≡ Some n → IsRelaxed costs a n
  all_relaxed a n among e = elim (h.relaxed a n among e (none n a.from)) as (λ _. IsRelaxed costs a n) [ inl r ↦ r | inr c ↦ none_among c ]

  tight_by : (v : List ℕ) (m : ℕ) → costs v ≡ Some m → (v ≡ me) ⊎ IsSupported arcs costs v m → (v ≡ me) ⊎ ((a : Arc) × IsTight arcs costs v m a)
  tight_by v m e (inl s) = inl s
  tight_by v m e (inr p) =
      let r = all_relaxed p.arc p.start p.among p.from in
      let same : r.end ≡ m = let f : Some r.end ≡ Some m = sym r.to ∙ (ap costs p.to ∙ e) in cc in
      let l : r.end ≤ p.start + p.arc.metric = r.least in let u : p.start + p.arc.metric ≤ m = p.sum in
      inr (p.arc, record { among = p.among; to = p.to; start = p.start; from = p.from; sum = omega arith })

  pub search_ends : AreLocal arcs me costs
  search_ends = record { here = h.here; relaxed = all_relaxed; supported = λ v m e. tight_by v m e (h.supported v m e) }

-- ---- the start: `me` alone waits

module _ (arcs : List Arc) (me : List ℕ) (costs : List ℕ → Option ℕ) (waiting : ℕ → List ℕ → Bool)
    (costs_are : (q : List ℕ) → costs q ≡ cond (bytes_eq me q) (Some 0) None)
    (waiting_is : (n : ℕ) (q : List ℕ) → waiting n q ≡ cond ((0 == n) && bytes_eq me q) true false) where
  me_itself : bytes_eq me me ≡ true
  me_itself = (bytes_eq-Decides me me).1 refl

  me_waits : waiting 0 me ≡ true
  me_waits = waiting_is 0 me ∙ ap (λ b. cond b true false) me_itself

  me_costs : costs me ≡ Some 0
  me_costs = costs_are me ∙ ap (λ b. cond b (Some 0) None) me_itself

  only_me : (q : List ℕ) (n : ℕ) → costs q ≡ Some n → (q ≡ me) × (n ≡ 0)
  only_me q n e =
      elim (one_or_two me q) as (λ _. (q ≡ me) × (n ≡ 0)) [
        | inl (t, same) ↦ (sym same, let f : Some 0 ≡ Some n = sym (costs_are q ∙ ap (λ b. cond b (Some 0) None) t) ∙ e in let g : 0 ≡ n = cc in sym g)
        | inr f ↦ let g : None ≡ Some n = sym (costs_are q ∙ ap (λ b. cond b (Some 0) None) f) ∙ e in cc
      ]

  only_me_waits : (n : ℕ) (q : List ℕ) (b d : Bool) → (0 == n) ≡ b → bytes_eq me q ≡ d → cond (b && d) true false ≡ true → (q ≡ me) × (n ≡ 0)
  only_me_waits n q true true e f w = (sym ((bytes_eq-Decides me q).0 f), sym (eqb-true 0 n e))
  only_me_waits n q true false e f w = cc
  only_me_waits n q false d e f w = cc

  waiting_one : (n : ℕ) (q : List ℕ) → waiting n q ≡ true → (q ≡ me) × (n ≡ 0)
  waiting_one n q w = only_me_waits n q (0 == n) (bytes_eq me q) refl refl (sym (waiting_is n q) ∙ w)

  pub search_starts : IsSearch arcs me costs waiting 0 []
  search_starts = record {
    here = me_costs;
    supported = λ v m e. inl (only_me v m e).0;
    rightly = λ n q w. let r = waiting_one n q w in ap costs r.0 ∙ (me_costs ∙ ap Some (sym r.1));
    waits_above = λ n q w. omega arith;
    settled_below = λ n q e w. let z : n ≡ 0 = (only_me q n e).1 in omega arith;
    relaxed = λ b n c e w. let r = only_me b.from n e in
        let f : waiting n b.from ≡ true = ap (λ k. waiting k b.from) r.1 ∙ (ap (waiting 0) r.0 ∙ me_waits) in cc;
    small = λ v m e. let z : m ≡ 0 = (only_me v m e).1 in
        let l : unsettled (is_settled costs waiting) arcs ≤ length arcs = unsettled-le (is_settled costs waiting) arcs in
        let k : cond (is_settled costs waiting me) 0 1 ≤ 1 = one_at_most (is_settled costs waiting me) in omega arith;
  }
