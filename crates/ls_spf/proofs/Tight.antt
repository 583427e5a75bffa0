-- How the tight arcs of all nodes are found by one walk over the arcs.
use Rattle.std.proofs.Common.{◌≡◌, ℕ, suc, ◌+◌, ◌<◌, List, [], ◌∷◌, ◌++◌, length, get_or, drop, Bool, true, false, cond, ◌&&◌, ◌==◌, Option, Some, refl, sym, ◌∙◌, ap, inl, inr}
use Rattle.std.proofs.Math.Seq.{drop-cons}
use Rattle.std.proofs.Math.Numerals.{add-one}
use Rattle.std.specs.BTreeMap.{BTreeMap, get}
use Rattle.std.specs.Option.{option_map_or}
use Rattle.std.specs.Ordering.{nat_cmp, is_eq}
use Rattle.std.specs.Cmp.Lexicographic.{slice_cmp}
use Rattle.std.specs.Str.{bytes_eq}
use Rattle.std.proofs.lemmas.Map.Text.{is_eq-slice_cmp}
use Rattle.std.proofs.lemmas.Slice.Eq.{bytes_eq-Decides}
use borrow.Author.Tests.{eqb-false}
use Rattle.ls_graph.specs.declared.arc.Arc.{Arc}
use Rattle.ls_spf.specs.Rows.{is_tight, tight_to, arcs_in, HaveTight}
use Rattle.ls_spf.specs.Table.{tight_arcs}
use Rattle.ls_spf.proofs.Seeing.{one_or_two}

-- ---- a map of arcs, with one more

pub arcs_put : {V : Type 0} (all mid all' : BTreeMap (List ℕ) V) (items : V → List Arc) (node copy : List ℕ) (v : V) (a : Arc) → copy ≡ node
    → items v ≡ arcs_in all items node ++ a ∷ [] → ((q : List ℕ) → bytes_eq node q ≡ false → arcs_in mid items q ≡ arcs_in all items q)
    → ((q : List ℕ) → get (slice_cmp nat_cmp) all' q ≡ cond (is_eq (slice_cmp nat_cmp copy q)) (Some v) (get (slice_cmp nat_cmp) mid q))
    → (q : List ℕ) → arcs_in all' items q ≡ cond (bytes_eq node q) (arcs_in all items q ++ a ∷ []) (arcs_in all items q)
arcs_put all mid all' items node copy v a same put others update q =
    let test : is_eq (slice_cmp nat_cmp copy q) ≡ bytes_eq node q = is_eq-slice_cmp copy q ∙ ap (λ z. bytes_eq z q) same in
    let found = ap (λ o. option_map_or items o []) (update q ∙ ap (λ b. cond b (Some v) (get (slice_cmp nat_cmp) mid q)) test) in
    elim (one_or_two node q) as (λ _. arcs_in all' items q ≡ cond (bytes_eq node q) (arcs_in all items q ++ a ∷ []) (arcs_in all items q)) [
      | inl (t, is) ↦
          found
          ∙ (ap (λ b. option_map_or items (cond b (Some v) (get (slice_cmp nat_cmp) mid q)) []) t
          ∙ (put
          ∙ (ap (λ z. arcs_in all items z ++ a ∷ []) is
          ∙ sym (ap (λ b. cond b (arcs_in all items q ++ a ∷ []) (arcs_in all items q)) t))))
      | inr f ↦
          found
          ∙ (ap (λ b. option_map_or items (cond b (Some v) (get (slice_cmp nat_cmp) mid q)) []) f
          ∙ (others q f
          ∙ sym (ap (λ b. cond b (arcs_in all items q ++ a ∷ []) (arcs_in all items q)) f)))
    ]

-- ---- one arc of the walk

push_then : {X : Type 0} (xs : List X) (x : X) (ys : List X) → (xs ++ x ∷ []) ++ ys ≡ xs ++ x ∷ ys
push_then [] x ys = refl
push_then (z ∷ xs) x ys = ap (λ w. z ∷ w) (push_then xs x ys)

kept_by : (found rest : List Arc) (a : Arc) (b : Bool) → cond b (found ++ a ∷ []) found ++ rest ≡ found ++ cond (b && true) (a ∷ rest) rest
kept_by found rest a true = push_then found a rest
kept_by found rest a false = refl

passed_by : (rest : List Arc) (a : Arc) (b : Bool) → rest ≡ cond (b && false) (a ∷ rest) rest
passed_by rest a true = refl
passed_by rest a false = refl

module _ (costs : List ℕ → Option ℕ) (arcs : List Arc) (i : ℕ) (a : Arc) (within : i < length arcs) (at : a ≡ get_or arcs i a) (q : List ℕ) (found all : List Arc)
    (before : found ++ tight_to costs q (drop i arcs) ≡ all) where
  next : drop i arcs ≡ a ∷ drop (i + 1) arcs
  next = drop-cons arcs i a within ∙ (ap (λ z. z ∷ drop (suc i) arcs) (sym at) ∙ ap (λ k. a ∷ drop k arcs) (sym (add-one i)))

  rest : List Arc
  rest = tight_to costs q (drop (i + 1) arcs)

  begun : found ++ cond (bytes_eq a.to q && is_tight costs a) (a ∷ rest) rest ≡ all
  unfolding rest
  begun = ap (λ z. found ++ tight_to costs q z) (sym next) ∙ before

  pub tight_put : (found' : List Arc) → found' ≡ cond (bytes_eq a.to q) (found ++ a ∷ []) found → is_tight costs a ≡ true → found' ++ tight_to costs q (drop (i + 1) arcs) ≡ all
  unfolding rest
  tight_put found' put tight =
      ap (λ z. z ++ rest) put
      ∙ (kept_by found rest a (bytes_eq a.to q) ∙ (ap (λ b. found ++ cond (bytes_eq a.to q && b) (a ∷ rest) rest) (sym tight) ∙ begun))

  pub tight_passed : (found' : List Arc) → found' ≡ found → is_tight costs a ≡ false → found' ++ tight_to costs q (drop (i + 1) arcs) ≡ all
  unfolding rest
  tight_passed found' same slack =
      ap (λ z. z ++ rest) same
      ∙ (ap (λ z. found ++ z) (passed_by rest a (bytes_eq a.to q)) ∙ (ap (λ b. found ++ cond (bytes_eq a.to q && b) (a ∷ rest) rest) (sym slack) ∙ begun))

-- ---- the tight arcs of one node are taken

pub still_tight : (arcs : List Arc) (me : List ℕ) (tight tight' : List ℕ → List Arc) (waiting waiting' : ℕ → List ℕ → Bool) (c : ℕ) (x : List ℕ)
    → ((n : ℕ) → waiting n x ≡ true → c ≡ n) → ((n : ℕ) (q : List ℕ) → waiting' n q ≡ cond ((c == n) && bytes_eq x q) false (waiting n q))
    → ((q : List ℕ) → bytes_eq x q ≡ false → tight' q ≡ tight q) → HaveTight arcs me tight waiting → HaveTight arcs me tight' waiting'
still_tight arcs me tight tight' waiting waiting' c x one now others have n q w = by (c == n) (bytes_eq x q) refl refl (sym (now n q) ∙ w)
  where
    by : (b d : Bool) → (c == n) ≡ b → bytes_eq x q ≡ d → cond (b && d) false (waiting n q) ≡ true → tight' q ≡ tight_arcs arcs me q n
    by true true e f v = cc
    by b false e f v = others q f ∙ have n q (kept b v)
      where
        kept : (b : Bool) → cond (b && false) false (waiting n q) ≡ true → waiting n q ≡ true
        kept true v = v
        kept false v = v
    by false true e f v =
        let same : x ≡ q = (bytes_eq-Decides x q).0 f in
        absurd (eqb-false c n e (one n (ap (λ z. waiting n z) same ∙ v)))
