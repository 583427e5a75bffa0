-- A row more, in the order of costs; and how all nodes come to wait.
use Rattle.std.proofs.Common.{option_map, ◌≤◌, ◌≡◌, ℕ, ◌==◌, List, ◌∷◌, Bool, true, false, cond, ◌&&◌, Option, Some, None, refl, sym, ◌∙◌, ap, ◌⊎◌, inl, inr, arith}
use Rattle.std.specs.Prelude.{All}
use Rattle.std.specs.BTreeMap.{BTreeMap, IsEmpty, is_at}
use Rattle.std.specs.Map.{lookup}
use Rattle.std.specs.Ordering.{nat_cmp}
use Rattle.std.specs.Cmp.Lexicographic.{slice_cmp}
use Rattle.std.specs.Str.{bytes_eq}
use Rattle.std.proofs.lemmas.Map.Text.{is_eq-slice_cmp}
use Rattle.std.proofs.lemmas.Slice.Eq.{bytes_eq-Decides}
use Rattle.std.proofs.lemmas.List.Elements.{All-head, All-same}
use borrow.Author.Tests.{eqb-true, eq-eqb}
use Rattle.ls_graph.specs.declared.arc.Arc.{Arc}
use Rattle.ls_spf.specs.declared.table.PathRow.{PathRow}
use Rattle.ls_spf.specs.Least.{least_cost}
use Rattle.ls_spf.specs.Search.{WaitRightly}
use Rattle.ls_spf.specs.Table.{right_row}
use Rattle.ls_spf.specs.Rows.{row_in, AreLeast, AreRightBelow, AreRightBut}
use Rattle.ls_spf.proofs.Alone.{no_rows}
use Rattle.ls_spf.proofs.Seeing.{one_or_two}

-- ---- a row more

module _ (arcs : List Arc) (me : List ℕ) (rows rows' : List ℕ → Option PathRow) (waiting waiting' : ℕ → List ℕ → Bool) (c : ℕ) (x : List ℕ) (row : PathRow)
    (h : AreRightBut arcs me rows waiting) (waited : waiting c x ≡ true) (now : (n : ℕ) (q : List ℕ) → waiting' n q ≡ cond ((c == n) && bytes_eq x q) false (waiting n q))
    (is : row ≡ right_row arcs me x c) (put : (q : List ℕ) → rows' q ≡ cond (bytes_eq x q) (Some row) (rows q)) where
  waited_before : (n : ℕ) (q : List ℕ) (b : Bool) → cond b false (waiting n q) ≡ true → waiting n q ≡ true
  waited_before n q true e = cc
  waited_before n q false e = e

  waits_apart : (n : ℕ) (q : List ℕ) (b d : Bool) → bytes_eq x q ≡ d → d ≡ false → cond (b && d) false (waiting n q) ≡ false → waiting n q ≡ false
  waits_apart n q b true f e w = cc
  waits_apart n q true false f e w = w
  waits_apart n q false false f e w = w

  right_then : (n : ℕ) (q : List ℕ) → least_cost arcs me q ≡ Some n → waiting' n q ≡ false → rows' q ≡ Some (right_row arcs me q n)
  right_then n q e w =
      elim (one_or_two x q) as (λ _. rows' q ≡ Some (right_row arcs me q n)) [
        | inl (t, same) ↦
            let c_is : c ≡ n = let f : Some c ≡ Some n = sym (h.least c x waited) ∙ (ap (least_cost arcs me) same ∙ e) in cc in
            put q ∙ (ap (λ b. cond b (Some row) (rows q)) t ∙ ap Some (is ∙ (ap (λ z. right_row arcs me z c) same ∙ ap (right_row arcs me q) c_is)))
        | inr f ↦
            put q ∙ (ap (λ b. cond b (Some row) (rows q)) f ∙ h.right n q e (waits_apart n q (c == n) (bytes_eq x q) refl f (sym (now n q) ∙ w)))
      ]

  none_then : (q : List ℕ) → least_cost arcs me q ≡ None → rows' q ≡ None
  none_then q e =
      elim (one_or_two x q) as (λ _. rows' q ≡ None) [
        | inl (t, same) ↦ let f : Some c ≡ None = sym (h.least c x waited) ∙ (ap (least_cost arcs me) same ∙ e) in cc
        | inr f ↦ put q ∙ (ap (λ b. cond b (Some row) (rows q)) f ∙ h.none q e)
      ]

  pub row_more : AreRightBut arcs me rows' waiting'
  row_more = record {
    least = λ n q w. h.least n q (waited_before n q ((c == n) && bytes_eq x q) (sym (now n q) ∙ w));
    right = right_then;
    none = none_then;
  }

-- ---- a node more waits

module _ (costs : List ℕ → Option ℕ) (waiting waiting' : ℕ → List ℕ → Bool) (k : List ℕ) (c : ℕ) (left left' : List (List ℕ × ℕ)) (turn : (k, c) ∷ left' ≡ left)
    (now : (n : ℕ) (q : List ℕ) → waiting' n q ≡ cond ((c == n) && bytes_eq k q) true (waiting n q)) where
  costs_at : All (λ (e : List ℕ × ℕ). costs e.0 ≡ Some e.1) left → costs k ≡ Some c
  costs_at all = All-head (λ (e : List ℕ × ℕ). costs e.0 ≡ Some e.1) (k, c) left' (All-same (λ (e : List ℕ × ℕ). costs e.0 ≡ Some e.1) ((k, c) ∷ left') left turn all)

  at_cost_by : (n : ℕ) (q : List ℕ) (b d : Bool) → (c == n) ≡ b → bytes_eq k q ≡ d → costs k ≡ Some c → (waiting n q ≡ true → costs q ≡ Some n)
      → cond (b && d) true (waiting n q) ≡ true → costs q ≡ Some n
  at_cost_by n q true true e f is before w = ap costs (sym ((bytes_eq-Decides k q).0 f)) ∙ (is ∙ ap Some (eqb-true c n e))
  at_cost_by n q true false e f is before w = before w
  at_cost_by n q false d e f is before w = before w

  pub at_cost_more : All (λ (e : List ℕ × ℕ). costs e.0 ≡ Some e.1) left → WaitRightly costs waiting → WaitRightly costs waiting'
  at_cost_more all rightly n q w = at_cost_by n q (c == n) (bytes_eq k q) refl refl (costs_at all) (rightly n q) (sym (now n q) ∙ w)

  still_waits : (n : ℕ) (q : List ℕ) (b : Bool) → waiting n q ≡ true → cond b true (waiting n q) ≡ true
  still_waits n q true w = refl
  still_waits n q false w = w

  found_by : (n : ℕ) (q : List ℕ) (d : Bool) → bytes_eq q k ≡ d → cond d (Some c) (lookup (is_at (slice_cmp nat_cmp q)) left') ≡ Some n
      → (waiting' n q ≡ true) ⊎ (lookup (is_at (slice_cmp nat_cmp q)) left' ≡ Some n)
  found_by n q true f e =
      let same : k ≡ q = sym ((bytes_eq-Decides q k).0 f) in
      let here : bytes_eq k q ≡ true = (bytes_eq-Decides k q).1 same in
      let c_is : c ≡ n = let g : Some c ≡ Some n = e in cc in
      inl (now n q ∙ (ap (λ b. cond ((c == n) && b) true (waiting n q)) here ∙ ap (λ b. cond (b && true) true (waiting n q)) (eq-eqb c n c_is)))
  found_by n q false f e = inr e

  pub each_more : (n : ℕ) (q : List ℕ) → (waiting n q ≡ true) ⊎ (lookup (is_at (slice_cmp nat_cmp q)) left ≡ Some n)
      → (waiting' n q ≡ true) ⊎ (lookup (is_at (slice_cmp nat_cmp q)) left' ≡ Some n)
  each_more n q (inl w) = inl (now n q ∙ still_waits n q ((c == n) && bytes_eq k q) w)
  each_more n q (inr e) =
      found_by n q (bytes_eq q k) refl
      (sym (ap (λ b. cond b (Some c) (lookup (is_at (slice_cmp nat_cmp q)) left')) (is_eq-slice_cmp q k)) ∙ (ap (lookup (is_at (slice_cmp nat_cmp q))) turn ∙ e))

-- ---- the start and the end

-- where nothing that costs less waits, what costs less has its row
pub none_below : (arcs : List Arc) (me : List ℕ) (rows : List ℕ → Option PathRow) (waiting : ℕ → List ℕ → Bool) (c : ℕ) → AreRightBut arcs me rows waiting
    → ((n : ℕ) (q : List ℕ) → waiting n q ≡ true → c ≤ n) → AreRightBelow arcs me rows c
none_below arcs me rows waiting c h least q n less is = h.right n q is (by (waiting n q) refl)
  where
    by : (b : Bool) → waiting n q ≡ b → waiting n q ≡ false
    by true w = let l : c ≤ n = least n q w in absurd (omega arith)
    by false w = w

pub starts_right : (arcs : List Arc) (me : List ℕ) (costs : List ℕ → Option ℕ) (waiting : ℕ → List ℕ → Bool) (rows : BTreeMap (List ℕ) PathRow) → AreLeast arcs me costs
    → WaitRightly costs waiting → ((n : ℕ) (q : List ℕ) → costs q ≡ Some n → waiting n q ≡ true) → IsEmpty rows → AreRightBut arcs me (row_in rows) waiting
starts_right arcs me costs waiting rows least rightly all empty = record {
  least = λ n q w. sym (least q) ∙ rightly n q w;
  right = λ n q is w. let f : waiting n q ≡ true = all n q (least q ∙ is) in cc;
  none = λ q is. no_rows rows empty q;
}

pub ends_right : (arcs : List Arc) (me : List ℕ) (rows : List ℕ → Option PathRow) (waiting : ℕ → List ℕ → Bool) → AreRightBut arcs me rows waiting
    → ((n : ℕ) (q : List ℕ) → waiting n q ≡ false) → (q : List ℕ) → rows q ≡ option_map (right_row arcs me q) (least_cost arcs me q)
ends_right arcs me rows waiting h none q = by (least_cost arcs me q) refl
  where
    by : (o : Option ℕ) → least_cost arcs me q ≡ o → rows q ≡ option_map (right_row arcs me q) (least_cost arcs me q)
    by None e = h.none q e ∙ ap (option_map (right_row arcs me q)) (sym e)
    by (Some n) e = h.right n q e (none n q) ∙ ap (option_map (right_row arcs me q)) (sym e)
