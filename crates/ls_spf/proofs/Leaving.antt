-- Where the arcs that leave a node stand among arcs in order.
use Rattle.std.proofs.Common.{◌≡◌, ℕ, zero, suc, ◌<◌, ◌≤◌, List, [], ◌∷◌, length, take, drop, Bool, true, false, cond, not, ◌&&◌, refl, sym, ◌∙◌, ap, arith}
use Rattle.std.specs.List.{filter, AllByRecursion}
use Rattle.std.specs.List.Sorted.{IsStrictlySortedBy, IsPartitionedBy, IsPartitionPoint}
use Rattle.std.specs.Prelude.{slice_index_or}
use Rattle.std.specs.Str.{bytes_eq}
use Rattle.std.specs.Ordering.{ordering_then, is_eq, is_lt, is_gt, is_le}
use Rattle.std.specs.declared.cmp.Ordering.{Ordering}
use Rattle.std.specs.declared.cmp.Ordering.TheVariants.{Less, Equal, Greater}
use Rattle.std.proofs.lemmas.Cmp.{nat_list_cmp_total}
use Rattle.std.proofs.lemmas.Map.Text.{is_eq-slice_cmp}
use Rattle.std.proofs.lemmas.Slice.Eq.{bytes_eq-Decides}
use Rattle.or_base.specs.Order.{bytes_cmp}
use Rattle.ls_graph.specs.declared.arc.Arc.{Arc}
use Rattle.ls_spf.specs.Table.{place_cmp}
use Rattle.ls_spf.specs.Search.{is_before, is_up_to}

-- ---- a point that parts a list

module _ {X : Type 0} (test : X → Bool) where
  kept_all : (xs : List X) → ((k : ℕ) (d : X) → k < length xs → test (slice_index_or xs k d) ≡ true) → filter test xs ≡ xs
  kept_all [] h = refl
  kept_all (x ∷ xs) h = rw (h 0 x (omega arith)) (ap (λ z. x ∷ z) (kept_all xs (λ k d l. h (suc k) d (omega arith))))

  kept_none : (xs : List X) → ((k : ℕ) (d : X) → k < length xs → test (slice_index_or xs k d) ≡ false) → filter test xs ≡ []
  kept_none [] h = refl
  kept_none (x ∷ xs) h = rw (h 0 x (omega arith)) (kept_none xs (λ k d l. h (suc k) d (omega arith)))

  pub take_at_point : (xs : List X) (i : ℕ) → i ≤ length xs → IsPartitionPoint (λ y. test y ≡ true) (λ y. test y ≡ false) xs i → take i xs ≡ filter test xs
  take_at_point xs zero l p = sym (kept_none xs (λ k d h. p.1 k d (omega arith) h))
  take_at_point [] (suc i) l p = absurd (omega arith)
  take_at_point (x ∷ xs) (suc i) l p =
      let e : test x ≡ true = p.0 0 x (omega arith) (omega arith) in
      rw e (ap (λ z. x ∷ z) (take_at_point xs i (omega arith) (λ k d g h. p.0 (suc k) d (omega arith) (omega arith), λ k d g h. p.1 (suc k) d (omega arith) (omega arith))))

  pub drop_at_point : (xs : List X) (i : ℕ) → i ≤ length xs → IsPartitionPoint (λ y. test y ≡ true) (λ y. test y ≡ false) xs i → drop i xs ≡ filter (λ y. not (test y)) xs
  drop_at_point [] zero l p = refl
  drop_at_point (x ∷ xs) zero l p =
      let e : test x ≡ false = p.1 0 x (omega arith) (omega arith) in
      rw e (ap (λ z. x ∷ z) (drop_at_point xs 0 (omega arith) (λ k d g h. absurd (omega arith), λ k d g h. p.1 (suc k) d (omega arith) (omega arith))))
  drop_at_point [] (suc i) l p = absurd (omega arith)
  drop_at_point (x ∷ xs) (suc i) l p =
      let e : test x ≡ true = p.0 0 x (omega arith) (omega arith) in
      rw e (drop_at_point xs i (omega arith) (λ k d g h. p.0 (suc k) d (omega arith) (omega arith), λ k d g h. p.1 (suc k) d (omega arith) (omega arith)))

all_at : {X : Type 0} (P : X → Type 0) (xs : List X) (j : ℕ) (d : X) → AllByRecursion P xs → j < length xs → P (slice_index_or xs j d)
all_at P [] j d h l = absurd (omega arith)
all_at P (x ∷ xs) zero d h l = h.0
all_at P (x ∷ xs) (suc j) d h l = all_at P xs j d h.1 (omega arith)

-- a test that holds of what is below whatever it holds of parts a list in order
parted : {X : Type 0} (cmp : X → X → Ordering) (test : X → Bool) → ((x y : X) → cmp x y ≡ Less → test y ≡ true → test x ≡ true)
    → (xs : List X) → IsStrictlySortedBy cmp xs → (i j : ℕ) (d : X) → i ≤ j → j < length xs → test (slice_index_or xs j d) ≡ true → test (slice_index_or xs i d) ≡ true
unfolding IsStrictlySortedBy
parted cmp test below [] s i j d l m t = absurd (omega arith)
parted cmp test below (x ∷ xs) s zero zero d l m t = t
parted cmp test below (x ∷ xs) s zero (suc j) d l m t = below x (slice_index_or xs j d) (all_at (λ y. cmp x y ≡ Less) xs j d s.0 (omega arith)) t
parted cmp test below (x ∷ xs) s (suc i) zero d l m t = absurd (omega arith)
parted cmp test below (x ∷ xs) s (suc i) (suc j) d l m t = parted cmp test below xs s.1 i j d (omega arith) (omega arith) t

-- ---- arcs in the order of their places

-- what stands before an arc leaves a node that is below the arc's, or the same
module _ (x y node : List ℕ) where
  start_order : (p o : Ordering) → bytes_cmp x y ≡ p → ordering_then p o ≡ Less → is_gt (bytes_cmp x y) ≡ false
  start_order Less o e f = ap is_gt e
  start_order Equal o e f = ap is_gt e
  start_order Greater o e f = cc

  below_by : (p q : Ordering) → bytes_cmp x y ≡ p → bytes_cmp y node ≡ q → is_gt p ≡ false → is_lt q ≡ true → is_lt (bytes_cmp x node) ≡ true
  below_by Less Less e f g h = ap is_lt (nat_list_cmp_total.trans x y node e f)
  below_by Equal Less e f g h = ap is_lt (nat_list_cmp_total.congr x y node e ∙ f)
  below_by Greater q e f g h = cc
  below_by p Equal e f g h = cc
  below_by p Greater e f g h = cc

  up_to_by : (p q : Ordering) → bytes_cmp x y ≡ p → bytes_cmp y node ≡ q → is_gt p ≡ false → is_le q ≡ true → is_le (bytes_cmp x node) ≡ true
  up_to_by Less Less e f g h = ap is_le (nat_list_cmp_total.trans x y node e f)
  up_to_by Equal q e f g h = ap is_le (nat_list_cmp_total.congr x y node e ∙ f) ∙ h
  up_to_by Less Equal e f g h =
      let same : y ≡ node = (bytes_eq-Decides y node).0 (sym (is_eq-slice_cmp y node) ∙ ap is_eq f) in
      ap is_le (ap (bytes_cmp x) (sym same) ∙ e)
  up_to_by Greater q e f g h = cc
  up_to_by p Greater e f g h = cc

module _ (node : List ℕ) (arcs : List Arc) (order : IsStrictlySortedBy place_cmp arcs) where
  pub before_parted : IsPartitionedBy (is_before node) arcs
  before_parted = parted place_cmp (is_before node)
      (λ x y l t. below_by x.from y.from node (bytes_cmp x.from y.from) (bytes_cmp y.from node) refl refl
      (start_order x.from y.from node (bytes_cmp x.from y.from) (bytes_cmp x.own_if y.own_if) refl l) t)
      arcs order

  pub up_to_parted : IsPartitionedBy (is_up_to node) arcs
  up_to_parted = parted place_cmp (is_up_to node)
      (λ x y l t. up_to_by x.from y.from node (bytes_cmp x.from y.from) (bytes_cmp y.from node) refl refl
      (start_order x.from y.from node (bytes_cmp x.from y.from) (bytes_cmp x.own_if y.own_if) refl l) t)
      arcs order

-- ---- neither before the node nor after it

only_equal : (o : Ordering) → (not (is_lt o) && is_le o) ≡ is_eq o
only_equal Less = refl
only_equal Equal = refl
only_equal Greater = refl

twice_by : {X : Type 0} (x : X) (xs : List X) (later : X → Bool) (b c d : Bool) → later x ≡ c → (b && c) ≡ d
    → filter later (cond b (x ∷ xs) xs) ≡ cond d (x ∷ filter later xs) (filter later xs)
twice_by x xs later true true d e f = rw (e, sym f) refl
twice_by x xs later true false d e f = rw (e, sym f) refl
twice_by x xs later false c d e f = rw (sym f) refl

pub from_and_up_to : (node : List ℕ) (arcs : List Arc) → filter (is_up_to node) (filter (λ a. not (is_before node a)) arcs) ≡ filter (λ a. bytes_eq a.from node) arcs
from_and_up_to node [] = refl
from_and_up_to node (a ∷ arcs) =
    twice_by a (filter (λ z. not (is_before node z)) arcs) (is_up_to node) (not (is_before node a)) (is_up_to node a) (bytes_eq a.from node) refl
    (only_equal (bytes_cmp a.from node) ∙ is_eq-slice_cmp a.from node)
    ∙ ap (λ z. cond (bytes_eq a.from node) (a ∷ z) z) (from_and_up_to node arcs)
