-- What changes between two lists of arcs, both in the order of places, each place once. A place is the node that an arc leaves and the interface there.
use Rattle.std.specs.Prelude.{◌≡◌, ◌≢◌, ℕ, List, [], ◌∷◌, ◌++◌, Option, Some, None, unwrap_or, Bool, true, ◌&&◌, ◌⊎◌, AllPairs, if◌then◌else◌}
use Rattle.std.specs.List.{Contains}
use Rattle.std.specs.List.Sorted.{IsStrictlySortedBy}
use Rattle.std.specs.Ordering.{ordering_then, match_ordering}
use Rattle.std.specs.declared.cmp.Ordering.{Ordering}
use Rattle.std.specs.declared.cmp.Ordering.TheVariants.{Less, Equal}
use Rattle.std.specs.Str.{bytes_eq}
use Rattle.or_base.specs.Order.{bytes_cmp}
use Rattle.ls_graph.specs.declared.arc.Arc.{Arc}
use Rattle.ls_graph.specs.declared.change.LinkChange.{LinkChange}

-- arcs are compared by their places
abbrev pub place_cmp : Arc → Arc → Ordering
place_cmp a b = ordering_then (bytes_cmp a.from b.from) (bytes_cmp a.own_if b.own_if)

-- arcs that are in the order of their places, each place once
abbrev pub AreByPlace : List Arc → Type 0
AreByPlace arcs = IsStrictlySortedBy place_cmp arcs

-- the two are one link in one direction, whatever their metrics
abbrev pub is_same_link : Arc → Arc → Bool
is_same_link a b = bytes_eq a.from b.from && bytes_eq a.own_if b.own_if && bytes_eq a.to b.to && bytes_eq a.other_if b.other_if

-- the metric of a link among arcs, if it is there
abbrev pub metric_among : List Arc → Arc → Option ℕ
metric_among [] a = None
metric_among (b ∷ arcs) a = if is_same_link b a then Some b.metric else metric_among arcs a

-- the change says what the metrics of its link are before and after, which differ; its arc has the later metric, or the earlier where there is no later one
pub record IsChange (before after : List Arc) (c : LinkChange) : Type 0 where
  pub old : c.old ≡ metric_among before c.arc
  pub new : c.new ≡ metric_among after c.arc
  pub differ : c.old ≢ c.new
  pub metric : c.arc.metric ≡ unwrap_or c.new (unwrap_or c.old 0)

-- changes stand in the order of places, and at one place the link that goes comes before the one that arrives
abbrev pub ComesBefore : LinkChange → LinkChange → Type 0
ComesBefore c d = (place_cmp c.arc d.arc ≡ Less) ⊎ ((place_cmp c.arc d.arc ≡ Equal) × (c.new ≡ None) × (d.old ≡ None))

-- these are the changes from the ones to the others: one for each link whose metric differs, in order
pub record AreChanges (before after : List Arc) (changes : List LinkChange) : Type 0 where
  pub sound : (c : LinkChange) → Contains changes c → IsChange before after c
  pub all : (a : Arc) → Contains before a ⊎ Contains after a → metric_among before a ≢ metric_among after a
      → (c : LinkChange) × Contains changes c × (is_same_link c.arc a ≡ true)
  pub in_order : AllPairs ComesBefore changes

-- ---- a change in force

-- the arc stands in its place, in place of what stood there
abbrev pub with_arc_in_place : List Arc → Arc → List Arc
with_arc_in_place [] a = a ∷ []
with_arc_in_place (b ∷ arcs) a = match_ordering (place_cmp a b) (a ∷ b ∷ arcs) (a ∷ arcs) (b ∷ with_arc_in_place arcs a)

-- nothing stands in the arc's place
abbrev pub without_place : List Arc → Arc → List Arc
without_place [] a = []
without_place (b ∷ arcs) a = match_ordering (place_cmp a b) (b ∷ arcs) arcs (b ∷ without_place arcs a)

abbrev pub change_in_force : List Arc → Arc → Option ℕ → List Arc
change_in_force arcs a None = without_place arcs a
change_in_force arcs a (Some metric) = with_arc_in_place arcs a

-- the arcs once the change is in force
abbrev pub with_change : List Arc → LinkChange → List Arc
with_change arcs c = change_in_force arcs c.arc c.new

-- the arcs once all these changes are in force, one after another
abbrev pub with_changes : List Arc → List LinkChange → List Arc
with_changes arcs [] = arcs
with_changes arcs (c ∷ changes) = with_changes (with_change arcs c) changes

-- ---- laws

-- changes from the ones to the others lead there, put in force in their order
abbrev pub ChangesLeadOn : Type 0
ChangesLeadOn =
    (before after : List Arc) (changes : List LinkChange) → AreByPlace before → AreByPlace after → AreChanges before after changes → with_changes before changes ≡ after

-- where nothing changes the arcs are the same
abbrev pub NoChangeIsNone : Type 0
NoChangeIsNone = (before after : List Arc) → AreByPlace before → AreByPlace after → AreChanges before after [] → before ≡ after

-- arcs on the way from the ones to the others: in order, and each of the ones or of the others
pub record AreOnTheWay (before after arcs : List Arc) : Type 0 where
  pub by_place : AreByPlace arcs
  pub of_either : (a : Arc) → Contains arcs a → Contains before a ⊎ Contains after a

-- the change can be put in force next: its arc is of the ones or of the others, its link has the old metric, and no other link is at its place
pub record IsNextChange (before after arcs : List Arc) (c : LinkChange) : Type 0 where
  pub of_either : Contains before c.arc ⊎ Contains after c.arc
  pub old : metric_among arcs c.arc ≡ c.old
  pub alone : (a : Arc) → Contains arcs a → place_cmp a c.arc ≡ Equal → is_same_link a c.arc ≡ true

-- all arcs between two changes are on the way, and the next change fits them
pub record ChangesGoOn : Type 0 where
  pub between : (before after : List Arc) (done left : List LinkChange) → AreByPlace before → AreByPlace after → AreChanges before after (done ++ left)
      → AreOnTheWay before after (with_changes before done)
  pub next : (before after : List Arc) (done : List LinkChange) (c : LinkChange) (left : List LinkChange) → AreByPlace before → AreByPlace after
      → AreChanges before after (done ++ c ∷ left) → IsNextChange before after (with_changes before done) c
