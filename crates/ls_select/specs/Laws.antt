-- Laws of selections.
use Rattle.std.specs.Prelude.{◌≡◌, ◌≢◌, ℕ, ◌≤◌, List, [], Some, None, true, false, ◌⊎◌}
use Rattle.std.specs.List.{filter, Contains}
use Rattle.ls_select.specs.declared.offer.Offer.{Offer}
use Rattle.ls_select.specs.declared.offer.Selected.{Selected}
use Rattle.ls_select.specs.Selection.{is_own, is_within_reach, best_offers, distance_to, select}

-- one of the best offers is by this node, which isn't `me`, and a least walk to it costs so much
pub record IsOfferedBy (me : List ℕ) (offers : List Offer) (cost : ℕ) (node : List ℕ) : Type 0 where
  pub offer : Offer
  pub among : Contains offers offer
  pub best : Contains (best_offers me offers) offer
  pub by_node : offer.node ≡ node
  pub reached : offer.cost ≡ Some cost
  pub other : is_own me offer ≡ false

-- What a selection says: there is a node, each node is that of a best offer at the cost, each best offer at the cost is there,
-- and no best offer has a lower one.
pub record IsSoundSelection (me : List ℕ) (offers : List Offer) (selected : Selected) : Type 0 where
  pub some : selected.nodes ≢ []
  pub each : (node : List ℕ) → Contains selected.nodes node → IsOfferedBy me offers selected.cost node
  pub all : (o : Offer) → Contains (best_offers me offers) o → o.cost ≡ Some selected.cost → Contains selected.nodes o.node
  pub least : (o : Offer) → Contains (best_offers me offers) o → selected.cost ≤ distance_to o

abbrev pub SelectionIsSound : Type 0
SelectionIsSound = (me : List ℕ) (offers : List Offer) (selected : Selected) → select me offers ≡ Some selected → IsSoundSelection me offers selected

-- nothing is selected where no offer is within reach, or one of the best is of `me`, and only there
pub record NothingSelected : Type 0 where
  pub why : (me : List ℕ) (offers : List Offer) → select me offers ≡ None
      → (filter (is_within_reach me) offers ≡ []) ⊎ ((o : Offer) × Contains (best_offers me offers) o × (is_own me o ≡ true))
  pub none_reached : (me : List ℕ) (offers : List Offer) → filter (is_within_reach me) offers ≡ [] → select me offers ≡ None
  pub own_best : (me : List ℕ) (offers : List Offer) (o : Offer) → Contains (best_offers me offers) o → is_own me o ≡ true → select me offers ≡ None

-- only the offers within reach count
abbrev pub SelectionIsWithinReach : Type 0
SelectionIsWithinReach = (me : List ℕ) (offers : List Offer) → select me offers ≡ select me (filter (is_within_reach me) offers)
