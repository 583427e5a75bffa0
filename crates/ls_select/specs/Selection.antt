-- Which nodes a prefix is routed to, of those that offer it.
use Rattle.std.specs.Prelude.{ℕ, List, [], ◌∷◌, fold, map, max, min, Option, Some, None, is_some, option_map, unwrap_or, Bool, true, false, not, ◌||◌, ◌==◌, if◌then◌else◌}
use Rattle.std.specs.List.{filter, list_any}
use Rattle.std.specs.Option.{option_map_or}
use Rattle.std.specs.Str.{bytes_eq}
use Rattle.ls_select.specs.declared.offer.Offer.{Offer}
use Rattle.ls_select.specs.declared.offer.Selected.{Selected}

-- ---- which offers count

-- the offer is of `me`
abbrev pub is_own : List ℕ → Offer → Bool
is_own me o = bytes_eq o.node me

-- the node that offers is `me`, or some walk leads to it
abbrev pub is_within_reach : List ℕ → Offer → Bool
is_within_reach me o = is_own me o || is_some o.cost

abbrev pub takes_transit : Offer → Bool
takes_transit o = not o.overload

abbrev pub has_none : List Offer → Bool
has_none [] = true
has_none (o ∷ os) = false

-- offers of overloaded nodes are left out, unless all are of such nodes
abbrev pub without_overloaded : List Offer → List Offer
without_overloaded offers = if has_none (filter takes_transit offers) then offers else filter takes_transit offers

-- ---- which are best

-- those with this number
abbrev pub with_number : (Offer → ℕ) → List Offer → ℕ → List Offer
with_number number offers n = filter (λ o. number o == n) offers

-- the greatest of a number of the offers; 0 where there is none
abbrev pub greatest_of : (Offer → ℕ) → List Offer → ℕ
greatest_of number offers = fold (λ so_far o. max so_far (number o)) 0 offers

-- those with the greatest of a number
abbrev pub with_greatest : (Offer → ℕ) → List Offer → List Offer
with_greatest number offers = with_number number offers (greatest_of number offers)

-- the least of a number of the offers, if there is one
abbrev pub least_among : (Offer → ℕ) → List Offer → Option ℕ
least_among number [] = None
least_among number (o ∷ os) = Some (fold (λ so_far p. min so_far (number p)) (number o) os)

-- those with the least of a number
abbrev pub with_least : (Offer → ℕ) → List Offer → List Offer
with_least number offers = option_map_or (with_number number offers) (least_among number offers) offers

-- of the offers that count those with the highest path preference; of these those with the highest source preference; of these those with the lowest distance
unfoldable pub best_offers : List ℕ → List Offer → List Offer
best_offers me offers =
    with_least (λ o. o.entry.distance)
    (with_greatest (λ o. o.entry.source)
    (with_greatest (λ o. o.entry.path)
    (without_overloaded (filter (is_within_reach me) offers))))

-- ---- which nodes are selected

-- how far away the node that offers is
abbrev pub distance_to : Offer → ℕ
distance_to o = unwrap_or o.cost 0

abbrev pub names_of : List Offer → List (List ℕ)
names_of offers = map (λ o. o.node) offers

-- the nearest of these
abbrev pub nearest : List Offer → Option Selected
nearest offers = option_map (λ cost. record { cost = cost; nodes = names_of (with_number distance_to offers cost) }) (least_among distance_to offers)

-- Of offers for one prefix: the least cost among the best, and the nodes of all best offers at that cost. None where none is left, or one of the best is of `me`.
unfoldable pub select : List ℕ → List Offer → Option Selected
select me offers = if list_any (is_own me) (best_offers me offers) then None else nearest (best_offers me offers)
