-- Selections of a few offers, computed.
use Rattle.std.proofs.Common.{◌≡◌, ℕ, List, [], ◌∷◌, codes, Option, Some, None, Bool, true, false, refl}
use Rattle.or_base.specs.declared.prefix.Prefix.{Prefix}
use Rattle.ls_select.specs.declared.offer.Offer.{Offer}
use Rattle.ls_select.specs.Selection.{best_offers, select}

any : Prefix
any = record { v6 = false; bits = 0; len = 0; sound = refl }

-- an offer by this node, with its path, source and distance, whether it is overloaded, and what a way to it costs
offer : List ℕ → ℕ → ℕ → ℕ → Bool → Option ℕ → Offer
offer node path source distance overload cost =
    record { node = node; entry = record { prefix = any; path = path; source = source; distance = distance }; overload = overload; cost = cost }

me : List ℕ
me = codes "a"

b : List ℕ
b = codes "b"

c : List ℕ
c = codes "c"

-- the highest path preference wins, however far away
path_first : select me (offer b 1000 100 0 false (Some 1) ∷ offer c 1001 0 9 false (Some 50) ∷ []) ≡ Some (record { cost = 50; nodes = c ∷ [] })
unfolding select best_offers offer me b c
path_first = refl

-- then the highest source preference
source_next : select me (offer b 1000 100 0 false (Some 1) ∷ offer c 1000 101 9 false (Some 50) ∷ []) ≡ Some (record { cost = 50; nodes = c ∷ [] })
unfolding select best_offers offer me b c
source_next = refl

-- then the lowest distance
distance_next : select me (offer b 1000 100 5 false (Some 1) ∷ offer c 1000 100 4 false (Some 50) ∷ []) ≡ Some (record { cost = 50; nodes = c ∷ [] })
unfolding select best_offers offer me b c
distance_next = refl

-- then the least cost
nearest_last : select me (offer b 1000 100 0 false (Some 2) ∷ offer c 1000 100 0 false (Some 1) ∷ []) ≡ Some (record { cost = 1; nodes = c ∷ [] })
unfolding select best_offers offer me b c
nearest_last = refl

-- two that are as good and as near are both selected
both : select me (offer b 1000 100 0 false (Some 3) ∷ offer c 1000 100 0 false (Some 3) ∷ []) ≡ Some (record { cost = 3; nodes = b ∷ c ∷ [] })
unfolding select best_offers offer me b c
both = refl

-- an overloaded node is left out, unless all are
overloaded_left_out : select me (offer b 1001 100 0 true (Some 1) ∷ offer c 1000 100 0 false (Some 9) ∷ []) ≡ Some (record { cost = 9; nodes = c ∷ [] })
unfolding select best_offers offer me b c
overloaded_left_out = refl

all_overloaded : select me (offer b 1001 100 0 true (Some 1) ∷ offer c 1000 100 0 true (Some 9) ∷ []) ≡ Some (record { cost = 1; nodes = b ∷ [] })
unfolding select best_offers offer me b c
all_overloaded = refl

-- a node that no walk reaches doesn't count
out_of_reach : select me (offer b 1001 100 0 false None ∷ offer c 1000 100 0 false (Some 9) ∷ []) ≡ Some (record { cost = 9; nodes = c ∷ [] })
unfolding select best_offers offer me b c
out_of_reach = refl

-- an own offer among the best leaves no route
own_best : select me (offer me 1000 100 0 false (Some 0) ∷ offer b 1000 100 0 false (Some 1) ∷ []) ≡ None
unfolding select best_offers offer me b
own_best = refl

-- that of an overloaded `me` is left out like any other
own_overloaded : select me (offer me 1000 100 0 true (Some 0) ∷ offer b 1000 100 0 false (Some 1) ∷ []) ≡ Some (record { cost = 1; nodes = b ∷ [] })
unfolding select best_offers offer me b
own_overloaded = refl
