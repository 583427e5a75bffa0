-- Small cases that compute keep the definitions honest.
use Rattle.std.proofs.Common.{◌≡◌, ℕ, List, [], ◌∷◌, true, false, Some, None, refl}
use Rattle.ls_graph.specs.declared.arc.Arc.{Arc}
use Rattle.ls_spf.specs.declared.table.PathRow.{PathRow}
use Rattle.ls_spf.specs.Least.{least_cost, first_interfaces}
use Rattle.ls_spf.specs.Slack.{is_slack_at, is_slack_change}
use Rattle.ls_spf.specs.Table.{tight_arcs}

abbrev a : List ℕ
a = 97 ∷ []

abbrev b : List ℕ
b = 98 ∷ []

abbrev c : List ℕ
c = 99 ∷ []

abbrev d : List ℕ
d = 100 ∷ []

-- an arc whose interfaces have numbers for names
abbrev arc : List ℕ → ℕ → List ℕ → ℕ → ℕ → Arc
arc from own to other metric = record { from = from; own_if = own ∷ []; to = to; other_if = other ∷ []; metric = metric }

-- ---- a square: a has links to b and c, and so has d, all of one metric

abbrev square : List Arc
square = arc a 1 b 1 1 ∷ arc a 2 c 1 1 ∷ arc b 1 a 1 1 ∷ arc b 2 d 1 1 ∷ arc c 1 a 2 1 ∷ arc c 2 d 2 1 ∷ arc d 1 b 2 1 ∷ arc d 2 c 2 1 ∷ []

two_steps : least_cost square a d ≡ Some 2
unfolding least_cost
two_steps = refl

both_ways : first_interfaces square a d ≡ (1 ∷ []) ∷ (2 ∷ []) ∷ []
unfolding first_interfaces least_cost
both_ways = refl

one_way : first_interfaces square a b ≡ (1 ∷ []) ∷ []
unfolding first_interfaces least_cost
one_way = refl

both_tight : tight_arcs square a d 2 ≡ arc b 2 d 1 1 ∷ arc c 2 d 2 1 ∷ []
unfolding least_cost
both_tight = refl

-- ---- two links from a to b of different metrics, and a way over c that costs as much as the dearer

abbrev parallel : List Arc
parallel = arc a 1 b 1 1 ∷ arc a 2 b 2 3 ∷ arc a 3 c 1 1 ∷ arc c 2 b 3 2 ∷ []

the_cheaper : least_cost parallel a b ≡ Some 1
unfolding least_cost
the_cheaper = refl

the_cheaper_alone : first_interfaces parallel a b ≡ (1 ∷ []) ∷ []
unfolding first_interfaces least_cost
the_cheaper_alone = refl

no_way_back : least_cost parallel b a ≡ None
unfolding least_cost
no_way_back = refl

it_stays : first_interfaces parallel a a ≡ []
unfolding first_interfaces least_cost
it_stays = refl

-- ---- what is slack where a costs nothing and b costs 2

abbrev row : ℕ → PathRow
row cost = record { cost = cost; hops = []; tight = [] }

abbrev rows : List (List ℕ × PathRow)
rows = (a, row 0) ∷ (b, row 2) ∷ []

dearer : is_slack_at rows (arc a 1 b 1 3) (Some 3) ≡ true
dearer = refl

as_cheap : is_slack_at rows (arc a 1 b 1 2) (Some 2) ≡ false
as_cheap = refl

not_there : is_slack_at rows (arc a 1 b 1 2) None ≡ true
not_there = refl

from_beyond_reach : is_slack_at rows (arc c 1 b 2 1) (Some 1) ≡ true
from_beyond_reach = refl

to_beyond_reach : is_slack_at rows (arc b 3 c 2 9) (Some 9) ≡ false
to_beyond_reach = refl

-- a link that gets cheaper, though it isn't as cheap as a least walk, and one that gets as cheap
still_dearer : is_slack_change rows (record { arc = arc a 1 b 1 3; old = Some 4; new = Some 3 }) ≡ true
still_dearer = refl

now_as_cheap : is_slack_change rows (record { arc = arc a 1 b 1 2; old = Some 4; new = Some 2 }) ≡ false
now_as_cheap = refl

-- a link of a least walk that goes
least_gone : is_slack_change rows (record { arc = arc a 1 b 1 2; old = Some 2; new = None }) ≡ false
least_gone = refl
