-- How many nodes and links a sound scenario has.
use Rattle.std.proofs.Common.{◌≡◌, ℕ, ◌+◌, ◌<◌, ◌≤◌, Bool, true, ◌&&◌, List, [], ◌∷◌, ◌++◌, length, arith, length-append}
use Rattle.std.proofs.lemmas.Bool.{and_parts, ltb-true}
use Rattle.net_laboratory.specs.declared.declared.NodeDecl.{NodeDecl}
use Rattle.net_laboratory.specs.declared.declared.LinkDecl.{LinkDecl}
use Rattle.net_laboratory.specs.Limits.{most_nodes, most_links}
use Rattle.net_laboratory.specs.Scenario.{Laboratory}
use Rattle.net_laboratory.specs.Sound.{is_lifetime, are_admitted, admits_node, admits_link, is_sound}

-- the first of some tests
pub first_of : {a : Bool} (b : Bool) → (a && b) ≡ true → a ≡ true
first_of {a} b h = (and_parts a b h).0

-- as many items as may stand
pub few : {X : Type 0} (admits : List X → X → Bool) (most : ℕ) → ((before : List X) (x : X) → admits before x ≡ true → length before < most)
    → (before xs : List X) → length before ≤ most → are_admitted admits before xs ≡ true → length before + length xs ≤ most
few admits most room before [] fits h = omega arith
few admits most room before (x ∷ xs) fits h =
    let parts = and_parts (admits before x) (are_admitted admits (before ++ x ∷ []) xs) h in
    let len : length (before ++ x ∷ []) ≡ length before + 1 = length-append before (x ∷ []) in
    let here : length before < most = room before x parts.0 in
    let rest : length (before ++ x ∷ []) + length xs ≤ most = few admits most room (before ++ x ∷ []) xs (omega (arith, len, here)) parts.1 in
    omega (arith, len, rest)

pub node_room : (before : List NodeDecl) (node : NodeDecl) → admits_node before node ≡ true → length before < most_nodes
unfolding admits_node
node_room before node h = ltb-true (length before) most_nodes (first_of _ (first_of _ (first_of _ (first_of _ h))))

pub link_room : (nodes : List NodeDecl) (before : List LinkDecl) (link : LinkDecl) → admits_link nodes before link ≡ true → length before < most_links
unfolding admits_link
link_room nodes before link h =
    ltb-true (length before) most_links (first_of _ (first_of _ (first_of _ (first_of _ (first_of _ (first_of _ (first_of _ (first_of _ (first_of _ (first_of _ (first_of _ h)))))))))))

pub few_nodes : (lab : Laboratory) → is_sound lab ≡ true → length lab.nodes ≤ most_nodes
unfolding is_sound
few_nodes lab sound =
    let nodes = (and_parts (is_lifetime lab.ttl) (are_admitted admits_node [] lab.nodes) (first_of _ (first_of _ (first_of _ sound)))).1 in
    let fits = few admits_node most_nodes node_room [] lab.nodes (omega arith) nodes in omega (arith, fits)

pub few_links : (lab : Laboratory) → is_sound lab ≡ true → length lab.links ≤ most_links
unfolding is_sound
few_links lab sound =
    let links = (and_parts _ (are_admitted (admits_link lab.nodes) [] lab.links) (first_of _ (first_of _ sound))).1 in
    let fits = few (admits_link lab.nodes) most_links (link_room lab.nodes) [] lab.links (omega arith) links in omega (arith, fits)
