-- In a sound laboratory a node has one store, and a link one pair of ends, which differ.
use Rattle.std.proofs.Common.{◌≡◌, ℕ, zero, suc, ◌+◌, ◌≤◌, List, [], ◌∷◌, ◌++◌, Option, Some, Bool, true, false, ◌&&◌, ◌||◌, map, inl, inr, refl, sym, ◌∙◌, ap, subst, arith}
use Rattle.std.specs.Prelude.{slice_get, option_map}
use Rattle.std.specs.Str.{bytes_eq}
use Rattle.std.specs.List.{Contains, flat_map, enumerate_from, list_any}
use Rattle.std.proofs.lemmas.Bool.{and_parts, and_right, not-true, false≢true, cases_Bool}
use Rattle.std.proofs.lemmas.Option.{slice_get-map}
use Rattle.std.proofs.lemmas.List.{map-append}
use Rattle.std.proofs.lemmas.List.Elements.{Contains-append_cases}
use Rattle.std.proofs.lemmas.List.Folds.{list_any-append}
use Rattle.std.proofs.lemmas.Slice.Eq.{bytes_eq-Decides}
use Rattle.or_base.specs.declared.kind.Kind.{Kind}
use Rattle.or_base.specs.declared.kind.Kind.TheVariants.{Stores, Full}
use Rattle.or_base.proofs.Members.{Contains-cases}
use Rattle.net_laboratory.specs.declared.declared.NodeDecl.{NodeDecl}
use Rattle.net_laboratory.specs.declared.declared.LinkDecl.{LinkDecl}
use Rattle.net_laboratory.specs.Scenario.{Laboratory, is_declared}
use Rattle.net_laboratory.proofs.Room.{first_of}
use Rattle.net_laboratory.specs.Sound.{are_admitted, admits_node, admits_link, is_sound}
use Rattle.net_record.specs.declared.role.NodeModule.{NodeModule}
use Rattle.net_record.specs.declared.role.NodeModule.TheVariants.{Store as StoreRole}
use Rattle.net_record.specs.declared.role.NodeSetup.{NodeSetup}
use Rattle.net_record.specs.declared.role.Role.{Role}
use Rattle.net_record.specs.declared.role.Role.TheVariants.{Driver as DriverRole, Node, Link as LinkRole}
use Rattle.net_record.specs.Roles.{modules_of, is_same_module, node_roles, link_role, is_module, roles}
use Rattle.net_record.proofs.Places.{how_many, how_many-append, setup_at}
use Rattle.net_agree.specs.Routed.{AreEnds}
use Rattle.net_agree.proofs.LiftedLists.{some_is}

-- ---- what a sound laboratory says

second_part : {b : Bool} (a : Bool) → (a && b) ≡ true → b ≡ true
second_part {b} a h = (and_parts a b h).1

sound_nodes : (lab : Laboratory) → is_sound lab ≡ true → are_admitted admits_node [] lab.nodes ≡ true
unfolding is_sound
sound_nodes lab sound = second_part _ (first_of _ (first_of _ (first_of _ sound)))

sound_links : (lab : Laboratory) → is_sound lab ≡ true → are_admitted (admits_link lab.nodes) [] lab.links ≡ true
unfolding is_sound
sound_links lab sound = second_part _ (first_of _ (first_of _ sound))

new_name : (before : List NodeDecl) (node : NodeDecl) → admits_node before node ≡ true → is_declared before node.name ≡ false
unfolding admits_node
new_name before node admitted = not-true (is_declared before node.name) (second_part _ (first_of _ (first_of _ admitted)))

two_ends : (nodes : List NodeDecl) (before : List LinkDecl) (link : LinkDecl) → admits_link nodes before link ≡ true → bytes_eq link.a link.b ≡ false
unfolding admits_link
two_ends nodes before link admitted =
    not-true (bytes_eq link.a link.b)
    (second_part _ (first_of _ (first_of _ (first_of _ (first_of _ (first_of _ (first_of _ (first_of _ (first_of _ admitted)))))))))

-- ---- the store of a node

none_true : (bs : List Bool) (j : ℕ) → how_many bs ≡ 0 → slice_get bs j ≡ Some true → ⊥
none_true [] j none there = cc
none_true (true ∷ bs) j none there = omega (arith, none)
none_true (false ∷ bs) zero none there = cc
none_true (false ∷ bs) (suc j) none there = none_true bs j none there

-- of at most one
one_true : (bs : List Bool) (i j : ℕ) → how_many bs ≤ 1 → slice_get bs i ≡ Some true → slice_get bs j ≡ Some true → i ≡ j
one_true [] i j few at_i at_j = cc
one_true (b ∷ bs) zero zero few at_i at_j = refl
one_true (true ∷ bs) zero (suc j) few at_i at_j = absurd (none_true bs j (omega (arith, few)) at_j)
one_true (true ∷ bs) (suc i) zero few at_i at_j = absurd (none_true bs i (omega (arith, few)) at_i)
one_true (false ∷ bs) zero (suc j) few at_i at_j = cc
one_true (false ∷ bs) (suc i) zero few at_i at_j = cc
one_true (true ∷ bs) (suc i) (suc j) few at_i at_j = ap suc (one_true bs i j (omega (arith, few)) at_i at_j)
one_true (false ∷ bs) (suc i) (suc j) few at_i at_j = ap suc (one_true bs i j few at_i at_j)

-- how many stores of the node there are among these roles
abbrev stores_named : List ℕ → List Role → ℕ
stores_named name all = how_many (map (is_module StoreRole name) all)

stores_named-both : (name : List ℕ) (xs ys : List Role) → stores_named name (xs ++ ys) ≡ stores_named name xs + stores_named name ys
stores_named-both name xs ys = ap how_many (map-append (is_module StoreRole name) xs ys) ∙ how_many-append (map (is_module StoreRole name) xs) (map (is_module StoreRole name) ys)

-- a node of another name has none
none_elsewhere : (name node : List ℕ) (setup : NodeSetup) (modules : List NodeModule) → bytes_eq node name ≡ false → stores_named name (map (λ m. Node m node setup) modules) ≡ 0
none_elsewhere name node setup [] other = refl
none_elsewhere name node setup (m ∷ modules) other =
    ap (λ b. how_many (b ∷ map (is_module StoreRole name) (map (λ m. Node m node setup) modules))) (and_right (is_same_module StoreRole m) (bytes_eq node name) other)
    ∙ none_elsewhere name node setup modules other

same_here : (name node : List ℕ) (setup : NodeSetup) (modules : List NodeModule) → bytes_eq node name ≡ true
    → map (is_module StoreRole name) (map (λ m. Node m node setup) modules) ≡ map (λ m. is_same_module StoreRole m && true) modules
same_here name node setup [] same = refl
same_here name node setup (m ∷ modules) same =
    ap (λ b. (is_same_module StoreRole m && b) ∷ map (is_module StoreRole name) (map (λ m. Node m node setup) modules)) same
    ∙ ap (λ bs. (is_same_module StoreRole m && true) ∷ bs) (same_here name node setup modules same)

-- a node's modules have one store at most
abbrev HaveOneStore : List NodeModule → Type 0
HaveOneStore modules = how_many (map (λ m. is_same_module StoreRole m && true) modules) ≤ 1

one_store : (kind : Kind) → HaveOneStore (modules_of kind)
one_store Stores = omega arith
one_store Full = omega arith

or_true : (b : Bool) → (b || true) ≡ true
or_true true = refl
or_true false = refl

same_name : (a b : List ℕ) → bytes_eq a b ≡ true → a ≡ b
same_name a b = (bytes_eq-Decides a b).0

name_itself : (a : List ℕ) → bytes_eq a a ≡ true
name_itself a = (bytes_eq-Decides a a).1 refl

module _ (name : List ℕ) (modules : List NodeModule) (links : List LinkDecl) (ttl : Option ℕ) (one : HaveOneStore modules) where
  abbrev NodesFrom : ℕ → List NodeDecl → List Role
  NodesFrom first nodes = flat_map (node_roles modules links ttl) (enumerate_from first nodes)

  abbrev is_named : NodeDecl → Bool
  is_named node = bytes_eq node.name name

  other_than : (before : List NodeDecl) (node : NodeDecl) → admits_node before node ≡ true → is_declared before name ≡ true → bytes_eq node.name name ≡ false
  other_than before node admitted declared =
      elim (cases_Bool (bytes_eq node.name name)) [
        | inl same ↦ absurd (false≢true (sym (subst (λ n. is_declared before n ≡ false) (same_name node.name name same) (new_name before node admitted)) ∙ declared))
        | inr other ↦ other
      ]

  declared_later : (before : List NodeDecl) (node : NodeDecl) → is_declared before name ≡ true → is_declared (before ++ node ∷ []) name ≡ true
  declared_later before node declared = list_any-append is_named before (node ∷ []) ∙ ap (λ b. b || list_any is_named (node ∷ [])) declared

  declared_last : (before : List NodeDecl) (node : NodeDecl) → bytes_eq node.name name ≡ true → is_declared (before ++ node ∷ []) name ≡ true
  declared_last before node same =
      list_any-append is_named before (node ∷ []) ∙ ap (λ b. is_declared before name || (b || false)) same ∙ or_true (is_declared before name)

  block_is : (first : ℕ) (node : NodeDecl) (nodes : List NodeDecl)
      → stores_named name (NodesFrom first (node ∷ nodes)) ≡ stores_named name (node_roles modules links ttl (first, node)) + stores_named name (NodesFrom (first + 1) nodes)
  block_is first node nodes = stores_named-both name (node_roles modules links ttl (first, node)) (NodesFrom (first + 1) nodes)

  -- behind the node of that name there is none
  none_behind : (before nodes : List NodeDecl) (first : ℕ) → are_admitted admits_node before nodes ≡ true → is_declared before name ≡ true → stores_named name (NodesFrom first nodes) ≡ 0
  none_behind before [] first admitted declared = refl
  none_behind before (node ∷ nodes) first admitted declared =
      let parts = and_parts (admits_node before node) (are_admitted admits_node (before ++ node ∷ []) nodes) admitted in
      let here = none_elsewhere name node.name (setup_at modules links ttl first node) modules (other_than before node parts.0 declared) in
      let later = none_behind (before ++ node ∷ []) nodes (first + 1) parts.1 (declared_later before node declared) in
      omega (arith, block_is first node nodes, here, later)

  one_named : (before nodes : List NodeDecl) (first : ℕ) → are_admitted admits_node before nodes ≡ true → stores_named name (NodesFrom first nodes) ≤ 1
  one_named before [] first admitted = omega arith
  one_named before (node ∷ nodes) first admitted =
      let parts = and_parts (admits_node before node) (are_admitted admits_node (before ++ node ∷ []) nodes) admitted in
      elim (cases_Bool (bytes_eq node.name name)) [
        | inl same ↦
            let here = ap how_many (same_here name node.name (setup_at modules links ttl first node) modules same) in
            let later = none_behind (before ++ node ∷ []) nodes (first + 1) parts.1 (declared_last before node same) in
            omega (arith, block_is first node nodes, here, one, later)
        | inr other ↦
            let here = none_elsewhere name node.name (setup_at modules links ttl first node) modules other in
            let later = one_named (before ++ node ∷ []) nodes (first + 1) parts.1 in
            omega (arith, block_is first node nodes, here, later)
      ]

no_store_link : (name : List ℕ) (first : ℕ) (links : List LinkDecl) → stores_named name (map link_role (enumerate_from first links)) ≡ 0
no_store_link name first [] = refl
no_store_link name first (link ∷ links) = no_store_link name (first + 1) links

stores_in : (lab : Laboratory) (name : List ℕ) → is_sound lab ≡ true → stores_named name (roles lab) ≤ 1
stores_in lab name sound =
    let nodes = flat_map (node_roles (modules_of lab.kind) lab.links lab.ttl) (enumerate_from 0 lab.nodes) in
    let both = stores_named-both name nodes (map link_role (enumerate_from 0 lab.links)) in
    let one = one_named name (modules_of lab.kind) lab.links lab.ttl (one_store lab.kind) [] lab.nodes 0 (sound_nodes lab sound) in
    omega (arith, both, one, no_store_link name 0 lab.links)

role_named : (all : List Role) (x : ℕ) (setup : NodeSetup) (name : List ℕ) → slice_get all x ≡ Some (Node StoreRole name setup) → slice_get (map (is_module StoreRole name) all) x ≡ Some true
role_named all x setup name there = slice_get-map (is_module StoreRole name) all x ∙ ap (option_map (is_module StoreRole name)) there ∙ ap Some (name_itself name)

-- two stores of one node are one actor
pub one_place : (lab : Laboratory) (x y : ℕ) (setup other : NodeSetup) (name : List ℕ) → is_sound lab ≡ true → slice_get (roles lab) x ≡ Some (Node StoreRole name setup)
    → slice_get (roles lab) y ≡ Some (Node StoreRole name other) → x ≡ y
one_place lab x y setup other name sound at_x at_y =
    one_true (map (is_module StoreRole name) (roles lab)) x y (stores_in lab name sound) (role_named (roles lab) x setup name at_x) (role_named (roles lab) y other name at_y)

-- ---- the ends of a link

record IsLinkOf (links : List LinkDecl) (first l : ℕ) (a b : List ℕ) : Type 0 where
  pub place : ℕ
  pub decl : LinkDecl
  pub there : slice_get links place ≡ Some decl
  pub number : l ≡ first + place
  pub end_a : decl.a ≡ a
  pub end_b : decl.b ≡ b

link_parts : (l m : ℕ) (a b c d : List ℕ) → LinkRole l a b ≡ LinkRole m c d → (l ≡ m) × ((a ≡ c) × (b ≡ d))
link_parts l m a b c d same = (cc, (cc, cc))

link_found : (links : List LinkDecl) (first l : ℕ) (a b : List ℕ) → Contains (map link_role (enumerate_from first links)) (LinkRole l a b) → IsLinkOf links first l a b
link_found [] first l a b h = absurd (omega (arith, h.1))
link_found (link ∷ links) first l a b h =
    elim (Contains-cases (link_role (first, link)) (map link_role (enumerate_from (first + 1) links)) (LinkRole l a b) h) [
      | inl same ↦
          let parts = link_parts first l link.a link.b a b same in
          record { place = 0; decl = link; there = refl; number = omega (arith, parts.0); end_a = parts.1.0; end_b = parts.1.1 }
      | inr later ↦
          let found = link_found links (first + 1) l a b later in
          record { place = suc found.place; decl = found.decl; there = found.there; number = omega (arith, found.number); end_a = found.end_a; end_b = found.end_b }
    ]

no_link_in : (modules : List NodeModule) (node : List ℕ) (setup : NodeSetup) (l : ℕ) (a b : List ℕ) → Contains (map (λ m. Node m node setup) modules) (LinkRole l a b) → ⊥
no_link_in [] node setup l a b h = omega (arith, h.1)
no_link_in (m ∷ modules) node setup l a b h =
    elim (Contains-cases (Node m node setup) (map (λ m. Node m node setup) modules) (LinkRole l a b) h) [ inl same ↦ not_link same | inr later ↦ no_link_in modules node setup l a b later ] where
      not_link : Node m node setup ≡ LinkRole l a b → ⊥
      not_link same = cc

no_link_among : (modules : List NodeModule) (links : List LinkDecl) (ttl : Option ℕ) (nodes : List NodeDecl) (first l : ℕ) (a b : List ℕ) → Contains (flat_map (node_roles modules links ttl) (enumerate_from first nodes)) (LinkRole l a b) → ⊥
no_link_among modules links ttl [] first l a b h = omega (arith, h.1)
no_link_among modules links ttl (node ∷ nodes) first l a b h =
    elim (Contains-append_cases (node_roles modules links ttl (first, node)) (flat_map (node_roles modules links ttl) (enumerate_from (first + 1) nodes)) (LinkRole l a b) h) [
      | inl here ↦ no_link_in modules node.name _ l a b here
      | inr later ↦ no_link_among modules links ttl nodes (first + 1) l a b later
    ]

role_link : (lab : Laboratory) (l : ℕ) (a b : List ℕ) → Contains (roles lab) (LinkRole l a b) → IsLinkOf lab.links 0 l a b
role_link lab l a b h =
    let nodes = flat_map (node_roles (modules_of lab.kind) lab.links lab.ttl) (enumerate_from 0 lab.nodes) in
    let links = map link_role (enumerate_from 0 lab.links) in
    elim (Contains-cases DriverRole (nodes ++ links) (LinkRole l a b) h) [
      | inl same ↦ absurd (not_driver same)
      | inr later ↦
          elim (Contains-append_cases nodes links (LinkRole l a b) later) [
            | inl among ↦ absurd (no_link_among (modules_of lab.kind) lab.links lab.ttl lab.nodes 0 l a b among)
            | inr found ↦ link_found lab.links 0 l a b found
          ]
    ] where
      not_driver : DriverRole ≡ LinkRole l a b → ⊥
      not_driver same = cc

differ_at : (nodes : List NodeDecl) (before links : List LinkDecl) (place : ℕ) (decl : LinkDecl) → are_admitted (admits_link nodes) before links ≡ true
    → slice_get links place ≡ Some decl → bytes_eq decl.a decl.b ≡ false
differ_at nodes before [] place decl admitted there = cc
differ_at nodes before (link ∷ links) zero decl admitted there =
    let parts = and_parts (admits_link nodes before link) (are_admitted (admits_link nodes) (before ++ link ∷ []) links) admitted in
    subst (λ (d : LinkDecl). bytes_eq d.a d.b ≡ false) (some_is there) (two_ends nodes before link parts.0)
differ_at nodes before (link ∷ links) (suc place) decl admitted there =
    let parts = and_parts (admits_link nodes before link) (are_admitted (admits_link nodes) (before ++ link ∷ []) links) admitted in
    differ_at nodes (before ++ link ∷ []) links place decl parts.1 there

links_alike : (links : List LinkDecl) (l : ℕ) (a b c d : List ℕ) → IsLinkOf links 0 l a b → IsLinkOf links 0 l c d → (a ≡ c) × (b ≡ d)
links_alike links l a b c d x y =
    let place : x.place ≡ y.place = omega (arith, x.number, y.number) in
    let same : x.decl ≡ y.decl = some_is (sym x.there ∙ ap (slice_get links) place ∙ y.there) in
    (sym x.end_a ∙ ap (λ (e : LinkDecl). e.a) same ∙ y.end_a, sym x.end_b ∙ ap (λ (e : LinkDecl). e.b) same ∙ y.end_b)

-- the ends, the other way round
pub ends_turned : (all : List Role) (link : ℕ) (a b : List ℕ) → AreEnds all link a b → AreEnds all link b a
ends_turned all link a b (inl h) = inr h
ends_turned all link a b (inr h) = inl h

-- over one link a node has one peer
pub one_peer : (lab : Laboratory) (link : ℕ) (a b c : List ℕ) → AreEnds (roles lab) link a c → AreEnds (roles lab) link b c → a ≡ b
one_peer lab link a b c (inl x) (inl y) = (links_alike lab.links link a c b c (role_link lab link a c x) (role_link lab link b c y)).0
one_peer lab link a b c (inl x) (inr y) =
    let same = links_alike lab.links link a c c b (role_link lab link a c x) (role_link lab link c b y) in
    same.0 ∙ same.1
one_peer lab link a b c (inr x) (inl y) =
    let same = links_alike lab.links link c a b c (role_link lab link c a x) (role_link lab link b c y) in
    same.1 ∙ same.0
one_peer lab link a b c (inr x) (inr y) = (links_alike lab.links link c a c b (role_link lab link c a x) (role_link lab link c b y)).1

ends_apart : (lab : Laboratory) (link : ℕ) (a b : List ℕ) → is_sound lab ≡ true → IsLinkOf lab.links 0 link a b → a ≡ b → ⊥
ends_apart lab link a b sound x same =
    let is : x.decl.a ≡ x.decl.b = x.end_a ∙ same ∙ sym x.end_b in
    let differ = differ_at lab.nodes [] lab.links x.place x.decl (sound_links lab sound) x.there in
    false≢true (sym differ ∙ (bytes_eq-Decides x.decl.a x.decl.b).1 is)

-- no link joins a node to itself
pub ends_differ : (lab : Laboratory) (link : ℕ) (a b : List ℕ) → is_sound lab ≡ true → AreEnds (roles lab) link a b → a ≡ b → ⊥
ends_differ lab link a b sound (inl x) same = ends_apart lab link a b sound (role_link lab link a b x) same
ends_differ lab link a b sound (inr x) same = ends_apart lab link b a sound (role_link lab link b a x) (sym same)
