-- Which module of which node has which number, and that a node of a sound laboratory has one Decision.
use Rattle.std.proofs.Common.{◌≡◌, ℕ, zero, suc, ◌+◌, ◌-◌, ◌*◌, ◌<◌, inl, inr, List, [], ◌∷◌, ◌++◌, Option, Some, None, true, length, map, refl, sym, ap, ◌∙◌, arith, append_assoc, suc-mul, zero-add}
use Rattle.std.specs.Prelude.{slice_get, option_map}
use Rattle.std.specs.List.{flat_map, enumerate_from}
use Rattle.std.proofs.lemmas.Bool.{cases_lt}
use Rattle.std.proofs.lemmas.List.{length-map}
use Rattle.std.proofs.lemmas.Option.{none-some, same_Some, slice_get-map, slice_get_within}
use Rattle.or_base.specs.declared.kind.Kind.{Kind}
use Rattle.or_base.specs.declared.kind.Kind.TheVariants.{Stores, Full}
use Rattle.net_laboratory.specs.declared.declared.NodeDecl.{NodeDecl}
use Rattle.net_laboratory.specs.declared.declared.LinkDecl.{LinkDecl}
use Rattle.net_laboratory.specs.Scenario.{Laboratory}
use Rattle.net_laboratory.specs.Sound.{is_sound}
use Rattle.net_record.specs.declared.role.NodeModule.{NodeModule}
use Rattle.net_record.specs.declared.role.NodeModule.TheVariants.{Store as StoreRole, Decision as DecisionRole, Desk as DeskRole}
use Rattle.net_record.specs.declared.role.NodeSetup.{NodeSetup}
use Rattle.net_record.specs.declared.role.Role.{Role}
use Rattle.net_record.specs.declared.role.Role.TheVariants.{Driver as DriverRole, Node}
use Rattle.net_record.specs.Roles.{modules_of, is_same_module, first_place, store_number, decision_number, node_roles, link_role, roles}
use Rattle.net_record.proofs.Places.{setup_at}
use Rattle.net_agree.proofs.LiftedRoles.{one_place}

-- ---- two lists, one behind the other

get_left : {X : Type 0} (xs ys : List X) (n : ℕ) → n < length xs → slice_get (xs ++ ys) n ≡ slice_get xs n
get_left [] ys n within = absurd (omega (arith, within))
get_left (x ∷ xs) ys zero within = refl
get_left (x ∷ xs) ys (suc n) within = get_left xs ys n (omega (arith, within))

get_right : {X : Type 0} (xs ys : List X) (n : ℕ) → slice_get (xs ++ ys) (length xs + n) ≡ slice_get ys n
get_right [] ys n = ap (slice_get ys) (zero-add n)
get_right (x ∷ xs) ys n =
    let next : suc (length xs) + n ≡ suc (length xs + n) = omega arith in
    ap (slice_get (x ∷ xs ++ ys)) next ∙ get_right xs ys n

-- ---- the modules of nodes

-- the module with this number among those of these nodes, the first of which has this place
record IsAmong (modules : List NodeModule) (links : List LinkDecl) (ttl : Option ℕ) (first : ℕ) (nodes : List NodeDecl) (number : ℕ) (m : NodeModule) (name : List ℕ) (setup : NodeSetup) : Type 0 where
  pub place : ℕ
  pub index : ℕ
  pub node : NodeDecl
  pub there : slice_get nodes place ≡ Some node
  pub is : slice_get modules index ≡ Some m
  pub at : number ≡ place * length modules + index
  pub named : name ≡ node.name
  pub set_up : setup ≡ setup_at modules links ttl (first + place) node

no_link : (ls : List (ℕ × LinkDecl)) (number : ℕ) (m : NodeModule) (name : List ℕ) (setup : NodeSetup) → slice_get (map link_role ls) number ≡ Some (Node m name setup) → ⊥
no_link [] number m name setup e = none-some _ e
no_link (link ∷ ls) zero m name setup e = cc e
no_link (link ∷ ls) (suc number) m name setup e = no_link ls number m name setup e

module _ (modules : List NodeModule) (links : List LinkDecl) (ttl : Option ℕ) where
  abbrev nodes_from : ℕ → List NodeDecl → List Role
  nodes_from first nodes = flat_map (node_roles modules links ttl) (enumerate_from first nodes)

  -- a module of the node in this place
  abbrev in_node : ℕ → NodeDecl → NodeModule → Role
  in_node place node m = Node m node.name (setup_at modules links ttl place node)

  -- each module of each node is there
  stands : (first : ℕ) (nodes : List NodeDecl) (others : List Role) (place index : ℕ) (node : NodeDecl) (m : NodeModule) → slice_get nodes place ≡ Some node → slice_get modules index ≡ Some m
      → slice_get (nodes_from first nodes ++ others) (place * length modules + index) ≡ Some (in_node (first + place) node m)
  stands first [] others place index node m there is = absurd (none-some _ there)
  stands first (x ∷ nodes) others zero index node m there is =
      let block = node_roles modules links ttl (first, x) in
      let rest = nodes_from (first + 1) nodes in
      let number : 0 * length modules + index ≡ index = omega arith in
      let within : index < length block = omega (arith, slice_get_within modules index m is, length-map modules (in_node first x)) in
      let here : first ≡ first + 0 = omega arith in
      ap (λ rs. slice_get rs (0 * length modules + index)) (append_assoc block rest others)
      ∙ ap (slice_get (block ++ (rest ++ others))) number
      ∙ get_left block (rest ++ others) index within
      ∙ slice_get-map (in_node first x) modules index
      ∙ ap (option_map (in_node first x)) is
      ∙ ap (λ n. Some (in_node n x m)) here
      ∙ ap (λ n. Some (in_node (first + 0) n m)) (same_Some x node there)
  stands first (x ∷ nodes) others (suc place) index node m there is =
      let block = node_roles modules links ttl (first, x) in
      let rest = nodes_from (first + 1) nodes in
      let number : suc place * length modules + index ≡ length block + (place * length modules + index) =
      omega (arith, length-map modules (in_node first x), suc-mul place (length modules)) in
      let next : first + 1 + place ≡ first + suc place = omega arith in
      ap (λ rs. slice_get rs (suc place * length modules + index)) (append_assoc block rest others)
      ∙ ap (slice_get (block ++ (rest ++ others))) number
      ∙ get_right block (rest ++ others) (place * length modules + index)
      ∙ stands (first + 1) nodes others place index node m there is
      ∙ ap (λ n. Some (in_node n node m)) next

  -- what is found in the block of a node
  of_block : (place : ℕ) (node : NodeDecl) (found : Option NodeModule) (m : NodeModule) (name : List ℕ) (setup : NodeSetup) → option_map (in_node place node) found ≡ Some (Node m name setup)
      → (found ≡ Some m) × (name ≡ node.name) × (setup ≡ setup_at modules links ttl place node)
  of_block place node None m name setup e = absurd (none-some _ e)
  of_block place node (Some k) m name setup e = parts (same_Some _ _ e) where
    parts : Node k node.name (setup_at modules links ttl place node) ≡ Node m name setup → (Some k ≡ Some m) × (name ≡ node.name) × (setup ≡ setup_at modules links ttl place node)
    parts same = (cc same, cc same, cc same)

  -- and whatever module is there is one of a node
  among : (first : ℕ) (nodes : List NodeDecl) (ls : List (ℕ × LinkDecl)) (number : ℕ) (m : NodeModule) (name : List ℕ) (setup : NodeSetup)
      → slice_get (nodes_from first nodes ++ map link_role ls) number ≡ Some (Node m name setup) → IsAmong modules links ttl first nodes number m name setup
  among first [] ls number m name setup e = absurd (no_link ls number m name setup e)
  among first (node ∷ nodes) ls number m name setup e = by_place (λ left is. among (first + 1) nodes ls left m name setup is) where
    block : List Role
    block = node_roles modules links ttl (first, node)

    others : List Role
    others = nodes_from (first + 1) nodes ++ map link_role ls

    joined : slice_get (block ++ others) number ≡ Some (Node m name setup)
    joined = ap (λ rs. slice_get rs number) (sym (append_assoc block (nodes_from (first + 1) nodes) (map link_role ls))) ∙ e

    long : length block ≡ length modules
    long = length-map modules (in_node first node)

    here : number < length block → IsAmong modules links ttl first (node ∷ nodes) number m name setup
    here within =
        let found = of_block first node (slice_get modules number) m name setup
        (sym (slice_get-map (in_node first node) modules number) ∙ sym (get_left block others number within) ∙ joined) in
        let place : first ≡ first + 0 = omega arith in
        record {
          place = 0;
          index = number;
          node = node;
          there = refl;
          is = found.0;
          at = omega arith;
          named = found.1;
          set_up = found.2 ∙ ap (λ n. setup_at modules links ttl n node) place;
        }

    later : (left : ℕ) → number ≡ length block + left → IsAmong modules links ttl (first + 1) nodes left m name setup → IsAmong modules links ttl first (node ∷ nodes) number m name setup
    later left is found =
        let place : first + 1 + found.place ≡ first + suc found.place = omega arith in
        record {
          place = suc found.place;
          index = found.index;
          node = found.node;
          there = found.there;
          is = found.is;
          at = omega (arith, is, long, found.at, suc-mul found.place (length modules));
          named = found.named;
          set_up = found.set_up ∙ ap (λ n. setup_at modules links ttl n found.node) place;
        }

    behind : (left : ℕ) → number ≡ length block + left → slice_get others left ≡ Some (Node m name setup)
    behind left is = sym (get_right block others left) ∙ ap (slice_get (block ++ others)) (sym is) ∙ joined

    by_place : ((left : ℕ) → slice_get others left ≡ Some (Node m name setup) → IsAmong modules links ttl (first + 1) nodes left m name setup)
        → IsAmong modules links ttl first (node ∷ nodes) number m name setup
    by_place found =
        elim (cases_lt number (length block)) [
          | inl within ↦ here within
          | inr past ↦
              let left = number - length block in
              let is : number ≡ length block + left = omega (arith, past) in
              later left is (found left (behind left is))
        ]

-- ---- the roles of a laboratory

-- the module with this number is one of the node in a place
pub record IsInPlace (lab : Laboratory) (number : ℕ) (m : NodeModule) (name : List ℕ) (setup : NodeSetup) : Type 0 where
  pub place : ℕ
  pub index : ℕ
  pub node : NodeDecl
  pub there : slice_get lab.nodes place ≡ Some node
  pub is : slice_get (modules_of lab.kind) index ≡ Some m
  pub at : number ≡ 1 + place * length (modules_of lab.kind) + index
  pub named : name ≡ node.name
  pub set_up : setup ≡ setup_at (modules_of lab.kind) lab.links lab.ttl place node

pub in_place : (lab : Laboratory) (number : ℕ) (m : NodeModule) (name : List ℕ) (setup : NodeSetup) → slice_get (roles lab) number ≡ Some (Node m name setup) → IsInPlace lab number m name setup
in_place lab zero m name setup e = cc e
in_place lab (suc number) m name setup e =
    let found = among (modules_of lab.kind) lab.links lab.ttl 0 lab.nodes (enumerate_from 0 lab.links) number m name setup e in
    record {
      place = found.place;
      index = found.index;
      node = found.node;
      there = found.there;
      is = found.is;
      at = omega (arith, found.at);
      named = found.named;
      set_up = found.set_up ∙ ap (λ n. setup_at (modules_of lab.kind) lab.links lab.ttl n found.node) (zero-add found.place);
    }

role_in : (lab : Laboratory) (place index : ℕ) (node : NodeDecl) (m : NodeModule) → slice_get lab.nodes place ≡ Some node → slice_get (modules_of lab.kind) index ≡ Some m
    → slice_get (roles lab) (1 + place * length (modules_of lab.kind) + index) ≡ Some (Node m node.name (setup_at (modules_of lab.kind) lab.links lab.ttl place node))
role_in lab place index node m there is =
    let modules = modules_of lab.kind in
    let number : 1 + place * length modules + index ≡ suc (place * length modules + index) = omega arith in
    ap (slice_get (roles lab)) number
    ∙ stands modules lab.links lab.ttl 0 lab.nodes (map link_role (enumerate_from 0 lab.links)) place index node m there is
    ∙ ap (λ n. Some (Node m node.name (setup_at modules lab.links lab.ttl n node))) (zero-add place)

-- ---- stores and Decisions

-- each node has a store
store_among : (kind : Kind) → slice_get (modules_of kind) (first_place (is_same_module StoreRole) (modules_of kind)) ≡ Some StoreRole
store_among Stores = refl
store_among Full = refl

pub store_stands : (lab : Laboratory) (place : ℕ) (node : NodeDecl) → slice_get lab.nodes place ≡ Some node
    → slice_get (roles lab) (store_number (modules_of lab.kind) place) ≡ Some (Node StoreRole node.name (setup_at (modules_of lab.kind) lab.links lab.ttl place node))
store_stands lab place node there = role_in lab place (first_place (is_same_module StoreRole) (modules_of lab.kind)) node StoreRole there (store_among lab.kind)

-- a full node alone has a Decision, and one
pub decision_among : (kind : Kind) (index : ℕ) → slice_get (modules_of kind) index ≡ Some DecisionRole → (kind ≡ Full) × (index ≡ 4)
decision_among Stores zero e = cc e
decision_among Stores (suc zero) e = cc e
decision_among Stores (suc (suc index)) e = absurd (none-some _ e)
decision_among Full zero e = cc e
decision_among Full (suc zero) e = cc e
decision_among Full (suc (suc zero)) e = cc e
decision_among Full (suc (suc (suc zero))) e = cc e
decision_among Full (suc (suc (suc (suc zero)))) e = (refl, refl)
decision_among Full (suc (suc (suc (suc (suc zero))))) e = cc e
decision_among Full (suc (suc (suc (suc (suc (suc zero)))))) e = cc e
decision_among Full (suc (suc (suc (suc (suc (suc (suc index))))))) e = absurd (none-some _ e)

-- what has the number of a node's Decision: where nodes have none, the driver
abbrev pub decision_role : Kind → List ℕ → NodeSetup → Role
decision_role Stores name setup = DriverRole
decision_role Full name setup = Node DecisionRole name setup

pub decision_stands : (lab : Laboratory) (place : ℕ) (node : NodeDecl) → slice_get lab.nodes place ≡ Some node
    → slice_get (roles lab) (decision_number (modules_of lab.kind) place) ≡ Some (decision_role lab.kind node.name (setup_at (modules_of lab.kind) lab.links lab.ttl place node))
decision_stands lab place node there = by_kind lab.kind refl where
  by_kind : (kind : Kind) → lab.kind ≡ kind
      → slice_get (roles lab) (decision_number (modules_of kind) place) ≡ Some (decision_role kind node.name (setup_at (modules_of lab.kind) lab.links lab.ttl place node))
  by_kind Stores is = refl
  by_kind Full is =
      ap (λ (k : Kind). slice_get (roles lab) (1 + place * length (modules_of k) + 4)) (sym is)
      ∙ role_in lab place 4 node DecisionRole there (ap (λ (k : Kind). slice_get (modules_of k) 4) is)

-- a desk names its node's store, and its node's Decision
pub desk_names : (lab : Laboratory) (number : ℕ) (name : List ℕ) (setup : NodeSetup) → slice_get (roles lab) number ≡ Some (Node DeskRole name setup)
    → (slice_get (roles lab) setup.store ≡ Some (Node StoreRole name setup)) × (slice_get (roles lab) setup.decision ≡ Some (decision_role lab.kind name setup))
desk_names lab number name setup e =
    let p = in_place lab number DeskRole name setup e in
    let modules = modules_of lab.kind in (
      ap (λ (s : NodeSetup). slice_get (roles lab) s.store) p.set_up ∙ store_stands lab p.place p.node p.there
          ∙ ap (λ (s : NodeSetup). Some (Node StoreRole p.node.name s)) (sym p.set_up) ∙ ap (λ n. Some (Node StoreRole n setup)) (sym p.named),
      ap (λ (s : NodeSetup). slice_get (roles lab) s.decision) p.set_up ∙ decision_stands lab p.place p.node p.there
          ∙ ap (λ (s : NodeSetup). Some (decision_role lab.kind p.node.name s)) (sym p.set_up) ∙ ap (λ n. Some (decision_role lab.kind n setup)) (sym p.named),
    )

same_place : (kind : Kind) (x y index : ℕ) → 1 + x * length (modules_of kind) + index ≡ 1 + y * length (modules_of kind) + index → x ≡ y
same_place Stores x y index e =
    let small : 1 + x * 2 + index ≡ 1 + y * 2 + index = e in
    omega (arith, small)
same_place Full x y index e =
    let small : 1 + x * 7 + index ≡ 1 + y * 7 + index = e in
    omega (arith, small)

-- two Decisions of one node are one actor
pub one_decision : (lab : Laboratory) (x y : ℕ) (setup other : NodeSetup) (name : List ℕ) → is_sound lab ≡ true → slice_get (roles lab) x ≡ Some (Node DecisionRole name setup)
    → slice_get (roles lab) y ≡ Some (Node DecisionRole name other) → x ≡ y
one_decision lab x y setup other name sound at_x at_y =
    let p = in_place lab x DecisionRole name setup at_x in
    let q = in_place lab y DecisionRole name other at_y in
    let modules = modules_of lab.kind in
    let store = first_place (is_same_module StoreRole) modules in
    let setup_x = setup_at modules lab.links lab.ttl p.place p.node in
    let setup_y = setup_at modules lab.links lab.ttl q.place q.node in
    let stores = one_place lab (store_number modules p.place) (store_number modules q.place) setup_x setup_y name sound
    (store_stands lab p.place p.node p.there ∙ ap (λ n. Some (Node StoreRole n setup_x)) (sym p.named))
    (store_stands lab q.place q.node q.there ∙ ap (λ n. Some (Node StoreRole n setup_y)) (sym q.named)) in
    let places = same_place lab.kind p.place q.place store stores in
    let indexes = (decision_among lab.kind p.index p.is).1 ∙ sym (decision_among lab.kind q.index q.is).1 in
    p.at ∙ ap (λ n. 1 + n * length modules + p.index) places ∙ ap (λ i. 1 + q.place * length modules + i) indexes ∙ sym q.at
