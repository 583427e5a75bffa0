-- In a world of a run the stores stand in the order of their nodes: the store of a node is the actor of the store's number.
use Rattle.std.proofs.Common.{◌≡◌, ℕ, suc, ◌+◌, ◌*◌, List, [], ◌∷◌, ◌++◌, Option, Some, None, length, map, get_or, refl, sym, ap, ◌∙◌, subst, arith, append_assoc, zero-add, add-mul}
use Rattle.std.specs.Prelude.{slice_get, option_map, option_to_list, unwrap_or}
use Rattle.std.specs.List.{flat_map, enumerate_from}
use Rattle.std.proofs.lemmas.Option.{get_or_from_slice_get, slice_get_within}
use Rattle.std.proofs.lemmas.List.FromFn.{length-enumerate_from, get_or-enumerate_from}
use Rattle.std.proofs.lemmas.List.{get_or-map}
use Rattle.or_base.specs.declared.kind.Kind.{Kind}
use Rattle.or_base.specs.declared.kind.Kind.TheVariants.{Stores, Full}
use Rattle.kv_store.specs.Store.{StoreState, new_store}
use Rattle.net_laboratory.specs.declared.declared.NodeDecl.{NodeDecl}
use Rattle.net_laboratory.specs.declared.declared.LinkDecl.{LinkDecl}
use Rattle.net_laboratory.specs.Scenario.{Laboratory}
use Rattle.net_record.specs.declared.role.NodeModule.{NodeModule}
use Rattle.net_record.specs.declared.role.NodeModule.TheVariants.{Store as StoreRole}
use Rattle.net_record.specs.declared.role.NodeSetup.{NodeSetup}
use Rattle.net_record.specs.declared.role.Role.{Role}
use Rattle.net_record.specs.declared.role.Role.TheVariants.{Driver as DriverRole, Node, Link as LinkRole}
use Rattle.net_record.specs.declared.kinds.AnyModule.TheVariants.{Store, Link}
use Rattle.net_record.specs.declared.part.Part.{Part}
use Rattle.net_record.specs.declared.part.Part.TheVariants.{Driver, Desk, Module}
use Rattle.net_record.specs.declared.actor.ActorState.{ActorState}
use Rattle.net_record.specs.Roles.{modules_of, is_same_module, first_place, store_number, node_roles, link_role, roles}
use Rattle.net_record.specs.Actors.{actor_at, no_actor, store_of}
use Rattle.net_record.specs.World.{WorldState}
use Rattle.net_record.proofs.Places.{how_many, setup_at}
use Rattle.net_record.proofs.Tellers.{Teller, tellers_by, tellers_of, teller_at, no_teller}
use Rattle.net_agree.specs.Routed.{IsOf, IsRouted}

-- the store that the actor with this number is; where it is none, one of this kind that stands for it
abbrev pub store_in_place : Kind → List ActorState → ℕ → StoreState
store_in_place kind actors number = unwrap_or (store_of (actor_at actors number).part) (new_store kind [])

-- ---- items with their numbers

-- where each gives the same as the other in its place, all give the same
flat_same : {X Y A : Type 0} (f : ℕ × X → List A) (g : ℕ × Y → List A) (first : ℕ) (xs : List X) (ys : List Y) → length xs ≡ length ys
    → ((i : ℕ) (x : X) (y : Y) → slice_get xs i ≡ Some x → slice_get ys i ≡ Some y → f (first + i, x) ≡ g (first + i, y))
    → flat_map f (enumerate_from first xs) ≡ flat_map g (enumerate_from first ys)
flat_same f g first [] [] long same = refl
flat_same f g first [] (y ∷ ys) long same = absurd (omega (arith, long))
flat_same f g first (x ∷ xs) [] long same = absurd (omega (arith, long))
flat_same {X = X} {Y = Y} f g first (x ∷ xs) (y ∷ ys) long same = rw (here, flat_same f g (first + 1) xs ys (omega (arith, long)) next) refl where
  here : f (first, x) ≡ g (first, y)
  here =
      let at : first + 0 ≡ first = omega arith in
      subst (λ n. f (n, x) ≡ g (n, y)) at (same 0 x y refl refl)

  next : (i : ℕ) (z : X) (u : Y) → slice_get xs i ≡ Some z → slice_get ys i ≡ Some u → f (first + 1 + i, z) ≡ g (first + 1 + i, u)
  next i z u there of =
      let at : first + suc i ≡ first + 1 + i = omega arith in
      subst (λ n. f (n, z) ≡ g (n, u)) at (same (suc i) z u there of)

pub map_same : {X A : Type 0} (f g : ℕ × X → A) (first : ℕ) (xs : List X) → ((i : ℕ) (x : X) → slice_get xs i ≡ Some x → f (first + i, x) ≡ g (first + i, x))
    → map f (enumerate_from first xs) ≡ map g (enumerate_from first xs)
map_same f g first [] same = refl
map_same {X = X} f g first (x ∷ xs) same = rw (here, map_same f g (first + 1) xs next) refl where
  here : f (first, x) ≡ g (first, x)
  here =
      let at : first + 0 ≡ first = omega arith in
      subst (λ n. f (n, x) ≡ g (n, x)) at (same 0 x refl)

  next : (i : ℕ) (z : X) → slice_get xs i ≡ Some z → f (first + 1 + i, z) ≡ g (first + 1 + i, z)
  next i z there =
      let at : first + suc i ≡ first + 1 + i = omega arith in
      subst (λ n. f (n, z) ≡ g (n, z)) at (same (suc i) z there)

-- ---- stores among roles

-- what the store of a node gives, by the node's name and its own number
abbrev by_role : {A : Type 0} → (List ℕ → ℕ → A) → ℕ × Role → List A
by_role gives (number, DriverRole) = []
by_role gives (number, Node StoreRole name setup) = gives name number ∷ []
by_role gives (number, Node _ name setup) = []
by_role gives (number, LinkRole link a b) = []

links_give_none : {A : Type 0} (gives : List ℕ → ℕ → A) (number first : ℕ) (links : List LinkDecl) → flat_map (by_role gives) (enumerate_from number (map link_role (enumerate_from first links))) ≡ []
links_give_none gives number first [] = refl
links_give_none gives number first (link ∷ links) = links_give_none gives (number + 1) (first + 1) links

-- the modules of a node, and behind them these roles
abbrev node_then : List NodeModule → List ℕ → NodeSetup → List Role → List Role
node_then modules name setup others = map (λ m. Node m name setup) modules ++ others

abbrev many_stores : List NodeModule → ℕ
many_stores modules = how_many (map (is_same_module StoreRole) modules)

-- modules of which none is a store give nothing
others_give_none : {A : Type 0} (gives : List ℕ → ℕ → A) (number : ℕ) (modules : List NodeModule) (name : List ℕ) (setup : NodeSetup) (others : List Role) → many_stores modules ≡ 0
    → flat_map (by_role gives) (enumerate_from number (node_then modules name setup others)) ≡ flat_map (by_role gives) (enumerate_from (number + length modules) others)
others_give_none gives number [] name setup others none =
    let here : number ≡ number + 0 = omega arith in
    ap (λ n. flat_map (by_role gives) (enumerate_from n others)) here
others_give_none gives number (StoreRole ∷ modules) name setup others none = absurd (omega (arith, none))
others_give_none gives number (_ ∷ modules) name setup others none =
    let next : number + 1 + length modules ≡ number + suc (length modules) = omega arith in
    others_give_none gives (number + 1) modules name setup others none ∙ ap (λ n. flat_map (by_role gives) (enumerate_from n others)) next

-- those of which one is a store give what that store gives
node_gives : {A : Type 0} (gives : List ℕ → ℕ → A) (number : ℕ) (modules : List NodeModule) (name : List ℕ) (setup : NodeSetup) (others : List Role) → many_stores modules ≡ 1
    → flat_map (by_role gives) (enumerate_from number (node_then modules name setup others))
    ≡ gives name (number + first_place (is_same_module StoreRole) modules) ∷ flat_map (by_role gives) (enumerate_from (number + length modules) others)
node_gives gives number [] name setup others one = absurd (omega (arith, one))
node_gives gives number (StoreRole ∷ modules) name setup others one =
    let here : number ≡ number + 0 = omega arith in
    let next : number + 1 + length modules ≡ number + suc (length modules) = omega arith in
    let none : many_stores modules ≡ 0 = omega (arith, one) in
    ap (λ gs. gives name number ∷ gs) (others_give_none gives (number + 1) modules name setup others none ∙ ap (λ n. flat_map (by_role gives) (enumerate_from n others)) next)
    ∙ ap (λ n. gives name n ∷ flat_map (by_role gives) (enumerate_from (number + suc (length modules)) others)) here
node_gives gives number (_ ∷ modules) name setup others one =
    let place = first_place (is_same_module StoreRole) modules in
    let here : number + 1 + place ≡ number + (1 + place) = omega arith in
    let next : number + 1 + length modules ≡ number + suc (length modules) = omega arith in
    node_gives gives (number + 1) modules name setup others one
    ∙ ap (λ n. gives name n ∷ flat_map (by_role gives) (enumerate_from (number + 1 + length modules) others)) here
    ∙ ap (λ n. gives name (number + (1 + place)) ∷ flat_map (by_role gives) (enumerate_from n others)) next

nodes_give : {A : Type 0} (gives : List ℕ → ℕ → A) (modules : List NodeModule) (ends : List LinkDecl) (ttl : Option ℕ) (number place : ℕ) (nodes : List NodeDecl) (links : List LinkDecl) → many_stores modules ≡ 1
    → number ≡ 1 + place * length modules
    → flat_map (by_role gives) (enumerate_from number (flat_map (node_roles modules ends ttl) (enumerate_from place nodes) ++ map link_role (enumerate_from 0 links)))
    ≡ map (λ (node : ℕ × NodeDecl). gives node.1.name (store_number modules node.0)) (enumerate_from place nodes)
nodes_give gives modules ends ttl number place [] links one is = links_give_none gives number 0 links
nodes_give gives modules ends ttl number place (node ∷ nodes) links one is =
    let later = flat_map (node_roles modules ends ttl) (enumerate_from (place + 1) nodes) in
    let others = map link_role (enumerate_from 0 links) in
    let here : number + first_place (is_same_module StoreRole) modules ≡ store_number modules place = omega (arith, is) in
    let next : number + length modules ≡ 1 + (place + 1) * length modules = omega (arith, is, add-mul place 1 (length modules)) in
    ap (λ all. flat_map (by_role gives) (enumerate_from number all)) (append_assoc (node_roles modules ends ttl (place, node)) later others)
    ∙ node_gives gives number modules node.name (setup_at modules ends ttl place node) (later ++ others) one
    ∙ ap (λ n. gives node.name n ∷ flat_map (by_role gives) (enumerate_from (number + length modules) (later ++ others))) here
    ∙ ap (λ gs. gives node.name (store_number modules place) ∷ gs) (nodes_give gives modules ends ttl (number + length modules) (place + 1) nodes links one next)

one_store : (kind : Kind) → many_stores (modules_of kind) ≡ 1
one_store Stores = refl
one_store Full = refl

roles_give : {A : Type 0} (gives : List ℕ → ℕ → A) (lab : Laboratory)
    → flat_map (by_role gives) (enumerate_from 0 (roles lab))
    ≡ map (λ (node : ℕ × NodeDecl). gives node.1.name (store_number (modules_of lab.kind) node.0)) (enumerate_from 0 lab.nodes)
roles_give gives lab = nodes_give gives (modules_of lab.kind) lab.links lab.ttl (0 + 1) 0 lab.nodes lab.links (one_store lab.kind) (omega arith)

-- ---- stores among actors

-- what a store gives, by its name, its number and how many of its full syncs were told
abbrev pub by_actor : {A : Type 0} → (List ℕ → ℕ → ActorState → StoreState → A) → ℕ × ActorState → List A
by_actor gives n = option_to_list (option_map (λ (s : StoreState). gives s.me n.0 n.1 s) (store_of n.1.part))

part_gives : {A : Type 0} (kind : Kind) (gives : List ℕ → ℕ → ActorState → StoreState → A) (number : ℕ) (actor : ActorState) (part : Part) (role : Role) → IsOf part role
    → option_to_list (option_map (λ (s : StoreState). gives s.me number actor s) (store_of part))
    ≡ by_role (λ name n. gives name n actor (unwrap_or (store_of part) (new_store kind []))) (number, role)
part_gives kind gives number actor Driver role is = rw is refl
part_gives kind gives number actor (Desk d) role is = rw is.1 refl
part_gives kind gives number actor (Module (Store s)) role is = rw is.1 refl
part_gives kind gives number actor (Module (Link s)) role is = rw is refl
part_gives kind gives number actor (Module _) role is = rw is.1 refl

-- the same, of an actor that is read by its number
by_role_read : {A : Type 0} (kind : Kind) (gives : List ℕ → ℕ → ActorState → StoreState → A) (number : ℕ) (actor : ActorState) (found : ℕ → ActorState) (role : Role) → found number ≡ actor
    → by_role (λ name n. gives name n actor (unwrap_or (store_of actor.part) (new_store kind []))) (number, role)
    ≡ by_role (λ name n. gives name n (found n) (unwrap_or (store_of (found n).part) (new_store kind []))) (number, role)
by_role_read kind gives number actor found DriverRole here = refl
by_role_read kind gives number actor found (Node StoreRole name setup) here =
    ap (λ (a : ActorState). gives name number a (unwrap_or (store_of a.part) (new_store kind [])) ∷ []) (sym here)
by_role_read kind gives number actor found (Node _ name setup) here = refl
by_role_read kind gives number actor found (LinkRole link a b) here = refl

-- what all stores in a world give, in the order of nodes
pub stores_give : {A : Type 0} (gives : List ℕ → ℕ → ActorState → StoreState → A) (lab : Laboratory) (w : WorldState) → IsRouted (roles lab) w
    → flat_map (by_actor gives) (enumerate_from 0 w.actors)
    ≡ map (λ (node : ℕ × NodeDecl). let n = store_number (modules_of lab.kind) node.0 in gives node.1.name n (actor_at w.actors n) (store_in_place lab.kind w.actors n)) (enumerate_from 0 lab.nodes)
stores_give {A = A} gives lab w r = flat_same (by_actor gives) (by_role at_number) 0 w.actors (roles lab) r.actors each ∙ roles_give at_number lab where
  at_number : List ℕ → ℕ → A
  at_number name n = gives name n (actor_at w.actors n) (store_in_place lab.kind w.actors n)

  each : (i : ℕ) (actor : ActorState) (role : Role) → slice_get w.actors i ≡ Some actor → slice_get (roles lab) i ≡ Some role → by_actor gives (0 + i, actor) ≡ by_role at_number (0 + i, role)
  each i actor role there of =
      let here : actor_at w.actors (0 + i) ≡ actor = ap (actor_at w.actors) (zero-add i) ∙ get_or_from_slice_get w.actors i actor no_actor there in
      part_gives lab.kind gives (0 + i) actor actor.part role (r.parts i actor role there of) ∙ by_role_read lab.kind gives (0 + i) actor (actor_at w.actors) role here

-- ---- the teller in a place

abbrev teller_made : List ℕ → ℕ → ActorState → StoreState → Teller
teller_made name number actor s = record { told = actor.told; store = s }

tellers_one : (number : ℕ) (actor : ActorState) (store : Option StoreState) → tellers_by actor.told store ≡ option_to_list (option_map (λ (s : StoreState). teller_made s.me number actor s) store)
tellers_one number actor None = refl
tellers_one number actor (Some s) = refl

tellers_are : (number : ℕ) (actors : List ActorState) → tellers_of actors ≡ flat_map (by_actor teller_made) (enumerate_from number actors)
tellers_are number [] = refl
tellers_are number (actor ∷ actors) = rw (tellers_one number actor (store_of actor.part), tellers_are (number + 1) actors) refl

-- the store that tells in the place of a node is that with the node's number
pub teller_is : (lab : Laboratory) (w : WorldState) (place : ℕ) (node : NodeDecl) → IsRouted (roles lab) w → slice_get lab.nodes place ≡ Some node
    → (teller_at w.actors place).store ≡ store_in_place lab.kind w.actors (store_number (modules_of lab.kind) place)
teller_is lab w place node r there =
    let within = slice_get_within lab.nodes place node there in
    let tells : ℕ × NodeDecl → Teller =
    λ n. let number = store_number (modules_of lab.kind) n.0 in teller_made n.1.name number (actor_at w.actors number) (store_in_place lab.kind w.actors number) in
    let numbered = enumerate_from 0 lab.nodes in
    let same : teller_at w.actors place ≡ tells (0 + place, get_or lab.nodes place node) =
    ap (λ tellers. get_or tellers place no_teller) (tellers_are 0 w.actors ∙ stores_give teller_made lab w r)
    ∙ get_or-map tells numbered place (0, node) no_teller (omega (arith, within, length-enumerate_from 0 lab.nodes))
    ∙ ap tells (get_or-enumerate_from 0 lab.nodes place (0, node) within) in
    ap (λ (t : Teller). t.store) same ∙ ap (λ n. store_in_place lab.kind w.actors (store_number (modules_of lab.kind) n)) (zero-add place)
