-- The journal of a desk's store has the same place among the journals, and its mark among the marks, as the desk's
-- node has among the nodes. The order of a node's modules doesn't enter, as long as one of them is a store.
use Rattle.std.proofs.Common.{◌≡◌, ℕ, zero, suc, ◌+◌, ◌*◌, ◌<◌, inl, inr, List, [], ◌∷◌, ◌++◌, Bool, true, false, cond, not, Option, Some, None, length, map, get_or, take, drop, refl, sym, ap, ◌∙◌, subst, arith, append_assoc, suc-mul, zero-add}
use Rattle.std.specs.Prelude.{slice_get, option_map, option_to_list, is_some, All}
use Rattle.std.specs.Option.{option_map_or}
use Rattle.std.specs.List.{flat_map, enumerate_from}
use Rattle.std.proofs.lemmas.Bool.{cases_lt}
use Rattle.std.proofs.lemmas.List.{map-append, length-map, get_or-append-add, take-append-le, get_or_past}
use Rattle.std.proofs.lemmas.List.Elements.{All-append, All-nil, All-cons}
use Rattle.std.proofs.lemmas.Option.{slice_get_within}
use Rattle.std.proofs.Math.Seq.{take-append-add}
use Rattle.std.proofs.Math.ListN.{get_or-append, get_or-map}
use Rattle.or_base.specs.declared.kind.Kind.{Kind}
use Rattle.or_base.specs.declared.kind.Kind.TheVariants.{Stores, Full}
use Rattle.kv_store.specs.Store.{StoreState}
use Rattle.net_laboratory.specs.declared.declared.NodeDecl.{NodeDecl}
use Rattle.net_laboratory.specs.declared.declared.LinkDecl.{LinkDecl}
use Rattle.net_laboratory.specs.Scenario.{Laboratory}
use Rattle.net_record.specs.declared.role.NodeModule.{NodeModule}
use Rattle.net_record.specs.declared.role.NodeModule.TheVariants.{Store as StoreRole, Desk as DeskRole}
use Rattle.net_record.specs.declared.role.NodeSetup.{NodeSetup}
use Rattle.net_record.specs.declared.role.Role.{Role}
use Rattle.net_record.specs.declared.role.Role.TheVariants.{Driver as DriverRole, Node, Link as LinkRole}
use Rattle.net_record.specs.declared.actor.ActorState.{ActorState}
use Rattle.net_record.specs.declared.record.NodeMark.{NodeMark}
use Rattle.net_record.specs.Desk.{DeskState}
use Rattle.net_record.specs.Roles.{modules_of, is_same_module, first_place, store_number, ends_at, node_roles, link_role, roles, decision_number, node_names}
use Rattle.net_record.specs.declared.kinds.AnyModule.{AnyModule}
use Rattle.net_record.specs.declared.kinds.AnyModule.TheVariants.{Spark, LinkMonitor, PrefixManager, Store, Decision, Fib, Link}
use Rattle.net_record.specs.declared.part.Part.{Part}
use Rattle.net_record.specs.declared.part.Part.TheVariants.{Driver, Desk, Module}
use Rattle.net_record.specs.Kinds.{store_in, entries_in}
use Rattle.net_record.specs.Actors.{no_actor, actor_at, desk_of, store_of, entries_of, new_part, new_actor}
use Rattle.net_record.specs.World.{marks_of}
use Rattle.net_record.specs.Records.{journals_of}
use Rattle.net_record.specs.Marks.{no_mark, entries_told}
use Rattle.net_record.proofs.Standing.{Standing, node_and_store, standing_of, standings, no_standing}

-- ---- the place of a store

-- how many of these are true
abbrev pub how_many : List Bool → ℕ
how_many [] = 0
how_many (true ∷ others) = suc (how_many others)
how_many (false ∷ others) = how_many others

abbrev pub are_stores : List Standing → List Bool
are_stores all = map (λ s. s.store) all

-- how many stores stand before the actor with this number
abbrev pub stores_before : List Standing → ℕ → ℕ
stores_before all number = how_many (take number (are_stores all))

-- something of each store, in order
first_of_store : {A : Type 0} (made : StoreState → A) (d : A) (store : Option StoreState) (others : List A) → is_some store ≡ true
    → get_or (option_map_or (λ s. made s ∷ []) store [] ++ others) 0 d ≡ option_map_or made store d
first_of_store made d None others e = cc e
first_of_store made d (Some s) others e = refl

later_of_store : {A : Type 0} (made : StoreState → A) (d : A) (store : Option StoreState) (others : List A) (before : List Bool)
    → get_or (option_map_or (λ s. made s ∷ []) store [] ++ others) (how_many (is_some store ∷ before)) d ≡ get_or others (how_many before) d
later_of_store made d None others before = refl
later_of_store made d (Some s) others before = refl

journal_listed : (store : Option StoreState) → option_to_list (option_map (λ s. s.journal) store) ≡ option_map_or (λ s. s.journal ∷ []) store []
journal_listed None = refl
journal_listed (Some s) = refl

-- the entries of a store are its journal
store_entries : (m : AnyModule) → is_some (store_in m) ≡ true → option_map_or (λ (s : StoreState). s.journal) (store_in m) [] ≡ entries_in m
store_entries (Store s) e = refl
store_entries (Spark s) e = cc e
store_entries (LinkMonitor s) e = cc e
store_entries (PrefixManager s) e = cc e
store_entries (Decision s) e = cc e
store_entries (Fib s) e = cc e
store_entries (Link s) e = cc e

journal_entries : (part : Part) → is_some (store_of part) ≡ true → option_map_or (λ (s : StoreState). s.journal) (store_of part) [] ≡ entries_of part
journal_entries Driver e = cc e
journal_entries (Desk d) e = cc e
journal_entries (Module m) e = store_entries m e

-- the journal of a store has its place among the journals
pub journal_placed : (actors : List ActorState) (number : ℕ) → (standing_of (actor_at actors number).part).store ≡ true
    → get_or (journals_of actors) (stores_before (standings actors) number) [] ≡ entries_of (actor_at actors number).part
journal_placed [] number e = refl
journal_placed (actor ∷ actors) zero e =
    ap (λ js. get_or (js ++ journals_of actors) 0 []) (journal_listed (store_of actor.part))
    ∙ first_of_store (λ s. s.journal) [] (store_of actor.part) (journals_of actors) e
    ∙ journal_entries actor.part e
journal_placed (actor ∷ actors) (suc number) e =
    ap (λ js. get_or (js ++ journals_of actors) (stores_before (standings (actor ∷ actors)) (suc number)) []) (journal_listed (store_of actor.part))
    ∙ later_of_store (λ s. s.journal) [] (store_of actor.part) (journals_of actors) (take number (are_stores (standings actors)))
    ∙ journal_placed actors number e

-- what a settle tells of a store
abbrev mark_told : ℕ → StoreState → NodeMark
mark_told told s =
    record { entries = length s.journal; stale = s.stale; syncs = drop told s.done; routes = []; fib_dirty = false; fib_routes = 0 }

entries_marked : (told : ℕ) (store : Option StoreState)
    → (option_map_or (mark_told told) store no_mark).entries ≡ length (option_map_or (λ (s : StoreState). s.journal) store [])
entries_marked told None = refl
entries_marked told (Some s) = refl

-- and so has its mark
pub mark_placed : (actors : List ActorState) (number : ℕ) → (standing_of (actor_at actors number).part).store ≡ true
    → entries_told (marks_of actors) (stores_before (standings actors) number) ≡ length (entries_of (actor_at actors number).part)
mark_placed [] number e = refl
mark_placed (actor ∷ actors) zero e =
    ap (λ (mark : NodeMark). mark.entries) (first_of_store (mark_told actor.told) no_mark (store_of actor.part) (marks_of actors) e)
    ∙ entries_marked actor.told (store_of actor.part)
    ∙ ap length (journal_entries actor.part e)
mark_placed (actor ∷ actors) (suc number) e =
    ap (λ (mark : NodeMark). mark.entries)
    (later_of_store (mark_told actor.told) no_mark (store_of actor.part) (marks_of actors) (take number (are_stores (standings actors))))
    ∙ mark_placed actors number e

-- ---- the store of each node

-- the actor with this number is a store, and so many stand before it
abbrev IsPlaceOf : List Bool → ℕ → ℕ → Type 0
IsPlaceOf stores number place = (get_or stores number false ≡ true) × (how_many (take number stores) ≡ place)

pub how_many-append : (bs cs : List Bool) → how_many (bs ++ cs) ≡ how_many bs + how_many cs
how_many-append [] cs = omega arith
how_many-append (true ∷ bs) cs = omega (arith, how_many-append bs cs)
how_many-append (false ∷ bs) cs = how_many-append bs cs

-- behind a block with one store
place_behind : (block bs : List Bool) (number place : ℕ) → how_many block ≡ 1 → IsPlaceOf bs number place → IsPlaceOf (block ++ bs) (length block + number) (suc place)
place_behind block bs number place one is = (
  get_or-append-add block bs number false ∙ is.0,
  omega (arith, ap how_many (take-append-add block bs number), how_many-append block (take number bs), one, is.1),
)

-- in the first block
place_within : (block bs : List Bool) (number place : ℕ) → number < length block → IsPlaceOf block number place → IsPlaceOf (block ++ bs) number place
place_within block bs number place within is = (
  get_or-append block bs false number within ∙ is.0,
  ap how_many (take-append-le number block bs (omega (arith, within))) ∙ is.1,
)

-- the first that is true
abbrev IsFirstTrue : List Bool → ℕ → Type 0
IsFirstTrue bs number = (number < length bs) × IsPlaceOf bs number 0

first_true_if : (b : Bool) (bs : List Bool) (number n : ℕ) → how_many (b ∷ bs) ≡ suc n → ((m : ℕ) → how_many bs ≡ suc m → IsFirstTrue bs number)
    → IsFirstTrue (b ∷ bs) (cond (not b) (1 + number) 0)
first_true_if true bs number n some others = (omega arith, (refl, refl))
first_true_if false bs number n some others =
    let is = others n some in
    let next : suc number ≡ 1 + number = omega arith in
    subst (IsFirstTrue (false ∷ bs)) next (omega (arith, is.0), is.1)

first_true : {A : Type 0} (test : A → Bool) (xs : List A) (n : ℕ) → how_many (map test xs) ≡ suc n → IsFirstTrue (map test xs) (first_place test xs)
first_true test [] n some = absurd (omega (arith, some))
first_true test (x ∷ xs) n some = first_true_if (test x) (map test xs) (first_place test xs) n some (first_true test xs)

-- an actor as it starts, in a laboratory of any kind
abbrev pub standing_at_start : Role → Standing
standing_at_start role = standing_of (new_part Stores role)

abbrev pub standings_at_start : List Role → List Standing
standings_at_start all = map standing_at_start all

module_is_store : (m : NodeModule) (node : List ℕ) (setup : NodeSetup) → (standing_at_start (Node m node setup)).store ≡ is_same_module StoreRole m
module_is_store StoreRole node setup = refl
module_is_store _ node setup = refl

-- which modules are stores
abbrev module_stores : List NodeModule → List Bool
module_stores modules = map (is_same_module StoreRole) modules

node_stores : (modules : List NodeModule) (node : List ℕ) (setup : NodeSetup) → are_stores (standings_at_start (map (λ m. Node m node setup) modules)) ≡ module_stores modules
node_stores [] node setup = refl
node_stores (m ∷ modules) node setup =
    ap (λ b. b ∷ are_stores (standings_at_start (map (λ m. Node m node setup) modules))) (module_is_store m node setup)
    ∙ ap (λ bs. is_same_module StoreRole m ∷ bs) (node_stores modules node setup)

-- what the modules of a node in this place are set up with
abbrev pub setup_at : List NodeModule → List LinkDecl → Option ℕ → ℕ → NodeDecl → NodeSetup
setup_at modules links ttl place node = record { store = store_number modules place; decision = decision_number modules place; ends = ends_at links node.name; ttl = ttl; faults = node.faults }

-- the roles of nodes, the first of which has this place, and then these
abbrev nodes_then : List NodeModule → List LinkDecl → Option ℕ → ℕ → List NodeDecl → List Role → List Role
nodes_then modules links ttl place nodes others = flat_map (node_roles modules links ttl) (enumerate_from place nodes) ++ others

standings-append : (first others : List Role) → standings_at_start (first ++ others) ≡ standings_at_start first ++ standings_at_start others
standings-append first others = map-append standing_at_start first others

standings-nodes : (modules : List NodeModule) (links : List LinkDecl) (ttl : Option ℕ) (place : ℕ) (node : NodeDecl) (nodes : List NodeDecl) (others : List Role)
    → standings_at_start (nodes_then modules links ttl place (node ∷ nodes) others)
    ≡ standings_at_start (node_roles modules links ttl (place, node)) ++ standings_at_start (nodes_then modules links ttl (place + 1) nodes others)
standings-nodes modules links ttl place node nodes others =
    ap standings_at_start (append_assoc (node_roles modules links ttl (place, node)) (flat_map (node_roles modules links ttl) (enumerate_from (place + 1) nodes)) others)
    ∙ standings-append (node_roles modules links ttl (place, node)) (nodes_then modules links ttl (place + 1) nodes others)

stores-nodes : (modules : List NodeModule) (links : List LinkDecl) (ttl : Option ℕ) (place : ℕ) (node : NodeDecl) (nodes : List NodeDecl) (others : List Role)
    → are_stores (standings_at_start (nodes_then modules links ttl place (node ∷ nodes) others))
    ≡ module_stores modules ++ are_stores (standings_at_start (nodes_then modules links ttl (place + 1) nodes others))
stores-nodes modules links ttl place node nodes others =
    let rest = standings_at_start (nodes_then modules links ttl (place + 1) nodes others) in
    ap are_stores (standings-nodes modules links ttl place node nodes others)
    ∙ map-append (λ (s : Standing). s.store) (standings_at_start (node_roles modules links ttl (place, node))) rest
    ∙ ap (λ bs. bs ++ are_stores rest) (node_stores modules node.name (setup_at modules links ttl place node))

-- where the store of a node stands, among the nodes
nodes_place : (modules : List NodeModule) (links : List LinkDecl) (ttl : Option ℕ) (first : ℕ) (nodes : List NodeDecl) (others : List Role) (place : ℕ) → how_many (module_stores modules) ≡ 1 → place < length nodes
    → IsPlaceOf (are_stores (standings_at_start (nodes_then modules links ttl first nodes others))) (place * length modules + first_place (is_same_module StoreRole) modules) place
nodes_place modules links ttl first [] others place one within = absurd (omega (arith, within))
nodes_place modules links ttl first (node ∷ nodes) others zero one within =
    let rest = are_stores (standings_at_start (nodes_then modules links ttl (first + 1) nodes others)) in
    let store = first_place (is_same_module StoreRole) modules in
    let is = first_true (is_same_module StoreRole) modules 0 one in
    let number : store ≡ 0 * length modules + store = omega arith in
    subst (λ bs. IsPlaceOf bs (0 * length modules + store) 0) (sym (stores-nodes modules links ttl first node nodes others))
    (subst (λ n. IsPlaceOf (module_stores modules ++ rest) n 0) number (place_within (module_stores modules) rest store 0 is.0 is.1))
nodes_place modules links ttl first (node ∷ nodes) others (suc place) one within =
    let rest = are_stores (standings_at_start (nodes_then modules links ttl (first + 1) nodes others)) in
    let store = first_place (is_same_module StoreRole) modules in
    let is = nodes_place modules links ttl (first + 1) nodes others place one (omega (arith, within)) in
    let number : length (module_stores modules) + (place * length modules + store) ≡ suc place * length modules + store =
    omega (arith, length-map modules (is_same_module StoreRole), suc-mul place (length modules)) in
    subst (λ bs. IsPlaceOf bs (suc place * length modules + store) (suc place)) (sym (stores-nodes modules links ttl first node nodes others))
    (subst (λ n. IsPlaceOf (module_stores modules ++ rest) n (suc place)) number
    (place_behind (module_stores modules) rest (place * length modules + store) place one is))

one_store : (kind : Kind) → how_many (module_stores (modules_of kind)) ≡ 1
one_store Stores = refl
one_store Full = refl

-- the store of a node is the store in its place
lab_place : (lab : Laboratory) (place : ℕ) → place < length lab.nodes → IsPlaceOf (are_stores (standings_at_start (roles lab))) (store_number (modules_of lab.kind) place) place
lab_place lab place within =
    let modules = modules_of lab.kind in
    let others = map link_role (enumerate_from 0 lab.links) in
    let bs = are_stores (standings_at_start (nodes_then modules lab.links lab.ttl 0 lab.nodes others)) in
    let within_nodes = place * length modules + first_place (is_same_module StoreRole) modules in
    let number : suc within_nodes ≡ store_number modules place = omega arith in
    subst (λ n. IsPlaceOf (false ∷ bs) n place) number (nodes_place modules lab.links lab.ttl 0 lab.nodes others place (one_store lab.kind) within)

-- ---- the desks

-- a desk of the node with this name, whose store has this number: that actor is the store in the node's place
abbrev pub IsServed : List (List ℕ) → List Standing → List ℕ × ℕ → Type 0
IsServed names all desk = ((get_or all desk.1 no_standing).store ≡ true) × (slice_get names (stores_before all desk.1) ≡ Some desk.0)

abbrev DeskIsServed : List (List ℕ) → List Standing → Standing → Type 0
DeskIsServed names all s = (desk : List ℕ × ℕ) → s.desk ≡ Some desk → IsServed names all desk

module_served : (names : List (List ℕ)) (all : List Standing) (m : NodeModule) (node : List ℕ) (setup : NodeSetup) → IsServed names all (node, setup.store)
    → DeskIsServed names all (standing_at_start (Node m node setup))
module_served names all DeskRole node setup served desk e =
    let same : (node, setup.store) ≡ desk = cc e in
    subst (IsServed names all) same served
module_served names all _ node setup served desk e = cc e

node_served : (names : List (List ℕ)) (all : List Standing) (node : List ℕ) (setup : NodeSetup) (modules : List NodeModule) → IsServed names all (node, setup.store)
    → All (DeskIsServed names all) (standings_at_start (map (λ m. Node m node setup) modules))
node_served names all node setup [] served = All-nil (DeskIsServed names all)
node_served names all node setup (m ∷ modules) served =
    All-cons (DeskIsServed names all) (standing_at_start (Node m node setup)) (standings_at_start (map (λ m. Node m node setup) modules))
    (module_served names all m node setup served) (node_served names all node setup modules served)

links_served : (names : List (List ℕ)) (all : List Standing) (links : List (ℕ × LinkDecl)) → All (DeskIsServed names all) (standings_at_start (map link_role links))
links_served names all [] = All-nil (DeskIsServed names all)
links_served names all (link ∷ links) =
    All-cons (DeskIsServed names all) (standing_at_start (link_role link)) (standings_at_start (map link_role links)) (λ desk e. cc e) (links_served names all links)

-- the store in a place, among actors that stand so
store_served : (names : List (List ℕ)) (all : List Standing) (node : List ℕ) (store place : ℕ) → IsPlaceOf (are_stores all) store place → slice_get names place ≡ Some node
    → IsServed names all (node, store)
store_served names all node store place is named =
    (sym (get_or-map (λ (s : Standing). s.store) all store no_standing) ∙ is.0, ap (slice_get names) is.1 ∙ named)

-- the places of the nodes from one on
abbrev AreNamed : List (List ℕ) → ℕ → List NodeDecl → Type 0
AreNamed names first nodes = (i : ℕ) → slice_get names (first + i) ≡ slice_get (map (λ (node : NodeDecl). node.name) nodes) i

names_next : (names : List (List ℕ)) (first : ℕ) (node : NodeDecl) (nodes : List NodeDecl) → AreNamed names first (node ∷ nodes) → AreNamed names (first + 1) nodes
names_next names first node nodes named i =
    let next : first + 1 + i ≡ first + suc i = omega arith in
    ap (slice_get names) next ∙ named (suc i)

nodes_served : (names : List (List ℕ)) (all : List Standing) (modules : List NodeModule) (links : List LinkDecl) (ttl : Option ℕ) (first : ℕ) (nodes : List NodeDecl) (others : List Role)
    → ((place : ℕ) → place < length names → IsPlaceOf (are_stores all) (store_number modules place) place) → AreNamed names first nodes
    → All (DeskIsServed names all) (standings_at_start others) → All (DeskIsServed names all) (standings_at_start (nodes_then modules links ttl first nodes others))
nodes_served names all modules links ttl first [] others places named rest = rest
nodes_served names all modules links ttl first (node ∷ nodes) others places named rest =
    let here : first ≡ first + 0 = omega arith in
    let name = ap (slice_get names) here ∙ named 0 in
    let place = places first (slice_get_within names first node.name name) in
    let number = store_number modules first in
    let served = store_served names all node.name number first place name in
    subst (All (DeskIsServed names all)) (sym (standings-nodes modules links ttl first node nodes others))
    (All-append (DeskIsServed names all) (standings_at_start (node_roles modules links ttl (first, node))) (standings_at_start (nodes_then modules links ttl (first + 1) nodes others))
    (node_served names all node.name (setup_at modules links ttl first node) modules served)
    (nodes_served names all modules links ttl (first + 1) nodes others places (names_next names first node nodes named) rest))

all_served : (lab : Laboratory) → All (DeskIsServed (node_names lab) (standings_at_start (roles lab))) (standings_at_start (roles lab))
all_served lab =
    let names = node_names lab in
    let all = standings_at_start (roles lab) in
    let modules = modules_of lab.kind in
    let others = map link_role (enumerate_from 0 lab.links) in
    let as_many : length names ≡ length lab.nodes = length-map lab.nodes (λ (node : NodeDecl). node.name) in
    let places : (place : ℕ) → place < length names → IsPlaceOf (are_stores all) (store_number modules place) place =
    λ place within. lab_place lab place (omega (arith, within, as_many)) in
    All-cons (DeskIsServed names all) (standing_at_start DriverRole) (standings_at_start (nodes_then modules lab.links lab.ttl 0 lab.nodes others)) (λ desk e. cc e)
    (nodes_served names all modules lab.links lab.ttl 0 lab.nodes others places (λ i. ap (slice_get names) (zero-add i)) (links_served names all (enumerate_from 0 lab.links)))

-- each desk is served by the store in its node's place
pub desk_served : (lab : Laboratory) (number : ℕ) (desk : List ℕ × ℕ) → (get_or (standings_at_start (roles lab)) number no_standing).desk ≡ Some desk
    → IsServed (node_names lab) (standings_at_start (roles lab)) desk
desk_served lab number desk e =
    let all = standings_at_start (roles lab) in
    elim (cases_lt number (length all)) [
      | inl within ↦ all_served lab number no_standing within desk e
      | inr past ↦ cc (get_or_past all number no_standing past)
    ]

-- ---- among actors that stand as they did at the start

standing-new : (kind : Kind) (role : Role) → standing_of (new_part kind role) ≡ standing_at_start role
standing-new kind DriverRole = refl
standing-new kind (Node StoreRole node setup) = refl
standing-new kind (Node _ node setup) = refl
standing-new kind (LinkRole link a b) = refl

pub standings-new : (kind : Kind) (all : List Role) → standings (map (new_actor kind) all) ≡ standings_at_start all
standings-new kind [] = refl
standings-new kind (role ∷ all) =
    ap (λ s. s ∷ standings (map (new_actor kind) all)) (standing-new kind role) ∙ ap (λ ss. standing_at_start role ∷ ss) (standings-new kind all)

pub standing_here : (actors : List ActorState) (all : List Standing) (number : ℕ) → standings actors ≡ all → get_or all number no_standing ≡ standing_of (actor_at actors number).part
standing_here actors all number stand =
    ap (λ ss. get_or ss number no_standing) (sym stand) ∙ get_or-map (λ (a : ActorState). standing_of a.part) actors number no_actor

pub desk_here : (actors : List ActorState) (all : List Standing) (number : ℕ) (d : DeskState) → standings actors ≡ all → desk_of (actor_at actors number).part ≡ Some d
    → (get_or all number no_standing).desk ≡ Some (node_and_store d)
desk_here actors all number d stand e =
    ap (λ (s : Standing). s.desk) (standing_here actors all number stand) ∙ ap (option_map node_and_store) e

pub store_here : (actors : List ActorState) (all : List Standing) (number : ℕ) → standings actors ≡ all → (get_or all number no_standing).store ≡ true
    → (standing_of (actor_at actors number).part).store ≡ true
store_here actors all number stand is = ap (λ (s : Standing). s.store) (sym (standing_here actors all number stand)) ∙ is
