-- What the stores among actors give stands in the order of nodes, and so does what the Decisions give: what the one of a node gives has the node's place.
use Rattle.std.proofs.Common.{◌≡◌, ℕ, zero, suc, ◌+◌, ◌*◌, ◌<◌, ◌≤◌, List, [], ◌∷◌, ◌++◌, Option, Some, cond, map, length, take, get_or, refl, sym, ap, ◌∙◌, arith, append_assoc, suc-mul}
use Rattle.std.specs.Prelude.{slice_get, option_map, option_to_list}
use Rattle.std.specs.Option.{option_map_or}
use Rattle.std.specs.List.{flat_map, enumerate_from}
use Rattle.std.proofs.lemmas.List.{length-map, length-append, get_or-append-add, take-append-le}
use Rattle.std.proofs.lemmas.List.Concat.{flat_map-append}
use Rattle.std.proofs.lemmas.Option.{none-some, same_Some, slice_get_within, slice_get-get_or}
use Rattle.std.proofs.Math.ListN.{get_or-append}
use Rattle.std.proofs.Math.Seq.{take-append-add}
use Rattle.or_base.specs.declared.kind.Kind.{Kind}
use Rattle.or_base.specs.declared.kind.Kind.TheVariants.{Stores, Full}
use Rattle.or_base.specs.declared.route.Route.{Route}
use Rattle.decision_core.specs.Decision.{routes_of}
use Rattle.net_laboratory.specs.declared.declared.NodeDecl.{NodeDecl}
use Rattle.net_laboratory.specs.declared.declared.LinkDecl.{LinkDecl}
use Rattle.net_laboratory.specs.Scenario.{Laboratory}
use Rattle.net_record.specs.declared.role.NodeModule.{NodeModule}
use Rattle.net_record.specs.declared.role.NodeModule.TheVariants.{Store as StoreRole, Decision as DecisionRole}
use Rattle.net_record.specs.declared.role.Role.{Role}
use Rattle.net_record.specs.declared.role.Role.TheVariants.{Driver as DriverRole, Node, Link as LinkRole}
use Rattle.net_record.specs.declared.kinds.AnyModule.TheVariants.{Store, Decision, Link}
use Rattle.net_record.specs.declared.part.Part.{Part}
use Rattle.net_record.specs.declared.part.Part.TheVariants.{Driver, Desk, Module}
use Rattle.net_record.specs.declared.actor.ActorState.{ActorState}
use Rattle.net_record.specs.Roles.{modules_of, is_same_module, first_place, store_number, decision_number, node_roles, link_role, roles}
use Rattle.net_record.specs.Actors.{no_actor, actor_at, store_of, decision_of}
use Rattle.net_record.specs.Records.{journal_of}
use Rattle.net_record.specs.World.{WorldState, mark_of_store, mark_of, routes_told}
use Rattle.net_record.proofs.Places.{setup_at}
use Rattle.net_agree.specs.Routed.{IsOf, IsRouted}
use Rattle.net_answers.proofs.FollowingRoles.{in_place, decision_among}

-- ---- what elements give

-- what an element gives that gives one stands behind all that those before it give
given_at : {X A : Type 0} (f : X → List A) (d : A) (xs : List X) (number : ℕ) (x : X) → slice_get xs number ≡ Some x → length (f x) ≡ 1
    → (length (flat_map f (take number xs)) < length (flat_map f xs)) × (get_or (flat_map f xs) (length (flat_map f (take number xs))) d ≡ get_or (f x) 0 d)
given_at f d [] number x there one = absurd (none-some x there)
given_at f d (y ∷ ys) zero x there one =
    let same = same_Some y x there in
    let some : 0 < length (f y) = omega (arith, one, ap (λ z. length (f z)) same) in
    (omega (arith, some, length-append (f y) (flat_map f ys)), get_or-append (f y) (flat_map f ys) d 0 some ∙ ap (λ z. get_or (f z) 0 d) same)
given_at f d (y ∷ ys) (suc number) x there one =
    let before = flat_map f (take number ys) in
    let long = length-append (f y) before in
    let next = given_at f d ys number x there one in (
      omega (arith, long, length-append (f y) (flat_map f ys), next.0),
      ap (λ n. get_or (f y ++ flat_map f ys) n d) long ∙ get_or-append-add (f y) (flat_map f ys) (length before) d ∙ next.1,
    )

-- where each gives as many as the other in its place, those before a place do
as_many_before : {X Y A B : Type 0} (f : X → List A) (g : Y → List B) (xs : List X) (ys : List Y) (number : ℕ) → length xs ≡ length ys
    → ((i : ℕ) (x : X) (y : Y) → slice_get xs i ≡ Some x → slice_get ys i ≡ Some y → length (f x) ≡ length (g y))
    → length (flat_map f (take number xs)) ≡ length (flat_map g (take number ys))
as_many_before f g xs ys zero long each = refl
as_many_before f g [] [] (suc number) long each = refl
as_many_before f g [] (y ∷ ys) (suc number) long each = absurd (omega (arith, long))
as_many_before f g (x ∷ xs) [] (suc number) long each = absurd (omega (arith, long))
as_many_before f g (x ∷ xs) (y ∷ ys) (suc number) long each =
    let rest = as_many_before f g xs ys number (omega (arith, long)) (λ i z u there of. each (suc i) z u there of) in
    omega (arith, length-append (f x) (flat_map f (take number xs)), length-append (g y) (flat_map g (take number ys)), each 0 x y refl refl, rest)

-- ---- the modules of one kind among roles

-- the role, where it is this module of a node
abbrev pub of_module : NodeModule → Role → List Role
of_module m DriverRole = []
of_module m (Node other name setup) = cond (is_same_module m other) (Node other name setup ∷ []) []
of_module m (LinkRole link a b) = []

abbrev many : NodeModule → List Role → ℕ
many m some = length (flat_map (of_module m) some)

many-both : (m : NodeModule) (some more : List Role) → many m (some ++ more) ≡ many m some + many m more
many-both m some more = ap length (flat_map-append (of_module m) some more) ∙ length-append (flat_map (of_module m) some) (flat_map (of_module m) more)

-- A node has one such module, with this index.
record IsOne (m : NodeModule) (modules : List NodeModule) (links : List LinkDecl) (ttl : Option ℕ) (index : ℕ) : Type 0 where
  pub within : index < length modules
  pub none : (node : ℕ × NodeDecl) → many m (take index (node_roles modules links ttl node)) ≡ 0
  pub one : (node : ℕ × NodeDecl) → many m (node_roles modules links ttl node) ≡ 1

module _ (m : NodeModule) (modules : List NodeModule) (links : List LinkDecl) (ttl : Option ℕ) (index : ℕ) (is : IsOne m modules links ttl index) where
  long : (node : ℕ × NodeDecl) → length (node_roles modules links ttl node) ≡ length modules
  long node = length-map modules (λ k. Node k node.1.name (setup_at modules links ttl node.0 node.1))

  -- as many stand before that of a node as nodes do
  many_before : (first : ℕ) (nodes : List NodeDecl) (others : List Role) (place : ℕ) → place < length nodes
      → many m (take (place * length modules + index) (flat_map (node_roles modules links ttl) (enumerate_from first nodes) ++ others)) ≡ place
  many_before first [] others place within = absurd (omega (arith, within))
  many_before first (node ∷ nodes) others zero within =
      let block = node_roles modules links ttl (first, node) in
      let rest = flat_map (node_roles modules links ttl) (enumerate_from (first + 1) nodes) in
      let number : 0 * length modules + index ≡ index = omega arith in
      let short : index ≤ length block = omega (arith, is.within, long (first, node)) in
      ap (λ rs. many m (take (0 * length modules + index) rs)) (append_assoc block rest others)
      ∙ ap (λ n. many m (take n (block ++ (rest ++ others)))) number
      ∙ ap (many m) (take-append-le index block (rest ++ others) short)
      ∙ is.none (first, node)
  many_before first (node ∷ nodes) others (suc place) within =
      let block = node_roles modules links ttl (first, node) in
      let rest = flat_map (node_roles modules links ttl) (enumerate_from (first + 1) nodes) in
      let left = place * length modules + index in
      let number : suc place * length modules + index ≡ length block + left = omega (arith, long (first, node), suc-mul place (length modules)) in
      let later = many_before (first + 1) nodes others place (omega (arith, within)) in
      let all = many-both m block (take left (rest ++ others)) in
      ap (λ rs. many m (take (suc place * length modules + index) rs)) (append_assoc block rest others)
      ∙ ap (λ n. many m (take n (block ++ (rest ++ others)))) number
      ∙ ap (many m) (take-append-add block (rest ++ others) left)
      ∙ omega (arith, all, is.one (first, node), later)

  many_in_lab : (lab : Laboratory) (place number : ℕ) → modules ≡ modules_of lab.kind → links ≡ lab.links → ttl ≡ lab.ttl → place < length lab.nodes → number ≡ 1 + place * length modules + index
      → many m (take number (roles lab)) ≡ place
  many_in_lab lab place number of_kind of_links of_ttl within at =
      let next : number ≡ suc (place * length modules + index) = omega (arith, at) in
      let others = map link_role (enumerate_from 0 lab.links) in
      ap (λ n. many m (take n (roles lab))) next
      ∙ ap (λ ms. many m (take (place * length modules + index) (flat_map (node_roles ms lab.links lab.ttl) (enumerate_from 0 lab.nodes) ++ others))) (sym of_kind)
      ∙ ap (λ ls. many m (take (place * length modules + index) (flat_map (node_roles modules ls lab.ttl) (enumerate_from 0 lab.nodes) ++ others))) (sym of_links)
      ∙ ap (λ t. many m (take (place * length modules + index) (flat_map (node_roles modules links t) (enumerate_from 0 lab.nodes) ++ others))) (sym of_ttl)
      ∙ many_before 0 lab.nodes others place within

one_store : (kind : Kind) (links : List LinkDecl) (ttl : Option ℕ) → IsOne StoreRole (modules_of kind) links ttl (first_place (is_same_module StoreRole) (modules_of kind))
one_store Stores links ttl = record { within = omega arith; none = λ node. refl; one = λ node. refl }
one_store Full links ttl = record { within = omega arith; none = λ node. refl; one = λ node. refl }

one_decision : (links : List LinkDecl) (ttl : Option ℕ) → IsOne DecisionRole (modules_of Full) links ttl 4
one_decision links ttl = record { within = omega arith; none = λ node. refl; one = λ node. refl }

-- so many stores stand before that of a node, and so many Decisions
pub stores_counted : (lab : Laboratory) (place : ℕ) → place < length lab.nodes → many StoreRole (take (store_number (modules_of lab.kind) place) (roles lab)) ≡ place
stores_counted lab place within =
    let modules = modules_of lab.kind in
    let index = first_place (is_same_module StoreRole) modules in
    many_in_lab StoreRole modules lab.links lab.ttl index (one_store lab.kind lab.links lab.ttl) lab place (store_number modules place) refl refl refl within refl

pub decisions_counted : (lab : Laboratory) (place : ℕ) → lab.kind ≡ Full → place < length lab.nodes → many DecisionRole (take (decision_number (modules_of lab.kind) place) (roles lab)) ≡ place
decisions_counted lab place full within =
    let number : decision_number (modules_of lab.kind) place ≡ 1 + place * length (modules_of Full) + 4 = ap (λ (k : Kind). decision_number (modules_of k) place) full in
    many_in_lab DecisionRole (modules_of Full) lab.links lab.ttl 4 (one_decision lab.links lab.ttl) lab place (decision_number (modules_of lab.kind) place) (ap modules_of (sym full)) refl refl within number

-- ---- what actors give

-- each gives one where it is this module, and else none
abbrev pub GivesOf : {A : Type 0} → NodeModule → (ActorState → List A) → Type 0
GivesOf m f = (actor : ActorState) (role : Role) → IsOf actor.part role → length (f actor) ≡ length (of_module m role)

-- what the actor with this number gives has the place of as many as stand before it
pub given_in_place : {A : Type 0} (lab : Laboratory) (w : WorldState) (m : NodeModule) (f : ActorState → List A) (d : A) (number place : ℕ) (role : Role) → IsRouted (roles lab) w → GivesOf m f
    → slice_get (roles lab) number ≡ Some role → length (of_module m role) ≡ 1 → many m (take number (roles lab)) ≡ place
    → (place < length (flat_map f w.actors)) × (get_or (flat_map f w.actors) place d ≡ get_or (f (actor_at w.actors number)) 0 d)
given_in_place lab w m f d number place role r gives there one before =
    let actor = actor_at w.actors number in
    let within : number < length w.actors = omega (arith, slice_get_within (roles lab) number role there, r.actors) in
    let here : slice_get w.actors number ≡ Some actor = slice_get-get_or w.actors number no_actor within in
    let count = as_many_before f (of_module m) w.actors (roles lab) number r.actors (λ i a of_role at of. gives a of_role (r.parts i a of_role at of)) ∙ before in
    let is = given_at f d w.actors number actor here (gives actor role (r.parts number actor role here there) ∙ one) in
    (omega (arith, is.0, count), ap (λ n. get_or (flat_map f w.actors) n d) (sym count) ∙ is.1)

journal_given : (part : Part) (role : Role) → IsOf part role → length (journal_of part) ≡ length (of_module StoreRole role)
journal_given Driver role is = rw is refl
journal_given (Desk d) role is = rw is.1 refl
journal_given (Module (Store s)) role is = rw is.1 refl
journal_given (Module (Link s)) role is = rw is refl
journal_given (Module _) role is = rw is.1 refl

mark_given : (told : ℕ) (part : Part) (role : Role) → IsOf part role → length (option_map_or (mark_of_store told) (store_of part) []) ≡ length (of_module StoreRole role)
mark_given told Driver role is = rw is refl
mark_given told (Desk d) role is = rw is.1 refl
mark_given told (Module (Store s)) role is = rw is.1 refl
mark_given told (Module (Link s)) role is = rw is refl
mark_given told (Module _) role is = rw is.1 refl

-- the routes of a Decision
abbrev pub routes_by : Part → List (List Route)
routes_by part = option_to_list (option_map (λ s. map (λ e. e.1) (routes_of s)) (decision_of part))

route_given : (part : Part) (role : Role) → IsOf part role → length (routes_by part) ≡ length (of_module DecisionRole role)
route_given Driver role is = rw is refl
route_given (Desk d) role is = rw is.1 refl
route_given (Module (Decision s)) role is = rw is.1 refl
route_given (Module (Link s)) role is = rw is refl
route_given (Module _) role is = rw is.1 refl

-- where nodes have no Decision, an actor gives no routes
pub no_route : (lab : Laboratory) (number : ℕ) (part : Part) (role : Role) → lab.kind ≡ Stores → slice_get (roles lab) number ≡ Some role → IsOf part role → routes_by part ≡ []
no_route lab number (Module (Decision s)) role stores there is =
    let p = in_place lab number DecisionRole s.me is.0 (there ∙ ap Some is.1) in
    absurd (differ (sym stores ∙ (decision_among lab.kind p.index p.is).0)) where
      differ : Stores ≡ Full → ⊥
      differ same = cc same
no_route lab number (Module (Link s)) role stores there is = refl
no_route lab number (Module _) role stores there is = refl
no_route lab number (Desk d) role stores there is = refl
no_route lab number Driver role stores there is = refl

pub journals_given : GivesOf StoreRole (λ actor. journal_of actor.part)
journals_given actor role is = journal_given actor.part role is

pub marks_given : GivesOf StoreRole mark_of
marks_given actor role is = mark_given actor.told actor.part role is

pub routes_given : GivesOf DecisionRole routes_told
routes_given actor role is = route_given actor.part role is
