-- An actor stays of its role, and the peers of stores and Sparks stay at the other ends of their links, over turns and settles.
use Rattle.std.proofs.Common.{◌≡◌, ℕ, zero, suc, ◌<◌, inl, inr, ◌⊎◌, List, [], ◌∷◌, Option, Some, None, length, map, set, refl, sym, ap, ◌∙◌, subst, arith, length-set}
use Rattle.std.specs.Prelude.{slice_get, option_map}
use Rattle.std.specs.List.{Contains, AllByRecursion}
use Rattle.std.proofs.lemmas.List.{length-map}
use Rattle.std.proofs.lemmas.Option.{none-some, same_Some, slice_get-map, slice_get-get_or, slice_get_within}
use Rattle.or_base.specs.declared.item.Item.{Item}
use Rattle.or_base.specs.declared.item.Item.TheVariants.{Entry}
use Rattle.or_base.specs.declared.kind.Kind.{Kind}
use Rattle.or_base.proofs.Members.{Contains-first, Contains-later}
use Rattle.or_base.specs.declared.asked.Asked.{Asked}
use Rattle.or_base.specs.declared.asked.Asked.TheVariants.{Key, Prefix}
use Rattle.kv_store.specs.Store.{StoreState, store_step, new_store}
use Rattle.or_actor.specs.declared.link_end.LinkEnd.{LinkEnd}
use Rattle.spark_node.specs.Spark.{SparkState, new_spark, down_link, spark_step}
use Rattle.link_monitor.specs.LinkMonitor.{link_monitor_step}
use Rattle.prefix_manager.specs.PrefixManager.{prefix_manager_step}
use Rattle.decision_core.specs.Decision.{DecisionState, decision_step}
use Rattle.fib_core.specs.Fib.{fib_step}
use Rattle.fib_core.proofs.Named.{fib_me}
use Rattle.net_link.specs.Link.{link_step}
use Rattle.net_link.proofs.Flow.{links_make_nothing_up}
use Rattle.net_record.specs.declared.role.NodeModule.TheVariants.{Spark as SparkRole, LinkMonitor as LinkMonitorRole, PrefixManager as PrefixManagerRole, Store as StoreRole, Decision as DecisionRole, Fib as FibRole, Desk as DeskRole}
use Rattle.net_record.specs.declared.role.Role.{Role}
use Rattle.net_record.specs.declared.role.Role.TheVariants.{Driver as DriverRole, Node, Link as LinkRole}
use Rattle.net_record.specs.declared.kinds.AnyModule.TheVariants.{Spark, LinkMonitor, PrefixManager, Store, Decision, Fib, Link}
use Rattle.net_record.specs.declared.part.Part.{Part}
use Rattle.net_record.specs.declared.part.Part.TheVariants.{Driver, Desk, Module}
use Rattle.net_record.specs.declared.actor.ActorState.{ActorState}
use Rattle.net_record.specs.Kinds.{module_step}
use Rattle.net_record.specs.Desk.{DeskState, asked_in, with_question, desk_after}
use Rattle.net_record.specs.Actors.{new_part, new_actor, no_actor, actor_at, store_of, part_step, part_after_settle, actor_after_settle, part_without_question, actor_without_question}
use Rattle.net_record.specs.Answers.{Giving, give, give_all}
use Rattle.net_agree.specs.Routed.{IsOf, AreEnds, MayWaitFor, KnowsPeers, HearsPeer, HearsPeers}
use Rattle.net_agree.proofs.RoutedStores.{Knows, turn_knows, turn_me}
use Rattle.net_agree.proofs.Sparks.{spark_hears}

-- ---- lists

-- what stands somewhere is among them
pub contained : {X : Type 0} (xs : List X) (number : ℕ) (x : X) → slice_get xs number ≡ Some x → Contains xs x
contained [] number x there = absurd (none-some _ there)
contained (first ∷ xs) zero x there = subst (Contains (first ∷ xs)) (same_Some _ _ there) (Contains-first first xs)
contained (first ∷ xs) (suc number) x there = Contains-later first xs x (contained xs number x there)

-- ---- one actor

-- the actor is of its role, and knows its peers where it is a store, and hears them where it is a Spark
pub record IsFit (all : List Role) (part : Part) (role : Role) : Type 0 where
  pub is : IsOf part role
  pub knows : (s : StoreState) → store_of part ≡ Some s → KnowsPeers all s
  pub hears : (s : SparkState) → part ≡ Module (Spark s) → HearsPeers all s

-- as many actors as roles, each fit for its own
pub record AreFit (all : List Role) (actors : List ActorState) : Type 0 where
  pub as_many : length actors ≡ length all
  pub fit : (number : ℕ) (actor : ActorState) (role : Role) → slice_get actors number ≡ Some actor → slice_get all number ≡ Some role → IsFit all actor.part role

-- one that is neither
fit_other : (all : List Role) (part : Part) (role : Role) → IsOf part role → store_of part ≡ None → ((s : SparkState) → part ≡ Module (Spark s) → ⊥) → IsFit all part role
fit_other all part role is no_store no_spark =
    record { is = is; knows = λ s found. absurd (none-some _ (sym no_store ∙ found)); hears = λ s found. absurd (no_spark s found) }

fit_store : (all : List Role) (s : StoreState) (role : Role) → IsOf (Module (Store s)) role → KnowsPeers all s → IsFit all (Module (Store s)) role
fit_store all s role is knows = record { is = is; knows = λ t found. subst (KnowsPeers all) (same_Some _ _ found) knows; hears = λ t found. cc }

fit_spark : (all : List Role) (s : SparkState) (role : Role) → IsOf (Module (Spark s)) role → HearsPeers all s → IsFit all (Module (Spark s)) role
fit_spark all s role is hears = record { is = is; knows = λ t found. absurd (none-some _ found); hears = λ t found. subst (HearsPeers all) (same t found) hears } where
  same : (t : SparkState) → Module (Spark s) ≡ Module (Spark t) → s ≡ t
  same t found = cc

knows_from : (all : List Role) (s : StoreState) → KnowsPeers all s → Knows (λ link peer. AreEnds all link peer s.me) s
knows_from all s k = record { peers = k.peers; running = k.running; done = k.done }

knows_to : (all : List Role) (me : List ℕ) (s : StoreState) → s.me ≡ me → Knows (λ link peer. AreEnds all link peer me) s → KnowsPeers all s
knows_to all me s same k =
    let own = subst (λ name. Knows (λ link peer. AreEnds all link peer name) s) (sym same) k in
    record { peers = own.peers; running = own.running; done = own.done }

fit_desk : (d : DeskState) (asked : Option Asked) (at : ℕ) (role : Role) → IsOf (Desk d) role → IsOf (Desk (with_question d asked at)) role
fit_desk d None at role is = is
fit_desk d (Some (Key key)) at role is = is
fit_desk d (Some (Prefix prefix)) at role is = is

-- a Decision stays that of its node
decision_me : (s : DecisionState) (item : Item) → (decision_step s item).0.me ≡ s.me
unfolding decision_step
decision_me s (Entry entry) = refl
decision_me s _ = refl

-- an actor stays fit in its turn
pub turn_fit : (all : List Role) (part : Part) (role : Role) (lane : ℕ) (item : Item) (at : ℕ) → IsFit all part role → MayWaitFor all role item → IsFit all (part_step part lane item at).0 role
unfolding part_step module_step desk_after spark_step link_monitor_step prefix_manager_step decision_step
turn_fit all Driver role lane item at f may = f
turn_fit all (Desk d) role lane item at f may =
    fit_other all (Desk (with_question d (asked_in item) at)) role (fit_desk d (asked_in item) at role f.is) refl
    (λ t wrong. cc)
turn_fit all (Module (Spark s)) role lane item at f may =
    fit_spark all (spark_step s item).0 role f.is
    (spark_hears (λ link peer. AreEnds all link peer s.me) s item (λ link from msg brings. may.heard s.me f.is.0 f.is.1 link from msg brings) (f.hears s refl))
turn_fit all (Module (LinkMonitor s)) role lane item at f may = fit_other all (Module (LinkMonitor (link_monitor_step s item).0)) role f.is refl (λ t wrong. cc)
turn_fit all (Module (PrefixManager s)) role lane item at f may = fit_other all (Module (PrefixManager (prefix_manager_step s item).0)) role f.is refl (λ t wrong. cc)
turn_fit all (Module (Decision s)) role lane item at f may =
    let named = f.is.1 ∙ ap (λ name. Node DecisionRole name f.is.0) (sym (decision_me s item)) in
    fit_other all (Module (Decision (decision_step s item).0)) role (f.is.0, named) refl (λ t wrong. cc)
turn_fit all (Module (Fib s)) role lane item at f may =
    let named = f.is.1 ∙ ap (λ name. Node FibRole name f.is.0) (sym (fib_me s item)) in
    fit_other all (Module (Fib (fib_step s item).0)) role (f.is.0, named) refl (λ t wrong. cc)
turn_fit all (Module (Store s)) role lane item at f may =
    let after = (store_step s item).0 in
    let own : Knows (λ link peer. AreEnds all link peer s.me) after =
    turn_knows (λ link peer. AreEnds all link peer s.me) s item (λ link peer brings. may.of_peer s.me f.is.0 f.is.1 link peer brings) (knows_from all s (f.knows s refl)) in
    fit_store all after role (f.is.0, f.is.1 ∙ ap (λ name. Node StoreRole name f.is.0) (sym (turn_me s item))) (knows_to all s.me after (turn_me s item) own)
turn_fit all (Module (Link s)) role lane item at f may =
    let passed = links_make_nothing_up s item in
    let after = (link_step s item).0 in
    let same : LinkRole s.link s.a s.b ≡ LinkRole after.link after.a after.b = cc (passed.link, passed.a, passed.b) in
    fit_other all (Module (Link after)) role (f.is ∙ same) refl (λ t wrong. cc)

-- a Spark whose links are down hears nobody
hears_none : (all : List Role) (me : List ℕ) (ends : List LinkEnd) → AllByRecursion (HearsPeer all me) (map down_link ends)
hears_none all me [] = tt
hears_none all me (end ∷ ends) = (λ n p is peer. absurd (none-some n is), hears_none all me ends)

new_fit : (kind : Kind) (all : List Role) (role : Role) → IsFit all (new_part kind role) role
new_fit kind all DriverRole = fit_other all Driver DriverRole refl refl (λ t wrong. cc)
new_fit kind all (Node SparkRole node setup) = fit_spark all (new_spark node setup.ends) (Node SparkRole node setup) (setup, refl) (hears_none all node setup.ends)
new_fit kind all (Node LinkMonitorRole node setup) =
    fit_other all (new_part kind (Node LinkMonitorRole node setup)) (Node LinkMonitorRole node setup) (setup, refl) refl (λ t wrong. cc)
new_fit kind all (Node PrefixManagerRole node setup) =
    fit_other all (new_part kind (Node PrefixManagerRole node setup)) (Node PrefixManagerRole node setup) (setup, refl) refl (λ t wrong. cc)
new_fit kind all (Node StoreRole node setup) =
    fit_store all (new_store kind node) (Node StoreRole node setup) (setup, refl) (record { peers = tt; running = tt; done = tt })
new_fit kind all (Node DecisionRole node setup) = fit_other all (new_part kind (Node DecisionRole node setup)) (Node DecisionRole node setup) (setup, refl) refl (λ t wrong. cc)
new_fit kind all (Node FibRole node setup) = fit_other all (new_part kind (Node FibRole node setup)) (Node FibRole node setup) (setup, refl) refl (λ t wrong. cc)
new_fit kind all (Node DeskRole node setup) = fit_other all (new_part kind (Node DeskRole node setup)) (Node DeskRole node setup) (setup, refl, refl, refl) refl (λ t wrong. cc)
new_fit kind all (LinkRole link a b) = fit_other all (new_part kind (LinkRole link a b)) (LinkRole link a b) refl refl (λ t wrong. cc)

settled_fit : (all : List Role) (part : Part) (role : Role) (lengths : List ℕ) → IsFit all part role → IsFit all (part_after_settle lengths part) role
settled_fit all Driver role lengths f = f
settled_fit all (Desk d) role lengths f = fit_other all (part_after_settle lengths (Desk d)) role f.is refl (λ t wrong. cc)
settled_fit all (Module m) role lengths f = f

without_fit : (all : List Role) (part : Part) (role : Role) → IsFit all part role → IsFit all (part_without_question part) role
without_fit all Driver role f = f
without_fit all (Desk d) role f = fit_other all (part_without_question (Desk d)) role f.is refl (λ t wrong. cc)
without_fit all (Module m) role f = f

-- ---- lists of actors

set_cases : {X : Type 0} (xs : List X) (at : ℕ) (new : X) (number : ℕ) (x : X) → slice_get (set xs at new) number ≡ Some x → ((number ≡ at) × (new ≡ x)) ⊎ (slice_get xs number ≡ Some x)
set_cases [] at new number x there = absurd (none-some _ there)
set_cases (first ∷ xs) zero new zero x there = inl (refl, same_Some _ _ there)
set_cases (first ∷ xs) zero new (suc number) x there = inr there
set_cases (first ∷ xs) (suc at) new zero x there = inr there
set_cases (first ∷ xs) (suc at) new (suc number) x there =
    elim (set_cases xs at new number x there) [ inl is ↦ inl (ap suc is.0, is.1) | inr other ↦ inr other ]

pub set_fit : (all : List Role) (actors : List ActorState) (at : ℕ) (new : ActorState) → AreFit all actors → ((role : Role) → slice_get all at ≡ Some role → IsFit all new.part role)
    → AreFit all (set actors at new)
set_fit all actors at new h fit = record {
  as_many = length-set actors at new ∙ h.as_many;
  fit = λ number actor role there of. elim (set_cases actors at new number actor there) [
    | inl is ↦ subst (λ (a : ActorState). IsFit all a.part role) is.1 (fit role (ap (slice_get all) (sym is.0) ∙ of))
    | inr other ↦ h.fit number actor role other of
  ];
}

pub start_fit : (kind : Kind) (all : List Role) → AreFit all (map (new_actor kind) all)
start_fit kind all = record {
  as_many = length-map all (new_actor kind);
  fit = λ number actor role there of.
      (let same : new_actor kind role ≡ actor = same_Some _ _ (sym (ap (option_map (new_actor kind)) of) ∙ sym (slice_get-map (new_actor kind) all number) ∙ there) in
      subst (λ (a : ActorState). IsFit all a.part role) same (new_fit kind all role));
}

pub mapped_fit : (all : List Role) (actors : List ActorState) (clock : ℕ) (lengths : List ℕ) → AreFit all actors → AreFit all (map (actor_after_settle clock lengths) actors)
mapped_fit all actors clock lengths h = record {
  as_many = length-map actors (actor_after_settle clock lengths) ∙ h.as_many;
  fit = λ number actor role there of. by_actor number actor role (slice_get actors number) refl (sym (slice_get-map (actor_after_settle clock lengths) actors number) ∙ there) of;
} where
  by_actor : (number : ℕ) (after : ActorState) (role : Role) (found : Option ActorState) → slice_get actors number ≡ found
      → option_map (actor_after_settle clock lengths) found ≡ Some after → slice_get all number ≡ Some role → IsFit all after.part role
  by_actor number after role None there is of = absurd (none-some _ is)
  by_actor number after role (Some actor) there is of =
      subst (λ (a : ActorState). IsFit all a.part role) (same_Some _ _ is) (settled_fit all actor.part role lengths (h.fit number actor role there of))

given_fit : (all : List Role) (g : Giving) (number : ℕ) → AreFit all g.actors → AreFit all (give g number).actors
unfolding give
given_fit all g number h =
    set_fit all g.actors number (actor_without_question (actor_at g.actors number)) h
    (λ role of.
    (let within : number < length g.actors = omega (arith, slice_get_within all number role of, h.as_many) in
    without_fit all (actor_at g.actors number).part role (h.fit number (actor_at g.actors number) role (slice_get-get_or g.actors number no_actor within) of)))

pub all_given_fit : (all : List Role) (g : Giving) (numbers : List ℕ) → AreFit all g.actors → AreFit all (give_all g numbers).actors
all_given_fit all g [] h = h
all_given_fit all g (number ∷ numbers) h = all_given_fit all (give g number) numbers (given_fit all g number h)
