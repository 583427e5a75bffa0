-- A node's store has one lane to the node's Decision, by the port of Decision, and nobody else has one.
use Rattle.std.proofs.Common.{◌≡◌, ℕ, suc, ◌+◌, ◌<◌, List, [], ◌∷◌, inl, inr, Some, Bool, true, false, cond, ◌&&◌, ◌==◌, length, get_or, refl, sym, ap, ◌∙◌, subst, arith, zero-add, eq-eqb, eqb-true}
use Rattle.std.specs.Prelude.{slice_get}
use Rattle.std.specs.Str.{bytes_eq}
use Rattle.std.specs.List.{Contains, enumerate_from, position_from}
use Rattle.std.proofs.lemmas.Bool.{and_parts, and_from}
use Rattle.std.proofs.lemmas.List.FromFn.{length-enumerate_from, get_or-enumerate_from}
use Rattle.std.proofs.lemmas.Option.{same_Some, slice_get_within, slice_get-get_or, get_or_from_slice_get}
use Rattle.std.proofs.lemmas.Slice.Eq.{bytes_eq-Decides}
use Rattle.or_base.proofs.Members.{Contains-first, Contains-cases}
use Rattle.or_actor.specs.Ports.{decision_port}
use Rattle.net_laboratory.specs.Scenario.{Laboratory}
use Rattle.net_laboratory.specs.Sound.{is_sound}
use Rattle.net_record.specs.declared.role.NodeModule.{NodeModule}
use Rattle.net_record.specs.declared.role.NodeModule.TheVariants.{Spark as SparkRole, LinkMonitor as LinkMonitorRole, PrefixManager as PrefixManagerRole, Store as StoreRole, Decision as DecisionRole, Fib as FibRole, Desk as DeskRole}
use Rattle.net_record.specs.declared.role.NodeSetup.{NodeSetup}
use Rattle.net_record.specs.declared.role.Role.{Role}
use Rattle.net_record.specs.declared.role.Role.TheVariants.{Driver as DriverRole, Node, Link as LinkRole}
use Rattle.net_record.specs.declared.wire.Wire.{Wire}
use Rattle.net_record.specs.Roles.{roles}
use Rattle.net_record.specs.Wires.{has_items_within, has_items_for, port_of, wire_between, wires_to, wires, is_port, lane_of}
use Rattle.net_agree.proofs.LiftedLists.{gives_at}
use Rattle.net_agree.proofs.LiftedRoles.{one_place}
use Rattle.net_agree.proofs.RoutedLanes.{lane_is, port_is}
use Rattle.net_answers.proofs.FollowingRoles.{one_decision}

-- ---- a lane between two actors

numbered : {X : Type 0} (xs : List X) (number : ℕ) (x : X) → slice_get xs number ≡ Some x → slice_get (enumerate_from 0 xs) number ≡ Some (number, x)
numbered {X = X} xs number x there =
    let within = slice_get_within xs number x there in
    let pair : get_or (enumerate_from 0 xs) number (0, x) ≡ (number, x) =
    get_or-enumerate_from 0 xs number (0, x) within ∙ ap {B = ℕ × X} (λ n. (n, get_or xs number x)) (zero-add number) ∙ ap {B = ℕ × X} (λ y. (number, y)) (get_or_from_slice_get xs number x x there) in
    slice_get-get_or (enumerate_from 0 xs) number (0, x) (omega (arith, within, length-enumerate_from 0 xs)) ∙ ap Some pair

-- one joins a writer to each reader for which it has items
wire_joins : (all : List Role) (writer reader : ℕ) (from to : Role) → slice_get all writer ≡ Some from → slice_get all reader ≡ Some to → has_items_for from to ≡ true
    → Contains (wires all) (record { writer = writer; port = port_of from to reader; reader = reader })
wire_joins all writer reader from to at_writer at_reader joined =
    let wire : Wire = record { writer = writer; port = port_of from to reader; reader = reader } in
    let between : Contains (wire_between (reader, to) (writer, from)) wire = subst (λ b. Contains (cond b (wire ∷ []) []) wire) (sym joined) (Contains-first wire []) in
    gives_at (wires_to all) (enumerate_from 0 all) reader (reader, to) wire (numbered all reader to at_reader)
    (gives_at (wire_between (reader, to)) (enumerate_from 0 all) writer (writer, from) wire (numbered all writer from at_writer) between)

-- the first that passes a test, where one does
record IsFirst {X : Type 0} (test : X → Bool) (first : ℕ) (xs : List X) : Type 0 where
  pub index : ℕ
  pub found : X
  pub at : position_from test first xs ≡ Some (first + index)
  pub there : slice_get xs index ≡ Some found
  pub passes : test found ≡ true

first_of : {X : Type 0} (test : X → Bool) (first : ℕ) (xs : List X) (x : X) → Contains xs x → test x ≡ true → IsFirst test first xs
first_of test first [] x among passes = absurd (omega (arith, among.1))
first_of {X = X} test first (y ∷ xs) x among passes = by_test (λ later. first_of test (first + 1) xs x later passes) (test y) refl where
  here : test y ≡ true → cond (test y) (Some first) (position_from test (first + 1) xs) ≡ Some (first + 0)
  here is =
      let same : first ≡ first + 0 = omega arith in
      ap (λ b. cond b (Some first) (position_from test (first + 1) xs)) is ∙ ap Some same

  behind : test y ≡ false → (next : IsFirst test (first + 1) xs) → cond (test y) (Some first) (position_from test (first + 1) xs) ≡ Some (first + suc next.index)
  behind is next =
      let same : first + 1 + next.index ≡ first + suc next.index = omega arith in
      ap (λ b. cond b (Some first) (position_from test (first + 1) xs)) is ∙ next.at ∙ ap Some same

  fails : test y ≡ false → y ≡ x → ⊥
  fails is same = absurd (wrong (sym is ∙ ap test same ∙ passes)) where
    wrong : false ≡ true → ⊥
    wrong never = cc never

  by_test : (Contains xs x → IsFirst test (first + 1) xs) → (b : Bool) → test y ≡ b → IsFirst test first (y ∷ xs)
  by_test rest true is = record { index = 0; found = y; at = here is; there = refl; passes = is }
  by_test rest false is =
      elim (Contains-cases y xs x among) [
        | inl same ↦ absurd (fails is same)
        | inr later ↦
            let next = rest later in
            record { index = suc next.index; found = next.found; at = behind is next; there = next.there; passes = next.passes }
      ]

-- ---- whom a store names by the port of Decision

no_other : (b : Bool) → b && false ≡ true → ⊥
no_other true e = cc e
no_other false e = cc e

-- a store has items for a Decision alone among the modules of its node
feeds : (m : NodeModule) → has_items_within StoreRole m ≡ true → m ≡ DecisionRole
feeds DecisionRole e = refl
feeds SparkRole e = cc e
feeds LinkMonitorRole e = cc e
feeds PrefixManagerRole e = cc e
feeds StoreRole e = cc e
feeds FibRole e = cc e
feeds DeskRole e = cc e

-- a store alone has items for it
fed_by : (m : NodeModule) → has_items_within m DecisionRole ≡ true → m ≡ StoreRole
fed_by StoreRole e = refl
fed_by SparkRole e = cc e
fed_by LinkMonitorRole e = cc e
fed_by PrefixManagerRole e = cc e
fed_by DecisionRole e = cc e
fed_by FibRole e = cc e
fed_by DeskRole e = cc e

named_by_store : (name : List ℕ) (setup : NodeSetup) (to : Role) (reader : ℕ) → has_items_for (Node StoreRole name setup) to ≡ true → decision_port ≡ port_of (Node StoreRole name setup) to reader
    → (their : NodeSetup) × (to ≡ Node DecisionRole name their)
named_by_store name setup DriverRole reader joined port = cc joined
named_by_store name setup (LinkRole link a b) reader joined port = absurd (omega (arith, port))
named_by_store name setup (Node m node their) reader joined port =
    let parts = and_parts (bytes_eq name node) (has_items_within StoreRole m) joined in
    (their, ap (λ k. Node k node their) (feeds m parts.1) ∙ ap (λ n. Node DecisionRole n their) (sym ((bytes_eq-Decides name node).0 parts.0)))

writes_to_decision : (from : Role) (name : List ℕ) (their : NodeSetup) (reader : ℕ) → has_items_for from (Node DecisionRole name their) ≡ true
    → (setup : NodeSetup) × (from ≡ Node StoreRole name setup) × (port_of from (Node DecisionRole name their) reader ≡ decision_port)
writes_to_decision DriverRole name their reader joined = cc joined
writes_to_decision (LinkRole link a b) name their reader joined = cc joined
writes_to_decision (Node m node setup) name their reader joined =
    let parts = and_parts (bytes_eq node name) (has_items_within m DecisionRole) joined in
    (setup, ap (λ k. Node k node setup) (fed_by m parts.1) ∙ ap (λ n. Node StoreRole n setup) ((bytes_eq-Decides node name).0 parts.0), refl)

-- ---- the lane

-- the lane from the store with this number to the Decision with that number, both of one node
pub record IsFeed (lab : Laboratory) (store decision lane : ℕ) : Type 0 where
  pub name : List ℕ
  pub setup : NodeSetup
  pub their : NodeSetup
  pub from : slice_get (roles lab) store ≡ Some (Node StoreRole name setup)
  pub to : slice_get (roles lab) decision ≡ Some (Node DecisionRole name their)
  pub named : lane_of (wires (roles lab)) store decision_port ≡ Some lane
  pub wire : Wire
  pub there : slice_get (wires (roles lab)) lane ≡ Some wire
  pub reads : wire.reader ≡ decision

-- the first lane that the store names by the port of Decision is that lane
feed_of : (lab : Laboratory) (store decision : ℕ) (name : List ℕ) (setup their : NodeSetup) → is_sound lab ≡ true → slice_get (roles lab) store ≡ Some (Node StoreRole name setup)
    → slice_get (roles lab) decision ≡ Some (Node DecisionRole name their) → (is : IsFirst (is_port store decision_port) 0 (wires (roles lab))) → IsFeed lab store decision is.index
feed_of lab store decision name setup their sound from to is =
    let all = roles lab in
    let both = and_parts (is.found.writer == store) (is.found.port == decision_port) is.passes in
    let lane = lane_is all (wires all) is.index is.found refl is.there in
    let writer : lane.from ≡ Node StoreRole name setup = same_Some _ _ (sym lane.writer ∙ ap (slice_get all) (eqb-true is.found.writer store both.0) ∙ from) in
    let reader = named_by_store name setup lane.to is.found.reader (ap (λ r. has_items_for r lane.to) (sym writer) ∙ lane.joined)
    (sym (eqb-true is.found.port decision_port both.1) ∙ lane.port ∙ ap (λ r. port_of r lane.to is.found.reader) writer) in
    record {
      name = name;
      setup = setup;
      their = their;
      from = from;
      to = to;
      named = is.at ∙ ap Some (zero-add is.index);
      wire = is.found;
      there = is.there;
      reads = one_decision lab is.found.reader decision reader.0 their name sound (lane.reader ∙ ap Some reader.1) to;
    }

-- they have one
pub feed : (lab : Laboratory) (store decision : ℕ) (name : List ℕ) (setup their : NodeSetup) → is_sound lab ≡ true → slice_get (roles lab) store ≡ Some (Node StoreRole name setup)
    → slice_get (roles lab) decision ≡ Some (Node DecisionRole name their) → (lane : ℕ) × IsFeed lab store decision lane
feed lab store decision name setup their sound from to =
    let all = roles lab in
    let wire : Wire = record { writer = store; port = decision_port; reader = decision } in
    let joined = and_from (bytes_eq name name) true ((bytes_eq-Decides name name).1 refl) refl in
    let among : Contains (wires all) wire = wire_joins all store decision (Node StoreRole name setup) (Node DecisionRole name their) from to joined in
    let is = first_of (is_port store decision_port) 0 (wires all) wire among (and_from (store == store) (decision_port == decision_port) (eq-eqb store store refl) (eq-eqb decision_port decision_port refl)) in
    (is.index, feed_of lab store decision name setup their sound from to is)

module _ (lab : Laboratory) (store decision lane : ℕ) (f : IsFeed lab store decision lane) where
  -- whoever names the lane is the store, by that port
  pub feed_writer : (writer port : ℕ) → lane_of (wires (roles lab)) writer port ≡ Some lane → (writer ≡ store) × (port ≡ decision_port)
  feed_writer writer port named =
      let mine = port_is (wires (roles lab)) store decision_port lane f.wire f.named f.there in
      let theirs = port_is (wires (roles lab)) writer port lane f.wire named f.there in
      (sym theirs.0 ∙ mine.0, sym theirs.1 ∙ mine.1)

  -- a lane to the Decision that its writer names is that lane
  pub feed_only : is_sound lab ≡ true → (other : ℕ) (wire : Wire) → slice_get (wires (roles lab)) other ≡ Some wire → wire.reader ≡ decision
      → lane_of (wires (roles lab)) wire.writer wire.port ≡ Some other → other ≡ lane
  feed_only sound other wire there reads named =
      let all = roles lab in
      let is = lane_is all (wires all) other wire refl there in
      let to : is.to ≡ Node DecisionRole f.name f.their = same_Some _ _ (sym is.reader ∙ ap (slice_get all) reads ∙ f.to) in
      let writes = writes_to_decision is.from f.name f.their wire.reader (ap (has_items_for is.from) (sym to) ∙ is.joined) in
      let port : wire.port ≡ decision_port = is.port ∙ ap (λ r. port_of is.from r wire.reader) to ∙ writes.2 in
      let writer = one_place lab wire.writer store writes.0 f.setup f.name sound (is.writer ∙ ap Some writes.1) f.from in
      same_Some _ _ (sym named ∙ ap (λ n. lane_of (wires all) n wire.port) writer ∙ ap (lane_of (wires all) store) port ∙ f.named)

  -- the driver has no such lane
  pub feed_driver : store ≡ 0 → ⊥
  feed_driver first = wrong (ap (slice_get (roles lab)) (sym first) ∙ f.from) where
    wrong : Some DriverRole ≡ Some (Node StoreRole f.name f.setup) → ⊥
    wrong e = cc e

  -- a store is no Decision
  pub feed_apart : store ≡ decision → ⊥
  feed_apart same = wrong (sym f.from ∙ ap (slice_get (roles lab)) same ∙ f.to) where
    wrong : Some (Node StoreRole f.name f.setup) ≡ Some (Node DecisionRole f.name f.their) → ⊥
    wrong e = cc e

  -- the lane is there
  pub feed_there : lane < length (wires (roles lab))
  feed_there = slice_get_within (wires (roles lab)) lane f.wire f.there
