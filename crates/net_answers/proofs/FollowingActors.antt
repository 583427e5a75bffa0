-- What the actor with a number is, in a world of a run.
use Rattle.std.proofs.Common.{◌≡◌, ℕ, ◌<◌, inl, inr, List, [], Some, length, get_or, refl, sym, ap, ◌∙◌, subst, arith}
use Rattle.std.specs.Prelude.{slice_get}
use Rattle.std.proofs.lemmas.Bool.{cases_lt}
use Rattle.std.proofs.lemmas.List.{get_or_past}
use Rattle.std.proofs.lemmas.Option.{none-some, same_Some, slice_get-get_or, slice_get_within}
use Rattle.decision_core.specs.Decision.{DecisionState}
use Rattle.net_laboratory.specs.Scenario.{Laboratory}
use Rattle.net_record.specs.declared.role.NodeModule.TheVariants.{Store as StoreRole, Decision as DecisionRole, Desk as DeskRole}
use Rattle.net_record.specs.declared.role.NodeSetup.{NodeSetup}
use Rattle.net_record.specs.declared.role.Role.{Role}
use Rattle.net_record.specs.declared.role.Role.TheVariants.{Driver as DriverRole, Node}
use Rattle.net_record.specs.declared.kinds.AnyModule.TheVariants.{Store, Decision, Link}
use Rattle.net_record.specs.declared.part.Part.{Part}
use Rattle.net_record.specs.declared.part.Part.TheVariants.{Driver, Desk, Module}
use Rattle.net_record.specs.declared.actor.ActorState.{ActorState}
use Rattle.net_record.specs.Desk.{DeskState}
use Rattle.net_record.specs.Roles.{roles}
use Rattle.net_record.specs.Actors.{no_actor, actor_at, desk_of, entries_of}
use Rattle.net_record.specs.Records.{journal_of}
use Rattle.net_record.specs.World.{WorldState}
use Rattle.net_agree.specs.Routed.{IsOf, IsRouted}

-- the actor with the number of a role is of that role
pub part_is : (lab : Laboratory) (w : WorldState) (number : ℕ) (role : Role) → IsRouted (roles lab) w → slice_get (roles lab) number ≡ Some role → IsOf (actor_at w.actors number).part role
part_is lab w number role r e =
    let within : number < length w.actors = omega (arith, slice_get_within (roles lab) number role e, r.actors) in
    r.parts number (actor_at w.actors number) role (slice_get-get_or w.actors number no_actor within) e

-- the driver
pub driver_is : (part : Part) → IsOf part DriverRole → part ≡ Driver
driver_is Driver is = refl
driver_is (Desk d) is = cc is.1
driver_is (Module (Link s)) is = cc is
driver_is (Module _) is = cc is.1

-- a Decision of a node
pub decision_is : (part : Part) (name : List ℕ) (setup : NodeSetup) → IsOf part (Node DecisionRole name setup) → (s : DecisionState) × (part ≡ Module (Decision s)) × (s.me ≡ name)
decision_is Driver name setup is = cc is
decision_is (Desk d) name setup is = cc is.1
decision_is (Module (Decision s)) name setup is = (s, refl, cc is.1)
decision_is (Module (Link s)) name setup is = cc is
decision_is (Module _) name setup is = cc is.1

-- a store's journal
pub journal_is : (part : Part) (name : List ℕ) (setup : NodeSetup) → IsOf part (Node StoreRole name setup) → get_or (journal_of part) 0 [] ≡ entries_of part
journal_is Driver name setup is = cc
journal_is (Desk d) name setup is = cc
journal_is (Module (Store s)) name setup is = refl
journal_is (Module (Link s)) name setup is = cc
journal_is (Module _) name setup is = cc

-- a desk is that of its node, and names the actors of which it has views
pub record IsDeskOf (lab : Laboratory) (number : ℕ) (d : DeskState) : Type 0 where
  pub setup : NodeSetup
  pub is : slice_get (roles lab) number ≡ Some (Node DeskRole d.node setup)
  pub store : setup.store ≡ d.store.owner
  pub decision : setup.decision ≡ d.decision.owner

desk_part : (part : Part) (role : Role) (d : DeskState) → desk_of part ≡ Some d → IsOf part role
    → (setup : NodeSetup) × (role ≡ Node DeskRole d.node setup) × (setup.store ≡ d.store.owner) × (setup.decision ≡ d.decision.owner)
desk_part Driver role d e is = absurd (none-some d e)
desk_part (Desk c) role d e is = subst (λ (x : DeskState). IsOf (Desk x) role) (same_Some c d e) is
desk_part (Module m) role d e is = absurd (none-some d e)

pub desk_is : (lab : Laboratory) (w : WorldState) (number : ℕ) (d : DeskState) → IsRouted (roles lab) w → desk_of (actor_at w.actors number).part ≡ Some d → IsDeskOf lab number d
desk_is lab w number d r e =
    elim (cases_lt number (length w.actors)) [
      | inl within ↦
          let role = get_or (roles lab) number DriverRole in
          let there : slice_get (roles lab) number ≡ Some role = slice_get-get_or (roles lab) number DriverRole (omega (arith, within, r.actors)) in
          let is = desk_part (actor_at w.actors number).part role d e (part_is lab w number role r there) in
          record { setup = is.0; is = there ∙ ap Some is.1; store = is.2; decision = is.3 }
      | inr past ↦ absurd (none-some d (sym (ap (λ (a : ActorState). desk_of a.part) (get_or_past w.actors number no_actor past)) ∙ e))
    ]
