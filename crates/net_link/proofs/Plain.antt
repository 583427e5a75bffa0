-- A direction with no act and nothing held back forwards a message as it comes, and stays as it is.
use Rattle.std.proofs.Common.{◌≡◌, ℕ, List, [], ◌∷◌, Bool, true, false, Some, None, ◌==◌, ◌&&◌, length, map, if◌then◌else◌, refl, sym, ◌∙◌, ap, arith}
use Rattle.std.specs.Str.{bytes_eq}
use Rattle.std.proofs.lemmas.Bool.Decides.{nat_tests}
use Rattle.std.proofs.lemmas.Slice.Eq.{bytes_eq-Decides}
use Rattle.or_base.specs.declared.act.Act.{Act}
use Rattle.or_base.specs.declared.item.Item.TheVariants.{Net}
use Rattle.or_base.specs.declared.message.Msg.{Msg}
use Rattle.or_actor.specs.declared.output.Output.TheVariants.{To}
use Rattle.net_link.specs.declared.end.End.{End}
use Rattle.net_link.specs.declared.end.End.TheVariants.{A, B}
use Rattle.net_link.specs.declared.held.HeldMsg.{HeldMsg}
use Rattle.net_link.specs.End.{other_end, port_for}
use Rattle.net_link.specs.Link.{Direction, LinkState, no_script, direction_after, forwards, is_plain, node_at, direction_from, with_direction, end_of, message_to, carry_step}

neither : (acts : List Act) (held : List HeldMsg) → ((length acts == 0) && (length held == 0)) ≡ true → record { script = acts; held = held } ≡ no_script
neither [] [] h = refl
neither [] (message ∷ held) h = absurd (grind (arith, nat_tests))
neither (act ∷ acts) held h = absurd (grind (arith, nat_tests))

plain : (d : Direction) → is_plain d ≡ true → d ≡ no_script
plain d h = neither d.script d.held h

pub after_plain : (d : Direction) (msg : Msg) → is_plain d ≡ true → direction_after d msg ≡ d
unfolding direction_after
after_plain d msg h = ap (λ x. direction_after x msg) (plain d h) ∙ sym (plain d h)

pub forwards_plain : (d : Direction) (msg : Msg) → is_plain d ≡ true → forwards d msg ≡ msg ∷ []
unfolding forwards
forwards_plain d msg h = ap (λ x. forwards x msg) (plain d h)

same_direction : (s : LinkState) (from : End) → with_direction s from (direction_from s from) ≡ s
same_direction s A = refl
same_direction s B = refl

-- a message of an end names the node there
message_from : (s : LinkState) (from : End) (msg : Msg) → message_to s (other_end from) msg ≡ To (port_for (other_end from) msg) (Net s.link (node_at s from) msg)
message_from s A msg = refl
message_from s B msg = refl

node_if : (s : LinkState) (node : List ℕ) (from : End) (is_a is_b : Bool) → bytes_eq node s.a ≡ is_a → bytes_eq node s.b ≡ is_b
    → (if is_a then Some A else if is_b then Some B else None) ≡ Some from → node_at s from ≡ node
node_if s node A true is_b at_a at_b h = sym ((bytes_eq-Decides node s.a).0 at_a)
node_if s node B true is_b at_a at_b h = cc
node_if s node A false true at_a at_b h = cc
node_if s node B false true at_a at_b h = sym ((bytes_eq-Decides node s.b).0 at_b)
node_if s node from false false at_a at_b h = cc

-- the node that was found at an end is that end's
pub node_found : (s : LinkState) (node : List ℕ) (from : End) → end_of s node ≡ Some from → node_at s from ≡ node
node_found s node from h = node_if s node from (bytes_eq node s.a) (bytes_eq node s.b) refl refl h

carry_end : (s : LinkState) (from : End) (msg : Msg) → is_plain (direction_from s from) ≡ true → carry_step s (Some from) msg ≡ (s, message_to s (other_end from) msg ∷ [])
unfolding carry_step
carry_end s from msg h =
    ap (λ d. (with_direction s from d, map (message_to s (other_end from)) (forwards (direction_from s from) msg))) (after_plain (direction_from s from) msg h)
    ∙ ap (λ t. (t, map (message_to s (other_end from)) (forwards (direction_from s from) msg))) (same_direction s from)
    ∙ ap (λ msgs. (s, map (message_to s (other_end from)) msgs)) (forwards_plain (direction_from s from) msg h)

-- through such a direction a message is carried as it came, and the link stays as it is
pub carry_plain : (s : LinkState) (node : List ℕ) (from : End) (msg : Msg) → end_of s node ≡ Some from → is_plain (direction_from s from) ≡ true
    → carry_step s (end_of s node) msg ≡ (s, To (port_for (other_end from) msg) (Net s.link node msg) ∷ [])
carry_plain s node from msg found h =
    ap (λ x. carry_step s x msg) found
    ∙ carry_end s from msg h
    ∙ ap (λ message. (s, message ∷ [])) (message_from s from msg)
    ∙ ap (λ x. (s, To (port_for (other_end from) msg) (Net s.link x msg) ∷ [])) (node_found s node from found)
