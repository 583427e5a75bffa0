-- A desk to which so many entries are shown finds them in its turn; so a part's turn is its step with that number.
use Rattle.std.proofs.Common.{◌≡◌, ℕ, ◌-◌, ◌^◌, ◌<◌, List, [], false, ◌==◌, Option, Some, None, refl, ap, ◌∙◌, arith}
use Rattle.std.proofs.lemmas.Bool.{ne_eqb}
use Rattle.or_base.specs.declared.asked.Asked.{Asked}
use Rattle.or_base.specs.declared.asked.Asked.TheVariants.{Key, Prefix}
use Rattle.or_base.specs.declared.item.Item.{Item}
use Rattle.or_actor.specs.declared.output.Output.{Output}
use Rattle.or_actor.specs.Steps.{no_turn, turned}
use Rattle.net_record.specs.declared.part.Part.{Part}
use Rattle.net_record.specs.declared.part.Part.TheVariants.{Driver, Desk, Module}
use Rattle.net_record.specs.Desk.{DeskState, asked_in, with_question, desk_after, shown_for, desk_shown, found_for, desk_finds}
use Rattle.net_record.specs.Actors.{part_step, part_shown, part_finds}

is_turn : (at : ℕ) → at < 2 ^ 64 - 1 → (at == no_turn) ≡ false
is_turn at h = ne_eqb at no_turn (λ e. absurd (omega (arith, h, e)))

-- a desk's turn that found so many entries
pub desk_turned : (d after : DeskState) (item : Item) (at : ℕ) → at < 2 ^ 64 - 1 → after ≡ desk_after d item at
    → Desk after ≡ (turned at (Desk d) (Desk (desk_after d item at), [])).0
desk_turned d after item at h e = rw (is_turn at h) (ap Desk e)

desk_turn : (d : DeskState) (asked : Option Asked) (at : ℕ) (none : List Output) → at < 2 ^ 64 - 1
    → turned (found_for (shown_for d asked at) asked) (Desk (shown_for d asked at)) (Desk (with_question (shown_for d asked at) asked (found_for (shown_for d asked at) asked)), none)
    ≡ (Desk (with_question d asked at), none)
desk_turn d None at none h = refl
desk_turn d (Some (Key key)) at none h = rw (is_turn at h) refl
desk_turn d (Some (Prefix prefix)) at none h = rw (is_turn at h) refl

abbrev turn_of_shown : Part → ℕ → Item → ℕ → Part × List Output
turn_of_shown part lane item at =
    let shown = part_shown part item at in
    turned (part_finds shown item) shown (part_step shown lane item (part_finds shown item))

turn_shown : (part : Part) (lane at : ℕ) (item : Item) → at < 2 ^ 64 - 1 → turn_of_shown part lane item at ≡ part_step part lane item at
unfolding part_step desk_after desk_shown desk_finds
turn_shown Driver lane at item h = refl
turn_shown (Desk d) lane at item h = desk_turn d (asked_in item) at [] h
turn_shown (Module m) lane at item h = refl

-- the state after it, and what is sent, where it is known what it found
pub state_shown : (part shown after : Part) (lane at found : ℕ) (item : Item) → at < 2 ^ 64 - 1 → shown ≡ part_shown part item at → found ≡ part_finds shown item
    → after ≡ (turned found shown (part_step shown lane item found)).0 → after ≡ (part_step part lane item at).0
state_shown part shown after lane at found item h is finds e =
    e ∙ ap (λ n. (turned n shown (part_step shown lane item n)).0) finds
    ∙ ap (λ s. (turned (part_finds s item) s (part_step s lane item (part_finds s item))).0) is ∙ ap (λ r. r.0) (turn_shown part lane at item h)

pub sent_shown : (part shown : Part) (lane at found : ℕ) (item : Item) → at < 2 ^ 64 - 1 → shown ≡ part_shown part item at → found ≡ part_finds shown item
    → (turned found shown (part_step shown lane item found)).1 ≡ (part_step part lane item at).1
sent_shown part shown lane at found item h is finds =
    ap (λ n. (turned n shown (part_step shown lane item n)).1) finds
    ∙ ap (λ s. (turned (part_finds s item) s (part_step s lane item (part_finds s item))).1) is ∙ ap (λ r. r.1) (turn_shown part lane at item h)
