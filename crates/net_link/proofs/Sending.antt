-- What a link sends names its own link, whose number is small.
use Rattle.std.proofs.Common.{◌≡◌, ◌<◌, ◌^◌, List, [], ◌∷◌, ◌++◌, Bool, true, false, Option, Some, None, ◌&&◌, map, if◌then◌else◌, refl, ◌∙◌, ap, arith}
use Rattle.std.proofs.lemmas.Bool.Decides.{nat_tests}
use Rattle.std.proofs.lemmas.List.Folds.{list_all-append}
use Rattle.or_base.specs.declared.item.Item.{Item}
use Rattle.or_base.specs.declared.item.Item.TheVariants.{Up, Down, Tick, Net}
use Rattle.or_base.specs.declared.kind.Kind.{Kind}
use Rattle.or_base.specs.declared.kind.Kind.TheVariants.{Stores, Full}
use Rattle.or_base.specs.declared.message.Msg.{Msg}
use Rattle.or_actor.specs.declared.output.Output.{Output}
use Rattle.or_actor.specs.Fits.{sends_small_link, have_small_links}
use Rattle.net_link.specs.declared.end.End.{End}
use Rattle.net_link.specs.declared.end.End.TheVariants.{A, B}
use Rattle.net_link.specs.End.{other_end}
use Rattle.net_link.specs.Link.{LinkState, direction_from, end_of, message_to, up_told, down_told, up_to, down_to, carry_step, held_from, held_messages, forwards, link_step}

small_message : (s : LinkState) (end : End) (msg : Msg) → s.link < 2 ^ 31 → sends_small_link (message_to s end msg) ≡ true
small_message s end msg h = grind (arith, nat_tests)

small_up : (kind : Kind) (s : LinkState) (end : End) → s.link < 2 ^ 31 → sends_small_link (up_told kind s end) ≡ true
small_up Stores s end h = grind (arith, nat_tests)
small_up Full s end h = grind (arith, nat_tests)

small_down : (kind : Kind) (s : LinkState) (end : End) → s.link < 2 ^ 31 → sends_small_link (down_told kind s end) ≡ true
small_down Stores s end h = grind (arith, nat_tests)
small_down Full s end h = grind (arith, nat_tests)

small_messages : (s : LinkState) (end : End) (msgs : List Msg) → s.link < 2 ^ 31 → have_small_links (map (message_to s end) msgs) ≡ true
small_messages s end [] h = refl
small_messages s end (msg ∷ msgs) h = ap (λ b. b && have_small_links (map (message_to s end) msgs)) (small_message s end msg h) ∙ small_messages s end msgs h

small_both : (xs ys : List Output) → have_small_links xs ≡ true → have_small_links ys ≡ true → have_small_links (xs ++ ys) ≡ true
small_both xs ys hx hy = list_all-append sends_small_link xs ys ∙ ap (λ b. b && have_small_links ys) hx ∙ hy

small_two : (x y : Output) → sends_small_link x ≡ true → sends_small_link y ≡ true → have_small_links (x ∷ y ∷ []) ≡ true
small_two x y hx hy = rw (hx, hy) refl

small_if : (test : Bool) (t u : LinkState × List Output) → have_small_links t.1 ≡ true → have_small_links u.1 ≡ true → have_small_links (if test then t else u).1 ≡ true
small_if true t u ht hu = ht
small_if false t u ht hu = hu

small_carry : (s : LinkState) (from : Option End) (msg : Msg) → s.link < 2 ^ 31 → have_small_links (carry_step s from msg).1 ≡ true
unfolding carry_step
small_carry s None msg h = refl
small_carry s (Some from) msg h = small_messages s (other_end from) (forwards (direction_from s from) msg) h

small_held : (s : LinkState) (from : End) → s.link < 2 ^ 31 → have_small_links (held_from s from) ≡ true
small_held s from h = small_messages s (other_end from) (held_messages (direction_from s from)) h

-- the link has a small number, and so have those of all that is sent
pub small_step : (s : LinkState) (item : Item) → s.link < 2 ^ 31 → have_small_links (link_step s item).1 ≡ true
unfolding link_step
small_step s Up h = small_if s.is_up (s, []) (record s { is_up = true }, up_to s A ∷ up_to s B ∷ []) refl (small_two (up_to s A) (up_to s B) (small_up s.kind s A h) (small_up s.kind s B h))
small_step s Down h = small_if s.is_up _ (s, []) (small_two (down_to s A) (down_to s B) (small_down s.kind s A h) (small_down s.kind s B h)) refl
small_step s (Tick at) h = small_both (held_from s A) (held_from s B) (small_held s A h) (small_held s B h)
small_step s (Net link from msg) h = small_if s.is_up (carry_step s (end_of s from) msg) (s, []) (small_carry s (end_of s from) msg h) refl
small_step s _ h = refl
