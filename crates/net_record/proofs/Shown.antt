-- Routes that a settle tells of nodes, and where their Fibs stand, leave what else it tells of them.
use Rattle.std.proofs.Common.{◌≡◌, ℕ, zero, suc, List, [], ◌∷◌, Bool, true, false, get_or, take, refl, ap, ◌∙◌}
use Rattle.or_base.specs.declared.entry.JournalEntry.{JournalEntry}
use Rattle.or_base.specs.declared.route.Route.{Route}
use Rattle.net_record.specs.declared.actor.ActorState.{ActorState}
use Rattle.net_record.specs.declared.record.NodeMark.{NodeMark}
use Rattle.net_record.specs.declared.stores.FibMark.{FibMark}
use Rattle.net_record.specs.Fronts.{fronts}
use Rattle.net_record.specs.Marks.{no_mark, entries_told}
use Rattle.net_record.specs.World.{marks_of, all_routes, with_routes, all_fibs, with_fibs, nodes_told}

-- the same without routes, and without where Fib stands
abbrev bare : NodeMark → NodeMark
bare mark = record mark { routes = []; fib_dirty = false; fib_routes = 0 }

bare_with : (marks : List NodeMark) (routes : List (List Route)) (place : ℕ) → bare (get_or (with_routes marks routes) place no_mark) ≡ bare (get_or marks place no_mark)
bare_with [] routes zero = refl
bare_with [] routes (suc place) = refl
bare_with (mark ∷ marks) [] zero = refl
bare_with (mark ∷ marks) [] (suc place) = bare_with marks [] place
bare_with (mark ∷ marks) (own ∷ routes) zero = refl
bare_with (mark ∷ marks) (own ∷ routes) (suc place) = bare_with marks routes place

fronts_with : (marks : List NodeMark) (routes : List (List Route)) (journals : List (List JournalEntry)) → fronts (with_routes marks routes) journals ≡ fronts marks journals
fronts_with [] routes journals = refl
fronts_with (mark ∷ marks) [] [] = refl
fronts_with (mark ∷ marks) [] (journal ∷ journals) = ap (λ js. take mark.entries journal ∷ js) (fronts_with marks [] journals)
fronts_with (mark ∷ marks) (own ∷ routes) [] = refl
fronts_with (mark ∷ marks) (own ∷ routes) (journal ∷ journals) = ap (λ js. take mark.entries journal ∷ js) (fronts_with marks routes journals)

-- and so does where a Fib stands
bare_fibs : (marks : List NodeMark) (fibs : List FibMark) (place : ℕ) → bare (get_or (with_fibs marks fibs) place no_mark) ≡ bare (get_or marks place no_mark)
bare_fibs [] fibs zero = refl
bare_fibs [] fibs (suc place) = refl
bare_fibs (mark ∷ marks) [] zero = refl
bare_fibs (mark ∷ marks) [] (suc place) = bare_fibs marks [] place
bare_fibs (mark ∷ marks) (fib ∷ fibs) zero = refl
bare_fibs (mark ∷ marks) (fib ∷ fibs) (suc place) = bare_fibs marks fibs place

fronts_fibs : (marks : List NodeMark) (fibs : List FibMark) (journals : List (List JournalEntry)) → fronts (with_fibs marks fibs) journals ≡ fronts marks journals
fronts_fibs [] fibs journals = refl
fronts_fibs (mark ∷ marks) [] [] = refl
fronts_fibs (mark ∷ marks) [] (journal ∷ journals) = ap (λ js. take mark.entries journal ∷ js) (fronts_fibs marks [] journals)
fronts_fibs (mark ∷ marks) (fib ∷ fibs) [] = refl
fronts_fibs (mark ∷ marks) (fib ∷ fibs) (journal ∷ journals) = ap (λ js. take mark.entries journal ∷ js) (fronts_fibs marks fibs journals)

bare_told : (actors : List ActorState) (shows : Bool) (place : ℕ) → bare (get_or (nodes_told actors shows) place no_mark) ≡ bare (get_or (marks_of actors) place no_mark)
unfolding nodes_told
bare_told actors true place = bare_fibs (with_routes (marks_of actors) (all_routes actors)) (all_fibs actors) place ∙ bare_with (marks_of actors) (all_routes actors) place
bare_told actors false place = refl

pub fronts_told : (actors : List ActorState) (shows : Bool) (journals : List (List JournalEntry)) → fronts (nodes_told actors shows) journals ≡ fronts (marks_of actors) journals
unfolding nodes_told
fronts_told actors true journals = fronts_fibs (with_routes (marks_of actors) (all_routes actors)) (all_fibs actors) journals ∙ fronts_with (marks_of actors) (all_routes actors) journals
fronts_told actors false journals = refl

pub syncs_shown : (actors : List ActorState) (shows : Bool) (place : ℕ) → (get_or (nodes_told actors shows) place no_mark).syncs ≡ (get_or (marks_of actors) place no_mark).syncs
syncs_shown actors shows place = ap (λ (mark : NodeMark). mark.syncs) (bare_told actors shows place)

pub entries_shown : (actors : List ActorState) (shows : Bool) (place : ℕ) → entries_told (nodes_told actors shows) place ≡ entries_told (marks_of actors) place
entries_shown actors shows place = ap (λ (mark : NodeMark). mark.entries) (bare_told actors shows place)
