-- What the store is handed names no link.
use Rattle.std.proofs.Common.{◌≡◌, ℕ, List, [], ◌∷◌, Bool, true, false, if◌then◌else◌, refl}
use Rattle.or_actor.specs.declared.output.Output.{Output}
use Rattle.or_actor.specs.Fits.{sends_small_link, have_small_links}
use Rattle.own_record.specs.declared.own_record.OwnRecord.{OwnRecord}
use Rattle.own_record.specs.OwnRecord.{is_due, handed_over}

small_if : (test : Bool) (x : Output) → sends_small_link x ≡ true → have_small_links (if test then x ∷ [] else []) ≡ true
small_if true x h = rw h refl
small_if false x h = refl

pub small_handed_over : (own : OwnRecord) (text : List ℕ) (is_empty : Bool) → have_small_links (handed_over own text is_empty) ≡ true
small_handed_over own text is_empty = small_if (is_due own.last text is_empty) _ refl
