use Rattle.std.proofs.Common.{◌∙◌, Some, ap, subst, sym}
use Rattle.lab_words.specs.Words.{IsInRange}
use Rattle.lab_words.proofs.Answered.{accepts_words, refuses_words}
use Rattle.lab_words.proofs.read.read_words.Goals as goal

pub returns-in-Ok-try_get_matches_from-clause-asked :
    goal.returns-in-Ok-try_get_matches_from-clause-asked
returns-in-Ok-try_get_matches_from-clause-asked c =
    let parse = c.in-Ok-try_get_matches_from.ensures in
    (accepts_words _ _ _ _ c.in-Ok.ensures parse.kinds parse.matches).0 ∙ ap Some (sym c.asked_in.ensures)

pub returns-in-Ok-try_get_matches_from-clause-range :
    goal.returns-in-Ok-try_get_matches_from-clause-range
returns-in-Ok-try_get_matches_from-clause-range c =
    let parse = c.in-Ok-try_get_matches_from.ensures in
    subst IsInRange (sym c.asked_in.ensures) (accepts_words _ _ _ _ c.in-Ok.ensures parse.kinds parse.matches).1

pub returns-in-Err-clause-usage : goal.returns-in-Err-clause-usage
returns-in-Err-clause-usage c =
    λ e. refuses_words _ c.in-Err.error _ _ c.in-Ok.ensures c.in-Err.ensures.kinds c.kind.ensures (c.fault_of_kind.ensures.usage (cc e))
