use Rattle.std.proofs.Common.{◌∙◌}
use Rattle.std.specs.Str.Parse.{ExplainsUnsignedError, HasUnsignedDigitsIfOk, ParsesUnsigned}
use Rattle.clap.specs.Words.{found_of}
use Rattle.clap.proofs.WalkLemmas.{one_text-rows}
use Rattle.lab_words.proofs.Numbers.{number_read}
use Rattle.lab_words.proofs.read.number_of.Goals as goal

pub returns : goal.returns
returns c =
    let rows = one_text-rows (found_of c.args.matches.now) c.args.id.now in
    c.unwrap_or.ensures
    ∙ number_read _ (λ bs r. ParsesUnsigned 32 10 bs r × ExplainsUnsignedError 10 bs r × HasUnsignedDigitsIfOk bs r) _ c.get_one.result
    (λ u x g. g.0) (λ e. c.get_one.ensures.none (rows ∙ e)) (λ text e. c.get_one.ensures.value text (rows ∙ e))
