use Rattle.std.proofs.Common.{◌≡◌, ◌∙◌, ap₂}
use Rattle.std.proofs.lemmas.Result.{IfOk-weaker}
use Rattle.clap.specs.Words.{app_of, with_rule}
use Rattle.lab_words.specs.Command.{IsCommand, bare_command, size_rule, trace_rule, workers_rule}
use Rattle.lab_words.proofs.command.command_line.Goals as goal

pub returns : goal.returns
returns c =
    let one : app_of c.in_ok-arg.field-0 ≡ with_rule bare_command workers_rule =
    c.in_ok-arg.ensures.shape c.workers_argument.ensures.local ∙ ap₂ with_rule c.bare_command.ensures c.workers_argument.ensures.rule in
    let two : app_of c.in_ok-arg-2.field-0 ≡ with_rule (with_rule bare_command workers_rule) size_rule =
    c.in_ok-arg-2.ensures.shape c.size_argument.ensures.local ∙ ap₂ with_rule one c.size_argument.ensures.rule in
    let three : app_of c.in_ok-arg-3.field-0 ≡ with_rule (with_rule (with_rule bare_command workers_rule) size_rule) trace_rule =
    c.in_ok-arg-3.ensures.shape c.trace_argument.ensures.local ∙ ap₂ with_rule two c.trace_argument.ensures.rule in
    let mode = c.mode_argument.ensures.rule in
    IfOk-weaker c.arg-4.result _ (λ r. IsCommand (app_of r))
    (λ r added. (mode.0, mode.1, added.shape c.mode_argument.ensures.local ∙ ap₂ with_rule three mode.2)) c.arg-4.ensures
