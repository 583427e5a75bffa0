use Rattle.std.proofs.Common.{rules, inl, ◌≡◌, ◌⊎◌, ◌≤◌, length, ap, ◌∙◌, subst}
use Rattle.openr_lab.specs.Answer.{answer_to}
use Rattle.openr_lab.specs.Streams.{WroteWhole}
use Rattle.openr_lab.proofs.Answered.{answered_read}
use Rattle.openr_lab.proofs.top.openr_plain.Goals as goal

pub returns-in-Ok-write_all-clause-answered : goal.returns-in-Ok-write_all-clause-answered
returns-in-Ok-write_all-clause-answered g c is_answer =
    let answer = c.in-Ok-answer_to.answer in
    let same = c.as_slice.ensures.value in
    answered_read c.args.words.now (g.S.Source.left c.args.source.now) (g.S.Source.left c.read_all.new.source) (g.K.Sink.taken c.args.sink.now)
    (g.K.Sink.taken c.write_all-2.new.sink) c.in-Ok-read_all.bytes.items answer (search rules) c.in-Ok-read_all.ensures.whole
    (subst (λ b. (answer.status ≡ 3) ⊎ (length b ≤ 33554432)) same c.in-Ok-answer_to.ensures.small)
    (c.in-Ok-answer_to.ensures.answer ∙ ap (answer_to c.args.words.now) same)
    (subst (WroteWhole (g.K.Sink.taken c.args.sink.now) (g.K.Sink.taken c.write_all-2.new.sink)) c.as_slice-2.ensures c.in-Ok-write_all.ensures.whole)

pub returns-in-Ok-write_all-clause-unsettled : goal.returns-in-Ok-write_all-clause-unsettled
returns-in-Ok-write_all-clause-unsettled g c unsettled = inl (search rules)

pub returns-clause-write_failed : goal.returns-clause-write_failed
returns-clause-write_failed g c failed = inl (search rules)
