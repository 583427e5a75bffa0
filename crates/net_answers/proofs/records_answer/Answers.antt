use Rattle.net_answers.proofs.RunsAnswer.{records_answer}
use Rattle.net_answers.proofs.records_answer.Goals as goal

pub returns : goal.returns
returns c = records_answer
