use Rattle.std.proofs.Common.{◌≡◌, rules}
use Rattle.net_record.specs.Ends.{EndsDrained}
use Rattle.net_record.specs.Rounds.{round_robin}
use Rattle.net_record.specs.Records.{IsSettled, IsUnsettled, IsRecordOf}
use Rattle.net_record.specs.Run.{run as run_of, schedule_of}
use Rattle.net_record.specs.Tells.{RecordTells}
use Rattle.net_answers.specs.Recorded.{RecordAnswers}
use Rattle.net_agree.specs.Recorded.{RecordAgrees}
use Rattle.net_report.specs.Summary.{summary}
use Rattle.openr_lab.specs.Answer.{grid_of, unsettled_line}
use Rattle.openr_lab.proofs.Summed.{grid_settled, grid_left, grid_summed, grid_unsettled}
use Rattle.openr_lab.proofs.grids.answer_grid.Goals as goal

pub returns-in-Ok-clause-answer : goal.returns-in-Ok-clause-answer
returns-in-Ok-clause-answer c =
    let lab = c.in_ok-scenario.scenario in
    let is : lab ≡ grid_of c.args.size = search rules in
    let settled : IsSettled (round_robin lab) c.in-Ok.done = search rules in
    let text : c.from_vec.result ≡ summary c.in-Ok.done lab c.args.size = search rules in
    grid_settled lab c.args.size c.in-Ok.done c.from_vec.result is settled text

pub returns-in-Ok-clause-summed : goal.returns-in-Ok-clause-summed
returns-in-Ok-clause-summed c done =
    let lab = c.in_ok-scenario.scenario in
    let is : lab ≡ grid_of c.args.size = search rules in
    let settled : IsSettled (round_robin lab) c.in-Ok.done = search rules in
    let drained : EndsDrained lab (round_robin lab).last.world = search rules in
    let is_run : IsRecordOf (run_of lab (schedule_of c.in-Ok.done.turns)) c.in-Ok.done = search rules in
    let tells : RecordTells lab c.in-Ok.done = search rules in
    let answers : RecordAnswers lab c.in-Ok.done = search rules in
    let agrees : RecordAgrees lab c.in-Ok.done = search rules in
    let text : c.from_vec.result ≡ summary c.in-Ok.done lab c.args.size = search rules in
    grid_summed lab c.args.size c.in-Ok.done c.from_vec.result is settled drained is_run tells answers agrees text

pub returns-in-Err-Unsettled-clause-answer : goal.returns-in-Err-Unsettled-clause-answer
returns-in-Err-Unsettled-clause-answer c =
    let lab = c.in_ok-scenario.scenario in
    let settle = c.in-Err-Unsettled.settle in
    let is : lab ≡ grid_of c.args.size = search rules in
    let unsettled : IsUnsettled (round_robin lab) settle c.in-Err-Unsettled.done = search rules in
    let text : c.in_ok-unsettled_line-in-Err-Unsettled.field-0 ≡ unsettled_line settle = search rules in
    grid_left lab c.args.size settle c.in-Err-Unsettled.done c.in_ok-unsettled_line-in-Err-Unsettled.field-0 is unsettled text

pub returns-in-Err-Unsettled-clause-unsettled : goal.returns-in-Err-Unsettled-clause-unsettled
returns-in-Err-Unsettled-clause-unsettled c left =
    let lab = c.in_ok-scenario.scenario in
    let settle = c.in-Err-Unsettled.settle in
    let is : lab ≡ grid_of c.args.size = search rules in
    let unsettled : IsUnsettled (round_robin lab) settle c.in-Err-Unsettled.done = search rules in
    let tells : RecordTells lab c.in-Err-Unsettled.done = search rules in
    let answers : RecordAnswers lab c.in-Err-Unsettled.done = search rules in
    let agrees : RecordAgrees lab c.in-Err-Unsettled.done = search rules in
    let text : c.in_ok-unsettled_line-in-Err-Unsettled.field-0 ≡ unsettled_line settle = search rules in
    grid_unsettled lab c.args.size settle c.in-Err-Unsettled.done c.in_ok-unsettled_line-in-Err-Unsettled.field-0 is unsettled tells answers agrees text
