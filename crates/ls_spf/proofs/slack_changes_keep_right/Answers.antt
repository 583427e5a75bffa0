use Rattle.ls_spf.proofs.Slack.{slack_changes_keep_right}
use Rattle.ls_spf.proofs.slack_changes_keep_right.Goals as goal

pub returns : goal.returns
returns c = slack_changes_keep_right
