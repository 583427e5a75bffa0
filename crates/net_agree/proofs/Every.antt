-- The laws of runs, each from those before it.
use Rattle.kv_agree.proofs.Joined.{joined_stores_agree}
use Rattle.kv_agree.proofs.PairedStays.{stay_paired}
use Rattle.kv_agree.proofs.SendsValid.{stores_stay_orderly}
use Rattle.net_agree.specs.Lifted.{RunsArePaired}
use Rattle.net_record.proofs.RunsTell.{runs_tell}
use Rattle.net_agree.specs.Recorded.{RecordsAgree}
use Rattle.net_agree.specs.Settled.{RunsAgree}
use Rattle.net_agree.proofs.Counted.{runs_are_counted}
use Rattle.net_agree.proofs.Lifted.{runs_are_paired}
use Rattle.net_agree.proofs.Recorded.{records_agree}
use Rattle.net_agree.proofs.Routed.{runs_are_routed}
use Rattle.net_agree.proofs.Settled.{runs_agree}
use Rattle.net_agree.proofs.Timed.{runs_are_timed}

pub every_pair : RunsArePaired
every_pair = runs_are_paired (stay_paired stores_stay_orderly) runs_are_routed runs_are_timed runs_are_counted

pub every_settle : RunsAgree
every_settle = runs_agree every_pair runs_are_routed joined_stores_agree

pub every_record : RecordsAgree
every_record = records_agree runs_tell every_settle
