use Rattle.std.proofs.Common.{◌≡◌, ap, ◌∙◌, rules}
use Rattle.net_scenario.specs.Seen.{scenario_in}
use Rattle.net_laboratory.specs.Sound.{is_sound}
use Rattle.net_scenario.specs.Tallied.{seen_in}
use Rattle.net_scenario.proofs.Soundness.{scenario_is_sound}
use Rattle.net_scenario.proofs.language.scenario_in.Goals as goal

pub new-requires : goal.new-requires
unfolding scenario_in
new-requires c =
    let same : record { kind = c.kind-kind.result; ttl = c.args.draft.ttl; nodes = c.from_vec.result; links = c.from_vec-2.result; commands = c.from_vec-3.result; turns = c.schedule_given.result }
    ≡ scenario_in (seen_in c.args.draft) = search rules in
    ap is_sound same ∙ scenario_is_sound (seen_in c.args.draft) c.requires.sound
