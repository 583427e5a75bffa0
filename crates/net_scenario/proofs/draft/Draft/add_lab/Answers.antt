use Rattle.std.proofs.Common.{ap₂, sym, ◌∙◌}
use Rattle.net_scenario.specs.declared.statement.Statement.TheVariants as says
use Rattle.net_scenario.specs.Seen.{with_line, kind_in}
use Rattle.net_scenario.specs.Tallied.{seen_in}
use Rattle.net_scenario.proofs.Soundness.{stays_sound}
use Rattle.net_laboratory.specs.Amounts.{keys_in}
use Rattle.net_scenario.proofs.Soundness.{none_before}
use Rattle.net_scenario.proofs.Tallies.{keys_none}
use Rattle.net_scenario.proofs.draft.Draft.add_lab.Goals as goal

pub returns-clause-tallied : goal.returns-clause-tallied
unfolding with_line
returns-clause-tallied c =
    let t = c.requires.tallied in
    let seen = seen_in c.args.self.now in
    let none = none_before seen c.args.kind c.args.ttl t.sound c.requires.admitted in
    record {
      names = t.names;
      keys =
          t.keys ∙ ap₂ (keys_in (kind_in seen)) none.0 none.1 ∙ keys_none (kind_in seen)
          ∙ sym (keys_none c.args.kind) ∙ sym (ap₂ (keys_in c.args.kind) none.0 none.1);
      owners = t.owners;
      offers = t.offers;
      settles = t.settles;
      is_settled = t.is_settled;
      moment = t.moment;
      sound = stays_sound seen (says.Lab c.args.kind c.args.ttl) t.sound c.requires.admitted;
    }
