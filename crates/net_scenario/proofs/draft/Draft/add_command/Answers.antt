use Rattle.std.proofs.Common.{ap, sym, ◌∙◌, ◌+◌}
use Rattle.net_scenario.specs.declared.statement.Statement.TheVariants as says
use Rattle.net_scenario.specs.Seen.{with_line, kind_in, is_sound_so_far}
use Rattle.net_scenario.specs.Tallied.{seen_in}
use Rattle.net_scenario.proofs.Soundness.{stays_sound}
use Rattle.net_laboratory.specs.Amounts.{with_key, keys_in, with_owner, owners_in, with_offer, offers_in, settle_count, settles_in, ends_in_settle, after_tick, last_tick}
use Rattle.net_scenario.proofs.Tallies.{keys_more, owners_more, offers_more, settles_more, end_more, tick_more}
use Rattle.net_scenario.proofs.draft.Draft.add_command.Goals as goal

pub returns-clause-tallied : goal.returns-clause-tallied
unfolding with_line
returns-clause-tallied c =
    let t = c.requires.tallied in
    let seen = seen_in c.args.self.now in
    let kind = kind_in seen in
    let command = c.args.command in
    let counted = c.in_ok-count.ensures in
    let pushed = c.in_ok-push.ensures.items in
    record {
      names = t.names;
      keys =
          counted.keys ∙ ap (λ keys. with_key keys command) t.keys ∙ sym (keys_more kind seen.nodes seen.commands command)
          ∙ sym (ap (keys_in kind seen.nodes) pushed);
      owners =
          counted.owners ∙ ap (λ owners. with_owner owners command) t.owners ∙ sym (owners_more seen.commands command)
          ∙ sym (ap owners_in pushed);
      offers =
          counted.offers ∙ ap (λ offers. with_offer offers command) t.offers ∙ sym (offers_more seen.commands command)
          ∙ sym (ap offers_in pushed);
      settles =
          counted.settles ∙ ap (λ n. n + settle_count command) t.settles ∙ sym (settles_more seen.commands command)
          ∙ sym (ap settles_in pushed);
      is_settled = counted.is_settled ∙ sym (end_more seen.commands command) ∙ sym (ap ends_in_settle pushed);
      moment =
          counted.moment ∙ ap (λ moment. after_tick moment command) t.moment ∙ sym (tick_more seen.commands command)
          ∙ sym (ap last_tick pushed);
      sound =
          ap (λ commands. is_sound_so_far (record seen { commands = commands })) pushed
          ∙ stays_sound seen (says.Command command) t.sound c.requires.admitted;
    }
