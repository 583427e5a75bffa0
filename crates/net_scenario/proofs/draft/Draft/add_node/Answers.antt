use Rattle.std.proofs.Common.{ap, ap₂, sym, ◌∙◌, ◌∷◌, []}
use Rattle.net_scenario.specs.declared.statement.Statement.TheVariants as says
use Rattle.net_scenario.specs.Seen.{with_line, kind_in, is_sound_so_far}
use Rattle.net_scenario.specs.Tallied.{seen_in, names_of}
use Rattle.net_scenario.proofs.Soundness.{stays_sound, node_is_new}
use Rattle.std.proofs.lemmas.List.{map-append}
use Rattle.net_laboratory.specs.Amounts.{with_name, with_record_keys, keys_in}
use Rattle.net_scenario.proofs.Lists.{with_new}
use Rattle.net_scenario.proofs.Tallies.{among_names, keys_node_more}
use Rattle.net_scenario.proofs.draft.Draft.add_node.Goals as goal

pub returns-clause-tallied : goal.returns-clause-tallied
unfolding with_line
returns-clause-tallied c =
    let t = c.requires.tallied in
    let seen = seen_in c.args.self.now in
    let kind = kind_in seen in
    let node = c.args.node in
    let counted = c.in_ok-count_node.ensures in
    let pushed = c.in_ok-push.ensures.items in
    let new = node_is_new seen node c.requires.admitted in
    record {
      names =
          c.in_ok-add.ensures ∙ ap₂ with_name t.names c.as_str.ensures
          ∙ with_new (names_of seen.nodes) node.name (among_names seen.nodes node.name ∙ new.1)
          ∙ sym (map-append (λ n. n.name) seen.nodes (node ∷ [])) ∙ sym (ap names_of pushed);
      keys =
          counted.keys ∙ ap₂ (λ kind keys. with_record_keys kind keys node) c.kind-kind.ensures t.keys
          ∙ sym (keys_node_more kind seen.nodes node seen.commands new.0)
          ∙ sym (ap (λ nodes. keys_in kind nodes seen.commands) pushed);
      owners = ap (λ owners. owners.items) counted.owners ∙ t.owners;
      offers = ap (λ offers. offers.items) counted.offers ∙ t.offers;
      settles = counted.settles ∙ t.settles;
      is_settled = counted.is_settled ∙ t.is_settled;
      moment = counted.moment ∙ t.moment;
      sound =
          ap (λ nodes. is_sound_so_far (record seen { nodes = nodes })) pushed
          ∙ stays_sound seen (says.Node node) t.sound c.requires.admitted;
    }
