use Rattle.std.proofs.Common.{◌≡◌, ◌∙◌, sym, ap, rules, string_bytes}
use Rattle.std.specs.List.{list_any}
use Rattle.std.specs.Str.{bytes_eq}
use Rattle.net_scenario.proofs.Lists.{list_any-map}
use Rattle.net_scenario.proofs.names.Names.contains.Goals as goal

pub returns : goal.returns
returns c =
    let texts = c.self.inside.texts.keys in
    let found : c.contains.result ≡ list_any (λ text. bytes_eq c.args.text.now (string_bytes text)) texts = search rules in
    found ∙ sym (list_any-map (bytes_eq c.args.text.now) string_bytes texts) ∙ ap (list_any (bytes_eq c.args.text.now)) c.self.view_is
