use Rattle.std.proofs.Common.{◌≡◌, ◌∙◌, ◌++◌, ◌∷◌, [], sym, ap, rules, false, map, string_bytes}
use Rattle.std.proofs.lemmas.List.{map-append}
use Rattle.std.specs.List.{list_any}
use Rattle.std.specs.Str.{bytes_eq}
use Rattle.or_base.specs.Names.{is_among}
use Rattle.net_scenario.proofs.Lists.{list_any-map, insert_new, with_new}
use Rattle.net_scenario.proofs.names.Names.add.Goals as goal

pub returns-in_ok-insert : goal.returns-in_ok-insert
returns-in_ok-insert c =
    let texts = c.self.inside.texts.keys in
    let text = c.in_ok-from_str.field-0 in
    let same : string_bytes text ≡ c.args.text.now = search rules in
    let absent : is_among c.args.text.now c.args.self.now ≡ false = search rules in
    let other : list_any (λ k. bytes_eq (string_bytes text) (string_bytes k)) texts ≡ false =
    sym (list_any-map (bytes_eq (string_bytes text)) string_bytes texts)
    ∙ ap (list_any (bytes_eq (string_bytes text))) c.self.view_is
    ∙ ap (λ name. list_any (bytes_eq name) c.args.self.now) same
    ∙ absent in
    let put : c.insert.new.self.keys ≡ texts ++ text ∷ [] = c.in_ok-insert.ensures.keys ∙ insert_new (λ x y. bytes_eq (string_bytes x) (string_bytes y)) texts text other in
    ap (map string_bytes) put ∙ map-append string_bytes texts (text ∷ []) ∙ ap (λ names. names ++ string_bytes text ∷ []) c.self.view_is
    ∙ ap (λ name. c.args.self.now ++ name ∷ []) same ∙ sym (with_new c.args.self.now c.args.text.now absent)
