use Rattle.std.proofs.Common.{◌∙◌, ap, ◌++◌}
use Rattle.std.specs.Prelude.{codes, string_bytes}
use Rattle.std.specs.Fmt.{decimal}
use Rattle.net_report.proofs.Parts.{turn_line_parts}
use Rattle.net_report.proofs.lines.TurnDoneReportLine.write_line.Goals as goal

pub returns : goal.returns
returns c =
    turn_line_parts (string_bytes c.args.out.now) (string_bytes c.text_and_number.new.out) (string_bytes c.text_and_number-2.new.out) (string_bytes c.push_str.new.self) c.args.self.now
    (c.in_ok-text_and_number.ensures ∙ ap (λ n. string_bytes c.args.out.now ++ (codes "{\"do\":\"turn\",\"lane\":" ++ decimal n)) (c.from.ensures ∙ c.lane.ensures))
    (c.in_ok-text_and_number-2.ensures ∙ ap (λ n. string_bytes c.text_and_number.new.out ++ (codes ",\"at\":" ++ decimal n)) c.at.ensures)
    c.in_ok-push_str.ensures.bytes
