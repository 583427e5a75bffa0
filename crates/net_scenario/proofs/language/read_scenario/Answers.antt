use Rattle.std.proofs.Common.{◌≡◌, ◌-◌, ◌∙◌, ap, sym, length, [], arith}
use Rattle.std.proofs.lemmas.Bool.Decides.{nat_tests}
use Rattle.std.proofs.lemmas.List.{nil_from_length}
use Rattle.net_scenario.specs.Tallied.{seen_in}
use Rattle.net_scenario.specs.Seen.{scenario_in}
use Rattle.net_scenario.specs.Language.{scenario_of, lines_in, after_lines, lines_from, whole}
use Rattle.net_scenario.proofs.Late.{whole_in_limit}
use Rattle.net_scenario.proofs.language.read_scenario.Goals as goal

pub returns-clause-few : goal.returns-clause-few
unfolding scenario_of
returns-clause-few c =
    let bytes = c.args.bytes.now in
    let turns = c.args.turns in
    let l = c.loop-left in
    let none : l.left.now ≡ [] = nil_from_length l.left.now (grind (arith, nat_tests, c.is_empty.ensures, c.loop-left-test.false)) in
    let read = ap (λ left. after_lines (seen_in l.draft) turns (lines_from (length bytes) l.number (length bytes - length left) (lines_in left))) none in
    let said = sym l.invariant.same ∙ read in
    let full = sym c.is_all_blank.ensures ∙ c.if-is_all_blank.false in
    whole_in_limit bytes turns (scenario_in (seen_in l.draft)) (rw full (ap whole said))
