-- Lines that are appended part by part.
use Rattle.std.proofs.Common.{◌≡◌, ℕ, List, [], ◌∷◌, ◌++◌, sym, ◌∙◌, ap, append_assoc}
use Rattle.std.specs.Prelude.{codes}
use Rattle.std.specs.Fmt.{decimal}
use Rattle.or_base.specs.TurnDone.{TurnDone}
use Rattle.net_report.specs.Report.{turn_line}

-- two texts with a number each, and an end
two_numbers : (out a n b m e : List ℕ) → ((out ++ (a ++ n)) ++ (b ++ m)) ++ e ≡ out ++ ((((a ++ n) ++ b) ++ m) ++ e)
two_numbers out a n b m e =
    append_assoc (out ++ (a ++ n)) (b ++ m) e ∙ append_assoc out (a ++ n) ((b ++ m) ++ e)
    ∙ ap (λ t. out ++ t) (sym (append_assoc (a ++ n) (b ++ m) e) ∙ ap (λ t. t ++ e) (sym (append_assoc (a ++ n) b m)))

-- the line of a turn
pub turn_line_parts : (out first second last : List ℕ) (t : TurnDone)
    → first ≡ out ++ (codes "{\"do\":\"turn\",\"lane\":" ++ decimal t.lane)
    → second ≡ first ++ (codes ",\"at\":" ++ decimal t.at)
    → last ≡ second ++ codes "}\n"
    → last ≡ out ++ turn_line t
unfolding turn_line
turn_line_parts out first second last t e f g =
    g ∙ ap (λ s. s ++ codes "}\n") (f ∙ ap (λ s. s ++ (codes ",\"at\":" ++ decimal t.at)) e)
    ∙ two_numbers out (codes "{\"do\":\"turn\",\"lane\":") (decimal t.lane) (codes ",\"at\":") (decimal t.at) (codes "}\n")
    ∙ ap (λ s. out ++ s) (sym (append_assoc (codes "{\"do\":\"turn\",\"lane\":" ++ decimal t.lane ++ codes ",\"at\":" ++ decimal t.at) (codes "}") (10 ∷ [])))
