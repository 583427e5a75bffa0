-- Hops from a place on, and where one of the lists has ended there are no more routes.
use Rattle.std.proofs.Common.{◌≡◌, ℕ, ◌+◌, ◌≤◌, ◌<◌, List, [], ◌∷◌, ◌++◌, length, get_or, drop, Option, None, Bor, Iter, ◌⊎◌, inl, inr, refl, sym, ap, ◌∙◌, subst, append_assoc, append-nil}
use Rattle.std.specs.Prelude.{codes}
use Rattle.std.proofs.iter.Yields.{fronts}
use Rattle.std.proofs.lemmas.Iterator.{zips}
use Rattle.std.proofs.lemmas.List.{at_drop_more, at_drop_all}
use Rattle.std.specs.Iterator.Adapters.{zip_first, zip_second}
use Rattle.std.specs.Slice.Iter.{iter_rest}
use Rattle.std.specs.declared.iter.Zip.{Zip}
use Rattle.net_laboratory.specs.declared.declared.NodeDecl.{NodeDecl}
use Rattle.net_record.specs.declared.record.NodeMark.{NodeMark}
use Rattle.net_report.specs.Report.{with_commas, routes_text}

-- texts, each with a comma before it
abbrev pub texts_behind : List (List ℕ) → List ℕ
texts_behind [] = []
texts_behind (text ∷ texts) = (codes "," ++ text) ++ texts_behind texts

with_commas_first : (text : List ℕ) (texts : List (List ℕ)) → with_commas (text ∷ texts) ≡ text ++ texts_behind texts
with_commas_first text [] = sym (append-nil text)
with_commas_first text (next ∷ texts) =
    ap (λ rest. text ++ codes "," ++ rest) (with_commas_first next texts) ∙ append_assoc text (codes ",") (next ++ texts_behind texts)

pub texts_behind_more : (texts : List (List ℕ)) (i : ℕ) → i < length texts
    → texts_behind (drop i texts) ≡ (codes "," ++ get_or texts i []) ++ texts_behind (drop (i + 1) texts)
texts_behind_more texts i within = at_drop_more texts_behind texts i [] within

pub texts_behind_end : (texts : List (List ℕ)) (i : ℕ) → length texts ≤ i → texts_behind (drop i texts) ≡ []
texts_behind_end texts i past = at_drop_all texts_behind texts i past

pub ruleset text_steps = (texts_behind_more, texts_behind_end)

-- the first text is written
pub text_begins : (texts others : List (List ℕ)) (old new first : List ℕ) → texts ≡ first ∷ others → new ≡ old ++ first
    → new ++ texts_behind (drop 0 others) ≡ old ++ with_commas texts
text_begins texts others old new first split written =
    ap (λ text. text ++ texts_behind others) written
    ∙ append_assoc old first (texts_behind others)
    ∙ ap (λ text. old ++ text) (sym (with_commas_first first others) ∙ ap with_commas (sym split))

routes_of_no_nodes : (nodes : List NodeDecl) (marks : List NodeMark) → length nodes ≡ 0 → routes_text nodes marks ≡ []
routes_of_no_nodes [] marks e = refl
routes_of_no_nodes (node ∷ nodes) marks e = cc

routes_of_no_marks : (nodes : List NodeDecl) (marks : List NodeMark) → length marks ≡ 0 → routes_text nodes marks ≡ []
routes_of_no_marks [] marks e = refl
routes_of_no_marks (node ∷ nodes) [] e = refl
routes_of_no_marks (node ∷ nodes) (mark ∷ marks) e = cc

-- the routes that a walk has left
abbrev pub routes_left : Zip (Iter NodeDecl) (Iter NodeMark) → List ℕ
routes_left walk = routes_text (iter_rest (zip_first walk)) (iter_rest (zip_second walk))

-- where the walk has ended there are none
pub no_routes_left : (walk after : Zip (Iter NodeDecl) (Iter NodeMark)) (item : Option (Bor NodeDecl × Bor NodeMark))
    → item ≡ None → zips fronts fronts walk item after → routes_left walk ≡ []
no_routes_left walk after item none steps = by (subst (λ o. zips fronts fronts walk o after) none steps)
  where
    by : ((u : Iter NodeDecl) × fronts (zip_first walk) None u) ⊎ ((u : Iter NodeMark) × fronts (zip_second walk) None u) → routes_left walk ≡ []
    by (inl nodes) = routes_of_no_nodes _ _ nodes.1.0
    by (inr marks) = routes_of_no_marks _ _ marks.1.0
