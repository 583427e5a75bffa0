-- Sets of places that grow.
use Rattle.std.proofs.Common.{◌≡◌, ℕ, List, [], ◌∷◌, ◌++◌, Bool, true, false, cond, refl, sym, ◌∙◌, ap, subst}
use Rattle.std.specs.Prelude.{◌||◌}
use Rattle.std.specs.List.{list_any}
use Rattle.std.specs.BTreeMap.{is_at}
use Rattle.std.proofs.lemmas.List.Folds.{list_any-append}
use Rattle.or_base.specs.declared.database.Adjacency.{Adjacency}
use Rattle.ls_graph.specs.Places.{pair_cmp, ends_of, AreJoined}
use Rattle.ls_graph.proofs.Order.{test_back}

-- the places with one more
abbrev pub HasOneMore : List (List ℕ × List ℕ) → List ℕ × List ℕ → List (List ℕ × List ℕ) → Type 0
HasOneMore before q after = (p : List ℕ × List ℕ) → list_any (is_at (pair_cmp p)) after ≡ cond (is_at (pair_cmp q) p) true (list_any (is_at (pair_cmp p)) before)

or_assoc : (r s t : Bool) → ((r || s) || t) ≡ (r || (s || t))
or_assoc true s t = refl
or_assoc false s t = refl

or_either : (s t : Bool) → cond s true t ≡ (t || (s || false))
or_either true true = refl
or_either true false = refl
or_either false true = refl
or_either false false = refl

joined_one : (before after : List (List ℕ × List ℕ)) (q : List ℕ × List ℕ) → HasOneMore before q after → AreJoined before (q ∷ []) after
joined_one before after q more = record {
  at = λ p. more p ∙ ap (λ t. cond t true (list_any (is_at (pair_cmp p)) before)) (test_back p q) ∙ or_either (is_at (pair_cmp p) q) (list_any (is_at (pair_cmp p)) before);
}

pub joined_more : (before listed mid later after : List (List ℕ × List ℕ)) → AreJoined before listed mid → AreJoined mid later after → AreJoined before (listed ++ later) after
joined_more before listed mid later after first second = record {
  at = λ p.
      second.at p ∙ ap (λ t. t || list_any (is_at (pair_cmp p)) later) (first.at p)
      ∙ or_assoc (list_any (is_at (pair_cmp p)) before) (list_any (is_at (pair_cmp p)) listed) (list_any (is_at (pair_cmp p)) later)
      ∙ ap (λ t. list_any (is_at (pair_cmp p)) before || t) (sym (list_any-append (is_at (pair_cmp p)) listed later));
}

-- both ends of a link, by equal names
pub ends_added : (x : List ℕ) (a : Adjacency) (node interface far far_if : List ℕ) (before mid after : List (List ℕ × List ℕ))
    → node ≡ x → interface ≡ a.own_if → far ≡ a.other → far_if ≡ a.other_if → HasOneMore before (node, interface) mid → HasOneMore mid (far, far_if) after
    → AreJoined before (ends_of x a) after
ends_added x a node interface far far_if before mid after n i f j first second =
    let near : HasOneMore before (x, a.own_if) mid = subst (λ y. HasOneMore before (x, y) mid) i (subst (λ y. HasOneMore before (y, interface) mid) n first) in
    let other : HasOneMore mid (a.other, a.other_if) after = subst (λ y. HasOneMore mid (a.other, y) after) j (subst (λ y. HasOneMore mid (y, far_if) after) f second) in
    joined_more before ((x, a.own_if) ∷ []) mid ((a.other, a.other_if) ∷ []) after (joined_one before mid (x, a.own_if) near) (joined_one mid after (a.other, a.other_if) other)
