-- What the lines amount to, line by line.
use Rattle.std.proofs.Common.{◌≡◌, ℕ, ◌+◌, ◌≤◌, List, [], ◌∷◌, ◌++◌, true, false, length, None, refl, sym, ap, ap₂, ◌∙◌, ◌||◌, arith}
use Rattle.std.specs.List.{sum_by}
use Rattle.std.proofs.lemmas.Cmp.{nat_list_eq_equiv}
use Rattle.std.proofs.lemmas.List.Sums.{fold-append, sum_by-append, count_by-le-length}
use Rattle.net_laboratory.specs.declared.command.Command.{Command}
use Rattle.or_base.specs.declared.kind.Kind.{Kind}
use Rattle.net_laboratory.specs.declared.declared.NodeDecl.{NodeDecl}
use Rattle.std.specs.Str.{bytes_eq}
use Rattle.net_laboratory.specs.Scenario.{is_declared}
use Rattle.net_scenario.specs.Tallied.{names_of}
use Rattle.net_scenario.specs.Seen.{nothing_seen, is_sound_so_far}
use Rattle.net_scenario.proofs.Soundness.{stays_sound, sound_more}
use Rattle.or_base.specs.Names.{is_among}
use Rattle.net_laboratory.specs.Amounts.{record_keys, with_record_keys, with_key, keys_in, with_owner, owners_in, with_offer, offers_in, is_settle, settle_count, settles_in, ends_in_settle, after_tick, last_tick}

-- ---- one command more

pub keys_more : (kind : Kind) (nodes : List NodeDecl) (commands : List Command) (c : Command) → keys_in kind nodes (commands ++ c ∷ []) ≡ with_key (keys_in kind nodes commands) c
unfolding keys_in
keys_more kind nodes commands c = fold-append with_key (record_keys kind nodes) commands (c ∷ [])

pub owners_more : (commands : List Command) (c : Command) → owners_in (commands ++ c ∷ []) ≡ with_owner (owners_in commands) c
unfolding owners_in
owners_more commands c = fold-append with_owner [] commands (c ∷ [])

pub offers_more : (commands : List Command) (c : Command) → offers_in (commands ++ c ∷ []) ≡ with_offer (offers_in commands) c
unfolding offers_in
offers_more commands c = fold-append with_offer [] commands (c ∷ [])

pub end_more : (commands : List Command) (c : Command) → ends_in_settle (commands ++ c ∷ []) ≡ is_settle c
unfolding ends_in_settle
end_more commands c = fold-append (λ before c. is_settle c) false commands (c ∷ [])

pub tick_more : (commands : List Command) (c : Command) → last_tick (commands ++ c ∷ []) ≡ after_tick (last_tick commands) c
unfolding last_tick
tick_more commands c = fold-append after_tick None commands (c ∷ [])

-- ---- one node more

record_keys_more : (kind : Kind) (nodes : List NodeDecl) (node : NodeDecl) → record_keys kind (nodes ++ node ∷ []) ≡ with_record_keys kind (record_keys kind nodes) node
record_keys_more kind nodes node = fold-append (with_record_keys kind) [] nodes (node ∷ [])

pub settles_more : (commands : List Command) (c : Command) → settles_in (commands ++ c ∷ []) ≡ settles_in commands + settle_count c
unfolding settles_in
settles_more commands c =
    let one : sum_by settle_count (c ∷ []) ≡ settle_count c = omega arith in
    sum_by-append settle_count commands (c ∷ []) ∙ ap (λ n. sum_by settle_count commands + n) one

-- there are no more settles than commands
pub few_settles : (commands : List Command) → settles_in commands ≤ length commands
unfolding settles_in
few_settles commands = count_by-le-length is_settle commands

keys_of_nodes : (kind : Kind) (nodes : List NodeDecl) → keys_in kind nodes [] ≡ record_keys kind nodes
unfolding keys_in
keys_of_nodes kind nodes = refl

-- before the first command
pub keys_node_more : (kind : Kind) (nodes : List NodeDecl) (node : NodeDecl) (commands : List Command) → commands ≡ []
    → keys_in kind (nodes ++ node ∷ []) commands ≡ with_record_keys kind (keys_in kind nodes commands) node
keys_node_more kind nodes node commands none =
    ap (keys_in kind (nodes ++ node ∷ [])) none ∙ keys_of_nodes kind (nodes ++ node ∷ []) ∙ record_keys_more kind nodes node
    ∙ sym (ap (λ keys. with_record_keys kind keys node) (ap (keys_in kind nodes) none ∙ keys_of_nodes kind nodes))

-- ---- nothing

pub keys_none : (kind : Kind) → keys_in kind [] [] ≡ []
unfolding keys_in
keys_none kind = refl

pub owners_none : owners_in [] ≡ []
unfolding owners_in
owners_none = refl

pub offers_none : offers_in [] ≡ []
unfolding offers_in
offers_none = refl

pub settles_none : settles_in [] ≡ 0
unfolding settles_in
settles_none = refl

pub end_none : ends_in_settle [] ≡ false
unfolding ends_in_settle
end_none = refl

pub tick_none : last_tick [] ≡ None
unfolding last_tick
tick_none = refl

pub nothing_sound : is_sound_so_far nothing_seen ≡ true
unfolding is_sound_so_far
nothing_sound = refl

pub ruleset nothing_tallied = (keys_none, owners_none, offers_none, settles_none, end_none, tick_none, nothing_sound)

-- ---- names

-- equal texts, from either side
bytes_same : (a b : List ℕ) → bytes_eq a b ≡ bytes_eq b a
bytes_same a b = nat_list_eq_equiv.symm a b

pub among_names : (nodes : List NodeDecl) (name : List ℕ) → is_among name (names_of nodes) ≡ is_declared nodes name
among_names [] name = refl
among_names (node ∷ nodes) name = ap₂ (λ here later. here || later) (bytes_same name node.name) (among_names nodes name)

pub ruleset one_more = (keys_more, owners_more, offers_more, settles_more, few_settles, end_more, tick_more, stays_sound, sound_more)
