-- What is seen stays sound with each line that may stand, and the whole is a sound scenario.
use Rattle.std.proofs.Common.{◌≡◌, ℕ, ◌+◌, Bool, true, false, ◌&&◌, ◌||◌, not, nat_le, nat_lt, List, [], ◌∷◌, ◌++◌, length, Option, is_some, is_none, refl, sym, ap, ◌∙◌, arith, append_assoc, append-nil, length-append, fold, if◌then◌else◌}
use Rattle.std.specs.List.{list_any, list_all}
use Rattle.std.specs.Option.{option_map_or}
use Rattle.std.specs.Str.{bytes_eq}
use Rattle.std.proofs.lemmas.Bool.Decides.{nat_tests}
use Rattle.or_base.specs.Limits.{is_between, is_node_name}
use Rattle.or_base.specs.declared.kind.Kind.{Kind}
use Rattle.net_laboratory.specs.declared.command.Command.{Command}
use Rattle.net_laboratory.specs.declared.declared.NodeDecl.{NodeDecl}
use Rattle.net_laboratory.specs.declared.declared.LinkDecl.{LinkDecl}
use Rattle.net_laboratory.specs.declared.schedule.Turn.{Turn}
use Rattle.net_scenario.specs.declared.statement.Statement.{Statement}
use Rattle.net_scenario.specs.declared.statement.Statement.TheVariants as says
use Rattle.net_laboratory.proofs.Room.{first_of}
use Rattle.net_laboratory.specs.Limits.{most_links, most_nodes, most_failing_calls, last_failing_call, most_turns}
use Rattle.net_laboratory.specs.Scenario.{is_declared}
use Rattle.net_laboratory.specs.Amounts.{is_settle, ends_in_settle}
use Rattle.net_laboratory.specs.Sound.{Declarations, is_lifetime, is_default_settle, default_settle, are_admitted, end_in_settle, admits_node, admits_link, admits_command, is_sound}
use Rattle.net_scenario.specs.Seen.{Seen, declared_by, has_none, is_opened, with_last_settle, schedule_given, with_line, admits, is_sound_so_far, scenario_in}
use Rattle.net_scenario.proofs.Bools.{both, and_true, or_left, or_right, or_more, or_true, under, not_true, none_not_some, empty_is_nil}

-- ---- lists of which each item may stand behind those before it

-- one item more
pub admitted_more : {X : Type 0} (admits : List X → X → Bool) (before xs : List X) (x : X)
    → are_admitted admits before xs ≡ true → admits (before ++ xs) x ≡ true → are_admitted admits before (xs ++ x ∷ []) ≡ true
admitted_more admits before [] x h last = and_true (admits before x) true (ap (λ front. admits front x) (sym (append-nil before)) ∙ last) refl
admitted_more admits before (y ∷ ys) x h last =
    let parts = both (admits before y) (are_admitted admits (before ++ y ∷ []) ys) h in
    and_true (admits before y) (are_admitted admits (before ++ y ∷ []) (ys ++ x ∷ [])) parts.0
    (admitted_more admits (before ++ y ∷ []) ys x parts.1 (ap (λ front. admits front x) (append_assoc before (y ∷ []) ys) ∙ last))

-- a looser test admits as much
looser : {X : Type 0} (tight loose : List X → X → Bool) → ((before : List X) (x : X) → tight before x ≡ true → loose before x ≡ true)
    → (before xs : List X) → are_admitted tight before xs ≡ true → are_admitted loose before xs ≡ true
looser tight loose h before [] admitted = refl
looser tight loose h before (x ∷ xs) admitted =
    let parts = both (tight before x) (are_admitted tight (before ++ x ∷ []) xs) admitted in
    and_true (loose before x) (are_admitted loose (before ++ x ∷ []) xs) (h before x parts.0) (looser tight loose h (before ++ x ∷ []) xs parts.1)

-- ---- links, with a node more

any_more : {X : Type 0} (p : X → Bool) (xs : List X) (x : X) → list_any p xs ≡ true → list_any p (xs ++ x ∷ []) ≡ true
any_more p [] x h = absurd cc
any_more p (y ∷ ys) x h = or_more (p y) (list_any p ys) (list_any p (ys ++ x ∷ [])) (any_more p ys x) h

-- two tests behind another
behind : (a b b' c c' : Bool) → (b ≡ true → b' ≡ true) → (c ≡ true → c' ≡ true) → (a && b && c) ≡ true → (a && b' && c') ≡ true
behind a b b' c c' hb hc h =
    let one = both (a && b) c h in
    let two = both a b one.0 in
    and_true (a && b') c' (and_true a b' two.0 (hb two.1)) (hc one.1)

link_more : (nodes : List NodeDecl) (node : NodeDecl) (before : List LinkDecl) (link : LinkDecl)
    → admits_link nodes before link ≡ true → admits_link (nodes ++ node ∷ []) before link ≡ true
unfolding admits_link
link_more nodes node before link h =
    under _ (under _ (under _ (under _ (under _ (under _ (under _ (under _ (under _
    (behind (nat_lt (length before) most_links) (is_declared nodes link.a) (is_declared (nodes ++ node ∷ []) link.a) (is_declared nodes link.b) (is_declared (nodes ++ node ∷ []) link.b)
    (any_more (λ n. bytes_eq n.name link.a) nodes node) (any_more (λ n. bytes_eq n.name link.b) nodes node)))))))))) h

-- ---- what is seen, in parts

record Parts (seen : Seen) : Type 0 where
  opened : is_opened seen ≡ true
  ttl : is_lifetime seen.ttl ≡ true
  nodes : are_admitted admits_node [] seen.nodes ≡ true
  links : are_admitted (admits_link seen.nodes) [] seen.links ≡ true
  commands : are_admitted (admits_command (declared_by seen)) [] seen.commands ≡ true
  turns : nat_le (length seen.turns) most_turns ≡ true

parts_of : (seen : Seen) → is_sound_so_far seen ≡ true → Parts seen
unfolding is_sound_so_far
parts_of seen h =
    let six = both _ (nat_le (length seen.turns) most_turns) h in
    let five = both _ (are_admitted (admits_command (declared_by seen)) [] seen.commands) six.0 in
    let four = both _ (are_admitted (admits_link seen.nodes) [] seen.links) five.0 in
    let three = both _ (are_admitted admits_node [] seen.nodes) four.0 in
    let two = both (is_opened seen) (is_lifetime seen.ttl) three.0 in
    record { opened = two.0; ttl = two.1; nodes = three.1; links = four.1; commands = five.1; turns = six.1 }

whole_of : (seen : Seen) → Parts seen → is_sound_so_far seen ≡ true
unfolding is_sound_so_far
whole_of seen p =
    and_true _ (nat_le (length seen.turns) most_turns)
    (and_true _ (are_admitted (admits_command (declared_by seen)) [] seen.commands)
    (and_true _ (are_admitted (admits_link seen.nodes) [] seen.links)
    (and_true _ (are_admitted admits_node [] seen.nodes)
    (and_true (is_opened seen) (is_lifetime seen.ttl) p.opened p.ttl)
    p.nodes) p.links) p.commands) p.turns

-- no commands are admitted whatever is declared
no_commands : (d : Declarations) (commands : List Command) → has_none commands ≡ true → are_admitted (admits_command d) [] commands ≡ true
no_commands d [] none = refl
no_commands d (c ∷ commands) none = absurd cc

one_turn_more : (turns : List Turn) (turn : Turn) → nat_lt (length turns) most_turns ≡ true → nat_le (length (turns ++ turn ∷ [])) most_turns ≡ true
one_turn_more turns turn h =
    let len : length (turns ++ turn ∷ []) ≡ length turns + 1 = length-append turns (turn ∷ []) in
    grind (arith, nat_tests, len)

-- ---- each line that may stand

lab_stays : (seen : Seen) (kind : Kind) (ttl : Option ℕ) → Parts seen → admits seen (says.Lab kind ttl) ≡ true → Parts (with_line seen (says.Lab kind ttl))
unfolding admits with_line
lab_stays seen kind ttl p h =
    let here = both (is_none seen.kind) (is_lifetime ttl) h in
    let none = or_right (is_some seen.kind) _ (none_not_some seen.kind here.0) p.opened in
    let two = both _ (has_none seen.turns) none in
    let three = both _ (has_none seen.commands) two.0 in
    record { opened = refl; ttl = here.1; nodes = p.nodes; links = p.links; commands = no_commands _ seen.commands three.1; turns = p.turns }

node_stays : (seen : Seen) (node : NodeDecl) → Parts seen → admits seen (says.Node node) ≡ true → Parts (with_line seen (says.Node node))
unfolding admits with_line
node_stays seen node p h =
    let one = both _ (admits_node seen.nodes node) h in
    let two = both (is_some seen.kind) (has_none seen.commands) one.0 in
    record {
      opened = or_left (is_some seen.kind) _ two.0;
      ttl = p.ttl;
      nodes = admitted_more admits_node [] seen.nodes node p.nodes one.1;
      links = looser (admits_link seen.nodes) (admits_link (seen.nodes ++ node ∷ [])) (link_more seen.nodes node) [] seen.links p.links;
      commands = no_commands _ seen.commands two.1;
      turns = p.turns;
    }

link_stays : (seen : Seen) (link : LinkDecl) → Parts seen → admits seen (says.Link link) ≡ true → Parts (with_line seen (says.Link link))
unfolding admits with_line
link_stays seen link p h =
    let one = both _ (admits_link seen.nodes seen.links link) h in
    let two = both (is_some seen.kind) (has_none seen.commands) one.0 in
    record {
      opened = or_left (is_some seen.kind) _ two.0;
      ttl = p.ttl;
      nodes = p.nodes;
      links = admitted_more (admits_link seen.nodes) [] seen.links link p.links one.1;
      commands = no_commands _ seen.commands two.1;
      turns = p.turns;
    }

command_stays : (seen : Seen) (command : Command) → Parts seen → admits seen (says.Command command) ≡ true → Parts (with_line seen (says.Command command))
unfolding admits with_line
command_stays seen command p h =
    let one = both (is_some seen.kind) _ h in
    record {
      opened = or_left (is_some seen.kind) _ one.0;
      ttl = p.ttl;
      nodes = p.nodes;
      links = p.links;
      commands = admitted_more (admits_command (declared_by seen)) [] seen.commands command p.commands one.1;
      turns = p.turns;
    }

turn_stays : (seen : Seen) (turn : Turn) → Parts seen → admits seen (says.Turn turn) ≡ true → Parts (with_line seen (says.Turn turn))
unfolding admits with_line
turn_stays seen turn p h =
    let one = both (is_some seen.kind) _ h in
    record {
      opened = or_left (is_some seen.kind) _ one.0;
      ttl = p.ttl;
      nodes = p.nodes;
      links = p.links;
      commands = p.commands;
      turns = one_turn_more seen.turns turn one.1;
    }

parts_stay : (seen : Seen) (s : Statement) → Parts seen → admits seen s ≡ true → Parts (with_line seen s)
parts_stay seen (says.Lab kind ttl) p h = lab_stays seen kind ttl p h
parts_stay seen (says.Node node) p h = node_stays seen node p h
parts_stay seen (says.Link link) p h = link_stays seen link p h
parts_stay seen (says.Command command) p h = command_stays seen command p h
parts_stay seen (says.Turn turn) p h = turn_stays seen turn p h

pub stays_sound : (seen : Seen) (s : Statement) → is_sound_so_far seen ≡ true → admits seen s ≡ true → is_sound_so_far (with_line seen s) ≡ true
stays_sound seen s sound admitted = whole_of (with_line seen s) (parts_stay seen s (parts_of seen sound) admitted)

pub sound_more : (seen after : Seen) (s : Statement) → is_sound_so_far seen ≡ true → admits seen s ≡ true → after ≡ with_line seen s → is_sound_so_far after ≡ true
sound_more seen after s sound admitted same = ap is_sound_so_far same ∙ stays_sound seen s sound admitted

-- ---- the settle at the end

-- the last of some commands is a settle
last_settles : List Command → Bool
last_settles [] = false
last_settles (c ∷ []) = is_settle c
last_settles (c ∷ next ∷ commands) = last_settles (next ∷ commands)

fold_last : (before : Bool) (c : Command) (commands : List Command) → fold (λ b d. is_settle d) before (c ∷ commands) ≡ last_settles (c ∷ commands)
unfolding last_settles
fold_last before c [] = refl
fold_last before c (next ∷ commands) = fold_last (is_settle c) next commands

ends_last : (commands : List Command) → ends_in_settle commands ≡ last_settles commands
unfolding ends_in_settle last_settles
ends_last [] = refl
ends_last (c ∷ commands) = fold_last false c commands

closes : (d : Declarations) (before commands : List Command) → are_admitted (admits_command d) before commands ≡ true → last_settles commands ≡ true
    → end_in_settle d before commands ≡ true
unfolding last_settles
closes d before [] h last = absurd cc
closes d before (c ∷ []) h last =
    let here = both (admits_command d before c) true h in
    and_true (is_settle c) _ last (ap (λ b. b || is_default_settle before c) here.0)
closes d before (c ∷ next ∷ commands) h last =
    let here = both (admits_command d before c) _ h in
    and_true (admits_command d before c) _ here.0 (closes d (before ++ c ∷ []) (next ∷ commands) here.1 last)

not_false : (a : Bool) → a ≡ false → not a ≡ true
not_false true h = absurd cc
not_false false h = refl

closes_with : (d : Declarations) (before commands : List Command) → are_admitted (admits_command d) before commands ≡ true → ends_in_settle (before ++ commands) ≡ false
    → end_in_settle d before (commands ++ default_settle ∷ []) ≡ true
closes_with d before [] h unsettled = or_true (admits_command d before default_settle) (is_default_settle before default_settle) (not_false (ends_in_settle before) (ap ends_in_settle (sym (append-nil before)) ∙ unsettled))
closes_with d before (c ∷ []) h unsettled =
    let here = both (admits_command d before c) _ h in
    and_true (admits_command d before c) _ here.0 (closes_with d (before ++ c ∷ []) [] refl (ap ends_in_settle (append-nil (before ++ c ∷ [])) ∙ unsettled))
closes_with d before (c ∷ next ∷ commands) h unsettled =
    let here = both (admits_command d before c) _ h in
    and_true (admits_command d before c) _ here.0
    (closes_with d (before ++ c ∷ []) (next ∷ commands) here.1 (ap ends_in_settle (append_assoc before (c ∷ []) (next ∷ commands)) ∙ unsettled))

with_last_settle_at : (d : Declarations) (commands : List Command) (ends : Bool) → ends_in_settle commands ≡ ends → are_admitted (admits_command d) [] commands ≡ true
    → end_in_settle d [] (if ends then commands else commands ++ default_settle ∷ []) ≡ true
with_last_settle_at d commands true e h = closes d [] commands h (sym (ends_last commands) ∙ e)
with_last_settle_at d commands false e h = closes_with d [] commands h e

schedule_fits : (turns : List Turn) → nat_le (length turns) most_turns ≡ true → option_map_or (λ g. is_between 1 most_turns (length g.turns)) (schedule_given turns) true ≡ true
schedule_fits [] h = refl
schedule_fits (turn ∷ turns) h = grind (arith, nat_tests)

pub scenario_is_sound : (seen : Seen) → is_sound_so_far seen ≡ true → is_sound (scenario_in seen) ≡ true
unfolding is_sound scenario_in
scenario_is_sound seen sound =
    let p = parts_of seen sound in
    and_true _ _
    (and_true _ (end_in_settle (declared_by seen) [] (with_last_settle seen.commands))
    (and_true _ (are_admitted (admits_link seen.nodes) [] seen.links)
    (and_true (is_lifetime seen.ttl) (are_admitted admits_node [] seen.nodes) p.ttl p.nodes)
    p.links)
    (with_last_settle_at (declared_by seen) seen.commands (ends_in_settle seen.commands) refl p.commands))
    (schedule_fits seen.turns p.turns)

-- nothing is declared or commanded before the line of the laboratory
pub none_before : (seen : Seen) (kind : Kind) (ttl : Option ℕ) → is_sound_so_far seen ≡ true → admits seen (says.Lab kind ttl) ≡ true → (seen.nodes ≡ []) × (seen.commands ≡ [])
unfolding admits
none_before seen kind ttl sound h =
    let p = parts_of seen sound in
    let here = both (is_none seen.kind) (is_lifetime ttl) h in
    let none = or_right (is_some seen.kind) _ (none_not_some seen.kind here.0) p.opened in
    let two = both _ (has_none seen.turns) none in
    let three = both _ (has_none seen.commands) two.0 in
    let four = both (has_none seen.nodes) (has_none seen.links) three.0 in
    (empty_is_nil seen.nodes four.0, empty_is_nil seen.commands three.1)

-- no command stands before a node, whose name is new
pub node_is_new : (seen : Seen) (node : NodeDecl) → admits seen (says.Node node) ≡ true → (seen.commands ≡ []) × (is_declared seen.nodes node.name ≡ false)
unfolding admits admits_node
node_is_new seen node h =
    let one = both _ (nat_lt (length seen.nodes) most_nodes && is_node_name node.name && not (is_declared seen.nodes node.name) && nat_le (length node.faults) most_failing_calls && list_all (is_between 1 last_failing_call) node.faults) h in
    let two = both (is_some seen.kind) (has_none seen.commands) one.0 in
    let new = both _ (not (is_declared seen.nodes node.name)) (first_of _ (first_of _ one.1)) in
    (empty_is_nil seen.commands two.1, not_true (is_declared seen.nodes node.name) new.1)
