-- A line that is read as a turn is read as that turn wherever a turn line may stand.
use Rattle.std.proofs.Common.{◌≡◌, ℕ, codes, List, length, Bool, true, false, not, cond, ◌&&◌, ◌||◌, nat_lt, Option, Some, None, is_some, is_none, IfSome, Result, Ok, refl, sym, ap, subst, ◌∙◌}
use Rattle.std.specs.Option.{option_map_or}
use Rattle.std.specs.Str.{bytes_eq, is_utf8}
use Rattle.std.specs.HashMap.{HashMap, get_by, UpdatesBy}
use Rattle.std.specs.Cmp.Lexicographic.{same_text}
use Rattle.std.proofs.lemmas.Bool.{true≢false, or_parts, ltb-true, lt-leb}
use Rattle.std.proofs.lemmas.Map.Text.{hash_map_updates_str}
use denote.Ref.{Bor}
use Rattle.serde_json.specs.Data.{Data}
use Rattle.serde_json.specs.Find.{get}
use Rattle.or_base.specs.declared.kind.Kind.{Kind}
use Rattle.net_fields.specs.declared.form.Form.TheVariants as form
use Rattle.net_fields.specs.declared.word.Word.{Word}
use Rattle.net_fields.specs.declared.word.Word.TheVariants as word
use Rattle.net_fields.specs.Fields.{fields_of}
use Rattle.net_fields.specs.Objects.{object_in, word_in, is_lab, is_field_missing, has_long_field, has_bad_prefix, has_bad_script}
use Rattle.net_laboratory.specs.Limits.{most_line_bytes, most_turns, most_lane, most_length}
use Rattle.net_laboratory.specs.declared.schedule.Turn.{Turn}
use Rattle.net_scenario.specs.declared.fault.FaultKind.{FaultKind}
use Rattle.net_scenario.specs.declared.fault.FaultKind.TheVariants as fault
use Rattle.net_scenario.specs.declared.statement.Statement.{Statement}
use Rattle.net_scenario.specs.declared.statement.Statement.TheVariants as says
use Rattle.net_scenario.specs.Seen.{Seen, with_line, admits}
use Rattle.net_scenario.specs.Statement.{statement_of}
use Rattle.net_scenario.specs.Conditions.{is_bad_field, is_undeclared, is_unknown_name, is_repeated, has_two_owners, passes_limit, is_too_many, is_misplaced}
use Rattle.net_scenario.specs.Faults.{Line, is_late, is_too_long, outcome, line_of}
use Rattle.net_scenario.specs.Language.{is_blank, after_line, line_step}
use Rattle.net_scenario.specs.TurnLines.{takes_turn, SaysTurn, AreTurnLines}
use Rattle.net_scenario.proofs.Bools.{both, and_true, not_true}
use Rattle.net_scenario.proofs.AdmittedRows.{NoFault, Read, read_line}

-- what a place where a turn line may stand has
pub record Takes (seen : Seen) (turns : Bool) (line : Line) : Type 0 where
  pub asked : turns ≡ true
  pub opened : is_some seen.kind ≡ true
  pub room : nat_lt (length seen.turns) most_turns ≡ true
  pub in_time : not (is_late line) ≡ true

pub takes : (seen : Seen) (turns : Bool) (line : Line) → takes_turn seen turns line ≡ true → Takes seen turns line
takes seen turns line e =
    let room = nat_lt (length seen.turns) most_turns in
    let p = both (turns && is_some seen.kind && room) (not (is_late line)) e in
    let q = both (turns && is_some seen.kind) room p.0 in
    let r = both turns (is_some seen.kind) q.0 in
    record { asked = r.0; opened = r.1; room = q.1; in_time = p.1 }

pub admits_turn : (seen : Seen) (turns : Bool) (line : Line) (turn : Turn) → takes_turn seen turns line ≡ true → admits seen (says.Turn turn) ≡ true
unfolding admits
admits_turn seen turns line turn e =
    let t = takes seen turns line e in
    and_true (is_some seen.kind) (nat_lt (length seen.turns) most_turns) t.opened t.room

-- what holds of any value holds of the one that is there
pub of_any : {T : Type 0} (o : Option T) (P : T → Type 0) → ((x : T) → P x) → IfSome o P
of_any None P all = tt
of_any (Some x) P all = all x

-- ---- a line without a fault is read

-- a row that doesn't hold is passed over
past : (b : Bool) (kind : FaultKind) (rest : Option FaultKind) (what : Option Statement) (s : Statement) → b ≡ false
    → outcome rest what ≡ Ok s → outcome (cond b (Some kind) rest) what ≡ Ok s
past true kind rest what s b e = absurd (true≢false b)
past false kind rest what s b e = e

none_begun : (kind : Option Kind) (b : Bool) → is_some kind ≡ true → (is_none kind && b) ≡ false
none_begun None b opened = absurd (true≢false (sym opened))
none_begun (Some k) b opened = refl

pub read_again : (seen : Seen) (turns : Bool) (line : Line) (w : Word) (d : Data) → is_utf8 line.text ≡ true → object_in line.text ≡ Some d → word_in d ≡ Some w
    → is_some seen.kind ≡ true → NoFault seen turns line w d → line_of seen turns line ≡ Ok (statement_of w d)
unfolding line_of
read_again seen turns line w d text object named opened n =
    let what : Option Statement = Some (statement_of w d) in
    let s = statement_of w d in
    rw (object, named)
    (past (not (is_utf8 line.text)) fault.NotText _ what s (ap not text)
    (past (is_none seen.kind && not (is_lab d)) fault.NoLab _ what s (none_begun seen.kind (not (is_lab d)) opened)
    (past (is_field_missing w d) fault.MissingField _ what s n.missing
    (past (is_bad_field seen w d) fault.BadField _ what s n.bad
    (past (is_unknown_name seen w d) fault.UnknownName _ what s n.unknown
    (past (is_repeated seen w d) fault.RepeatedName _ what s n.repeated
    (past (has_two_owners seen w d) fault.TwoOwners _ what s n.owners
    (past (is_too_many seen w d) fault.TooMany _ what s n.many
    (past (is_too_long line w d) fault.TooLong _ what s n.long
    (past (has_bad_prefix w d) fault.BadPrefix _ what s n.prefix
    (past (has_bad_script w d) fault.BadScript _ what s n.script
    (past (is_misplaced seen turns w) fault.WrongKind _ what s n.misplaced refl))))))))))))

-- ---- the conditions on a turn, at any place where it may stand

-- a test that nothing meets
found_not : (test : Data → Bool) (value : Option Data) → ((v : Data) → test v ≡ false) → option_map_or test value false ≡ false
found_not test None e = refl
found_not test (Some v) e = e v

module _ (seen other : Seen) (turns : Bool) (line there : Line) (d : Data) where
  same_bad : is_bad_field seen word.Turn d ≡ false → is_bad_field other word.Turn d ≡ false
  unfolding is_bad_field
  same_bad e = e

  -- no field of a turn names a node or a link
  known : is_unknown_name other word.Turn d ≡ false
  unfolding is_unknown_name fields_of is_undeclared
  known =
      let text = found_not (is_undeclared other form.Text) (get (codes "do") d) (λ v. refl) in
      let lane = found_not (is_undeclared other (form.Number 0 most_lane)) (get (codes "lane") d) (λ v. refl) in
      let at = found_not (is_undeclared other (form.Number 0 most_length)) (get (codes "at") d) (λ v. refl) in
      rw (text, lane, at) refl

  room_left : nat_lt (length other.turns) most_turns ≡ true → is_too_many other word.Turn d ≡ false
  unfolding is_too_many passes_limit
  room_left e = lt-leb most_turns (length other.turns) (ltb-true (length other.turns) most_turns e)

  short : there.text ≡ line.text → not (is_late there) ≡ true → is_too_long line word.Turn d ≡ false → is_too_long there word.Turn d ≡ false
  unfolding is_too_long
  short same in_time e =
      let long = nat_lt most_line_bytes (length line.text) in
      let p = or_parts (long || is_late line) (has_long_field word.Turn d) e in
      let q = or_parts long (is_late line) p.0 in
      rw (same, q.0, not_true (is_late there) in_time) p.1

  nothing_repeated : is_repeated other word.Turn d ≡ false
  unfolding is_repeated
  nothing_repeated = refl

  no_owners : has_two_owners other word.Turn d ≡ false
  unfolding has_two_owners
  no_owners = refl

  placed : (asked : Bool) → asked ≡ true → is_misplaced other asked word.Turn ≡ false
  unfolding is_misplaced
  placed asked e = ap not e

  pub no_fault : (asked : Bool) → there.text ≡ line.text → Takes other asked there → NoFault seen turns line word.Turn d → NoFault other asked there word.Turn d
  no_fault asked same t n = record {
    missing = n.missing;
    bad = same_bad n.bad;
    unknown = known;
    repeated = nothing_repeated;
    owners = no_owners;
    many = room_left t.room;
    long = short same t.in_time n.long;
    prefix = n.prefix;
    script = n.script;
    misplaced = placed asked t.asked;
  }

-- ---- the same turn at another place

-- only a turn line says a turn
turn_word : (w : Word) (d : Data) (turn : Turn) → statement_of w d ≡ says.Turn turn → w ≡ word.Turn
unfolding statement_of
turn_word word.Turn d turn e = refl
turn_word w d turn e = cc

turn_there : (seen : Seen) (turns : Bool) (line : Line) (turn : Turn) → Read seen turns line (says.Turn turn)
    → (other : Seen) (asked : Bool) (there : Line) → there.text ≡ line.text → Takes other asked there → line_of other asked there ≡ Ok (says.Turn turn)
turn_there seen turns line turn r other asked there same t =
    let is_turn : r.w ≡ word.Turn = turn_word r.w r.d turn r.says in
    let faultless : NoFault seen turns line word.Turn r.d = subst (λ (w : Word). NoFault seen turns line w r.d) is_turn r.faultless in
    let said : statement_of word.Turn r.d ≡ says.Turn turn = subst (λ (w : Word). statement_of w r.d ≡ says.Turn turn) is_turn r.says in
    let ok : Statement → Result Statement FaultKind = λ s. Ok s in
    read_again other asked there word.Turn r.d (ap is_utf8 same ∙ r.text) (ap object_in same ∙ r.object) (r.named ∙ ap (λ (w : Word). Some w) is_turn) t.opened
    (no_fault seen other turns line there r.d asked same t faultless)
    ∙ ap ok said

step_there : (other : Seen) (asked : Bool) (there : Line) (turn : Turn) → is_blank there.text ≡ false → line_of other asked there ≡ Ok (says.Turn turn)
    → line_step other asked there ≡ Ok (with_line other (says.Turn turn))
unfolding line_step
step_there other asked there turn filled e = rw filled (ap (after_line other there.number) e)

pub says_turn : (seen : Seen) (turns : Bool) (line : Line) (turn : Turn) → is_blank line.text ≡ false → line_of seen turns line ≡ Ok (says.Turn turn) → SaysTurn line.text turn
says_turn seen turns line turn filled e = record {
  adds = λ other asked there same may.
      step_there other asked there turn (ap is_blank same ∙ filled) (turn_there seen turns line turn (read_line seen turns line (says.Turn turn) e) other asked there same (takes other asked there may));
}

pub told_turn : (seen : Seen) (turns : Bool) (line : Line) (s : Statement) → is_blank line.text ≡ false → line_of seen turns line ≡ Ok s → (turn : Turn) → s ≡ says.Turn turn → SaysTurn line.text turn
told_turn seen turns line s filled e turn same = says_turn seen turns line turn filled (subst (λ (t : Statement). line_of seen turns line ≡ Ok t) same e)

-- ---- the table

-- what is kept beside what was kept before
kept_beside : (same : Bool) (text kept : List ℕ) (turn new : Turn) (old : Option Turn) → (same ≡ true → kept ≡ text) → SaysTurn kept new → (old ≡ Some turn → SaysTurn text turn)
    → cond same (Some new) old ≡ Some turn → SaysTurn text turn
kept_beside true text kept turn new old at says before e =
    let it : new ≡ turn = cc in
    subst (λ (t : Turn). SaysTurn text t) it (subst (λ (x : List ℕ). SaysTurn x new) (at refl) says)
kept_beside false text kept turn new old at says before e = before e

pub keeps_turns : (kept : List ℕ) {S : Type 0} (m n : HashMap (Bor (List ℕ)) Turn S) (new : Turn) → AreTurnLines m → SaysTurn kept new
    → UpdatesBy (λ x y. bytes_eq x.now y.now) (λ k. bytes_eq kept k.now) m n (Some new) → AreTurnLines n
keeps_turns kept m n new before says updates text turn found =
    kept_beside (bytes_eq kept text) text kept turn new (get_by (λ k. bytes_eq text k.now) m) (λ e. same_text kept text (sym e)) says (before text turn)
    (sym (hash_map_updates_str kept m n (Some new) updates text) ∙ found)
