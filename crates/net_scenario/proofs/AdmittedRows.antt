-- A line that is read without a fault: no row of the table of faults holds of it.
use Rattle.std.proofs.Common.{◌≡◌, ℕ, codes, List, Bool, true, false, not, cond, ◌&&◌, ◌⊎◌, inl, inr, Option, Some, None, is_none, is_some, option_map, option_and_then, Ok, refl, sym, subst}
use Rattle.std.specs.Option.{option_map_or}
use Rattle.std.specs.Str.{bytes_eq, is_utf8}
use Rattle.std.proofs.lemmas.Bool.{true≢false, and_cases}
use Rattle.serde_json.specs.Data.{Data}
use Rattle.serde_json.specs.Find.{get, as_str}
use Rattle.net_fields.specs.declared.word.Word.{Word}
use Rattle.net_fields.specs.declared.word.Word.TheVariants as word
use Rattle.net_fields.specs.Word.{word_of}
use Rattle.net_fields.specs.Objects.{object_in, word_in, is_lab, is_field_missing, has_bad_prefix, has_bad_script}
use Rattle.net_scenario.specs.declared.fault.FaultKind.{FaultKind}
use Rattle.net_scenario.specs.declared.fault.FaultKind.TheVariants as fault
use Rattle.net_scenario.specs.declared.statement.Statement.{Statement}
use Rattle.net_scenario.specs.Seen.{Seen}
use Rattle.net_scenario.specs.Statement.{statement_of}
use Rattle.net_scenario.specs.Conditions.{is_bad_field, is_unknown_name, is_repeated, has_two_owners, is_too_many, is_misplaced}
use Rattle.net_scenario.specs.Faults.{Line, is_too_long, conditions, first_fault, statement_in, outcome, line_of}
use Rattle.net_scenario.proofs.AdmittedForms.{from_not, some_unless}

-- none of the conditions on a command holds
pub record NoFault (seen : Seen) (turns : Bool) (line : Line) (w : Word) (d : Data) : Type 0 where
  pub missing : is_field_missing w d ≡ false
  pub bad : is_bad_field seen w d ≡ false
  pub unknown : is_unknown_name seen w d ≡ false
  pub repeated : is_repeated seen w d ≡ false
  pub owners : has_two_owners seen w d ≡ false
  pub many : is_too_many seen w d ≡ false
  pub long : is_too_long line w d ≡ false
  pub prefix : has_bad_prefix w d ≡ false
  pub script : has_bad_script w d ≡ false
  pub misplaced : is_misplaced seen turns w ≡ false

-- what is known of a line that is read as a statement
pub record Read (seen : Seen) (turns : Bool) (line : Line) (s : Statement) : Type 0 where
  pub w : Word
  pub d : Data
  pub text : is_utf8 line.text ≡ true
  pub object : object_in line.text ≡ Some d
  pub named : word_in d ≡ Some w
  pub faultless : NoFault seen turns line w d
  pub opened : (is_some seen.kind ≡ true) ⊎ (w ≡ word.Lab)
  pub says : statement_of w d ≡ s

-- where something is read, the first row doesn't hold, and the others decide
first : (b : Bool) (kind : FaultKind) (rest : Option FaultKind) (what : Option Statement) (s : Statement)
    → outcome (cond b (Some kind) rest) what ≡ Ok s → (b ≡ false) × (outcome rest what ≡ Ok s)
first true kind rest what s e = cc
first false kind rest what s e = (refl, e)

at_word : (p : Word → Bool) (named : Option Word) (w : Word) → named ≡ Some w → option_map_or p named false ≡ false → p w ≡ false
at_word p None w named e = cc
at_word p (Some v) w named e = let same : v ≡ w = cc in subst (λ (u : Word). p u ≡ false) same e

some_of : {X : Type 0} (o : Option X) → is_none o ≡ false → (x : X) × (o ≡ Some x)
some_of None e = absurd (true≢false e)
some_of (Some x) e = (x, refl)

-- an object that names the laboratory has its word
lab_text : (text : Option (List ℕ)) (w : Word) → option_map_or (λ t. bytes_eq t (codes "lab")) text false ≡ true → option_and_then word_of text ≡ Some w → w ≡ word.Lab
unfolding word_of
lab_text None w lab named = absurd (true≢false (sym lab))
lab_text (Some t) w lab named = cc (rw lab at named)

lab_word : (d : Data) (w : Word) → is_lab d ≡ true → word_in d ≡ Some w → w ≡ word.Lab
unfolding is_lab word_in
lab_word d w lab named = lab_text (option_and_then as_str (get (codes "do") d)) w lab named

opened_by : (seen : Seen) (d : Data) (w : Word) → word_in d ≡ Some w → (is_none seen.kind && not (is_lab d)) ≡ false → (is_some seen.kind ≡ true) ⊎ (w ≡ word.Lab)
opened_by seen d w named e =
    elim (and_cases (is_none seen.kind) (not (is_lab d)) e) [
      | inl some ↦ inl (some_unless seen.kind some)
      | inr lab ↦ inr (lab_word d w (from_not (is_lab d) lab) named)
    ]

read_object : (seen : Seen) (turns : Bool) (line : Line) (object : Option Data) (s : Statement) → object_in line.text ≡ object
    → outcome (first_fault (conditions seen turns line object)) (statement_in object) ≡ Ok s → Read seen turns line s
read_object seen turns line None s o e =
    let r1 = first (not (is_utf8 line.text)) fault.NotText (Some fault.BadJson) None s e in
    let r2 = first true fault.BadJson None None s r1.1 in
    absurd (true≢false r2.0)
read_object seen turns line (Some d) s o e =
    let what : Option Statement = option_map (λ w. statement_of w d) (word_in d) in
    let r1 = first (not (is_utf8 line.text)) fault.NotText _ what s e in
    let r3 = first (is_none seen.kind && not (is_lab d)) fault.NoLab _ what s r1.1 in
    let r4 = first (is_none (word_in d)) fault.UnknownCommand _ what s r3.1 in
    let r5 = first _ fault.MissingField _ what s r4.1 in
    let r6 = first _ fault.BadField _ what s r5.1 in
    let r7 = first _ fault.UnknownName _ what s r6.1 in
    let r8 = first _ fault.RepeatedName _ what s r7.1 in
    let r9 = first _ fault.TwoOwners _ what s r8.1 in
    let r10 = first _ fault.TooMany _ what s r9.1 in
    let r11 = first _ fault.TooLong _ what s r10.1 in
    let r12 = first _ fault.BadPrefix _ what s r11.1 in
    let r13 = first _ fault.BadScript _ what s r12.1 in
    let r14 = first _ fault.WrongKind _ what s r13.1 in
    let named = some_of (word_in d) r4.0 in
    let w = named.0 in
    let at = λ (p : Word → Bool) (e : option_map_or p (word_in d) false ≡ false). at_word p (word_in d) w named.1 e in
    record {
      w = w;
      d = d;
      text = from_not (is_utf8 line.text) r1.0;
      object = o;
      named = named.1;
      faultless = record {
        missing = at (λ w. is_field_missing w d) r5.0;
        bad = at (λ w. is_bad_field seen w d) r6.0;
        unknown = at (λ w. is_unknown_name seen w d) r7.0;
        repeated = at (λ w. is_repeated seen w d) r8.0;
        owners = at (λ w. has_two_owners seen w d) r9.0;
        many = at (λ w. is_too_many seen w d) r10.0;
        long = at (λ w. is_too_long line w d) r11.0;
        prefix = at (λ w. has_bad_prefix w d) r12.0;
        script = at (λ w. has_bad_script w d) r13.0;
        misplaced = at (λ w. is_misplaced seen turns w) r14.0;
      };
      opened = opened_by seen d w named.1 r3.0;
      says = said_by d w s (word_in d) named.1 r14.1;
    }
  where
    said_by : (d : Data) (w : Word) (s : Statement) (named : Option Word) → named ≡ Some w → outcome None (option_map (λ w. statement_of w d) named) ≡ Ok s → statement_of w d ≡ s
    said_by d w s None named e = cc
    said_by d w s (Some v) named e = cc

pub read_line : (seen : Seen) (turns : Bool) (line : Line) (s : Statement) → line_of seen turns line ≡ Ok s → Read seen turns line s
unfolding line_of
read_line seen turns line s e = read_object seen turns line (object_in line.text) s refl e
