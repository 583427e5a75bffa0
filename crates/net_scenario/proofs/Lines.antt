-- A line that is an object which names a command.
use Rattle.std.proofs.Common.{◌≡◌, Bool, false, ◌&&◌, not, Some, is_none, refl}
use Rattle.serde_json.specs.Data.{Data}
use Rattle.net_fields.specs.declared.word.Word.{Word}
use Rattle.net_fields.specs.Objects.{word_in, is_lab}
use Rattle.net_scenario.specs.Seen.{Seen}
use Rattle.net_scenario.specs.Faults.{Line, command_fault, command_line, object_line}

pub object_names : (seen : Seen) (turns : Bool) (line : Line) (d : Data) (w : Word) → (is_none seen.kind && not (is_lab d)) ≡ false → word_in d ≡ Some w
    → object_line seen turns line d ≡ command_line seen turns line w d
unfolding object_line command_line command_fault
object_names seen turns line d w begun named = rw named (rw begun refl)
