use Rattle.std.proofs.Common.{refl}
use Rattle.clap.proofs.OnLiterals.{clap_on_literals}
use Rattle.lab_words.specs.Words.{are_refused, words_of}
use Rattle.lab_words.proofs.read.command_line_examples.Goals as goal

pub returns : goal.returns
unfolding clap_on_literals words_of are_refused
returns c = record {
  defaults = refl;
  options = refl;
  mode_first = refl;
  plus = refl;
  leading_zero = refl;
  unknown_mode = refl;
  no_mode = refl;
  two_modes = refl;
  size_low = refl;
  size_high = refl;
  workers_low = refl;
  workers_high = refl;
  help = refl;
  short_help = refl;
  repeated_flag = refl;
  repeated_option = refl;
}
