-- The definition on words that are written out.
use Rattle.std.specs.Prelude.{◌≡◌, [], ◌∷◌, Some, None, true, false, codes}
use Rattle.lab_words.specs.Words.{words_of}
use Rattle.lab_words.specs.declared.words.Mode.TheVariants.{Replay, Live, Gen, Check}

pub record HasExamples : Type 0 where
  pub defaults : words_of (codes "replay" ∷ []) ≡ Some (record { mode = Replay; workers = 2; size = 3; trace = false })
  pub options : words_of (codes "--workers" ∷ codes "64" ∷ codes "--size=8" ∷ codes "--trace" ∷ codes "live" ∷ []) ≡ Some (record { mode = Live; workers = 64; size = 8; trace = true })
  pub mode_first : words_of (codes "check" ∷ codes "--workers=1" ∷ []) ≡ Some (record { mode = Check; workers = 1; size = 3; trace = false })
  pub plus : words_of (codes "gen" ∷ codes "--workers" ∷ codes "+4" ∷ []) ≡ Some (record { mode = Gen; workers = 4; size = 3; trace = false })
  pub leading_zero : words_of (codes "gen" ∷ codes "--workers" ∷ codes "04" ∷ []) ≡ Some (record { mode = Gen; workers = 4; size = 3; trace = false })
  pub unknown_mode : words_of (codes "fly" ∷ []) ≡ None
  pub no_mode : words_of [] ≡ None
  pub two_modes : words_of (codes "gen" ∷ codes "gen" ∷ []) ≡ None
  pub size_low : words_of (codes "gen" ∷ codes "--size=1" ∷ []) ≡ None
  pub size_high : words_of (codes "gen" ∷ codes "--size=9" ∷ []) ≡ None
  pub workers_low : words_of (codes "gen" ∷ codes "--workers=0" ∷ []) ≡ None
  pub workers_high : words_of (codes "gen" ∷ codes "--workers=65" ∷ []) ≡ None
  pub help : words_of (codes "--help" ∷ []) ≡ None
  pub short_help : words_of (codes "-h" ∷ []) ≡ None
  pub repeated_flag : words_of (codes "gen" ∷ codes "--trace" ∷ codes "--trace" ∷ []) ≡ None
  pub repeated_option : words_of (codes "gen" ∷ codes "--size=2" ∷ codes "--size=2" ∷ []) ≡ None
