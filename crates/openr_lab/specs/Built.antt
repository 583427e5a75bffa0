-- What the program runs so far.
use Rattle.std.specs.Prelude.{Bool, true, false}
use Rattle.lab_words.specs.declared.words.Mode.{Mode}
use Rattle.lab_words.specs.declared.words.Mode.TheVariants.{Replay, Live, Gen, Check}
use Rattle.lab_words.specs.declared.words.Words.{Words}
use Rattle.net_laboratory.specs.Scenario.{Laboratory}

-- the program has the mode: it replays, and runs grids
abbrev pub is_mode_built : Mode → Bool
is_mode_built Replay = true
is_mode_built Live = false
is_mode_built Gen = true
is_mode_built Check = false

-- the program runs the scenario in the mode that was asked for: every scenario, if it has the mode
abbrev pub is_built : Words → Laboratory → Bool
is_built words lab = is_mode_built words.mode
