-- What is promised of printing and reading.
use Rattle.std.specs.Prelude.{◌≡◌, Some}
use Rattle.or_base.specs.declared.prefix.Prefix.{Prefix}
use Rattle.or_prefix.specs.Reading.{prefix_of}
use Rattle.or_prefix.specs.Printing.{prefix_text}

-- the text of a prefix is read as that prefix
abbrev pub PrefixesAreReadAgain : Type 0
PrefixesAreReadAgain = (p : Prefix) → prefix_of (prefix_text p.v6 p.bits p.len) ≡ Some p
