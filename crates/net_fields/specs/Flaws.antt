-- What can be wrong with the value of a field, whatever was declared before.
use Rattle.std.specs.Prelude.{Bool, true, false, not}
use Rattle.serde_json.specs.Data.{Data}
use Rattle.net_fields.specs.declared.flaws.Flaw.{Flaw}
use Rattle.net_fields.specs.declared.flaws.Flaw.TheVariants as flaw
use Rattle.net_fields.specs.declared.form.Form.{Form}
use Rattle.net_fields.specs.declared.form.Form.TheVariants as form
use Rattle.net_fields.specs.Forms.{fits, is_long, is_no_prefix, is_no_script}

-- the value of a field of this form has the flaw
abbrev pub has_flaw : Flaw → Form → Data → Bool
has_flaw flaw.Unfit f d = not (fits f d)
has_flaw flaw.Long f d = is_long f d
has_flaw flaw.NoPrefix f d = is_no_prefix f d
has_flaw flaw.NoScript f d = is_no_script f d

-- a text of the form can be too long
abbrev pub is_limited : Form → Bool
is_limited (form.Name longest) = true
is_limited form.Key = true
is_limited form.Hex = true
is_limited form.Text = true
is_limited _ = false

abbrev pub takes_prefix : Form → Bool
takes_prefix form.Prefix = true
takes_prefix _ = false

abbrev pub takes_acts : Form → Bool
takes_acts form.Acts = true
takes_acts _ = false

-- some value can have the flaw for this form
abbrev pub can_have : Flaw → Form → Bool
can_have flaw.Unfit f = true
can_have flaw.Long f = is_limited f
can_have flaw.NoPrefix f = takes_prefix f
can_have flaw.NoScript f = takes_acts f
