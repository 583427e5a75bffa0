-- A value has no flaw that none can have for its form.
use Rattle.std.proofs.Common.{◌≡◌, false, Option, Some, None, refl, arith}
use Rattle.std.specs.Option.{option_map_or}
use Rattle.serde_json.specs.Data.{Data}
use Rattle.net_fields.specs.declared.flaws.Flaw.{Flaw}
use Rattle.net_fields.specs.declared.flaws.Flaw.TheVariants as flaw
use Rattle.net_fields.specs.declared.form.Form.{Form}
use Rattle.net_fields.specs.Forms.{is_long, is_no_prefix, is_no_script}
use Rattle.net_fields.specs.Flaws.{has_flaw, can_have}

none_elsewhere : (flaw : Flaw) (form : Form) → can_have flaw form ≡ false → (d : Data) → has_flaw flaw form d ≡ false
unfolding is_long is_no_prefix is_no_script
none_elsewhere flaw.Unfit form h d = absurd cc
none_elsewhere flaw.Long form h d = grind arith
none_elsewhere flaw.NoPrefix form h d = grind arith
none_elsewhere flaw.NoScript form h d = grind arith

pub flaw_elsewhere : (flaw : Flaw) (form : Form) (value : Option Data) → can_have flaw form ≡ false → option_map_or (has_flaw flaw form) value false ≡ false
flaw_elsewhere flaw form None h = refl
flaw_elsewhere flaw form (Some d) h = none_elsewhere flaw form h d

pub ruleset elsewhere = (flaw_elsewhere)
