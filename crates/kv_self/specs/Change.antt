-- What a node writes under a key that it owns, by what is held there.
use Rattle.std.specs.Prelude.{ℕ, ◌+◌, List, Option, Some, None, Result, Ok, Err, Bool, false, ◌&&◌, is_some, nat_le, if◌then◌else◌}
use Rattle.std.specs.Str.{bytes_eq}
use Rattle.std.specs.Option.{option_map_or}
use Rattle.or_base.specs.declared.value.KvValue.{KvValue}
use Rattle.or_base.specs.Limits.{most_version}
use Rattle.kv_self.specs.declared.own.OwnValue.{OwnValue}
use Rattle.kv_self.specs.declared.fault.SelfFault.{SelfFault}
use Rattle.kv_self.specs.declared.fault.SelfFault.TheVariants.{Outvoted}

-- the value is from this node and has the bytes that are to stand, whatever its version and lifetime
abbrev pub is_own : List ℕ → OwnValue → KvValue → Bool
is_own me own value = bytes_eq value.originator me && bytes_eq value.value own.value

-- what is to stand under a key is held there, from this node
abbrev pub stands : List ℕ → OwnValue → Option (KvValue × ℕ) → Bool
stands me own held = option_map_or (λ h. is_own me own h.0) held false

-- the version of what is held; 0 where nothing is held, since versions begin at 1
abbrev pub held_version : Option (KvValue × ℕ) → ℕ
held_version held = option_map_or (λ h. h.0.version) held 0

-- no value within the limits has a greater version than what is held
abbrev pub is_outvoted : Option (KvValue × ℕ) → Bool
is_outvoted held = nat_le most_version (held_version held)

-- what is to stand under a key, as a value of this node with the version after another
abbrev pub own_offer : List ℕ → OwnValue → ℕ → KvValue
own_offer me own version =
    record { version = version + 1; originator = me; value = own.value; ttl = own.ttl; ttl_version = 0 }

-- What the node offers where a key's value, or what is to stand there, has changed: nothing under a key that it doesn't
-- own, or where its own value stands; else its own value with the next version, unless there is none.
abbrev pub on_change : List ℕ → Option OwnValue → Option (KvValue × ℕ) → Result (Option KvValue) SelfFault
on_change me None held = Ok None
on_change me (Some own) held =
    if stands me own held then Ok None
    else (if is_outvoted held then Err (Outvoted (held_version held)) else Ok (Some (own_offer me own (held_version held))))

-- the node offers a value
abbrev pub is_offer : Result (Option KvValue) SelfFault → Bool
is_offer (Ok offered) = is_some offered
is_offer (Err fault) = false
