-- Scenarios as data, and what the declarations say of names.
use Rattle.std.specs.Prelude.{ℕ, List, Bool, false, ◌&&◌, ◌||◌, Option, slice_get}
use Rattle.std.specs.Str.{bytes_eq}
use Rattle.std.specs.List.{list_any}
use Rattle.std.specs.Option.{option_map_or}
use Rattle.or_base.specs.declared.kind.Kind.{Kind}
use Rattle.net_laboratory.specs.declared.declared.NodeDecl.{NodeDecl}
use Rattle.net_laboratory.specs.declared.declared.LinkDecl.{LinkDecl}
use Rattle.net_laboratory.specs.declared.command.Command.{Command}
use Rattle.net_laboratory.specs.declared.schedule.Schedule.{Schedule}

-- What a scenario declares, and what is done then. The lifetime is that of the records that nodes publish; turns are
-- given where the scenario has turn lines.
pub record Laboratory : Type 0 where
  pub kind : Kind
  pub ttl : Option ℕ
  pub nodes : List NodeDecl
  pub links : List LinkDecl
  pub commands : List Command
  pub turns : Option Schedule

-- a node with this name is declared
abbrev pub is_declared : List NodeDecl → List ℕ → Bool
is_declared nodes name = list_any (λ node. bytes_eq node.name name) nodes

-- the node with this name is an end of the link
abbrev pub is_end : List ℕ → LinkDecl → Bool
is_end name link = bytes_eq link.a name || bytes_eq link.b name

-- the link has this interface at this node
abbrev pub has_interface : List ℕ → List ℕ → LinkDecl → Bool
has_interface name interface link =
    (bytes_eq link.a name && bytes_eq link.aif interface) || (bytes_eq link.b name && bytes_eq link.bif interface)

-- a link has this interface at this node
abbrev pub is_interface : List LinkDecl → List ℕ → List ℕ → Bool
is_interface links name interface = list_any (has_interface name interface) links

-- the link with this number, if it is declared, has an end that is this node
abbrev pub is_end_of : List LinkDecl → List ℕ → ℕ → Bool
is_end_of links name number = option_map_or (is_end name) (slice_get links number) false
