use Rattle.std.specs.Prelude.{if◌then◌else◌}
use Rattle.or_base.specs.declared.value.KvValue.{KvValue}
use Rattle.or_base.specs.Order.{is_below, IsSame}

-- the greater of two values, the first where neither is below the other
abbrev pub greater_of : KvValue → KvValue → KvValue
greater_of a b = if is_below a b then b else a

-- joining depends neither on order nor on grouping nor on repetition, but for the lifetime that the result has
pub record JoinLaws : Type 0 where
  pub commutative : (a b : KvValue) → IsSame (greater_of a b) (greater_of b a)
  pub associative : (a b c : KvValue) → IsSame (greater_of (greater_of a b) c) (greater_of a (greater_of b c))
  pub idempotent : (a : KvValue) → IsSame (greater_of a a) a
