-- What contracts see of a turn that was done.
use Rattle.std.specs.Prelude.{ℕ}
use Rattle.or_base.specs.declared.item.Item.{Item}

-- The lane whose reader took the item, the length that a desk found there (0 for every other reader), the turn's stamp, and the item.
pub record TurnDone : Type 0 where
  pub lane : ℕ
  pub at : ℕ
  pub stamp : ℕ
  pub item : Item
