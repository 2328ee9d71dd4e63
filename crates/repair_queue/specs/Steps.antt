-- What the steps of a repair are lent.
use Rattle.std.specs.Prelude.{◌≡◌, ℕ, [], Vec}
use Rattle.std.specs.declared.alloc.Global.{Global}
use Rattle.namespace_id.specs.Answers.{HasCapacity}
use Rattle.axis_roots.specs.declared.message.proved.Proved.{Proved}

-- a list for samples is empty, and has capacity for k
pub record IsSpare (k : ℕ) (cells : Vec Proved Global) : Type 0 where
  pub empty : cells.items ≡ []
  pub capacity : HasCapacity cells k
