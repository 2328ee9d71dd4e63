-- What is told of nodes that reject or have a collision, under the header of a square.
use Rattle.std.specs.Prelude.{◌⊎◌, ℕ, List, codes}
use Rattle.std.specs.Str.Iter.{HasSubslice}
use Rattle.square_layout.specs.Blocks.{SquareShares}
use Rattle.da_net.specs.declared.items.Item.{Item}
use Rattle.da_net.specs.Promises.{PoolNames}

-- a text has the word `rejected` or `clash`
abbrev pub SaysAlarm : List ℕ → Type 0
SaysAlarm w = HasSubslice w (codes "rejected") ⊎ HasSubslice w (codes "clash")

-- it has one only where a sample among the items, by itself or in a claim, or the set of a claim, and the square name a collision
abbrev pub TellsOwn : List Item → SquareShares → List ℕ → Type 0
TellsOwn items square w = SaysAlarm w → PoolNames items square
