-- The square of a list of transactions (docs/RULES.md, "A block of the network").
use Rattle.std.specs.Prelude.{ℕ, List, Some}
use Rattle.square_layout.specs.Blocks.{BlockParts, SquareShares}
use Rattle.square_layout.specs.Plans.{PlanParts, plan_width, square_of_plan}
use Rattle.tx_list.specs.Payments.{ListParts, blobs_of}
use Rattle.tx_list.specs.Wrapped.{wrap_all}
use Rattle.tx_list.specs.Reserves.{list_reserve}
use Rattle.tx_list.specs.Places.{blob_places}

-- the places of a list's blobs, payment after payment
abbrev pub list_places : ListParts → List ℕ
list_places list = blob_places (list_reserve list) (blobs_of list.payments)

-- its payments as they are written
abbrev pub written_list : ListParts → List (List ℕ)
written_list list = wrap_all list.payments (list_places list)

-- a list as it is planned
abbrev pub plan_of_list : ListParts → PlanParts
plan_of_list list = record {
  units = list.units;
  pay_units = written_list list;
  blobs = blobs_of list.payments;
  reserve = list_reserve list;
}

-- a list as a block of its written payments, whose width is the list's
abbrev pub block_of_list : ListParts → BlockParts
block_of_list list = record {
  units = list.units;
  pay_units = written_list list;
  blobs = blobs_of list.payments;
  width = Some (plan_width (plan_of_list list));
}

-- the square of a list
abbrev pub square_of_list : ListParts → SquareShares
square_of_list list = square_of_plan (plan_of_list list)
