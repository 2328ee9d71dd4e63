-- Squares of the network: no blob starts before a place that is reserved, the width is for the most shares that the
-- blobs may take, and the padding behind a blob has the version of its shares (Celestia specifications, "Square Layout").
use Rattle.std.specs.Prelude.{◌≡◌, ◌≤◌, ℕ, ◌+◌, ◌-◌, ◌*◌, ◌%◌, true, List, [], ◌∷◌, ◌++◌, length, replicate}
use Rattle.std.specs.List.{AllByRecursion}
use Rattle.namespace_id.specs.Bytes.{AreBytes}
use Rattle.namespace_id.specs.declared.shares.Share.{Share}
use Rattle.namespace_id.specs.Names.{transaction, pay_for_blob, primary_reserved_padding, tail_padding}
use Rattle.share_split.specs.Widths.{subtree_width_of}
use Rattle.share_split.specs.Blobs.{NamedBytes, IsNamed}
use Rattle.share_split.specs.Units.{unit_shares_of}
use Rattle.share_split.specs.Joined.{padding_share}
use Rattle.square_layout.specs.Blocks.{BlockParts, SquareShares}
use Rattle.square_layout.specs.Layout.{in_order, share_count_of, start_after, placed_behind, compact_end, holding_from}

-- what is laid out: units of transactions and of payments, blobs, and the place before which no blob starts
pub record PlanParts : Type 0 where
  pub units : List (List ℕ)
  pub pay_units : List (List ℕ)
  pub blobs : List NamedBytes
  pub reserve : ℕ

-- a plan of bytes
pub record IsPlan (plan : PlanParts) : Type 0 where
  pub units : AllByRecursion AreBytes plan.units
  pub pay_units : AllByRecursion AreBytes plan.pay_units
  pub blobs : AllByRecursion IsNamed plan.blobs

-- a block, whose blobs may start behind its compact shares
abbrev pub plan_of : BlockParts → PlanParts
plan_of block = record { units = block.units; pay_units = block.pay_units; blobs = block.blobs; reserve = compact_end block }

-- ---- places

-- where blobs start, from place `end` on: each at the least place that it may have
unfoldable pub starts_after : ℕ → List NamedBytes → List ℕ
starts_after end [] = []
starts_after end (blob ∷ blobs) = start_after end blob ∷ starts_after (start_after end blob + share_count_of blob) blobs

-- places that blobs may have, in this order, from place `end` on: each is a multiple of the width of the blob's
-- subtrees, and none is before the end of the blob before it
unfoldable pub ArePlaces : ℕ → List NamedBytes → List ℕ → Type 0
ArePlaces end [] [] = Unit {0}
ArePlaces end [] (at ∷ places) = ⊥
ArePlaces end (blob ∷ blobs) [] = ⊥
ArePlaces end (blob ∷ blobs) (at ∷ places) =
    (end ≤ at) × (at % subtree_width_of (share_count_of blob) ≡ 0) × ArePlaces (at + share_count_of blob) blobs places

-- each place of the first list is at most that of the second
unfoldable pub AreAtMost : List ℕ → List ℕ → Type 0
AreAtMost [] places = Unit {0}
AreAtMost (at ∷ places) [] = ⊥
AreAtMost (at ∷ places) (other ∷ others) = (at ≤ other) × AreAtMost places others

-- ---- how many shares

-- the most shares that blobs may take: their own, and before each as much padding as it may need
unfoldable pub blobs_bound : List NamedBytes → ℕ
blobs_bound [] = 0
blobs_bound (blob ∷ blobs) = share_count_of blob + (subtree_width_of (share_count_of blob) - 1) + blobs_bound blobs

-- how many shares the width is for
abbrev pub bound : PlanParts → ℕ
bound plan = plan.reserve + blobs_bound plan.blobs

-- ---- the square

-- the compact shares of transactions, then those of payments for blobs
abbrev pub front : PlanParts → List Share
front plan = unit_shares_of transaction plan.units ++ unit_shares_of pay_for_blob plan.pay_units

-- the padding between these and the place before which no blob starts, where there is a blob
unfoldable pub lead : ℕ → List NamedBytes → List Share
lead count [] = []
lead count (blob ∷ blobs) = replicate count (padding_share primary_reserved_padding)

-- all shares but the padding behind them
abbrev pub planned : PlanParts → List Share
planned plan =
    front plan ++ lead (plan.reserve - length (front plan)) plan.blobs
    ++ placed_behind true (padding_share primary_reserved_padding) plan.reserve (in_order plan.blobs)

-- the width of the square: the least that holds the most shares
abbrev pub plan_width : PlanParts → ℕ
plan_width plan = holding_from 9 1 (bound plan)

-- the square of a plan
abbrev pub square_of_plan : PlanParts → SquareShares
square_of_plan plan = record {
  k = plan_width plan;
  shares = planned plan
      ++ replicate (plan_width plan * plan_width plan - length (planned plan)) (padding_share tail_padding);
}
