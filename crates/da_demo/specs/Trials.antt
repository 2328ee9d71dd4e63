-- What comes of a trial (docs/FORMATS.md, "The trial of a number").
use Rattle.std.specs.Prelude.{◌≡◌, ◌≢◌, ℕ, List, length, Some}
use Rattle.namespace_id.specs.declared.shares.Share.{Share}
use Rattle.data_header.specs.Headers.{Roots}
use Rattle.data_header.specs.DataRoots.{data_root_of}
use Rattle.square_layout.specs.Blocks.{SquareShares}
use Rattle.square_layout.specs.Layout.{block_square}
use Rattle.axis_roots.specs.Grids.{Extends, header_of_grid}
use Rattle.axis_roots.specs.Claims.{Accepts}
use Rattle.repair_queue.specs.Verdicts.{VerdictParts, whole, missing, fraud, clash, IsVerdict}
use Rattle.sampling.specs.Generated.{drawn_block}
use Rattle.da_demo.specs.declared.outcomes.Outcome.{Outcome}
use Rattle.da_demo.specs.declared.outcomes.Outcome.TheVariants as outcome
use Rattle.da_demo.specs.declared.outcomes.Upheld.{Upheld}
use Rattle.da_demo.specs.declared.outcomes.Upheld.TheVariants as upheld
use Rattle.da_demo.specs.declared.outcomes.Trial.{Trial}
use Rattle.da_demo.specs.Sessions.{proved_of, refused_of, first_messages, second_messages, IsCheat}

-- what is told of the answer of a repair where this square was laid out
abbrev pub IsOutcome : SquareShares → VerdictParts → Outcome → Type 0
IsOutcome square (whole other) outcome.Whole = other ≡ square
IsOutcome square (whole other) outcome.Other = other ≢ square
IsOutcome square (missing cells) (outcome.Missing count) = count ≡ length cells.list
IsOutcome square (fraud claim) (outcome.Fraud axis index) = (axis ≡ claim.axis) × (index ≡ claim.index)
IsOutcome square (clash left right) outcome.Clash = Unit {0}
IsOutcome square verdict told = ⊥

-- whether the claim of an answer is accepted under a header, where it has one
abbrev pub IsUpheld : Roots → VerdictParts → Upheld → Type 0
IsUpheld header (fraud claim) upheld.Yes = Accepts header claim
IsUpheld header (fraud claim) upheld.No = Accepts header claim → ⊥
IsUpheld header (fraud claim) upheld.None = ⊥
IsUpheld header verdict upheld.None = Unit {0}
IsUpheld header verdict told = ⊥

-- what comes of the trial of a number in a width: the square of the number's block, its extension and header; the first
-- session, by lies and half of the cells; a grid whose last share is spoiled, and its header; the second session
pub record IsTrial (number k : ℕ) (trial : Trial) : Type 0 where
  pub grid : List Share
  pub extends : Extends k (block_square (drawn_block number k)).shares grid
  pub header : Roots
  pub own : header_of_grid k grid ≡ Some header
  pub width : trial.k ≡ k
  pub blobs : trial.blobs ≡ length (drawn_block number k).blobs
  pub root : trial.root ≡ data_root_of header
  -- the first session
  pub proved : trial.proved ≡ length (proved_of header (first_messages k grid))
  pub lies : trial.lies ≡ length (refused_of header (first_messages k grid))
  pub one : VerdictParts
  pub one_answers : IsVerdict header (proved_of header (first_messages k grid)) one
  pub first : IsOutcome (block_square (drawn_block number k)) one trial.first
  -- the second session
  pub other : List Share
  pub cheat : IsCheat k grid other
  pub cheated : Roots
  pub others : header_of_grid k other ≡ Some cheated
  pub two : VerdictParts
  pub two_answers : IsVerdict cheated (proved_of cheated (second_messages k other)) two
  pub second : IsOutcome (block_square (drawn_block number k)) two trial.second
  pub upheld : IsUpheld cheated two trial.upheld
