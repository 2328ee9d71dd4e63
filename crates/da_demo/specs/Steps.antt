-- What comes of the sessions of a trial, one by one.
use Rattle.std.specs.Prelude.{◌≡◌, ℕ, List, length, Option, Some, None}
use Rattle.namespace_id.specs.declared.shares.Share.{Share}
use Rattle.data_header.specs.Headers.{Roots}
use Rattle.data_header.specs.DataRoots.{data_root_of}
use Rattle.square_layout.specs.Blocks.{SquareShares}
use Rattle.axis_roots.specs.Grids.{header_of_grid}
use Rattle.axis_roots.specs.Claims.{ClaimParts}
use Rattle.repair_queue.specs.Verdicts.{VerdictParts, whole, missing, fraud, clash, IsVerdict}
use Rattle.da_demo.specs.declared.sessions.First.{First}
use Rattle.da_demo.specs.declared.outcomes.Outcome.{Outcome}
use Rattle.da_demo.specs.declared.outcomes.Upheld.{Upheld}
use Rattle.da_demo.specs.Sessions.{proved_of, refused_of, first_messages, second_messages}
use Rattle.da_demo.specs.Trials.{IsOutcome, IsUpheld}

-- the claim of an answer, where it has one
abbrev pub verdict_claim : VerdictParts → Option ClaimParts
verdict_claim (whole square) = None
verdict_claim (missing cells) = None
verdict_claim (fraud claim) = Some claim
verdict_claim (clash left right) = None

-- what comes of the first session over a grid
pub record IsFirst (k : ℕ) (grid : List Share) (square : SquareShares) (first : First) : Type 0 where
  pub header : Roots
  pub own : header_of_grid k grid ≡ Some header
  pub root : first.root ≡ data_root_of header
  pub proved : first.proved ≡ length (proved_of header (first_messages k grid))
  pub lies : first.lies ≡ length (refused_of header (first_messages k grid))
  pub verdict : VerdictParts
  pub answers : IsVerdict header (proved_of header (first_messages k grid)) verdict
  pub outcome : IsOutcome square verdict first.outcome

-- what comes of the second session over a grid
pub record IsSecond (k : ℕ) (grid : List Share) (square : SquareShares) (outcome : Outcome) (upheld : Upheld)
    : Type 0 where
  pub header : Roots
  pub own : header_of_grid k grid ≡ Some header
  pub verdict : VerdictParts
  pub answers : IsVerdict header (proved_of header (second_messages k grid)) verdict
  pub told : IsOutcome square verdict outcome
  pub judged : IsUpheld header verdict upheld
