-- Proved samples of a line, one after another.
use Rattle.std.specs.Prelude.{◌≡◌, ℕ, List, [], ◌∷◌, ◌++◌}
use Rattle.std.specs.List.{AllByRecursion}
use Rattle.namespace_id.specs.declared.cells.Axis.{Axis}
use Rattle.namespace_id.specs.declared.shares.Share.{Share}
use Rattle.data_header.specs.Headers.{Roots}
use Rattle.axis_roots.specs.declared.message.proved.Proved.{Proved}
use Rattle.axis_roots.specs.Messages.{position}
use Rattle.axis_roots.specs.Proved.{kept_message, IsUnder}
use Rattle.axis_roots.specs.Lines.{entry, cell_on}
use Rattle.axis_roots.specs.Claims.{positions_of, IsThrough, claim_with}
use Rattle.befp_maker.specs.Halves.{AreHalf}
use Rattle.befp_maker.specs.Conflicts.{positions_with, IsThroughOther, IsMessageOf}

-- a proved sample of the cell at a position of a line, which shows the line's share
pub record IsOfLine (header : Roots) (axis : Axis) (i : ℕ) (line : List Share) (pos : ℕ) (c : Proved) : Type 0 where
  pub under : IsUnder header c
  pub cell : (kept_message c).cell ≡ cell_on axis i pos
  pub share : (kept_message c).share ≡ entry line pos

-- such samples of these positions, in their order
abbrev pub AreOfLine : Roots → Axis → ℕ → List Share → List ℕ → List Proved → Type 0
AreOfLine header axis i line [] [] = Unit {0}
AreOfLine header axis i line [] (c ∷ cells) = ⊥
AreOfLine header axis i line (pos ∷ places) [] = ⊥
AreOfLine header axis i line (pos ∷ places) (c ∷ cells) = IsOfLine header axis i line pos c × AreOfLine header axis i line places cells

-- a list that goes on by such samples
pub record IsContinued (header : Roots) (axis : Axis) (i : ℕ) (line : List Share) (places : List ℕ) (old new : List Proved) : Type 0 where
  pub made : List Proved
  pub appended : new ≡ old ++ made
  pub are : AreOfLine header axis i line places made

-- the cells of the fraud proof of a sample and of a line's first k - 1 others: they are a half, and the line through
-- them goes through the sample's share
pub record AreWith (header : Roots) (axis : Axis) (i : ℕ) (line : List Share) (other : Proved) (cells : List Proved) : Type 0 where
  pub half : AreHalf header axis i cells
  pub positions : positions_of (claim_with axis i cells) ≡ positions_with header.k (position axis (kept_message other).cell)
  pub messages : AllByRecursion (IsMessageOf header.k axis i line (kept_message other)) (claim_with axis i cells).cells
  pub through : (word : List Share) → IsThrough header.k (claim_with axis i cells) word
      → IsThroughOther header.k line (position axis (kept_message other).cell) (kept_message other).share word
