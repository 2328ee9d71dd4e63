use Rattle.std.proofs.Common.{◌∙◌, ℕ, ap₂}
use Rattle.namespace_id.proofs.WidthLemmas.{is_width-le}
use Rattle.square_serve.specs.Serving.{found_at}
use Rattle.square_serve.proofs.FindingLemmas.{front_below, front_same}
use Rattle.square_serve.proofs.finding.place_in.Goals as goal

-- a row has no more shares than the greatest square
pub columns_of-requires : goal.columns_of-requires
columns_of-requires c = is_width-le _ c.requires.width

-- the columns are those of the row's leaves
pub returns-clause-found : goal.returns-clause-found
returns-clause-found c = λ k row grid is.
    c.placed_at.ensures.found k row grid c.args.shares.now is
    ∙ ap₂ (λ (start count : ℕ). found_at k grid row start count)
    (c.columns_of.ensures.start ∙ front_below k row grid c.args.shares.now c.args.namespace.now is.within is.shares c.namespace_law.ensures)
    (c.columns_of.ensures.count ∙ front_same k row grid c.args.shares.now c.args.namespace.now is.within is.shares c.requires.other)
