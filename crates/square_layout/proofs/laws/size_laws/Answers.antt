use Rattle.std.proofs.Common.{◌*◌}
use Rattle.share_split.specs.Joined.{padding_share}
use Rattle.namespace_id.specs.Names.{tail_padding}
use Rattle.square_layout.specs.Layout.{laid, width_for}
use Rattle.square_layout.proofs.LeastWidthLemmas.{least_width, holding_holds}
use Rattle.square_layout.proofs.LaidLemmas.{needed_is, length-padded, laid_fits}
use Rattle.square_layout.proofs.SquareLemmas.{least_is_width, square_is_square, square_has_shares}
use Rattle.square_layout.proofs.laws.size_laws.Goals as goal

pub returns-clause-needed : goal.returns-clause-needed
returns-clause-needed c = needed_is

pub returns-clause-full : goal.returns-clause-full
returns-clause-full c = λ block fits.
    length-padded (laid block) (padding_share tail_padding) (width_for block * width_for block) (laid_fits block (width_for block * width_for block) fits)

pub returns-clause-holds : goal.returns-clause-holds
returns-clause-holds c = holding_holds

pub returns-clause-least : goal.returns-clause-least
returns-clause-least c = least_width

pub returns-clause-width : goal.returns-clause-width
returns-clause-width c = least_is_width

pub returns-clause-square : goal.returns-clause-square
returns-clause-square c = square_is_square

pub returns-clause-shares : goal.returns-clause-shares
returns-clause-shares c = square_has_shares
