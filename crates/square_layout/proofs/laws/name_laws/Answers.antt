use Rattle.std.proofs.Common.{◌*◌, ◌-◌, length}
use Rattle.square_layout.specs.Layout.{laid, width_for}
use Rattle.square_layout.proofs.AcceptedLemmas.{accepted_is, is_accepted, blobs_between, block_named}
use Rattle.square_layout.proofs.NameLemmas.{names_rise}
use Rattle.square_layout.proofs.laws.name_laws.Goals as goal

pub returns-clause-accepted : goal.returns-clause-accepted
returns-clause-accepted c = λ bytes. (is_accepted bytes, accepted_is bytes)

pub returns-clause-rising : goal.returns-clause-rising
returns-clause-rising c = λ block named.
    names_rise block (width_for block * width_for block - length (laid block)) (blobs_between block.blobs named)

pub returns-clause-named : goal.returns-clause-named
returns-clause-named c = block_named
