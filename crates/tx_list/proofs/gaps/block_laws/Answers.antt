use Rattle.tx_list.proofs.GapLemmas.{square_of_block, plain_is_block}
use Rattle.tx_list.proofs.gaps.block_laws.Goals as goal

pub returns-clause-same : goal.returns-clause-same
returns-clause-same c = square_of_block

pub returns-clause-plain : goal.returns-clause-plain
returns-clause-plain c = plain_is_block
