use Rattle.std.proofs.Common.{false}
use Rattle.tx_list.proofs.TakingLemmas.{all_taken, payments_kept}
use Rattle.tx_list.proofs.SquareLemmas.{list_is_square, list_has_shares}
use Rattle.tx_list.proofs.laws.square_laws.Goals as goal

pub returns-clause-square : goal.returns-clause-square
returns-clause-square c = list_is_square

pub returns-clause-shares : goal.returns-clause-shares
returns-clause-shares c = list_has_shares

pub returns-clause-payments : goal.returns-clause-payments
returns-clause-payments c = λ transactions fine. payments_kept transactions (all_taken 0 false transactions fine)
