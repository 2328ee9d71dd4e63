use Rattle.tx_list.proofs.SpelledListLemmas.{spelling_is_payment, spelling_is_read, spelled_is_taken, spelled_is_read}
use Rattle.tx_list.proofs.AgainLemmas.{read_again}
use Rattle.tx_list.proofs.laws.read_laws.Goals as goal

pub returns-clause-payment : goal.returns-clause-payment
returns-clause-payment c = spelling_is_payment

pub returns-clause-parts : goal.returns-clause-parts
returns-clause-parts c = spelling_is_read

pub returns-clause-taken : goal.returns-clause-taken
returns-clause-taken c = spelled_is_taken

pub returns-clause-list : goal.returns-clause-list
returns-clause-list c = spelled_is_read

pub returns-clause-again : goal.returns-clause-again
returns-clause-again c = read_again
