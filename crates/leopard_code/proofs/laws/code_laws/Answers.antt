use Rattle.leopard_code.proofs.LawLemmas.{through_shares, one_codeword, generated, codeword-sum, codeword-multiple, crossed}
use Rattle.leopard_code.proofs.LawReadingLemmas.{through_shares as through_over, one_codeword as one_over}
use Rattle.leopard_code.proofs.LinearLemmas.{codeword_over-sum}
use Rattle.leopard_code.proofs.DerivativeLemmas.{formal_derivative}
use Rattle.leopard_code.proofs.laws.code_laws.Goals as goal

pub returns-clause-through : goal.returns-clause-through
returns-clause-through c = through_shares

pub returns-clause-one : goal.returns-clause-one
returns-clause-one c = one_codeword

pub returns-clause-sum : goal.returns-clause-sum
returns-clause-sum c = codeword-sum

pub returns-clause-multiple : goal.returns-clause-multiple
returns-clause-multiple c = codeword-multiple

pub returns-clause-generator : goal.returns-clause-generator
returns-clause-generator c = generated

pub returns-clause-crossed : goal.returns-clause-crossed
returns-clause-crossed c = crossed

pub returns-clause-derivative : goal.returns-clause-derivative
returns-clause-derivative c = λ r old new b laws. formal_derivative r laws old new b

pub returns-clause-through_over : goal.returns-clause-through_over
returns-clause-through_over c = λ r k known shares laws. through_over r laws k known shares

pub returns-clause-one_over : goal.returns-clause-one_over
returns-clause-one_over c = λ r k known word other laws. one_over r laws k known word other

pub returns-clause-sum_over : goal.returns-clause-sum_over
returns-clause-sum_over c = λ r k word other laws. codeword_over-sum r laws k word other
