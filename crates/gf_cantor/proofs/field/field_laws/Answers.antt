use Rattle.gf_cantor.specs.Field.{byte_field}
use Rattle.gf_cantor.proofs.FieldLaws.{byte_laws, word_laws}
use Rattle.gf_cantor.proofs.Laws.{one_inverse, zero_factor, product_cancels}
use Rattle.gf_cantor.proofs.field.field_laws.Goals as goal

pub returns-clause-product_element : goal.returns-clause-product_element
returns-clause-product_element c = byte_laws.product_element

pub returns-clause-same_element : goal.returns-clause-same_element
unfolding byte_field
returns-clause-same_element c = byte_laws.same_element

pub returns-clause-closed : goal.returns-clause-closed
unfolding byte_field
returns-clause-closed c = byte_laws.closed

pub returns-clause-commutative : goal.returns-clause-commutative
returns-clause-commutative c = byte_laws.commutative

pub returns-clause-associative : goal.returns-clause-associative
returns-clause-associative c = byte_laws.associative

pub returns-clause-distributive : goal.returns-clause-distributive
returns-clause-distributive c = byte_laws.distributive

pub returns-clause-zero : goal.returns-clause-zero
returns-clause-zero c = byte_laws.zero

pub returns-clause-one : goal.returns-clause-one
unfolding byte_field
returns-clause-one c = byte_laws.one

pub returns-clause-inverse : goal.returns-clause-inverse
unfolding byte_field
returns-clause-inverse c = byte_laws.inverse

pub returns-clause-only_inverse : goal.returns-clause-only_inverse
unfolding byte_field
returns-clause-only_inverse c = one_inverse byte_field byte_laws

pub returns-clause-zero_factor : goal.returns-clause-zero_factor
unfolding byte_field
returns-clause-zero_factor c = zero_factor byte_field byte_laws

pub returns-clause-cancellation : goal.returns-clause-cancellation
unfolding byte_field
returns-clause-cancellation c = product_cancels byte_field byte_laws

pub returns-clause-cantor : goal.returns-clause-cantor
unfolding byte_field
returns-clause-cantor c = byte_laws.cantor

pub returns-clause-bytes : goal.returns-clause-bytes
returns-clause-bytes c = byte_laws

pub returns-clause-words : goal.returns-clause-words
returns-clause-words c = word_laws
