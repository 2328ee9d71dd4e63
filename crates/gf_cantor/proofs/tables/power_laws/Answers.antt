use Rattle.gf_cantor.specs.Field.{byte_field}
use Rattle.gf_cantor.proofs.Product.{label-element}
use Rattle.gf_cantor.proofs.PowerLaws.{label-powers}
use Rattle.gf_cantor.proofs.ByteTables.{power-period}
use Rattle.gf_cantor.proofs.ExponentLaws.{byte_power_laws, word_power_laws}
use Rattle.gf_cantor.proofs.Computed.{byte_labels, byte_cantor}
use Rattle.gf_cantor.proofs.tables.power_laws.Goals as goal

pub returns-clause-label : goal.returns-clause-label
unfolding byte_field
returns-clause-label c = label-element byte_field byte_labels

pub returns-clause-product : goal.returns-clause-product
returns-clause-product c = label-powers byte_field 3 byte_cantor

pub returns-clause-period : goal.returns-clause-period
returns-clause-period c = power-period

pub returns-clause-bytes : goal.returns-clause-bytes
returns-clause-bytes c = byte_power_laws

pub returns-clause-words : goal.returns-clause-words
returns-clause-words c = word_power_laws
