use Rattle.std.proofs.Common.{◌∙◌, sym}
use Rattle.tx_list.proofs.NumberLemmas.{no_wrapper}
use Rattle.tx_list.proofs.unwrapping.unwrapped.Goals as goal

-- bytes that aren't fields are none
pub returns-then-not-is_fields-clause-none : goal.returns-then-not-is_fields-clause-none
returns-then-not-is_fields-clause-none c = λ none. no_wrapper c.args.unit.now (sym c.is_fields.ensures ∙ c.if-not-is_fields.true)
