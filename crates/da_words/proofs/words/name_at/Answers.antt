use Rattle.std.proofs.Common.{◌∙◌, sym, ap, arith}
use Rattle.da_words.specs.Values.{key_name}
use Rattle.da_words.proofs.WordLemmas.{key_at}
use Rattle.da_words.proofs.words.name_at.Goals as goal

-- the word stands in the place of KEY
pub returns-else-i-plain : goal.returns-else-i-plain
returns-else-i-plain c =
    c.key_name.ensures ∙ ap key_name c.as_str-word.ensures.value
    ∙ sym (key_at c.args.plain c.args.words.now c.args.i c.index-words-i.result (omega (arith, c.if-i-plain.false)) (omega arith) c.index-words-i.is)
