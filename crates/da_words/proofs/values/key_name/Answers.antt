use Rattle.std.proofs.Common.{None, arith}
use Rattle.std.proofs.lemmas.Str.Pattern.{strip_prefix_char}
use Rattle.da_words.proofs.WordLemmas.{key_name_other}
use Rattle.da_words.proofs.values.key_name.Goals as goal

-- the word begins with no `@`
pub returns-in-None : goal.returns-in-None
returns-in-None c = key_name_other c.args.word.now (strip_prefix_char 64 c.args.word.now None c.in-None.ensures.cases (omega arith))
