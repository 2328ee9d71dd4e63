use Rattle.std.proofs.Common.{◌∙◌, ℕ, take, drop, ap}
use Rattle.da_words.specs.Words.{words_of}
use Rattle.da_words.proofs.WordLemmas.{names_behind}
use Rattle.da_words.proofs.words.file_words.Goals as goal

-- the words are a slice behind so many
pub returns-clause-value : goal.returns-clause-value
returns-clause-value c =
    names_behind c.words_before-first.result c.args.call.files c.args.words.now
    ∙ ap (λ (b : ℕ). take c.args.call.files (drop b (words_of c.args.words.now))) c.words_before-first.ensures.value
