use Rattle.std.proofs.Common.{◌∙◌, ℕ, List, ap₂}
use Rattle.da_words.specs.Words.{files_named, reads_once}
use Rattle.da_words.proofs.words.is_once_only.Goals as goal

-- the names are those of the words behind the command's own, or behind FORM
pub returns : goal.returns
returns c =
    c.reads_once.ensures
    ∙ ap₂ (λ (plain : ℕ) (names : List (List ℕ)). reads_once (files_named plain names)) c.plain_count.ensures c.file_words.ensures.value
