use Rattle.std.proofs.Common.{◌≡◌, drop, map}
use Rattle.da_words.specs.Words.{words_of, call_in}
use Rattle.da_words.proofs.words.call_in.Given as goal

-- the words are none of the rows before
abbrev pub invariant-loop-row : goal.invariant-loop-row
invariant-loop-row l =
    call_in (map (λ row. (row.0.now, row.1, row.2)) (drop l.row-index l.rows)) (words_of l.words)
    ≡ call_in (map (λ row. (row.0.now, row.1, row.2)) l.rows) (words_of l.words)
