use Rattle.std.proofs.Common.{◌∙◌, ◌+◌, ◌++◌, ℕ, List, take, ap, arith}
use Rattle.sampling.specs.Generated.{word_bytes}
use Rattle.sampling.proofs.WordLemmas.{next_is, moved, words_on, bytes_step, bytes_end}
use Rattle.sampling.proofs.generating.bytes.Goals as goal

pub loop-preserved : goal.loop-preserved
loop-preserved c = record {
  all = λ key place at.
      bytes_step key c.loop.bytes.items c.extend_from_slice.new.self.items
      (word_bytes key place c.div_ceil-count.result) place c.loop.counter
      c.div_ceil-count.result c.next_word.result c.loop-test.true (c.loop.invariant.all key place at)
      (c.next_word.ensures.value ∙ next_is c.loop.words key (place + c.loop.counter)
      (moved c.args.words.now c.loop.words key place c.loop.counter at c.loop.invariant.words))
      (c.in-Ok-extend_from_slice.ensures.items ∙ ap (λ (l : List ℕ). c.loop.bytes.items ++ l) c.to_le_bytes.ensures);
  words = c.next_word.ensures.after ∙ words_on c.args.words.now c.loop.words c.loop.counter c.loop.invariant.words;
}

-- the bytes of all words, cut
pub returns-clause-value : goal.returns-clause-value
returns-clause-value c = λ key place at.
    c.truncate.ensures.items
    ∙ ap (take c.args.len)
    (bytes_end key c.loop.bytes.items (word_bytes key place c.div_ceil-count.result) place c.loop.counter c.div_ceil-count.result
    (omega (arith, c.loop-test.false)) (c.loop.invariant.all key place at)
    ∙ ap (word_bytes key place) c.div_ceil-count.ensures)
