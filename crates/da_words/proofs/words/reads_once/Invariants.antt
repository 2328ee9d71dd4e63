use Rattle.std.proofs.Common.{◌≡◌, ◌≤◌, take}
use Rattle.da_words.specs.Words.{words_of, files_named}
use Rattle.da_words.proofs.WordLemmas.{inputs_among}
use Rattle.da_words.proofs.words.reads_once.Given as goal

-- so many of the names before are the standard input
abbrev pub invariant-loop-i : goal.invariant-loop-i
invariant-loop-i l = record {
  among : l.count ≡ inputs_among (take l.i (files_named l.plain (words_of l.words)));
  few : l.count ≤ l.i;
}
