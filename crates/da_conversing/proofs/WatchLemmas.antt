-- What comes of a watch, step by step.
use Rattle.std.proofs.Common.{◌≡◌, ◌∙◌, ◌⊎◌, ◌<◌, ℕ, List, Some, Ok, inl, inr, sym, ap, subst}
use Rattle.namespace_id.specs.declared.cells.Cell.{Cell}
use Rattle.da_io.specs.declared.inputs.Inputs as inputs
use Rattle.da_io.specs.declared.sink.Sink as sink
use Rattle.data_header.specs.Headers.{Roots}
use Rattle.sampling.specs.Draws.{draw_limit, drawn_cells}
use Rattle.da_status.specs.declared.status.Status.{Status}
use Rattle.da_status.specs.declared.status.Status.TheVariants.{NoMemory}
use Rattle.da_judging.specs.Keys.{key_file_in}
use Rattle.da_watching.specs.Watchers.{watching}
use Rattle.da_conversing.specs.declared.words.KeyWord.{KeyWord}
use Rattle.da_conversing.specs.declared.words.KeyWord.TheVariants.{Key, Named}
use Rattle.da_conversing.specs.Words.{talk_file}
use Rattle.da_conversing.specs.Inputs.{HasValue}
use Rattle.da_conversing.specs.Courses.{HasPicked}
use Rattle.da_conversing.specs.Tellings.{TellsOver}
use Rattle.da_conversing.specs.Watches.{WatchesOver, WatchesUnder}

module _ {I O : Type 0} (i : inputs.Ghosts I) (o : sink.Ghosts O) (before now : I) (old new : O) (header : Roots) (why : Status) where
  -- over the cells that a key draws
  pub watches_over : (key : List ℕ) (count file : ℕ) (name : List ℕ) (plan : List Cell) → (draw_limit header.k < count → ⊥) → plan ≡ drawn_cells key header.k count
      → ((why ≡ NoMemory) × (now ≡ before) × (new ≡ old)) ⊎ TellsOver i o (watching header plan) Some file name before now old new why
      → WatchesOver i o before now old new header key count file name why
  watches_over key count file name plan within is (inl none) = inr (inl none)
  watches_over key count file name plan within is (inr told) =
      inr (inr (within, subst (λ (cells : List Cell). TellsOver i o (watching header cells) Some file name before now old new why) is told))

  -- by a key that is a word
  pub under_key : (word : KeyWord) (key : List ℕ) (count number : ℕ) (file name : List ℕ) → word ≡ Key key → number ≡ talk_file word
      → WatchesOver i o before now old new header key count number name why → WatchesUnder i o before now old new header word count file name why
  under_key word key count number file name is at over =
      let first : number ≡ 1 = at ∙ ap talk_file is in
      subst (λ (w : KeyWord). WatchesUnder i o before now old new header w count file name why) (sym is)
      (subst (λ (n : ℕ). WatchesOver i o before now old new header key count n name why) first over)

  -- by a key that stands in a file
  pub under_named : (mid : I) (word : KeyWord) (key : List ℕ) (count number : ℕ) (file name : List ℕ) → word ≡ Named → number ≡ talk_file word
      → HasValue key_file_in (i.files before) file (Ok key) → HasPicked i before mid file → i.files mid ≡ i.files before
      → WatchesOver i o mid now old new header key count number name why → WatchesUnder i o before now old new header word count file name why
  under_named mid word key count number file name is at has picked files over =
      let second : number ≡ 2 = at ∙ ap talk_file is in
      subst (λ (w : KeyWord). WatchesUnder i o before now old new header w count file name why) (sym is)
      (inr (key, mid, has, picked, files, subst (λ (n : ℕ). WatchesOver i o mid now old new header key count n name why) second over))
