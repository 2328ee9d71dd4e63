-- The words of a key, and bytes of them.
use Rattle.std.proofs.Common.{◌≡◌, ◌∙◌, ℕ, zero, suc, ◌+◌, ◌-◌, ◌*◌, ◌<◌, ◌≤◌, List, [], ◌++◌, length, refl, sym, ap, ap₂, subst, append_assoc, length-append, arith}
use Rattle.std.specs.Int.{w32, to_le_bytes}
use Rattle.std.proofs.lemmas.List.{append-nil}
use Rattle.rand_chacha.specs.ChaCha.{ChaCha, word_at}
use Rattle.sampling.specs.Words.{key_word, words_at, words_after}
use Rattle.sampling.specs.Generated.{word_bytes}

-- the next word of a generator at a place of the words of a key
pub next_is : (words : ChaCha) (key : List ℕ) (place : ℕ) → words ≡ words_at key place
    → word_at 10 words.key words.stream words.word_pos ≡ key_word key place
next_is words key place at = ap (λ (w : ChaCha). word_at 10 w.key w.stream w.word_pos) at

-- where a generator at a place stands some words later
pub moved : (words new : ChaCha) (key : List ℕ) (place count : ℕ) → words ≡ words_at key place
    → new ≡ words_after words count
    → new ≡ words_at key (place + count)
moved words new key place count at after = after ∙ ap (λ (w : ChaCha). words_after w count) at

-- where a generator stands a word later
pub words_on : (words new : ChaCha) (count : ℕ) → new ≡ words_after words count
    → words_after new 1 ≡ words_after words (count + 1)
words_on words new count after =
    let place : words.word_pos + count + 1 ≡ words.word_pos + (count + 1) = omega arith in
    ap (λ (w : ChaCha). words_after w 1) after ∙ ap (λ (n : ℕ). record words { word_pos = n }) place

-- the bytes of no words
word_bytes-none : (key : List ℕ) (place count : ℕ) → count ≡ 0 → word_bytes key place count ≡ []
unfolding word_bytes
word_bytes-none key place count none = subst (λ (n : ℕ). word_bytes key place n ≡ []) (sym none) refl

-- the bytes of one word and those of the others
word_bytes-next : (key : List ℕ) (place count : ℕ)
    → word_bytes key place (suc count) ≡ to_le_bytes w32 (key_word key place) ++ word_bytes key (suc place) count
unfolding word_bytes
word_bytes-next key place count = refl

-- so many words have four times as many bytes
pub length-word_bytes : (key : List ℕ) (count place : ℕ) → length (word_bytes key place count) ≡ 4 * count
unfolding word_bytes
length-word_bytes key zero place = refl
length-word_bytes key (suc count) place =
    omega (
      arith,
      length-append (to_le_bytes w32 (key_word key place))
          (word_bytes key (suc place) count),
      length-word_bytes key count (suc place),
    )

-- a word more
pub bytes_step : (key bytes after all : List ℕ) (place i count word : ℕ) → i < count
    → bytes ++ word_bytes key (place + i) (count - i) ≡ all → word ≡ key_word key (place + i)
    → after ≡ bytes ++ to_le_bytes w32 word
    → after ++ word_bytes key (place + (i + 1)) (count - (i + 1)) ≡ all
bytes_step key bytes after all place i count word h so_far is_word is_after =
    let more : suc (count - (i + 1)) ≡ count - i = omega arith in
    let next : place + (i + 1) ≡ suc (place + i) = omega arith in
    let rest : List ℕ = word_bytes key (suc (place + i)) (count - (i + 1)) in
    ap₂ (λ (l m : List ℕ). l ++ m) (is_after ∙ ap (λ (w : ℕ). bytes ++ to_le_bytes w32 w) is_word)
    (ap (λ (p : ℕ). word_bytes key p (count - (i + 1))) next)
    ∙ append_assoc bytes (to_le_bytes w32 (key_word key (place + i))) rest
    ∙ sym (ap (λ (l : List ℕ). bytes ++ l) (word_bytes-next key (place + i) (count - (i + 1))))
    ∙ ap (λ (n : ℕ). bytes ++ word_bytes key (place + i) n) more ∙ so_far

-- at its end there are all
pub bytes_end : (key bytes all : List ℕ) (place i count : ℕ) → count ≤ i
    → bytes ++ word_bytes key (place + i) (count - i) ≡ all → bytes ≡ all
bytes_end key bytes all place i count h so_far =
    sym (append-nil bytes) ∙ sym (ap (λ (l : List ℕ). bytes ++ l) (word_bytes-none key (place + i) (count - i) (omega arith))) ∙ so_far
