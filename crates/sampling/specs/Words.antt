-- The words of a key (RFC 8439, "The ChaCha20 Block Function").
use Rattle.std.specs.Prelude.{ℕ, ◌+◌, ◌*◌, ◌^◌, List}
use Rattle.rand_chacha.specs.ChaCha.{ChaCha, word_at, key_of}

-- the word at a place of the key stream of ChaCha20 with this key of 32 bytes, stream 0
abbrev pub key_word : List ℕ → ℕ → ℕ
key_word key place = word_at 10 (key_of key) 0 place

-- the number that two words from a place on make, the lower half first
abbrev pub key_number : List ℕ → ℕ → ℕ
key_number key place = key_word key place + key_word key (place + 1) * 2 ^ 32

-- the generator of the words of a key, whose next word is the one at a place
abbrev pub words_at : List ℕ → ℕ → ChaCha
words_at key place = record { key = key_of key; stream = 0; word_pos = place }

-- a generator, so many words later
abbrev pub words_after : ChaCha → ℕ → ChaCha
words_after words count = record words { word_pos = words.word_pos + count }
