-- What is proved of codewords.
use Rattle.std.specs.Prelude.{◌≡◌, ◌<◌, ◌*◌, ℕ, List, IsTrue, IfSome, length, slice_get}
use Rattle.namespace_id.specs.declared.shares.Share.{Share}
use Rattle.label_polynomial.specs.Polynomial.{AreCoefficients}
use Rattle.lch_fft.specs.Transforms.{column}
use Rattle.namespace_id.specs.Cells.{is_width}
use Rattle.leopard_code.specs.Codewords.{reading_of, are_positions, IsCodeword, HasEntries, weighted}

-- each entry is the same weighted sum of the known ones in every codeword
abbrev pub EntriesAreWeightedSums : Type 0
EntriesAreWeightedSums = (k : ℕ) (known : List ℕ) (pos : ℕ) → IsTrue (is_width k) → length known ≡ k
    → IsTrue (are_positions k known) → pos < 2 * k
    → (ws : List ℕ) × (length ws ≡ k) × AreCoefficients (reading_of k).field ws
    × ((word shares : List Share) → IsCodeword k word → length shares ≡ k → HasEntries known shares word
    → (c : ℕ) → c < (reading_of k).columns
    → IfSome (slice_get word pos) (λ share. (reading_of k).label_at share.0 c
    ≡ weighted (reading_of k).field ws (column (reading_of k) c shares)))
