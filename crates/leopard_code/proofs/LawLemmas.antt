-- The laws of codewords, of each width that has a code.
use Rattle.std.proofs.Common.{◌≡◌, ℕ, ◌*◌, ◌<◌, List, length, IsTrue}
use Rattle.std.specs.Prelude.{slice_get, slice_index}
use Rattle.namespace_id.specs.declared.shares.Share.{Share}
use Rattle.namespace_id.specs.Shares.{AreShares}
use Rattle.namespace_id.specs.Cells.{is_width}
use Rattle.leopard_code.specs.Codewords.{reading_of, are_positions, IsCodeword, HasEntries, shares_sum, AreMultiples, AreLines}
use Rattle.leopard_code.specs.Laws.{EntriesAreWeightedSums}
use Rattle.leopard_code.proofs.CodeLemmas.{reading_laws, width_code, code_width-pos}
use Rattle.leopard_code.proofs.LawReadingLemmas.{one_codeword as one_over, through_shares as through_over, generated as generated_over}
use Rattle.leopard_code.proofs.LinearLemmas.{codeword_over-sum, codeword_over-multiple}
use Rattle.leopard_code.proofs.CrossingLemmas.{crossed_row}

-- two codewords with the same shares at k positions are one
pub one_codeword : (k : ℕ) (known : List ℕ) (word other : List Share) → IsTrue (is_width k) → length known ≡ k → IsTrue (are_positions k known)
    → IsCodeword k word → IsCodeword k other
    → ((i : ℕ) → i < k → slice_get word (slice_index known i) ≡ slice_get other (slice_index known i)) → word ≡ other
one_codeword k known word other width = one_over (reading_of k) (reading_laws k) k known word other (width_code k width)

-- through k shares at k positions goes a codeword
pub through_shares : (k : ℕ) (known : List ℕ) (shares : List Share) → IsTrue (is_width k) → length known ≡ k → IsTrue (are_positions k known)
    → length shares ≡ k → AreShares shares → (word : List Share) × IsCodeword k word × HasEntries known shares word
through_shares k known shares width = through_over (reading_of k) (reading_laws k) k known shares (width_code k width)

-- an entry is the same weighted sum of the known ones in each codeword
pub generated : EntriesAreWeightedSums
generated k known pos width = generated_over (reading_of k) (reading_laws k) k known pos (width_code k width)

-- sums and multiples of codewords are codewords
pub codeword-sum : (k : ℕ) (word other : List Share) → IsCodeword k word → IsCodeword k other → IsCodeword k (shares_sum word other)
codeword-sum k = codeword_over-sum (reading_of k) (reading_laws k) k

pub codeword-multiple : (k by : ℕ) (word other : List Share) → IsCodeword k word → AreMultiples (reading_of k) by word other → IsCodeword k other
codeword-multiple k = codeword_over-multiple (reading_of k) (reading_laws k) k

-- where the first k rows of a square of shares are codewords, and all its columns, all its rows are
pub crossed : (k : ℕ) (rows cols : ℕ → List Share) → IsTrue (is_width k) → AreLines k rows cols
    → ((i : ℕ) → i < k → IsCodeword k (rows i)) → ((i : ℕ) → i < 2 * k → IsCodeword k (cols i))
    → (i : ℕ) → i < 2 * k → IsCodeword k (rows i)
crossed k rows cols width lines upper codes =
    crossed_row (reading_of k) (reading_laws k) k rows cols lines upper codes (width_code k width) (code_width-pos k width)
