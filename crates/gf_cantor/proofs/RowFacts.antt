-- The rows of the tables hold products, by computing.
use Rattle.std.proofs.Common.{◌≡◌, ℕ, ◌^◌, ◌<◌, true, refl, ◌==◌, [], get_or}
use Rattle.std.proofs.lemmas.Bool.{agree_below, agree_below_at, eqb-true}
use Rattle.gf_cantor.specs.declared.word_rows.TheConstants.{ROWS}
use Rattle.gf_cantor.specs.Field.{combine, element, label, times_x, times_low, times, product, word_field}
use Rattle.gf_cantor.specs.Tables.{factor, table_entry}

-- each row has the entries of a power of 2
rows_test : agree_below (λ j. agree_below (λ i. get_or (get_or ROWS j []) i 0 == table_entry i (2 ^ j)) (λ x. true) 128) (λ x. true) 16 ≡ true
unfolding combine element label times_x times_low times product word_field factor table_entry
rows_test = refl

-- an entry of a row
pub row-entry : (j i : ℕ) → j < 16 → i < 128 → get_or (get_or ROWS j []) i 0 ≡ table_entry i (2 ^ j)
row-entry j i hj hi =
    eqb-true _ _ (agree_below_at (λ i. get_or (get_or ROWS j []) i 0 == table_entry i (2 ^ j)) (λ x. true) 128 i
    (agree_below_at (λ j. agree_below (λ i. get_or (get_or ROWS j []) i 0 == table_entry i (2 ^ j)) (λ x. true) 128) (λ x. true) 16 j rows_test hj) hi)
