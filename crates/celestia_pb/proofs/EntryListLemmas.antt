-- Where values of one size lie: each so many bytes behind the one before.
use Rattle.std.proofs.Common.{◌≡◌, ◌∙◌, ℕ, zero, suc, ◌+◌, ◌*◌, ◌<◌, ◌≤◌, List, [], ◌∷◌, ◌++◌, length, drop, refl, sym, ap, ap₂, arith}
use Rattle.std.proofs.lemmas.List.{drop-drop, length-drop}
use Rattle.std.proofs.lemmas.Nat.{mul-le}
use Rattle.celestia_pb.specs.EntryLists.{entries}

-- one more is one size more
pub size_more : (size count : ℕ) → size * count + size ≡ size * (count + 1)
size_more size count = search arith

size_first : (size count : ℕ) → size + size * count ≡ size * suc count
size_first size count = search arith

-- behind one more
pub drop_more : (size count : ℕ) (bytes : List ℕ) → drop size (drop (size * count) bytes) ≡ drop (size * (count + 1)) bytes
drop_more size count bytes = drop-drop size (size * count) bytes ∙ ap (λ (k : ℕ). drop k bytes) (size_more size count)

drop_first : (size count : ℕ) (bytes : List ℕ) → drop (size * count) (drop size bytes) ≡ drop (size * suc count) bytes
drop_first size count bytes = drop-drop (size * count) size bytes ∙ ap (λ (k : ℕ). drop k bytes) (size_first size count)

-- one more lies in bytes of all of them, behind those before it
pub one_left : (size i count : ℕ) (bytes rest : List ℕ) → i < count → rest ≡ drop (size * i) bytes → size * count ≤ length bytes → size ≤ length rest
one_left size i count bytes rest more at all =
    let next : size * i + size ≡ size * (i + 1) = size_more size i in
    let most : size * (i + 1) ≤ size * count = mul-le size (i + 1) size count (omega arith) (omega arith) in
    omega (arith, next, most, all, ap length at, length-drop (size * i) bytes)

module _ {A : Type 0} (value : List ℕ → A) (size : ℕ) where
  -- none
  pub entries-none : (bytes : List ℕ) → entries value size zero bytes ≡ []
  unfolding entries
  entries-none bytes = refl

  -- the first one, and then the others
  pub entries-next : (count : ℕ) (bytes : List ℕ) → entries value size (suc count) bytes ≡ value bytes ∷ entries value size count (drop size bytes)
  unfolding entries
  entries-next count bytes = refl

  -- so many
  pub length-entries : (count : ℕ) (bytes : List ℕ) → length (entries value size count bytes) ≡ count
  length-entries zero bytes = ap length (entries-none bytes)
  length-entries (suc count) bytes = ap length (entries-next count bytes) ∙ ap suc (length-entries count (drop size bytes))

  -- one more at the end
  pub entries-more : (count : ℕ) (bytes : List ℕ) → entries value size (count + 1) bytes ≡ entries value size count bytes ++ value (drop (size * count) bytes) ∷ []
  entries-more zero bytes =
      let none : size * 0 ≡ 0 = search arith in
      entries-next zero bytes
      ∙ ap (λ (l : List A). value bytes ∷ l) (entries-none (drop size bytes))
      ∙ ap (λ (k : ℕ). value (drop k bytes) ∷ []) (sym none)
      ∙ ap (λ (l : List A). l ++ value (drop (size * 0) bytes) ∷ []) (sym (entries-none bytes))
  entries-more (suc count) bytes =
      let next : suc count + 1 ≡ suc (count + 1) = omega arith in
      ap (λ (k : ℕ). entries value size k bytes) next
      ∙ entries-next (count + 1) bytes
      ∙ ap (λ (l : List A). value bytes ∷ l) (entries-more count (drop size bytes))
      ∙ ap (λ (l : List ℕ). value bytes ∷ (entries value size count (drop size bytes) ++ value l ∷ [])) (drop_first size count bytes)
      ∙ ap (λ (l : List A). l ++ value (drop (size * suc count) bytes) ∷ []) (sym (entries-next count bytes))

  -- one more was put behind so many
  pub entries_taken : (count : ℕ) (bytes rest : List ℕ) (before now : List A) (x : A) → before ≡ entries value size count bytes → rest ≡ drop (size * count) bytes
      → x ≡ value rest → now ≡ before ++ x ∷ [] → now ≡ entries value size (count + 1) bytes
  entries_taken count bytes rest before now x taken left is put =
      put ∙ ap₂ (λ (l : List A) (y : A). l ++ y ∷ []) taken (is ∙ ap value left) ∙ sym (entries-more count bytes)
