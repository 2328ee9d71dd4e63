-- The level above a level.
use Rattle.std.proofs.Common.{◌≡◌, ◌∙◌, ℕ, zero, suc, ◌+◌, ◌*◌, ◌^◌, ◌<◌, ◌≤◌, List, [], ◌∷◌, ◌++◌, length, take, drop, get_or, set, refl, sym, ap, ap₂, arith, drop-drop}
use Rattle.std.proofs.lemmas.List.{take_more, take_more_set, length-take-le, take_all, append_assoc, get_or-drop, drop-set-lt}
use Rattle.std.proofs.Math.Nat.{pow-suc}
use Rattle.namespace_id.specs.declared.digests.Digest.{Digest}
use Rattle.namespace_id.specs.Digests.{no_digest}
use Rattle.nmt_tree.specs.Digests.{node_digest}
use Rattle.nmt_tree.specs.Levels.{pairs, span}

-- two more neighbors are joined to one more node
pairs-append : (i : ℕ) (xs : List Digest) (a b : Digest) → length xs ≡ 2 * i → pairs (xs ++ a ∷ b ∷ []) ≡ pairs xs ++ node_digest a b ∷ []
unfolding pairs
pairs-append i [] a b e = refl
pairs-append i (x ∷ []) a b e = absurd (omega arith)
pairs-append zero (x ∷ y ∷ xs) a b e = absurd (omega arith)
pairs-append (suc i) (x ∷ y ∷ xs) a b e = ap (λ (l : List Digest). node_digest x y ∷ l) (pairs-append i xs a b (omega arith))

-- two more of a list
two_more : (xs : List Digest) (i : ℕ) (o : Digest) → 2 * i + 1 < length xs → take (2 * (i + 1)) xs ≡ take (2 * i) xs ++ get_or xs (2 * i) o ∷ get_or xs (2 * i + 1) o ∷ []
two_more xs i o h =
    let k : 2 * (i + 1) ≡ 2 * i + 1 + 1 = omega arith in
    ap (λ (n : ℕ). take n xs) k
    ∙ take_more xs (2 * i + 1) o h
    ∙ ap (λ (l : List Digest). l ++ get_or xs (2 * i + 1) o ∷ []) (take_more xs (2 * i) o (omega arith))
    ∙ append_assoc (take (2 * i) xs) (get_or xs (2 * i) o ∷ []) (get_or xs (2 * i + 1) o ∷ [])

-- one more node of the level above
pub pairs_more : (level above : List Digest) (i : ℕ) (o d : Digest) → 2 * i + 1 < length level → i < length above
    → d ≡ node_digest (get_or level (2 * i) o) (get_or level (2 * i + 1) o) → take i above ≡ pairs (take (2 * i) level)
    → take (i + 1) (set above i d) ≡ pairs (take (2 * (i + 1)) level)
pairs_more level above i o d h ha ed so_far =
    take_more_set above i d ha
    ∙ ap₂ (λ (l : List Digest) (x : Digest). l ++ x ∷ []) so_far ed
    ∙ sym (ap pairs (two_more level i o h)
    ∙ pairs-append i (take (2 * i) level) (get_or level (2 * i) o) (get_or level (2 * i + 1) o) (length-take-le (2 * i) level (omega arith)))

-- an element that is left as it was
pub kept_at : (now old : List Digest) (k : ℕ) (j : ℕ) (o : Digest) → drop k now ≡ drop k old → get_or now (k + j) o ≡ get_or old (k + j) o
kept_at now old k j o h = sym (get_or-drop k now j o) ∙ ap (λ (l : List Digest). get_or l j o) h ∙ get_or-drop k old j o

-- one more node written over the front of its level
pub pairs_more_in_place : (old now : List Digest) (i : ℕ) (o d : Digest) → length now ≡ length old → 2 * i + 1 < length old
    → d ≡ node_digest (get_or now (2 * i) o) (get_or now (2 * i + 1) o)
    → take i now ≡ pairs (take (2 * i) old) → drop (2 * i) now ≡ drop (2 * i) old
    → take (i + 1) (set now i d) ≡ pairs (take (2 * (i + 1)) old)
pairs_more_in_place old now i o d len h ed done left =
    let first : get_or now (2 * i) o ≡ get_or old (2 * i) o =
    let e : 2 * i + 0 ≡ 2 * i = omega arith in
    sym (ap (λ (k : ℕ). get_or now k o) e) ∙ kept_at now old (2 * i) 0 o left ∙ ap (λ (k : ℕ). get_or old k o) e in
    pairs_more old now i o d h (omega arith) (ed ∙ ap₂ node_digest first (kept_at now old (2 * i) 1 o left)) done

-- what is behind it is left as it was
pub left_in_place : (old now : List Digest) (i : ℕ) (d : Digest) → drop (2 * i) now ≡ drop (2 * i) old → drop (2 * (i + 1)) (set now i d) ≡ drop (2 * (i + 1)) old
left_in_place old now i d left =
    let e : 2 * (i + 1) ≡ 2 * i + 2 = omega arith in
    drop-set-lt (2 * (i + 1)) now i d (omega arith)
    ∙ ap (λ (k : ℕ). drop k now) e ∙ sym (drop-drop 2 (2 * i) now) ∙ ap (drop 2) left ∙ drop-drop 2 (2 * i) old ∙ sym (ap (λ (k : ℕ). drop k old) e)

-- what has no neighbor is joined with nothing
pub pairs-take : (m : ℕ) (xs : List Digest) → length xs ≤ 2 * m + 1 → pairs (take (2 * m) xs) ≡ pairs xs
unfolding pairs
pairs-take m [] h = ap pairs (take_all (2 * m) [] (omega arith))
pairs-take zero (x ∷ []) h = refl
pairs-take (suc m) (x ∷ []) h = ap pairs (take_all (2 * suc m) (x ∷ []) (omega arith))
pairs-take zero (x ∷ y ∷ xs) h = absurd (omega arith)
pairs-take (suc m) (x ∷ y ∷ xs) h =
    let e : 2 * suc m ≡ suc (suc (2 * m)) = omega arith in
    ap (λ (k : ℕ). pairs (take k (x ∷ y ∷ xs))) e ∙ ap (λ (l : List Digest). node_digest x y ∷ l) (pairs-take m xs (omega arith))

-- the level above has half as many digests
pub length-pairs : (m : ℕ) (ds : List Digest) → length ds ≡ 2 * m → length (pairs ds) ≡ m
unfolding pairs
length-pairs zero [] h = refl
length-pairs (suc m) [] h = absurd (omega arith)
length-pairs m (a ∷ []) h = absurd (omega arith)
length-pairs zero (a ∷ b ∷ ds) h = absurd (omega arith)
length-pairs (suc m) (a ∷ b ∷ ds) h = ap (λ (k : ℕ). suc k) (length-pairs m ds (omega arith))

-- a node of the level above
pub get_or-pairs : (t : ℕ) (ds : List Digest) (o : Digest) → 2 * t + 1 < length ds → get_or (pairs ds) t o ≡ node_digest (get_or ds (2 * t) o) (get_or ds (2 * t + 1) o)
unfolding pairs
get_or-pairs t [] o h = absurd (omega arith)
get_or-pairs t (a ∷ []) o h = absurd (omega arith)
get_or-pairs zero (a ∷ b ∷ ds) o h = refl
get_or-pairs (suc t) (a ∷ b ∷ ds) o h =
    let x : 2 * suc t ≡ suc (suc (2 * t)) = omega arith in
    let y : 2 * suc t + 1 ≡ suc (suc (2 * t + 1)) = omega arith in
    get_or-pairs t ds o (omega arith)
    ∙ sym (ap₂ (λ (i j : ℕ). node_digest (get_or (a ∷ b ∷ ds) i o) (get_or (a ∷ b ∷ ds) j o)) x y)

-- the digest over leaves, from the level above them
pub span-pairs : (e t : ℕ) (ds : List Digest) → 2 * t + 2 ^ suc e ≤ length ds → span (pairs ds) t e ≡ span ds (2 * t) (suc e)
unfolding span
span-pairs zero t ds h = get_or-pairs t ds no_digest (omega arith)
span-pairs (suc e) t ds h =
    let p : 2 ^ suc (suc e) ≡ 2 ^ suc e * 2 = pow-suc 2 (suc e) in
    let q : 2 ^ suc e ≡ 2 ^ e * 2 = pow-suc 2 e in
    let m : 2 * (t + 2 ^ e) ≡ 2 * t + 2 ^ suc e = omega (arith, q) in
    ap₂ node_digest
    (span-pairs e t ds (omega (arith, p, h)))
    (span-pairs e (t + 2 ^ e) ds (omega (arith, p, q, h)) ∙ ap (λ (k : ℕ). span ds k (suc e)) m)

-- a node is over these digests where its halves are
pub node_over : (halves nodes : List Digest) (i : ℕ) (l r : Digest) → nodes ≡ pairs halves → 2 * i + 1 < length halves
    → l ≡ get_or halves (2 * i) no_digest → r ≡ get_or halves (2 * i + 1) no_digest → get_or nodes i no_digest ≡ node_digest l r
node_over halves nodes i l r made within el er =
    ap (λ (ds : List Digest). get_or ds i no_digest) made ∙ get_or-pairs i halves no_digest within ∙ sym (ap₂ node_digest el er)
