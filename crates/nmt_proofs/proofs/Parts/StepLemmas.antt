-- The three kinds of intervals, one at a time.
use Rattle.std.proofs.Common.{◌≡◌, ℕ, zero, suc, ◌+◌, ◌-◌, ◌*◌, ◌^◌, ◌<◌, ◌≤◌, List, [], ◌∷◌, ◌++◌, Bool, true, false, ◌==◌, cond, refl, sym, ap, ap₂, ◌∙◌, arith, length, take, drop, get_or, length-append}
use Rattle.std.proofs.lemmas.Bool.{eqb-true, not-true, not_from_false, true≢false}
use Rattle.std.proofs.lemmas.List.{take-map, drop-map}
use Rattle.std.proofs.Math.Nat.{pow-suc}
use Rattle.namespace_id.specs.declared.digests.Digest.{Digest}
use Rattle.nmt_proofs.specs.declared.joining.Piece.{Piece}
use Rattle.nmt_proofs.specs.Parts.{Part, given, join}
use Rattle.namespace_id.specs.Digests.{no_digest}
use Rattle.nmt_proofs.specs.Openings.{Shown, begun, is_interval, is_halved, outside, opened}
use Rattle.nmt_proofs.specs.Pieces.{shown_pieces, shown_of}
use Rattle.nmt_proofs.proofs.Parts.SingleLemmas.{outside_empty, opened_empty}

-- how many of the shown parts begin before the middle of an interval
abbrev pub in_left : ℕ → ℕ → List Shown → ℕ
in_left d s ss = begun (s + 2 ^ d) ss

-- an interval that holds no piece is outside
pub outside_none : (d s : ℕ) (ps : List Piece) → length ps ≡ 0 → outside d s (shown_pieces ps) ≡ (s, d) ∷ []
outside_none d s [] h = outside_empty d s
outside_none d s (p ∷ ps) h = absurd (omega arith)

-- and it is given by the first node
pub opened_none : (d s : ℕ) (ps : List Piece) (ns : List Digest) → length ps ≡ 0 → opened d s (shown_pieces ps) ns ≡ given (get_or ns 0 no_digest)
opened_none d s [] ns h = opened_empty d s ns
opened_none d s (p ∷ ps) ns h = absurd (omega arith)

-- an interval that is a piece leaves nothing outside
pub outside_shown : (d s : ℕ) (ps : List Piece) (o : Piece) → 0 < length ps → is_interval d (shown_of (get_or ps 0 o)) ≡ true → outside d s (shown_pieces ps) ≡ []
unfolding outside
outside_shown d s [] o h e = absurd (omega arith)
outside_shown zero s (p ∷ ps) o h e = refl
outside_shown (suc d) s (p ∷ ps) o h e =
    let xs : List Shown = shown_pieces (p ∷ ps) in
    ap (λ b. cond b [] (outside d s (take (in_left d s xs) xs) ++ outside d (s + 2 ^ d) (drop (in_left d s xs) xs))) e

-- and it is given by the piece's digest
pub opened_shown : (d s : ℕ) (ps : List Piece) (ns : List Digest) (o : Piece) → 0 < length ps → is_interval d (shown_of (get_or ps 0 o)) ≡ true
    → opened d s (shown_pieces ps) ns ≡ given (get_or ps 0 o).digest
unfolding opened
opened_shown d s [] ns o h e = absurd (omega arith)
opened_shown zero s (p ∷ ps) ns o h e = refl
opened_shown (suc d) s (p ∷ ps) ns o h e =
    let xs : List Shown = shown_pieces (p ∷ ps) in
    let k : ℕ = in_left d s xs in
    let j : ℕ = length (outside d s (take k xs)) in
    ap (λ b. cond b (given p.digest) (join (opened d s (take k xs) (take j ns)) (opened d (s + 2 ^ d) (drop k xs) (drop j ns)))) e

-- an interval that holds pieces and isn't one is halved
pub halved : (d : ℕ) (ps : List Piece) (o : Piece) (b c : Bool) → b ≡ (length ps == 0) → b ≡ false → c ≡ is_interval d (shown_of (get_or ps 0 o)) → c ≡ false
    → is_halved d (shown_pieces ps) ≡ true
halved d [] o b c eb hb ec hc = absurd (true≢false (sym eb ∙ hb))
halved d (p ∷ ps) o b c eb hb ec hc = not_from_false _ (sym ec ∙ hc)

-- so it has several places
pub deep : (d : ℕ) (xs : List Shown) → is_halved d xs ≡ true → 0 < d
unfolding is_interval
deep d [] h = absurd (cc)
deep zero (x ∷ xs) h = absurd (cc)
deep (suc d) (x ∷ xs) h = omega arith

-- the intervals outside of one that is halved, by the halves of the pieces
pub outside_halves : (d s : ℕ) (ps l r : List Piece) (k m : ℕ) → is_halved d (shown_pieces ps) ≡ true
    → m ≡ 2 ^ (d - 1) → k ≡ begun (s + m) (shown_pieces ps) → l ≡ take k ps → r ≡ drop k ps
    → outside d s (shown_pieces ps) ≡ outside (d - 1) s (shown_pieces l) ++ outside (d - 1) (s + m) (shown_pieces r)
unfolding outside is_interval
outside_halves d s [] l r k m h em ek el er = absurd (cc)
outside_halves zero s (p ∷ ps) l r k m h em ek el er = absurd (cc)
outside_halves (suc d) s (p ∷ ps) l r k m h em ek el er =
    let low : suc d - 1 ≡ d = omega arith in
    let xs : List Shown = shown_pieces (p ∷ ps) in
    ap (λ b. cond b [] (outside d s (take (in_left d s xs) xs) ++ outside d (s + 2 ^ d) (drop (in_left d s xs) xs))) (not-true _ h)
    ∙ ap (λ x. outside d s (take (begun (s + x) xs) xs) ++ outside d (s + x) (drop (begun (s + x) xs) xs)) (ap (λ x. 2 ^ x) (sym low) ∙ sym em)
    ∙ ap₂ (λ x y. outside d s x ++ outside d (s + m) y)
    (ap (λ j. take j xs) (sym ek) ∙ take-map shown_of k (p ∷ ps) ∙ ap shown_pieces (sym el))
    (ap (λ j. drop j xs) (sym ek) ∙ drop-map shown_of k (p ∷ ps) ∙ ap shown_pieces (sym er))
    ∙ ap (λ x. outside x s (shown_pieces l) ++ outside x (s + m) (shown_pieces r)) (sym low)

-- and what is opened in it, by the halves of the pieces and of the nodes
pub opened_halves : (d s : ℕ) (ps l r : List Piece) (k m : ℕ) → is_halved d (shown_pieces ps) ≡ true
    → m ≡ 2 ^ (d - 1) → k ≡ begun (s + m) (shown_pieces ps) → l ≡ take k ps → r ≡ drop k ps
    → (ns ln rn : List Digest) (j : ℕ) → j ≡ length (outside (d - 1) s (shown_pieces l)) → ln ≡ take j ns → rn ≡ drop j ns
    → opened d s (shown_pieces ps) ns ≡ join (opened (d - 1) s (shown_pieces l) ln) (opened (d - 1) (s + m) (shown_pieces r) rn)
unfolding opened is_interval
opened_halves d s [] l r k m h em ek el er ns ln rn j ej eln ern = absurd (cc)
opened_halves zero s (p ∷ ps) l r k m h em ek el er ns ln rn j ej eln ern = absurd (cc)
opened_halves (suc d) s (p ∷ ps) l r k m h em ek el er ns ln rn j ej eln ern =
    let low : suc d - 1 ≡ d = omega arith in
    let xs : List Shown = shown_pieces (p ∷ ps) in
    let Joined : ℕ → List Shown → List Shown → Part = λ mid x y.
    let i : ℕ = length (outside d s x) in
    join (opened d s x (take i ns)) (opened d mid y (drop i ns)) in
    ap (λ b. cond b (given p.digest) (Joined (s + 2 ^ d) (take (in_left d s xs) xs) (drop (in_left d s xs) xs))) (not-true _ h)
    ∙ ap (λ x. Joined (s + x) (take (begun (s + x) xs) xs) (drop (begun (s + x) xs) xs)) (ap (λ x. 2 ^ x) (sym low) ∙ sym em)
    ∙ ap₂ (λ x y. Joined (s + m) x y)
    (ap (λ i. take i xs) (sym ek) ∙ take-map shown_of k (p ∷ ps) ∙ ap shown_pieces (sym el))
    (ap (λ i. drop i xs) (sym ek) ∙ drop-map shown_of k (p ∷ ps) ∙ ap shown_pieces (sym er))
    ∙ ap (λ x. join (opened x s (shown_pieces l) (take (length (outside x s (shown_pieces l))) ns)) (opened x (s + m) (shown_pieces r) (drop (length (outside x s (shown_pieces l))) ns))) (sym low)
    ∙ ap (λ i. join (opened (suc d - 1) s (shown_pieces l) (take i ns)) (opened (suc d - 1) (s + m) (shown_pieces r) (drop i ns))) (sym ej)
    ∙ ap₂ (λ x y. join (opened (suc d - 1) s (shown_pieces l) x) (opened (suc d - 1) (s + m) (shown_pieces r) y)) (sym eln) (sym ern)

-- an interval of one place in which something is shown is that
pub shown_zero : (d : ℕ) (s : Shown) → d ≡ 0 → true ≡ is_interval d s
unfolding is_interval
shown_zero zero s h = refl
shown_zero (suc d) s h = absurd (omega arith)

-- one of several is what is shown if it has that size
pub shown_size : (d : ℕ) (s : Shown) → (d ≡ 0 → ⊥) → (s.size == 2 ^ d) ≡ is_interval d s
unfolding is_interval
shown_size zero s h = absurd (h refl)
shown_size (suc d) s h = refl

-- as many nodes are left for the right half as it has intervals outside
pub right_count : (n k b : ℕ) (whole left right : List (ℕ × ℕ)) → whole ≡ left ++ right → n ≡ length whole → k ≡ length left → b + k ≡ n → b ≡ length right
right_count n k b whole left right e en ek eb = omega (arith, en ∙ ap length e ∙ length-append left right, ek, eb)

-- there are as many nodes as the left half takes
pub left_count : (n k : ℕ) (whole left right : List (ℕ × ℕ)) → whole ≡ left ++ right → n ≡ length whole → k ≡ length left → k ≤ n
left_count n k whole left right e en ek = omega (arith, en ∙ ap length e ∙ length-append left right, ek)

-- twice the half of an interval is the interval
pub twice_half : (d : ℕ) → 0 < d → 2 ^ (d - 1) + 2 ^ (d - 1) ≡ 2 ^ d
twice_half d h =
    let e : d ≡ suc (d - 1) = omega arith in
    let twice : 2 ^ suc (d - 1) ≡ 2 ^ (d - 1) * 2 = pow-suc 2 (d - 1) in
    omega (arith, twice, ap (λ x. 2 ^ x) e)

-- where the test for an empty list holds, the list is empty
pub is_none : (n : ℕ) (b : Bool) → b ≡ (n == 0) → b ≡ true → n ≡ 0
is_none n b e h = eqb-true n 0 (sym e ∙ h)

-- where it fails, the list isn't empty
pub is_some : (n : ℕ) (b : Bool) → b ≡ (n == 0) → b ≡ false → 0 < n
is_some zero b e h = absurd (true≢false (sym e ∙ h))
is_some (suc n) b e h = omega arith
