-- Messages that are hashed side by side: written part by part, and one after another.
use Rattle.std.proofs.Common.{◌≡◌, ◌∙◌, ℕ, ◌+◌, ◌<◌, List, [], ◌∷◌, ◌++◌, length, take, drop, slice_index_or, slice_set, ap, arith, inl, inr, length-append}
use Rattle.std.proofs.lemmas.List.{get_or-set_same, get_or-set_other}
use Rattle.std.proofs.lemmas.Bool.{cases_lt}
use Rattle.std.proofs.Math.Seq.{take-append_seam}

-- a front of a list
front : (xs ys : List ℕ) (n : ℕ) → n ≡ length xs → take n (xs ++ ys) ≡ xs
front xs ys n e = ap (λ (k : ℕ). take k (xs ++ ys)) e ∙ take-append_seam xs ys

-- a byte and two parts behind it
pub byte_and_two : (f : ℕ) (m a b s t : List ℕ) (i n : ℕ) → 0 < length m → i ≡ 1 + length a → n ≡ i + length b
    → s ≡ take 1 (slice_set m 0 f) ++ a ++ drop (1 + length a) (slice_set m 0 f)
    → t ≡ take i s ++ b ++ drop (i + length b) s
    → take n t ≡ f ∷ a ++ b
byte_and_two f [] a b s t i n hm hi hn es et = absurd (omega arith)
byte_and_two f (x ∷ z) a b s t i n hm hi hn es et =
    let first : take i s ≡ f ∷ a = ap (take i) es ∙ front (f ∷ a) (drop (1 + length a) (f ∷ z)) i (omega arith) in
    let whole : t ≡ f ∷ a ++ b ++ drop (i + length b) s = et ∙ ap (λ (l : List ℕ). l ++ b ++ drop (i + length b) s) first in
    ap (take n) whole ∙ front (f ∷ a ++ b) (drop (i + length b) s) n (omega (arith, hi, hn, length-append (f ∷ a) b))

-- a byte and one part behind it
pub byte_and_one : (f : ℕ) (m a s : List ℕ) (n : ℕ) → 0 < length m → n ≡ 1 + length a
    → s ≡ take 1 (slice_set m 0 f) ++ a ++ drop (1 + length a) (slice_set m 0 f)
    → take n s ≡ f ∷ a
byte_and_one f [] a s n hm hn es = absurd (omega arith)
byte_and_one f (x ∷ z) a s n hm hn es = ap (take n) es ∙ front (f ∷ a) (drop (1 + length a) (f ∷ z)) n (omega arith)

-- one more message
pub message_more : (n : ℕ) (messages : List (List ℕ)) (wanted : ℕ → List ℕ) (i : ℕ) (message : List ℕ) → i < length messages
    → take n message ≡ wanted i
    → ((j : ℕ) → j < i → take n (slice_index_or messages j []) ≡ wanted j)
    → (j : ℕ) → j < i + 1 → take n (slice_index_or (slice_set messages i message) j []) ≡ wanted j
message_more n messages wanted i message fits new before j h = elim (cases_lt j i) [
  | inl a ↦ ap (take n) (get_or-set_other messages i j message [] (omega arith)) ∙ before j a
  | inr b ↦
      let e : i ≡ j = omega arith in
      rw (← e) (ap (take n) (get_or-set_same messages i message [] fits) ∙ new)
]
