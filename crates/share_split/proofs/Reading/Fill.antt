-- Content that is filled with zeros, and what is read of it.
use Rattle.std.proofs.Common.{◌≡◌, ◌∙◌, ℕ, zero, suc, ◌+◌, ◌-◌, ◌≤◌, true, List, [], ◌∷◌, ◌++◌, length, take, drop, replicate, inl, inr, sym, ap, ap₂, refl, arith, eqb, eqb-true, take_all, length-take, append-nil, take-append-drop}
use Rattle.std.proofs.lemmas.List.{length-drop, take_at, drop_at, drop_all, nil_from_length}
use Rattle.std.proofs.lemmas.Bool.{cases_lt, and_parts}
use Rattle.namespace_id.specs.Names.{is_zeros}
use Rattle.share_split.specs.Blobs.{filled}
use Rattle.share_split.proofs.Writing.Share.{filled_is}

-- zeros are zeros
pub zeros_are : (n : ℕ) → is_zeros (replicate n 0) ≡ true
zeros_are zero = refl
zeros_are (suc n) = zeros_are n

-- bytes that are zeros are so many zeros
pub zeros_only : (bytes : List ℕ) → is_zeros bytes ≡ true → bytes ≡ replicate (length bytes) 0
zeros_only [] e = refl
zeros_only (b ∷ bytes) e =
    let both = and_parts (eqb b 0) (is_zeros bytes) e in
    ap₂ (λ (x : ℕ) (l : List ℕ). x ∷ l) (eqb-true b 0 both.0) (zeros_only bytes both.1)

-- a front isn't longer than it was cut
short : (n : ℕ) (text : List ℕ) → length (take n text) ≤ n
short n text = omega (arith, length-take n text)

-- a front that is filled has its zeros behind it
filled_front_is : (n : ℕ) (text : List ℕ) → filled n (take n text) ≡ take n text ++ replicate (n - length (take n text)) 0
filled_front_is n text = filled_is n (take n text) (short n text)

-- the content that is read is the text that was filled, and only zeros stand behind it
pub take-filled : (n m : ℕ) (text : List ℕ) → length text ≡ m → take m (filled n (take n text)) ≡ take n text
take-filled n m text len =
    elim (cases_lt m n) [
      | inl lt ↦
          let all : take n text ≡ text = take_all n text (omega arith) in
          ap (take m) (filled_front_is n text) ∙ take_at (take n text) (replicate (n - length (take n text)) 0) m (ap length all ∙ len)
      | inr le ↦
          let none : n - length (take n text) ≡ 0 = omega (arith, length-take n text) in
          ap (take m) (filled_front_is n text ∙ ap (λ (k : ℕ). take n text ++ replicate k 0) none ∙ append-nil (take n text))
          ∙ take_all m (take n text) (omega (arith, short n text))
    ]

-- only zeros stand behind the text
pub drop-filled : (n m : ℕ) (text : List ℕ) → length text ≡ m → drop m (filled n (take n text)) ≡ replicate (n - m) 0
drop-filled n m text len =
    elim (cases_lt m n) [
      | inl lt ↦
          let all : take n text ≡ text = take_all n text (omega arith) in
          let front : length (take n text) ≡ m = ap length all ∙ len in
          ap (drop m) (filled_front_is n text) ∙ drop_at (take n text) (replicate (n - length (take n text)) 0) m front
          ∙ ap (λ (k : ℕ). replicate (n - k) 0) front
      | inr le ↦
          let few : length (filled n (take n text)) ≤ m = omega (arith, length-take n (take n text ++ replicate n 0)) in
          let none : 0 ≡ n - m = omega arith in
          drop_all m (filled n (take n text)) few ∙ ap (λ (k : ℕ). replicate k 0) none
    ]

-- so the test for zeros holds
pub is_zeros-filled : (n m : ℕ) (text : List ℕ) → length text ≡ m → is_zeros (drop m (filled n (take n text))) ≡ true
is_zeros-filled n m text len = ap is_zeros (drop-filled n m text len) ∙ zeros_are (n - m)

-- content with zeros behind the text is the text, filled, whatever follows of it
pub filled_back : (n m : ℕ) (content further : List ℕ) → length content ≡ n → is_zeros (drop m content) ≡ true → length (take m content) + length further ≡ m
    → content ≡ filled n (take n (take m content ++ further))
filled_back n m content further len zeros all =
    elim (cases_lt m n) [
      | inl lt ↦
          let front : length (take m content) ≡ m = omega (arith, length-take m content) in
          let none : further ≡ [] = nil_from_length further (omega arith) in
          let text : take n (take m content ++ further) ≡ take m content =
          ap (λ (l : List ℕ). take n (take m content ++ l)) none ∙ ap (take n) (append-nil (take m content)) ∙ take_all n (take m content) (omega arith) in
          let behind : drop m content ≡ replicate (n - length (take m content)) 0 =
          zeros_only (drop m content) zeros ∙ ap (λ (k : ℕ). replicate k 0) (omega (arith, length-drop m content)) in
          sym (take-append-drop m content)
          ∙ ap (λ (l : List ℕ). take m content ++ l) behind
          ∙ sym (filled_is n (take m content) (omega arith))
          ∙ sym (ap (filled n) text)
      | inr le ↦
          let whole : take m content ≡ content = take_all m content (omega arith) in
          let text : take n (take m content ++ further) ≡ content = ap (λ (l : List ℕ). take n (l ++ further)) whole ∙ take_at content further n len in
          sym (take_at content (replicate n 0) n len) ∙ sym (ap (filled n) text)
    ]
