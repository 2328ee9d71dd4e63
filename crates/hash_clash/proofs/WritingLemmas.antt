-- A string that is written part by part, with zeros behind.
use Rattle.std.proofs.Common.{◌≡◌, ◌∙◌, ℕ, zero, suc, ◌+◌, ◌-◌, ◌≤◌, List, [], ◌∷◌, ◌++◌, length, take, drop, replicate, ap, ap₂, refl, arith, length-append}
use Rattle.std.specs.Prelude.{slice_index}
use Rattle.std.proofs.lemmas.List.{drop-replicate}
use Rattle.std.proofs.Math.Seq.{take-append_seam}
use Rattle.hash_clash.specs.Preimages.{longest, used_bytes, IsPreimage}
use Rattle.namespace_id.proofs.StringLemmas.{put_next}

-- what is written so far, and zeros behind it up to the size of the buffer
abbrev pub laid : ℕ → List ℕ → List ℕ
laid room before = before ++ replicate (room - length before) 0

-- what is left of the buffer behind a part that is put behind others
room_behind : (room : ℕ) (before part : List ℕ) → room - length before - length part ≡ room - length (before ++ part)
room_behind room before part = omega (arith, length-append before part)

-- one part more
pub laid_more : (room : ℕ) (before part old new : List ℕ) (at : ℕ) → old ≡ laid room before → at ≡ length before
    → new ≡ take at old ++ part ++ drop (at + length part) old → new ≡ laid room (before ++ part)
laid_more room before part old new at o a n =
    n ∙ ap₂ (λ (i : ℕ) (s : List ℕ). take i s ++ part ++ drop (i + length part) s) a o
    ∙ put_next before (replicate (room - length before) 0) part
    ∙ ap (λ (x : List ℕ). before ++ part ++ x) (drop-replicate (length part) (room - length before) 0)
    ∙ ap (λ (k : ℕ). before ++ part ++ replicate k 0) (room_behind room before part)

-- every byte of zeros is 0
zeros_at : (m i : ℕ) → slice_index (replicate m 0) i ≡ 0
zeros_at zero i = refl
zeros_at (suc m) zero = refl
zeros_at (suc m) (suc i) = zeros_at m i

-- so is every byte behind a string with zeros behind it
zeros_after : (text : List ℕ) (m i : ℕ) → length text ≤ i → slice_index (text ++ replicate m 0) i ≡ 0
zeros_after [] m i h = zeros_at m i
zeros_after (x ∷ text) m zero h = absurd (omega arith)
zeros_after (x ∷ text) m (suc i) h = zeros_after text m i (omega arith)

-- what is written is a string with zeros behind it
pub written : (text bytes : List ℕ) (len : ℕ) → len ≡ length text → length text ≤ longest → bytes ≡ laid longest text → IsPreimage len bytes
written text bytes len e h is = record {
  few = omega arith;
  zeros = λ i past. ap (λ (l : List ℕ). slice_index l i) is ∙ zeros_after text (longest - length text) i (omega arith);
}

-- and it is that string
pub used : (text bytes : List ℕ) (len : ℕ) → len ≡ length text → bytes ≡ laid longest text → used_bytes len bytes ≡ text
used text bytes len e is = ap₂ take e is ∙ take-append_seam text (replicate (longest - length text) 0)

-- the first part
pub one_part : (room : ℕ) (blank part new : List ℕ) → blank ≡ replicate room 0 → new ≡ take 0 blank ++ part ++ drop (0 + length part) blank → new ≡ laid room part
one_part room blank part new zeros e =
    let all : room ≡ room - 0 = omega arith in
    laid_more room [] part blank new 0 (zeros ∙ ap (λ (k : ℕ). replicate k 0) all) refl e

-- a byte and two strings behind it
pub three_parts : (room : ℕ) (blank : List ℕ) (prefix : ℕ) (left right s t u : List ℕ) → blank ≡ replicate room 0
    → s ≡ take 0 blank ++ (prefix ∷ []) ++ drop (0 + 1) blank
    → t ≡ take 1 s ++ left ++ drop (1 + length left) s
    → u ≡ take (1 + length left) t ++ right ++ drop (1 + length left + length right) t
    → u ≡ laid room (prefix ∷ left ++ right)
three_parts room blank prefix left right s t u zeros es et eu =
    let one : s ≡ laid room (prefix ∷ []) = one_part room blank (prefix ∷ []) s zeros es in
    let two : t ≡ laid room (prefix ∷ left) = laid_more room (prefix ∷ []) left s t 1 one refl et in
    laid_more room (prefix ∷ left) right t u (1 + length left) two (omega arith) eu
