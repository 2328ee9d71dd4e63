-- Intervals that hold nothing shown, and those that hold one place.
use Rattle.std.proofs.Common.{◌≡◌, ◌∙◌, ℕ, zero, suc, ◌+◌, ◌^◌, List, [], ◌∷◌, ◌++◌, length, take, drop, get_or, Bool, true, false, cond, ltb, refl, ap, ap₂, arith, length-append, inl, inr}
use Rattle.std.proofs.lemmas.Bool.{cases_Bool, ne_eqb}
use Rattle.std.proofs.lemmas.Nat.{pow_pos}
use Rattle.std.proofs.Math.Nat.{pow-suc}
use Rattle.namespace_id.specs.declared.digests.Digest.{Digest}
use Rattle.nmt_proofs.specs.Parts.{Part, given, join}
use Rattle.namespace_id.specs.Digests.{no_digest}
use Rattle.nmt_proofs.specs.Openings.{Shown, begun, is_interval, outside, opened}

-- a single place that shows a part
abbrev pub one_place : ℕ → Part → List Shown
one_place pos p = record { from = pos; size = 1; part = p } ∷ []

-- a single place is no interval of two or more
pub single : (d : ℕ) (s : Shown) → s.size ≡ 1 → is_interval (suc d) s ≡ false
unfolding is_interval
single d s h = ne_eqb s.size (2 ^ suc d) (λ e. omega (arith, pow-suc 2 d, h, e, pow_pos d))

-- where nothing is shown, the whole interval is outside
pub outside_empty : (d st : ℕ) → outside d st [] ≡ (st, d) ∷ []
unfolding outside
outside_empty zero st = refl
outside_empty (suc d) st = refl

-- and it is given by the first node
pub opened_empty : (d st : ℕ) (ns : List Digest) → opened d st [] ns ≡ given (get_or ns 0 no_digest)
unfolding opened
opened_empty zero st ns = refl
opened_empty (suc d) st ns = refl

-- the intervals outside of a place in the left half: those of that half, and the right half
pub outside_left : (d st pos : ℕ) (p : Part) → ltb pos (st + 2 ^ d) ≡ true → outside (suc d) st (one_place pos p) ≡ outside d st (one_place pos p) ++ (st + 2 ^ d, d) ∷ []
unfolding outside begun
outside_left d st pos p t =
    ap₂ (λ (b c : Bool). cond b [] (outside d st (take (cond c 1 0) (one_place pos p)) ++ outside d (st + 2 ^ d) (drop (cond c 1 0) (one_place pos p))))
    (single d (record { from = pos; size = 1; part = p }) refl) t
    ∙ ap (λ x. outside d st (one_place pos p) ++ x) (outside_empty d (st + 2 ^ d))

-- and of one in the right half: the left half, and those of the right one
pub outside_right : (d st pos : ℕ) (p : Part) → ltb pos (st + 2 ^ d) ≡ false → outside (suc d) st (one_place pos p) ≡ (st, d) ∷ outside d (st + 2 ^ d) (one_place pos p)
unfolding outside begun
outside_right d st pos p f =
    ap₂ (λ (b c : Bool). cond b [] (outside d st (take (cond c 1 0) (one_place pos p)) ++ outside d (st + 2 ^ d) (drop (cond c 1 0) (one_place pos p))))
    (single d (record { from = pos; size = 1; part = p }) refl) f
    ∙ ap (λ x. x ++ outside d (st + 2 ^ d) (one_place pos p)) (outside_empty d st)

-- a place leaves out as many intervals as it has halvings
pub length-outside-one : (d st pos : ℕ) (p : Part) → length (outside d st (one_place pos p)) ≡ d
unfolding outside
length-outside-one zero st pos p = refl
length-outside-one (suc d) st pos p = elim (cases_Bool (ltb pos (st + 2 ^ d))) [
  | inl t ↦
      ap length (outside_left d st pos p t)
      ∙ length-append (outside d st (one_place pos p)) ((st + 2 ^ d, d) ∷ [])
      ∙ after d (length (outside d st (one_place pos p))) (length-outside-one d st pos p)
  | inr f ↦ ap length (outside_right d st pos p f) ∙ ap suc (length-outside-one d (st + 2 ^ d) pos p)
]
  where
    after : (n m : ℕ) → m ≡ n → m + 1 ≡ suc n
    after n m e = omega arith

-- what is opened at a place in the left half: the last node stands for the right half
pub opened_left : (d st pos : ℕ) (p : Part) (ns : List Digest) → ltb pos (st + 2 ^ d) ≡ true
    → opened (suc d) st (one_place pos p) ns ≡ join (opened d st (one_place pos p) (take d ns)) (given (get_or (drop d ns) 0 no_digest))
unfolding opened begun
opened_left d st pos p ns t =
    let Joined : Bool → Part = λ c.
    let xs : List Shown = take (cond c 1 0) (one_place pos p) in
    let j : ℕ = length (outside d st xs) in
    join (opened d st xs (take j ns)) (opened d (st + 2 ^ d) (drop (cond c 1 0) (one_place pos p)) (drop j ns)) in
    ap₂ (λ (b c : Bool). cond b p (Joined c)) (single d (record { from = pos; size = 1; part = p }) refl) t
    ∙ ap (λ (j : ℕ). join (opened d st (one_place pos p) (take j ns)) (opened d (st + 2 ^ d) [] (drop j ns))) (length-outside-one d st pos p)
    ∙ ap (join (opened d st (one_place pos p) (take d ns))) (opened_empty d (st + 2 ^ d) (drop d ns))

-- and at one in the right half: the first node stands for the left half
pub opened_right : (d st pos : ℕ) (p : Part) (ns : List Digest) → ltb pos (st + 2 ^ d) ≡ false
    → opened (suc d) st (one_place pos p) ns ≡ join (given (get_or (take 1 ns) 0 no_digest)) (opened d (st + 2 ^ d) (one_place pos p) (drop 1 ns))
unfolding opened begun
opened_right d st pos p ns f =
    let Joined : Bool → Part = λ c.
    let xs : List Shown = take (cond c 1 0) (one_place pos p) in
    let j : ℕ = length (outside d st xs) in
    join (opened d st xs (take j ns)) (opened d (st + 2 ^ d) (drop (cond c 1 0) (one_place pos p)) (drop j ns)) in
    ap₂ (λ (b c : Bool). cond b p (Joined c)) (single d (record { from = pos; size = 1; part = p }) refl) f
    ∙ ap (λ (j : ℕ). join (opened d st [] (take j ns)) (opened d (st + 2 ^ d) (one_place pos p) (drop j ns))) (ap length (outside_empty d st))
    ∙ ap (λ (x : Part). join x (opened d (st + 2 ^ d) (one_place pos p) (drop 1 ns))) (opened_empty d st (take 1 ns))
