-- The first two strings that differ, by the lists of all strings.
use Rattle.std.proofs.Common.{◌≡◌, ◌∙◌, ℕ, zero, suc, ◌+◌, ◌*◌, ◌^◌, ◌<◌, ◌≤◌, List, [], ◌∷◌, ◌++◌, Bool, true, false, cond, ◌&&◌, ◌==◌, Option, Some, None, refl, sym, ap, ap₂, arith, inl, inr}
use Rattle.std.specs.Option.{option_or, option_map_or}
use Rattle.std.specs.List.{AllByRecursion}
use Rattle.std.specs.Str.{bytes_eq}
use Rattle.std.proofs.lemmas.Bool.{cases_Bool, and_parts, and_from, eqb-true, eq-eqb}
use Rattle.std.proofs.lemmas.Nat.{pow_pos}
use Rattle.std.proofs.Math.Nat.{pow-suc}
use Rattle.nmt_proofs.specs.Parts.{Part, given, leaf, join, digest_of}
use Rattle.nmt_proofs.specs.Clashes.{HasDepth, leaf_text, join_text, apart_or, clash_at}
use Rattle.nmt_proofs.specs.Hashed.{Text, hashed, is_one_interval, text_for, first_apart}
use Rattle.nmt_proofs.proofs.Parts.ListLemmas.{each-append, each-then}

-- what comes after two strings may come in two parts
apart_seq : (a b : List ℕ) (o p : Option (List ℕ × List ℕ)) → apart_or a b (option_or o p) ≡ option_or (apart_or a b o) p
apart_seq a b o p = elim (cases_Bool (bytes_eq a b)) [
  | inl t ↦ ap (λ (c : Bool). cond c (option_or o p) (Some (a, b))) t ∙ sym (ap (λ (c : Bool). option_or (cond c o (Some (a, b))) p) t)
  | inr f ↦ ap (λ (c : Bool). cond c (option_or o p) (Some (a, b))) f ∙ sym (ap (λ (c : Bool). option_or (cond c o (Some (a, b))) p) f)
]

-- and so may what comes after a string and its counterpart
map_seq : (s : Text) (x : Option (List ℕ)) (o p : Option (List ℕ × List ℕ))
    → option_map_or (λ text. apart_or s.text text (option_or o p)) x (option_or o p) ≡ option_or (option_map_or (λ text. apart_or s.text text o) x o) p
map_seq s None o p = refl
map_seq s (Some b) o p = apart_seq s.text b o p

-- the first that differ in two lists together are those of the first list, else those of the second
apart_append : (xs ys qs : List Text) → first_apart (xs ++ ys) qs ≡ option_or (first_apart xs qs) (first_apart ys qs)
unfolding first_apart
apart_append [] ys qs = refl
apart_append (s ∷ xs) ys qs =
    ap (λ (o : Option (List ℕ × List ℕ)). option_map_or (λ text. apart_or s.text text o) (text_for s qs) o) (apart_append xs ys qs)
    ∙ map_seq s (text_for s qs) (first_apart xs qs) (first_apart ys qs)

-- other strings beside may be exchanged for others that give each string the same counterpart
apart_same : (xs qs rs : List Text) → AllByRecursion (λ (s : Text). text_for s qs ≡ text_for s rs) xs → first_apart xs qs ≡ first_apart xs rs
unfolding first_apart
apart_same [] qs rs h = refl
apart_same (s ∷ xs) qs rs h =
    ap₂ (λ (x : Option (List ℕ)) (o : Option (List ℕ × List ℕ)). option_map_or (λ text. apart_or s.text text o) x o) h.0 (apart_same xs qs rs h.1)

-- nothing differs from no strings
apart_none : (xs : List Text) → first_apart xs [] ≡ None
unfolding first_apart text_for
apart_none [] = refl
apart_none (s ∷ xs) = apart_none xs

-- the intervals of a part lie within it
abbrev IsWithin : ℕ → ℕ → ℕ → Text → Type 0
IsWithin low high depth s = (low ≤ s.start) × (s.start < high) × (s.depth ≤ depth)

-- each string of a part is hashed for an interval within it
within : (d st : ℕ) (p : Part) → AllByRecursion (IsWithin st (st + 2 ^ d) d) (hashed d st p)
unfolding hashed
within zero st (given x) = tt
within zero st (leaf n s) = ((omega arith, omega arith, omega arith), tt)
within zero st (join l r) = tt
within (suc d) st (given x) = tt
within (suc d) st (leaf n s) = tt
within (suc d) st (join l r) =
    let twice : 2 ^ suc d ≡ 2 ^ d * 2 = pow-suc 2 d in (
      (omega arith, omega (arith, twice, pow_pos d), omega arith),
      each-append (IsWithin st (st + 2 ^ suc d) (suc d)) (hashed d st l) (hashed d (st + 2 ^ d) r)
          (each-then (IsWithin st (st + 2 ^ d) d) (IsWithin st (st + 2 ^ suc d) (suc d)) (λ s w. (w.0, omega (arith, w.1, twice), omega (arith, w.2))) (hashed d st l) (within d st l))
          (each-then (IsWithin (st + 2 ^ d) (st + 2 ^ d + 2 ^ d) d) (IsWithin st (st + 2 ^ suc d) (suc d))
          (λ s w. (omega (arith, w.0), omega (arith, w.1, twice), omega (arith, w.2))) (hashed d (st + 2 ^ d) r) (within d (st + 2 ^ d) r)),
    )

-- two strings of different intervals
abbrev IsElsewhere : Text → Text → Type 0
IsElsewhere s t = s.start ≡ t.start → s.depth ≡ t.depth → ⊥

-- two strings of different intervals are not of one
elsewhere : (s t : Text) → IsElsewhere s t → is_one_interval s t ≡ false
unfolding is_one_interval
elsewhere s t n = elim (cases_Bool ((s.start == t.start) && (s.depth == t.depth))) [
  | inl e ↦ let both = and_parts (s.start == t.start) (s.depth == t.depth) e in absurd (n (eqb-true _ _ both.0) (eqb-true _ _ both.1))
  | inr f ↦ f
]

-- a string of another interval is passed over
text_skip : (s t : Text) (ts : List Text) → IsElsewhere s t → text_for s (t ∷ ts) ≡ text_for s ts
unfolding text_for
text_skip s t ts n = ap (λ (c : Bool). cond c (Some t.text) (text_for s ts)) (elsewhere s t n)

-- where all are of other intervals, there is none
text_none : (s : Text) (ts : List Text) → AllByRecursion (IsElsewhere s) ts → text_for s ts ≡ None
unfolding text_for
text_none s [] h = refl
text_none s (t ∷ ts) h = ap (λ (c : Bool). cond c (Some t.text) (text_for s ts)) (elsewhere s t h.0) ∙ text_none s ts h.1

-- where there is none behind, it is the one in front
text_front : (s : Text) (front back : List Text) → text_for s back ≡ None → text_for s (front ++ back) ≡ text_for s front
unfolding text_for
text_front s [] back h = h
text_front s (t ∷ front) back h = ap (λ (o : Option (List ℕ)). cond (is_one_interval s t) (Some t.text) o) (text_front s front back h)

-- where there is none in front, it is the one behind
text_back : (s : Text) (front back : List Text) → AllByRecursion (IsElsewhere s) front → text_for s (front ++ back) ≡ text_for s back
unfolding text_for
text_back s [] back h = refl
text_back s (t ∷ front) back h = ap (λ (c : Bool). cond c (Some t.text) (text_for s (front ++ back))) (elsewhere s t h.0) ∙ text_back s front back h.1

-- the first two strings that differ are found by going down both parts
pub first_apart-clash_at : (d st : ℕ) (p q : Part) → HasDepth d p → HasDepth d q → first_apart (hashed d st p) (hashed d st q) ≡ clash_at p q
unfolding hashed first_apart text_for clash_at is_one_interval
first_apart-clash_at zero st (given x) q dp dq = refl
first_apart-clash_at (suc d) st (given x) q dp dq = refl
first_apart-clash_at zero st (leaf n s) (given y) dp dq = refl
first_apart-clash_at zero st (leaf n s) (leaf m t) dp dq =
    let here : ((st == st) && (zero == zero)) ≡ true = and_from _ _ (eq-eqb st st refl) refl in
    ap (λ (c : Bool). option_map_or (λ text. apart_or (leaf_text n s) text None) (cond c (Some (leaf_text m t)) None) None) here
first_apart-clash_at zero st (leaf n s) (join u v) dp dq = elim dq [ ]
first_apart-clash_at (suc d) st (leaf n s) q dp dq = elim dp [ ]
first_apart-clash_at zero st (join l r) q dp dq = elim dp [ ]
first_apart-clash_at (suc d) st (join l r) (given y) dp dq = apart_none (hashed d st l ++ hashed d (st + 2 ^ d) r)
first_apart-clash_at (suc d) st (join l r) (leaf m t) dp dq = elim dq [ ]
first_apart-clash_at (suc d) st (join l r) (join u v) dp dq =
    let m : ℕ = st + 2 ^ d in
    let a : List ℕ = join_text (digest_of l) (digest_of r) in
    let b : List ℕ = join_text (digest_of u) (digest_of v) in
    let top : Text = record { start = st; depth = suc d; text = b } in
    let ls : List Text = hashed d st l in
    let rs : List Text = hashed d m r in
    let us : List Text = hashed d st u in
    let vs : List Text = hashed d m v in
    let here : ((st == st) && (suc d == suc d)) ≡ true = and_from _ _ (eq-eqb st st refl) (eq-eqb (suc d) (suc d) refl) in
    let left : first_apart ls (top ∷ us ++ vs) ≡ clash_at l u =
    apart_same ls (top ∷ us ++ vs) us
    (each-then (IsWithin st m d) (λ (s : Text). text_for s (top ∷ us ++ vs) ≡ text_for s us)
    (λ s w. text_skip s top (us ++ vs) (λ x y. omega (arith, w.2, y))
    ∙ text_front s us vs (text_none s vs (each-then (IsWithin m (m + 2 ^ d) d) (IsElsewhere s) (λ t z x y. omega (arith, w.1, z.0, x)) vs (within d m v))))
    ls (within d st l))
    ∙ first_apart-clash_at d st l u dp.0 dq.0 in
    let right : first_apart rs (top ∷ us ++ vs) ≡ clash_at r v =
    apart_same rs (top ∷ us ++ vs) vs
    (each-then (IsWithin m (m + 2 ^ d) d) (λ (s : Text). text_for s (top ∷ us ++ vs) ≡ text_for s vs)
    (λ s w. text_skip s top (us ++ vs) (λ x y. omega (arith, w.2, y))
    ∙ text_back s us vs (each-then (IsWithin st m d) (IsElsewhere s) (λ t z x y. omega (arith, w.0, z.1, x)) us (within d st u)))
    rs (within d m r))
    ∙ first_apart-clash_at d m r v dp.1 dq.1 in
    let rest : first_apart (ls ++ rs) (top ∷ us ++ vs) ≡ option_or (clash_at l u) (clash_at r v) =
    apart_append ls rs (top ∷ us ++ vs) ∙ ap₂ option_or left right in
    ap (λ (c : Bool). option_map_or (λ text. apart_or a text (first_apart (ls ++ rs) (top ∷ us ++ vs))) (cond c (Some b) (text_for (record { start = st; depth = suc d; text = a }) (us ++ vs))) (first_apart (ls ++ rs) (top ∷ us ++ vs))) here
    ∙ ap (apart_or a b) rest
