-- Lemmas on loops over borrowed blobs, and on ends that are told up to 2^64 - 1.
use Rattle.std.proofs.Common.{◌≡◌, ◌∙◌, ℕ, suc, ◌+◌, ◌<◌, ◌≤◌, min, List, [], ◌∷◌, length, drop, get_or, map, sym, ap, ap₂, subst, arith, inl, inr, add-one, drop-cons, Bor}
use Rattle.std.proofs.lemmas.Bool.{cases_lt}
use Rattle.std.proofs.lemmas.List.{drop-map, drop_all, length-map}
use Rattle.share_split.specs.Blobs.{NamedBytes}
use Rattle.square_layout.specs.Blocks.{HaveBytes}
use Rattle.square_layout.specs.Layout.{share_count_of, start_after, end_of}
use Rattle.square_layout.specs.Refusals.{most_named}
use Rattle.square_layout.proofs.PlaceLemmas.{end_of-ge, end_of-next}

-- the blobs that are borrowed
abbrev pub lent : List (Bor NamedBytes) → List NamedBytes
lent blobs = map (λ b. b.now) blobs

-- what is left of the blobs begins with the next one
pub drop-lent : (blobs : List (Bor NamedBytes)) (i : ℕ) (b : Bor NamedBytes) → i < length blobs → b ≡ get_or blobs i b
    → drop i (lent blobs) ≡ b.now ∷ drop (i + 1) (lent blobs)
drop-lent blobs i b h is =
    drop-map (λ (x : Bor NamedBytes). x.now) i blobs
    ∙ ap lent (drop-cons blobs i b h)
    ∙ ap₂ (λ (x : Bor NamedBytes) (l : List NamedBytes). x.now ∷ l) (sym is) (sym (drop-map (λ (x : Bor NamedBytes). x.now) (suc i) blobs))
    ∙ ap (λ (n : ℕ). b.now ∷ drop n (lent blobs)) (sym (add-one i))

-- nothing is left
pub drop-lent_all : (blobs : List (Bor NamedBytes)) (i : ℕ) → length blobs ≤ i → drop i (lent blobs) ≡ []
drop-lent_all blobs i h = drop_all i (lent blobs) (omega (arith, h, length-map blobs (λ (x : Bor NamedBytes). x.now)))

-- the first of some blobs that have bytes has some, and the others have
pub have_bytes-next : (blobs others : List NamedBytes) (b : NamedBytes) → blobs ≡ b ∷ others → HaveBytes blobs → (1 ≤ length b.bytes) × HaveBytes others
have_bytes-next blobs others b e h = let both : HaveBytes (b ∷ others) = subst HaveBytes e h in both

-- an end that is told, from one that is told
pub told_end : (end : ℕ) (blobs : List NamedBytes) → min (end_of (min end most_named) blobs) most_named ≡ min (end_of end blobs) most_named
told_end end blobs = elim (cases_lt most_named end) [
  | inl above ↦
      let low : min end most_named ≡ most_named = omega (arith, above) in
      let left = end_of-ge most_named blobs in
      let right = end_of-ge end blobs in
      ap (λ (n : ℕ). min (end_of n blobs) most_named) low ∙ omega (arith, left, right, above)
  | inr within ↦
      let same : min end most_named ≡ end = omega (arith, within) in ap (λ (n : ℕ). min (end_of n blobs) most_named) same
]

-- one blob more is counted
pub counted_on : (end new whole : ℕ) (blob : NamedBytes) (blobs others : List NamedBytes) → blobs ≡ blob ∷ others
    → new ≡ min (start_after end blob + share_count_of blob) most_named
    → min (end_of end blobs) most_named ≡ whole → min (end_of new others) most_named ≡ whole
counted_on end new whole blob blobs others left is so_far =
    ap (λ (n : ℕ). min (end_of n others) most_named) is
    ∙ told_end (start_after end blob + share_count_of blob) others
    ∙ sym (ap (λ (n : ℕ). min n most_named) (ap (end_of end) left ∙ end_of-next end blob others))
    ∙ so_far

-- all blobs are counted
pub counted_all : (end whole : ℕ) (blobs : List NamedBytes) → blobs ≡ [] → end ≤ most_named → min (end_of end blobs) most_named ≡ whole → end ≡ whole
unfolding end_of
counted_all end whole blobs none fits so_far =
    let here : min (end_of end []) most_named ≡ end = omega (arith, fits) in
    sym here ∙ sym (ap (λ (l : List NamedBytes). min (end_of end l) most_named) none) ∙ so_far
