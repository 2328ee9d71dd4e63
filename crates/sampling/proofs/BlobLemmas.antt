-- Blobs that are made one after another.
use Rattle.std.proofs.Common.{◌≡◌, ◌∙◌, ℕ, suc, ◌+◌, ◌-◌, ◌<◌, ◌≤◌, List, [], ◌∷◌, ◌++◌, refl, sym, ap, subst, append_assoc, arith}
use Rattle.std.proofs.lemmas.List.{append-nil}
use Rattle.rand_chacha.specs.ChaCha.{ChaCha}
use Rattle.share_split.specs.Blobs.{NamedBytes}
use Rattle.sampling.specs.Words.{words_at}
use Rattle.sampling.specs.Generated.{made_blob, after_blob, blobs_at}

-- the blobs so far, and so many that are made where the generator stands, are all
abbrev pub BlobsLeft : ℕ → List ℕ → ChaCha → List NamedBytes → ℕ → List NamedBytes → Type 0
BlobsLeft k key words blobs left all =
    (here : ℕ) × (words ≡ words_at key here) × (blobs ++ blobs_at k key here left ≡ all)

-- no blobs are left
blobs-none : (k : ℕ) (key : List ℕ) (place count : ℕ) → count ≡ 0 → blobs_at k key place count ≡ []
unfolding blobs_at
blobs-none k key place count none = subst (λ (n : ℕ). blobs_at k key place n ≡ []) (sym none) refl

-- the next blob and the others
blobs-next : (k : ℕ) (key : List ℕ) (place count : ℕ)
    → blobs_at k key place (suc count) ≡ made_blob k key place ∷ blobs_at k key (after_blob k key place) count
unfolding blobs_at
blobs-next k key place count = refl

-- a blob more
pub blobs_step : (k : ℕ) (key : List ℕ) (words new : ChaCha) (blobs after all : List NamedBytes) (blob : NamedBytes) (i count : ℕ) → i < count
    → ((place : ℕ) → words ≡ words_at key place → blob ≡ made_blob k key place)
    → ((place : ℕ) → words ≡ words_at key place → new ≡ words_at key (after_blob k key place))
    → after ≡ blobs ++ blob ∷ []
    → BlobsLeft k key words blobs (count - i) all → BlobsLeft k key new after (count - (i + 1)) all
blobs_step k key words new blobs after all blob i count h is_blob is_new is_after (here, at, so_far) =
    let more : suc (count - (i + 1)) ≡ count - i = omega arith in
    let rest : List NamedBytes = blobs_at k key (after_blob k key here) (count - (i + 1)) in (
      after_blob k key here,
      is_new here at,
      ap (λ (l : List NamedBytes). l ++ rest) (is_after ∙ ap (λ (b : NamedBytes). blobs ++ b ∷ []) (is_blob here at))
          ∙ append_assoc blobs (made_blob k key here ∷ []) rest
          ∙ sym (ap (λ (l : List NamedBytes). blobs ++ l) (blobs-next k key here (count - (i + 1))))
          ∙ ap (λ (n : ℕ). blobs ++ blobs_at k key here n) more ∙ so_far,
    )

-- at the end there are all
pub blobs_end : (k : ℕ) (key : List ℕ) (words : ChaCha) (blobs all : List NamedBytes) (i count : ℕ) → count ≤ i
    → BlobsLeft k key words blobs (count - i) all → blobs ≡ all
blobs_end k key words blobs all i count h (here, at, so_far) =
    sym (append-nil blobs) ∙ sym (ap (λ (l : List NamedBytes). blobs ++ l) (blobs-none k key here (count - i) (omega arith))) ∙ so_far
