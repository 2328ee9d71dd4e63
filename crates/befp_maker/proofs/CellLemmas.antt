-- The cells of an axis: their positions, their shares, and the line through them.
use Rattle.std.proofs.Common.{◌≡◌, ◌≢◌, ◌∙◌, ℕ, ◌+◌, ◌<◌, List, [], ◌∷◌, length, get_or, set, map, below_more, refl, sym, ap, subst, arith}
use Rattle.std.proofs.lemmas.List.{get_or-map, get_or-set_same, get_or-set_other}
use Rattle.namespace_id.specs.declared.shares.Share.{Share}
use Rattle.leopard_code.specs.Codewords.{IsCodeword, HasEntries}
use Rattle.axis_roots.specs.declared.message.messages.Message.{Message}
use Rattle.axis_roots.specs.declared.message.proved.Proved.{Proved}
use Rattle.axis_roots.specs.Proved.{kept_message}
use Rattle.axis_roots.specs.Claims.{ClaimParts, positions_of, claim_shares, IsThrough}

-- one more value is written at its place
pub written_next : {A B : Type 0} (f : A → B) (xs : List A) (ys : List B) (i : ℕ) (x : A) (y d : B) → i < length xs → i < length ys → x ≡ get_or xs i x → y ≡ f x
    → ((j : ℕ) → j < i → get_or ys j d ≡ get_or (map f xs) j d) → (j : ℕ) → j < i + 1 → get_or (set ys i y) j d ≡ get_or (map f xs) j d
written_next f xs ys i x y d within room at is before =
    below_more _ _
    (λ j h. let apart : j ≢ i = λ (e : j ≡ i). absurd (omega arith) in get_or-set_other ys i j y d apart ∙ before j h)
    (get_or-set_same ys i y d room ∙ is ∙ ap f at ∙ sym (get_or-map f xs i x d within))

-- what is read of certificates is read of their samples
pub map-kept : {A : Type 0} (f : Message → A) (cells : List Proved) → map (λ c. f (kept_message c)) cells ≡ map f (map kept_message cells)
map-kept f [] = refl
map-kept f (c ∷ cells) = ap (λ (rest : List _). f (kept_message c) ∷ rest) (map-kept f cells)

-- a line that was rebuilt from the positions and the shares of a claim is through it
pub line_through : (k code : ℕ) (claim : ClaimParts) (known : List ℕ) (given word : List Share) → code ≡ k
    → known ≡ positions_of claim → given ≡ claim_shares claim → IsCodeword code word → HasEntries known given word → IsThrough k claim word
line_through k code claim known given word same places copies codeword entries = record {
  codeword = subst (λ (n : ℕ). IsCodeword n word) same codeword;
  entries = subst (λ (ps : List ℕ). HasEntries ps (claim_shares claim) word) places (subst (λ (ss : List Share). HasEntries known ss word) copies entries);
}
