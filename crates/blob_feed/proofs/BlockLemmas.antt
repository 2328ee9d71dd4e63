-- What the shares of a namespace in the square of a block are.
use Rattle.std.proofs.Common.{◌≡◌, ◌∙◌, ℕ, ◌+◌, ◌-◌, List, [], ◌∷◌, ◌++◌, append-nil, replicate, Bool, true, false, cond, true≢false, refl, sym, ap, ap₂, subst, inl, inr}
use Rattle.std.specs.List.{filter, AllByRecursion}
use Rattle.std.specs.Str.{bytes_eq}
use Rattle.std.proofs.lemmas.Bool.{cases_Bool}
use Rattle.std.proofs.lemmas.Slice.Eq.{bytes_eq-Decides}
use Rattle.std.proofs.lemmas.List.Elements.{filter-append}
use Rattle.namespace_id.specs.declared.namespaces.Namespace.{Namespace}
use Rattle.namespace_id.specs.declared.shares.Share.{Share}
use Rattle.namespace_id.specs.Names.{IsNamespace, named_by}
use Rattle.namespace_id.specs.Shares.{name_in}
use Rattle.share_split.specs.Blobs.{NamedBytes, blob_shares_of}
use Rattle.share_split.specs.Joined.{padding_share, IsBlob, AreBlobs}
use Rattle.square_layout.specs.Layout.{has_name, share_count_of, start_after, placed, placed_behind}
use Rattle.square_layout.specs.ShareNames.{AreNamed, BlobSharesAreNamed, PaddingIsNamed}
use Rattle.square_layout.proofs.ReadBackLemmas.{no_blobs, both_blobs, some_padding, one_blob}
use Rattle.square_serve.specs.Shares.{is_named}

-- ---- shares of one namespace

-- all of them, where it is the one that is asked for
all_named : (name : Namespace) (shares : List Share) → AreNamed name shares → filter (is_named name) shares ≡ shares
all_named name [] named = refl
all_named name (share ∷ shares) named =
    let here : is_named name share ≡ true = (bytes_eq-Decides (name_in share).0 name.0).1
    (ap (λ (n : Namespace). n.0) named.0) in
    ap (λ (b : Bool). cond b (share ∷ filter (is_named name) shares) (filter (is_named name) shares)) here
    ∙ ap (λ (l : List Share). share ∷ l) (all_named name shares named.1)

-- none of them, where it is another
pub none_named : (name other : Namespace) (shares : List Share) → (other ≡ name → ⊥) → AreNamed other shares
    → filter (is_named name) shares ≡ []
none_named name other [] apart named = refl
none_named name other (share ∷ shares) apart named = elim (cases_Bool (is_named name share)) [
  | inl same ↦ absurd (apart (sym named.0 ∙ ap named_by
      ((bytes_eq-Decides (name_in share).0 name.0).0 same)))
  | inr here ↦
      ap (λ (b : Bool). cond b (share ∷ filter (is_named name) shares) (filter (is_named name) shares)) here
      ∙ none_named name other shares apart named.1
]

-- ---- the layout

-- two namespaces are one, or not
same_or_not : (name other : Namespace) (b : Bool) → bytes_eq name.0 other.0 ≡ b
    → cond b (other ≡ name) (other ≡ name → ⊥)
same_or_not name other true e = ap named_by
    (sym ((bytes_eq-Decides name.0 other.0).0 e))
same_or_not name other false e = λ same. true≢false (sym ((bytes_eq-Decides name.0 other.0).1
    (ap (λ (n : Namespace). n.0) (sym same))) ∙ e)

-- of shares of one namespace that are blobs, those of the namespace that is asked for
part_of : (name other : Namespace) (shares : List Share) (blobs : List NamedBytes) (b : Bool)
    → bytes_eq name.0 other.0 ≡ b → AreNamed other shares → AreBlobs shares blobs
    → AreBlobs (filter (is_named name) shares) (cond b blobs [])
part_of name other shares blobs true e named are =
    let same : other ≡ name = same_or_not name other true e in
    subst (λ (s : List Share). AreBlobs s blobs) (sym (all_named name shares
    (subst (λ (n : Namespace). AreNamed n shares) same named))) are
part_of name other shares blobs false e named are =
    subst (λ (s : List Share). AreBlobs s []) (sym (none_named name other shares (same_or_not name other false e) named))
    no_blobs

-- three parts, one behind another
three_parts : (name : Namespace) (gap own rest : List Share) (xs ys : List NamedBytes)
    → AreBlobs (filter (is_named name) gap) [] → AreBlobs (filter (is_named name) own) xs
    → AreBlobs (filter (is_named name) rest) ys → AreBlobs (filter (is_named name) (gap ++ own ++ rest)) (xs ++ ys)
three_parts name gap own rest xs ys one two three =
    subst (λ (s : List Share). AreBlobs s (xs ++ ys))
    (sym (filter-append (is_named name) (gap ++ own) rest
    ∙ ap (λ (l : List Share). l ++ filter (is_named name) rest) (filter-append (is_named name) gap own)))
    (both_blobs (filter (is_named name) gap ++ filter (is_named name) own) (filter (is_named name) rest) xs ys
    (both_blobs (filter (is_named name) gap) (filter (is_named name) own) [] xs one two) three)

-- one blob in front, where it is asked for
in_front : (b : Bool) (one : NamedBytes) (blobs : List NamedBytes)
    → cond b (one ∷ []) [] ++ blobs ≡ cond b (one ∷ blobs) blobs
in_front true one blobs = refl
in_front false one blobs = refl

-- no blobs, asked for or not
no_choice : (b : Bool) (shares : List Share) → AreBlobs shares (cond b [] []) → AreBlobs shares []
no_choice true shares are = are
no_choice false shares are = are

-- the padding before a blob
gap_part : PaddingIsNamed → (name before : Namespace) (n : ℕ) → IsNamespace before
    → AreBlobs (filter (is_named name) (replicate n (padding_share before))) []
gap_part of_padding name before n named = no_choice (bytes_eq name.0 before.0)
    (filter (is_named name) (replicate n (padding_share before)))
    (part_of name before (replicate n (padding_share before)) [] (bytes_eq name.0 before.0) refl
    (of_padding n before named.size_is) (some_padding n before named))

-- a blob
own_part : BlobSharesAreNamed → (name : Namespace) (one : NamedBytes) → IsBlob one
    → AreBlobs (filter (is_named name) (blob_shares_of one.namespace one.signer one.bytes)) (cond (has_name name one) (one ∷ []) [])
own_part of_blobs name one is = part_of name one.namespace (blob_shares_of one.namespace one.signer one.bytes) (one ∷ [])
    (has_name name one) refl
    (of_blobs one.namespace one.signer one.bytes is.name.size_is) (one_blob one is)

-- the layout of no blobs
placed_none : (before : Namespace) (end : ℕ) → placed before end [] ≡ []
unfolding placed_behind
placed_none before end = refl

-- and of one more
placed_step : (before : Namespace) (end : ℕ) (one : NamedBytes) (blobs : List NamedBytes)
    → placed before end (one ∷ blobs) ≡ replicate (start_after end one - end) (padding_share before)
    ++ blob_shares_of one.namespace one.signer one.bytes
    ++ placed one.namespace (start_after end one + share_count_of one) blobs
unfolding placed_behind
placed_step before end one blobs = refl

-- the padding before a blob, the blob, and the rest of a layout
step_part : (name : Namespace) (one : NamedBytes) (kept : List NamedBytes) (all gap own rest : List Share)
    → all ≡ gap ++ own ++ rest → AreBlobs (filter (is_named name) gap) []
    → AreBlobs (filter (is_named name) own) (cond (has_name name one) (one ∷ []) [])
    → AreBlobs (filter (is_named name) rest) kept
    → AreBlobs (filter (is_named name) all) (cond (has_name name one) (one ∷ kept) kept)
step_part name one kept all gap own rest is first second third =
    subst (λ (s : List Share). AreBlobs (filter (is_named name) s) (cond (has_name name one) (one ∷ kept) kept)) (sym is)
    (subst (AreBlobs (filter (is_named name) (gap ++ own ++ rest))) (in_front (has_name name one) one kept)
    (three_parts name gap own rest (cond (has_name name one) (one ∷ []) []) kept first second third))

-- what has none of the namespace in front and behind
pub between : (name : Namespace) (one two own tail : List Share) → filter (is_named name) one ≡ []
    → filter (is_named name) two ≡ [] → filter (is_named name) tail ≡ []
    → filter (is_named name) (((one ++ two) ++ own) ++ tail) ≡ filter (is_named name) own
between name one two own tail none_one none_two none_tail =
    filter-append (is_named name) ((one ++ two) ++ own) tail
    ∙ ap₂ (λ (a b : List Share). a ++ b)
    (filter-append (is_named name) (one ++ two) own
    ∙ ap (λ (l : List Share). l ++ filter (is_named name) own) (filter-append (is_named name) one two
    ∙ ap₂ (λ (a b : List Share). a ++ b) none_one none_two)) none_tail
    ∙ append-nil (filter (is_named name) own)

-- the blobs of a layout
pub placed_part : BlobSharesAreNamed → PaddingIsNamed → (name before : Namespace) (end : ℕ)
    (blobs : List NamedBytes) → IsNamespace before → AllByRecursion IsBlob blobs
    → AreBlobs (filter (is_named name) (placed before end blobs)) (filter (has_name name) blobs)
placed_part of_blobs of_padding name before end [] named are =
    subst (λ (s : List Share). AreBlobs (filter (is_named name) s) []) (sym (placed_none before end)) no_blobs
placed_part of_blobs of_padding name before end (one ∷ blobs) named are =
    step_part name one (filter (has_name name) blobs) (placed before end (one ∷ blobs))
    (replicate (start_after end one - end) (padding_share before)) (blob_shares_of one.namespace one.signer one.bytes)
    (placed one.namespace (start_after end one + share_count_of one) blobs) (placed_step before end one blobs)
    (gap_part of_padding name before (start_after end one - end) named) (own_part of_blobs name one are.0)
    (placed_part of_blobs of_padding name one.namespace (start_after end one + share_count_of one) blobs are.0.name are.1)
