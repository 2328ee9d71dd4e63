-- Lemmas on the first blob that is refused.
use Rattle.std.proofs.Common.{◌≡◌, ◌∙◌, ℕ, ◌+◌, ◌<◌, ◌≤◌, ◌==◌, Bool, false, if◌then◌else◌, List, length, drop, get_or, Option, Some, None, refl, sym, ap, add-one, drop-cons}
use Rattle.std.proofs.lemmas.List.{drop_all}
use Rattle.std.specs.Option.{option_map_or}
use Rattle.namespace_id.specs.declared.namespaces.NsError.{NsError}
use Rattle.share_split.specs.Blobs.{NamedBytes}
use Rattle.square_layout.specs.declared.laying.LayError.TheVariants.{BadBlob, EmptyBlob}
use Rattle.namespace_id.specs.Names.{namespace_refusal}
use Rattle.square_layout.specs.Refusals.{bad_blob, empty_blob}

-- the first of them is looked at
bad_blob-next : (i : ℕ) (blobs : List NamedBytes) (d : NamedBytes) → i < length blobs
    → bad_blob i (drop i blobs) ≡ option_map_or (λ (e : NsError). Some (BadBlob i e)) (namespace_refusal (get_or blobs i d).namespace.0) (bad_blob (i + 1) (drop (i + 1) blobs))
unfolding bad_blob
bad_blob-next i blobs d h = rw (add-one, drop-cons blobs i d) refl

-- the first blob is looked at for bytes, and then the others
empty_blob-next : (i : ℕ) (blobs : List NamedBytes) (d : NamedBytes) → i < length blobs
    → empty_blob i (drop i blobs) ≡ (if length (get_or blobs i d).bytes == 0 then Some (EmptyBlob i) else empty_blob (i + 1) (drop (i + 1) blobs))
unfolding empty_blob
empty_blob-next i blobs d h = rw (add-one, drop-cons blobs i d) refl

-- the one that is found
pub bad_blob-found : (i : ℕ) (blobs : List NamedBytes) (blob : NamedBytes) (e : NsError) → i < length blobs → get_or blobs i blob ≡ blob
    → namespace_refusal blob.namespace.0 ≡ Some e → bad_blob i (drop i blobs) ≡ bad_blob 0 blobs → Some (BadBlob i e) ≡ bad_blob 0 blobs
bad_blob-found i blobs blob e h is refused so_far =
    sym (ap (λ (o : Option NsError). option_map_or (λ (x : NsError). Some (BadBlob i x)) o (bad_blob (i + 1) (drop (i + 1) blobs)))
    (ap (λ (b : NamedBytes). namespace_refusal b.namespace.0) is ∙ refused))
    ∙ sym (bad_blob-next i blobs blob h) ∙ so_far

-- one that is passed
pub bad_blob-passed : (i : ℕ) (blobs : List NamedBytes) (blob : NamedBytes) → i < length blobs → get_or blobs i blob ≡ blob
    → namespace_refusal blob.namespace.0 ≡ None → bad_blob i (drop i blobs) ≡ bad_blob 0 blobs → bad_blob (i + 1) (drop (i + 1) blobs) ≡ bad_blob 0 blobs
bad_blob-passed i blobs blob h is passed so_far =
    sym (ap (λ (o : Option NsError). option_map_or (λ (x : NsError). Some (BadBlob i x)) o (bad_blob (i + 1) (drop (i + 1) blobs)))
    (ap (λ (b : NamedBytes). namespace_refusal b.namespace.0) is ∙ passed))
    ∙ sym (bad_blob-next i blobs blob h) ∙ so_far

-- the end
pub bad_blob-none : (i : ℕ) (blobs : List NamedBytes) → length blobs ≤ i → bad_blob i (drop i blobs) ≡ bad_blob 0 blobs → None ≡ bad_blob 0 blobs
unfolding bad_blob
bad_blob-none i blobs h so_far = sym (ap (λ (l : List NamedBytes). bad_blob i l) (drop_all i blobs h)) ∙ so_far

-- a blob that has no bytes is found
pub empty_blob-found : (i : ℕ) (blobs : List NamedBytes) (blob : NamedBytes) → i < length blobs → get_or blobs i blob ≡ blob
    → length blob.bytes ≡ 0 → empty_blob i (drop i blobs) ≡ empty_blob 0 blobs → Some (EmptyBlob i) ≡ empty_blob 0 blobs
empty_blob-found i blobs blob h is empty so_far =
    sym (ap (λ (n : ℕ). if n == 0 then Some (EmptyBlob i) else empty_blob (i + 1) (drop (i + 1) blobs)) (ap (λ (b : NamedBytes). length b.bytes) is ∙ empty))
    ∙ sym (empty_blob-next i blobs blob h) ∙ so_far

-- a blob that has bytes is passed
pub empty_blob-passed : (i : ℕ) (blobs : List NamedBytes) (blob : NamedBytes) → i < length blobs → get_or blobs i blob ≡ blob
    → (length blob.bytes == 0) ≡ false → empty_blob i (drop i blobs) ≡ empty_blob 0 blobs → empty_blob (i + 1) (drop (i + 1) blobs) ≡ empty_blob 0 blobs
empty_blob-passed i blobs blob h is some so_far =
    sym (ap (λ (b : Bool). if b then Some (EmptyBlob i) else empty_blob (i + 1) (drop (i + 1) blobs)) (ap (λ (b : NamedBytes). length b.bytes == 0) is ∙ some))
    ∙ sym (empty_blob-next i blobs blob h) ∙ so_far

-- at the end no blob is empty
pub empty_blob-none : (i : ℕ) (blobs : List NamedBytes) → length blobs ≤ i → empty_blob i (drop i blobs) ≡ empty_blob 0 blobs → None ≡ empty_blob 0 blobs
unfolding empty_blob
empty_blob-none i blobs h so_far = sym (ap (λ (l : List NamedBytes). empty_blob i l) (drop_all i blobs h)) ∙ so_far
