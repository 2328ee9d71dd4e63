-- What is known of the blobs of a block where no check of them fails.
use Rattle.std.proofs.Common.{◌≡◌, ◌∙◌, ℕ, zero, suc, ◌≤◌, ◌==◌, Bool, true, false, not, ◌&&◌, if◌then◌else◌, List, [], ◌∷◌, length, slice_index, slice_range, Option, Some, None, refl, sym, ap, subst, arith, ⊎_elim}
use Rattle.std.specs.List.{AllByRecursion}
use Rattle.std.specs.Option.{option_or}
use Rattle.std.proofs.lemmas.Bool.{true≢false}
use Rattle.std.proofs.lemmas.Bool.Decides.{nat_tests}
use Rattle.namespace_id.specs.declared.namespaces.NsError.TheVariants.{Length, Version, Prefix, Reserved}
use Rattle.namespace_id.specs.Names.{is_at_most, is_zeros, is_reserved, is_blob_namespace, primary_reserved_padding, tail_padding, namespace_refusal}
use Rattle.namespace_id.proofs.OrderLemmas.{at_most_total}
use Rattle.namespace_id.proofs.RefusalLemmas.{both_none}
use Rattle.share_split.specs.Blobs.{NamedBytes}
use Rattle.square_layout.specs.declared.laying.LayError.{LayError}
use Rattle.square_layout.specs.declared.laying.LayError.TheVariants.{BadBlob, EmptyBlob}
use Rattle.square_layout.specs.Blocks.{BlockParts, HaveBytes}
use Rattle.square_layout.specs.Layout.{in_order, needed}
use Rattle.square_layout.specs.Refusals.{bad_blob, empty_blob, blobs_refusal, size_refusal, layout_refusal}
use Rattle.square_layout.proofs.NameLemmas.{IsBetween}
use Rattle.square_layout.proofs.BlobOrderLemmas.{All-in_order}

-- ---- the namespace of a blob

-- the first of four tests that fails is told, and none where all hold
none_fails : (a b c d : Bool) →
    (if not a then Some Length else (if not b then Some Version else (if not c then Some Prefix else (if d then Some Reserved else None)))) ≡ None
    → (a ≡ true) × (b ≡ true) × (c ≡ true) × (d ≡ false)
none_fails false b c d h = absurd cc
none_fails true false c d h = absurd cc
none_fails true true false d h = absurd cc
none_fails true true true true h = absurd cc
none_fails true true true false h = (refl, refl, refl, refl)

-- a namespace that is not refused passes each test
accepted_parts : (bytes : List ℕ) → namespace_refusal bytes ≡ None
    → ((length bytes == 29) ≡ true) × ((slice_index bytes 0 == 0) ≡ true) × (is_zeros (slice_range bytes 1 19) ≡ true) × (is_reserved bytes ≡ false)
accepted_parts bytes h = none_fails (length bytes == 29) (slice_index bytes 0 == 0) (is_zeros (slice_range bytes 1 19)) (is_reserved bytes) h

-- four tests that hold together hold one by one
all_hold : (a b c d : Bool) → (a && b && c && not d) ≡ true
    → (if not a then Some Length else (if not b then Some Version else (if not c then Some Prefix else (if d then Some Reserved else None)))) ≡ None
all_hold false b c d h = absurd cc
all_hold true false c d h = absurd cc
all_hold true true false d h = absurd cc
all_hold true true true true h = absurd cc
all_hold true true true false h = refl

-- four tests that hold one by one hold together
hold_all : (a b c d : Bool) → a ≡ true → b ≡ true → c ≡ true → d ≡ false → (a && b && c && not d) ≡ true
hold_all a b c d ea eb ec ed = rw (ea, eb, ec, ed) refl

-- the checks are those of a blob's namespace
pub accepted_is : (bytes : List ℕ) → is_blob_namespace bytes ≡ true → namespace_refusal bytes ≡ None
accepted_is bytes h = all_hold (length bytes == 29) (slice_index bytes 0 == 0) (is_zeros (slice_range bytes 1 19)) (is_reserved bytes) h

-- bytes that are not refused are the namespace of a blob
pub is_accepted : (bytes : List ℕ) → namespace_refusal bytes ≡ None → is_blob_namespace bytes ≡ true
is_accepted bytes h =
    let p = accepted_parts bytes h in hold_all (length bytes == 29) (slice_index bytes 0 == 0) (is_zeros (slice_range bytes 1 19)) (is_reserved bytes) p.0 p.1 p.2 p.3

-- it is below that of the padding behind everything
below_tail : (bytes : List ℕ) → length bytes ≡ 29 → slice_index bytes 0 ≡ 0 → is_at_most (record { 0 = bytes }) tail_padding ≡ true
below_tail [] n h = absurd (omega (arith, n))
below_tail (byte ∷ bytes) n h = subst (λ (b : ℕ). is_at_most (record { 0 = b ∷ bytes }) tail_padding ≡ true) (sym h) refl

-- a blob that is not refused lies between the reserved namespaces
pub accepted_between : (blob : NamedBytes) → namespace_refusal blob.namespace.0 ≡ None → IsBetween blob
accepted_between blob h =
    let p = accepted_parts blob.namespace.0 h in
    let size : length blob.namespace.0 ≡ 29 = grind (arith, nat_tests, p.0) in
    let version : slice_index blob.namespace.0 0 ≡ 0 = grind (arith, nat_tests, p.1) in
    record {
      size = size;
      low = ⊎_elim (λ (x : is_at_most primary_reserved_padding blob.namespace ≡ true). x)
          (λ (x : is_at_most blob.namespace primary_reserved_padding ≡ true). absurd (true≢false (sym x ∙ p.3)))
          (at_most_total primary_reserved_padding blob.namespace);
      high = below_tail blob.namespace.0 size version;
    }

-- ---- all blobs

-- no namespace is refused
pub no_bad_blob : (i : ℕ) (blobs : List NamedBytes) → bad_blob i blobs ≡ None → AllByRecursion IsBetween blobs
unfolding bad_blob
no_bad_blob i [] h = tt
no_bad_blob i (blob ∷ blobs) h =
    let both = both_none (BadBlob i) (namespace_refusal blob.namespace.0) (bad_blob (suc i) blobs) h in
    (accepted_between blob both.0, no_bad_blob (suc i) blobs both.1)

-- each is the namespace of a blob
blobs_named : (i : ℕ) (blobs : List NamedBytes) → bad_blob i blobs ≡ None
    → AllByRecursion (λ blob. is_blob_namespace blob.namespace.0 ≡ true) blobs
unfolding bad_blob
blobs_named i [] h = tt
blobs_named i (blob ∷ blobs) h =
    let both = both_none (BadBlob i) (namespace_refusal blob.namespace.0) (bad_blob (suc i) blobs) h in
    (is_accepted blob.namespace.0 both.0, blobs_named (suc i) blobs both.1)

-- no blob is empty where the first is not, and none behind it
empty_parts : (n i : ℕ) (rest : Option LayError) → (if n == 0 then Some (EmptyBlob i) else rest) ≡ None → (1 ≤ n) × (rest ≡ None)
empty_parts zero i rest h = absurd cc
empty_parts (suc n) i rest h =
    let some : (suc n == 0) ≡ false = grind (arith, nat_tests) in
    (omega arith, sym (ap (λ (b : Bool). if b then Some (EmptyBlob i) else rest) some) ∙ h)

-- no blob is empty
pub no_empty_blob : (i : ℕ) (blobs : List NamedBytes) → empty_blob i blobs ≡ None → HaveBytes blobs
unfolding empty_blob
no_empty_blob i [] h = tt
no_empty_blob i (blob ∷ blobs) h =
    let both = empty_parts (length blob.bytes) i (empty_blob (suc i) blobs) h in
    (both.0, no_empty_blob (suc i) blobs both.1)

-- blobs under namespaces of blobs lie between the reserved ones
pub blobs_between : (blobs : List NamedBytes) → AllByRecursion (λ blob. is_blob_namespace blob.namespace.0 ≡ true) blobs → AllByRecursion IsBetween blobs
blobs_between [] h = tt
blobs_between (blob ∷ blobs) h = (accepted_between blob (accepted_is blob.namespace.0 h.0), blobs_between blobs h.1)

-- ---- the blobs of a block, as calls see them

-- neither of two refusals is there where their first is none
pub no_refusal : {E : Type 0} (a b : Option E) → None ≡ option_or a b → (a ≡ None) × (b ≡ None)
no_refusal None b h = (refl, sym h)
no_refusal (Some e) b h = absurd cc

-- blobs that are not refused have bytes, in order too
pub ordered_have_bytes : (here there order : List NamedBytes) → None ≡ blobs_refusal here → here ≡ there → order ≡ in_order there → HaveBytes order
ordered_have_bytes here there order none same is =
    let both = no_refusal (bad_blob 0 here) (empty_blob 0 here) none in
    subst HaveBytes (sym is) (All-in_order (λ (b : NamedBytes). 1 ≤ length b.bytes) there (subst HaveBytes same (no_empty_blob 0 here both.1)))

-- blobs that are not refused lie between the reserved namespaces
pub all_between : (here there : List NamedBytes) → None ≡ blobs_refusal here → here ≡ there → AllByRecursion IsBetween there
all_between here there none same =
    let both = no_refusal (bad_blob 0 here) (empty_blob 0 here) none in
    subst (AllByRecursion IsBetween) same (no_bad_blob 0 here both.0)

-- the blobs of a block that isn't refused have namespaces of blobs
pub block_named : (block : BlockParts) → layout_refusal block ≡ None
    → AllByRecursion (λ blob. is_blob_namespace blob.namespace.0 ≡ true) block.blobs
block_named block none =
    let of_blobs = no_refusal (blobs_refusal block.blobs) (size_refusal block.width (needed block)) (sym none) in
    blobs_named 0 block.blobs (no_refusal (bad_blob 0 block.blobs) (empty_blob 0 block.blobs) (sym of_blobs.0)).0
