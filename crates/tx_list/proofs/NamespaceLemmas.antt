-- The shares of one namespace in the square of a list.
use Rattle.std.proofs.Common.{true, false, cond, ◌≡◌, ℕ, ◌∙◌, ◌-◌, ◌*◌, Bool, List, [], ◌∷◌, ◌++◌, length, drop, replicate, refl, sym, ap, ap₂, subst, inl, inr, append_assoc}
use Rattle.std.specs.List.{filter, flat_map, AllByRecursion}
use Rattle.std.proofs.lemmas.Bool.{cases_Bool, true≢false}
use Rattle.std.proofs.lemmas.Slice.Eq.{bytes_eq-Decides}
use Rattle.std.proofs.lemmas.List.Elements.{filter-append}
use Rattle.std.proofs.Math.Seq.{drop-append_seam}
use Rattle.namespace_id.specs.declared.namespaces.Namespace.{Namespace}
use Rattle.namespace_id.specs.declared.shares.Share.{Share}
use Rattle.namespace_id.specs.Names.{is_blob_namespace, named_by, transaction, pay_for_blob, primary_reserved_padding, tail_padding}
use Rattle.namespace_id.specs.Shares.{name_in}
use Rattle.share_split.specs.Blobs.{NamedBytes, blob_shares_of}
use Rattle.share_split.specs.Units.{unit_shares_of}
use Rattle.share_split.specs.Joined.{Piece, padding, blob, padding_of, padding_share, piece_shares, piece_blobs, IsBlob, IsPiece, AreBlobs}
use Rattle.square_layout.specs.Layout.{has_name, in_order, placed_behind}
use Rattle.square_layout.specs.Plans.{PlanParts, front, lead, planned, plan_width, square_of_plan}
use Rattle.square_layout.specs.ShareNames.{AreNamed, BlobSharesAreNamed, UnitSharesAreNamed}
use Rattle.square_layout.proofs.ReadBackLemmas.{no_blobs, both_blobs, one_blob, plan_blobs}
use Rattle.tx_list.specs.Payments.{ListParts, blobs_of}
use Rattle.tx_list.specs.Lists.{plan_of_list, square_of_list}
use Rattle.tx_list.specs.BackRefusals.{has_namespace}

-- ---- shares of one namespace

-- all of them, where it is the one that is asked for
all_kept : (name : Namespace) (shares : List Share) → AreNamed name shares → filter (has_namespace name) shares ≡ shares
all_kept name [] named = refl
all_kept name (share ∷ shares) named =
    let here : has_namespace name share ≡ true = (bytes_eq-Decides (name_in share).0 name.0).1 (ap (λ (n : Namespace). n.0) named.0) in
    ap (λ (b : Bool). cond b (share ∷ filter (has_namespace name) shares) (filter (has_namespace name) shares)) here
    ∙ ap (λ (l : List Share). share ∷ l) (all_kept name shares named.1)

-- none of them, where it is another
none_kept : (name other : Namespace) (shares : List Share) → (other ≡ name → ⊥) → AreNamed other shares → filter (has_namespace name) shares ≡ []
none_kept name other [] apart named = refl
none_kept name other (share ∷ shares) apart named = elim (cases_Bool (has_namespace name share)) [
  | inl same ↦ absurd (apart (sym named.0 ∙ ap named_by ((bytes_eq-Decides (name_in share).0 name.0).0 same)))
  | inr here ↦
      ap (λ (b : Bool). cond b (share ∷ filter (has_namespace name) shares) (filter (has_namespace name) shares)) here
      ∙ none_kept name other shares apart named.1
]

-- ---- blobs with padding

-- a share of padding, kept or not
padding_kept : (b : Bool) (version : ℕ) (name : Namespace) → IsPiece (padding version name)
    → AreBlobs (cond b (padding_of version name ∷ []) []) []
padding_kept true version name is = record { pieces = padding version name ∷ []; are_pieces = (is, tt); parts = refl; shown = refl }
padding_kept false version name is = no_blobs

-- a blob, kept or not
blob_kept : (name : Namespace) (one : NamedBytes) (b : Bool) → has_name name one ≡ b → AreNamed one.namespace (blob_shares_of one.namespace one.signer one.bytes)
    → IsBlob one → AreBlobs (filter (has_namespace name) (blob_shares_of one.namespace one.signer one.bytes)) (cond b (one ∷ []) [])
blob_kept name one true e named is =
    let own : List Share = blob_shares_of one.namespace one.signer one.bytes in
    let same : one.namespace ≡ name = ap named_by (sym ((bytes_eq-Decides name.0 one.namespace.0).0 e)) in
    subst (λ (s : List Share). AreBlobs s (one ∷ [])) (sym (all_kept name own (subst (λ (n : Namespace). AreNamed n own) same named))) (one_blob one is)
blob_kept name one false e named is =
    let own : List Share = blob_shares_of one.namespace one.signer one.bytes in
    subst (λ (s : List Share). AreBlobs s [])
    (sym (none_kept name one.namespace own
    (λ same. true≢false (sym ((bytes_eq-Decides name.0 one.namespace.0).1 (ap (λ (n : Namespace). n.0) (sym same))) ∙ e)) named))
    no_blobs

-- so each piece
piece_kept : BlobSharesAreNamed → (name : Namespace) (piece : Piece) → IsPiece piece
    → AreBlobs (filter (has_namespace name) (piece_shares piece)) (filter (has_name name) (piece_blobs piece))
piece_kept of_blobs name (padding version other) is = padding_kept (has_namespace name (padding_of version other)) version other is
piece_kept of_blobs name (blob one) is =
    blob_kept name one (has_name name one) refl (of_blobs one.namespace one.signer one.bytes is.name.size_is) is

-- and all of them
pieces_kept : BlobSharesAreNamed → (name : Namespace) (pieces : List Piece) → AllByRecursion IsPiece pieces
    → AreBlobs (filter (has_namespace name) (flat_map piece_shares pieces)) (filter (has_name name) (flat_map piece_blobs pieces))
pieces_kept of_blobs name [] are = no_blobs
pieces_kept of_blobs name (piece ∷ pieces) are =
    subst (λ (s : List Share). AreBlobs s (filter (has_name name) (piece_blobs piece ++ flat_map piece_blobs pieces)))
    (sym (filter-append (has_namespace name) (piece_shares piece) (flat_map piece_shares pieces)))
    (subst (λ (b : List NamedBytes). AreBlobs (filter (has_namespace name) (piece_shares piece) ++ filter (has_namespace name) (flat_map piece_shares pieces)) b)
    (sym (filter-append (has_name name) (piece_blobs piece) (flat_map piece_blobs pieces)))
    (both_blobs (filter (has_namespace name) (piece_shares piece)) (filter (has_namespace name) (flat_map piece_shares pieces))
    (filter (has_name name) (piece_blobs piece)) (filter (has_name name) (flat_map piece_blobs pieces))
    (piece_kept of_blobs name piece are.0) (pieces_kept of_blobs name pieces are.1)))

blobs_kept : BlobSharesAreNamed → (name : Namespace) (shares : List Share) (blobs : List NamedBytes) → AreBlobs shares blobs
    → AreBlobs (filter (has_namespace name) shares) (filter (has_name name) blobs)
blobs_kept of_blobs name shares blobs are =
    subst (λ (s : List Share). AreBlobs (filter (has_namespace name) s) (filter (has_name name) blobs)) (sym are.parts)
    (subst (λ (b : List NamedBytes). AreBlobs (filter (has_namespace name) (flat_map piece_shares are.pieces)) (filter (has_name name) b)) (sym are.shown)
    (pieces_kept of_blobs name are.pieces are.are_pieces))

-- ---- the square of a plan

-- a namespace of a blob is neither that of transactions nor that of payments
not_transaction : (name : Namespace) → is_blob_namespace name.0 ≡ true → transaction ≡ name → ⊥
not_transaction name is same =
    let other : is_blob_namespace transaction.0 ≡ true = subst (λ (n : Namespace). is_blob_namespace n.0 ≡ true) (sym same) is in true≢false (sym other)

not_pay_for_blob : (name : Namespace) → is_blob_namespace name.0 ≡ true → pay_for_blob ≡ name → ⊥
not_pay_for_blob name is same =
    let other : is_blob_namespace pay_for_blob.0 ≡ true = subst (λ (n : Namespace). is_blob_namespace n.0 ≡ true) (sym same) is in true≢false (sym other)

-- so no compact share has it
front_kept : UnitSharesAreNamed → (plan : PlanParts) (name : Namespace) → is_blob_namespace name.0 ≡ true → filter (has_namespace name) (front plan) ≡ []
front_kept of_units plan name is =
    filter-append (has_namespace name) (unit_shares_of transaction plan.units) (unit_shares_of pay_for_blob plan.pay_units)
    ∙ ap₂ (λ (a b : List Share). a ++ b)
    (none_kept name transaction (unit_shares_of transaction plan.units) (not_transaction name is) (of_units transaction plan.units refl))
    (none_kept name pay_for_blob (unit_shares_of pay_for_blob plan.pay_units) (not_pay_for_blob name is) (of_units pay_for_blob plan.pay_units refl))

-- what stands behind a front has all that is kept, where nothing of the front is
behind_kept : (name : Namespace) (one rest : List Share) → filter (has_namespace name) one ≡ []
    → filter (has_namespace name) (one ++ rest) ≡ filter (has_namespace name) (drop (length one) (one ++ rest))
behind_kept name one rest none =
    filter-append (has_namespace name) one rest
    ∙ ap (λ (l : List Share). l ++ filter (has_namespace name) rest) none
    ∙ sym (ap (filter (has_namespace name)) (drop-append_seam one rest))

plan_kept : UnitSharesAreNamed → (plan : PlanParts) (name : Namespace) → is_blob_namespace name.0 ≡ true
    → filter (has_namespace name) (square_of_plan plan).shares ≡ filter (has_namespace name) (drop (length (front plan)) (square_of_plan plan).shares)
plan_kept of_units plan name is =
    let tail : List Share = replicate (plan_width plan * plan_width plan - length (planned plan)) (padding_share tail_padding) in
    let first : List Share = lead (plan.reserve - length (front plan)) plan.blobs in
    let placed_part : List Share = placed_behind true (padding_share primary_reserved_padding) plan.reserve (in_order plan.blobs) in
    let rest : List Share = first ++ placed_part ++ tail in
    let whole : (square_of_plan plan).shares ≡ front plan ++ rest =
    ap (λ (l : List Share). l ++ tail) (append_assoc (front plan) first placed_part) ∙ append_assoc (front plan) (first ++ placed_part) tail in
    ap (filter (has_namespace name)) whole
    ∙ behind_kept name (front plan) rest (front_kept of_units plan name is)
    ∙ sym (ap (λ (l : List Share). filter (has_namespace name) (drop (length (front plan)) l)) whole)

-- ---- the square of a list

-- the shares of a namespace are the blobs that have it, payment after payment
pub list_namespaces : BlobSharesAreNamed → UnitSharesAreNamed
    → ((name : Namespace) (blobs : List NamedBytes) → filter (has_name name) (in_order blobs) ≡ filter (has_name name) blobs)
    → (list : ListParts) (name : Namespace) → AllByRecursion IsBlob (blobs_of list.payments) → is_blob_namespace name.0 ≡ true
    → AreBlobs (filter (has_namespace name) (square_of_list list).shares) (filter (has_name name) (blobs_of list.payments))
list_namespaces of_blobs of_units stable list name are is =
    let plan : PlanParts = plan_of_list list in
    let behind : List Share = drop (length (front plan)) (square_of_plan plan).shares in
    subst (λ (s : List Share). AreBlobs s (filter (has_name name) (blobs_of list.payments))) (sym (plan_kept of_units plan name is))
    (subst (AreBlobs (filter (has_namespace name) behind)) (stable name (blobs_of list.payments))
    (blobs_kept of_blobs name behind (in_order (blobs_of list.payments)) (plan_blobs plan are)))
