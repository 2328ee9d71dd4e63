-- The roots of pieces: of one by its halves, and one by one.
use Rattle.std.proofs.Common.{◌≡◌, ◌∙◌, ℕ, suc, ◌+◌, ◌/◌, ◌^◌, ◌<◌, ◌≤◌, IsTrue, List, [], ◌∷◌, ◌++◌, length, take, drop, map, get_or, refl, sym, ap, ap₂, subst, arith, drop-cons, add-one}
use Rattle.std.proofs.lemmas.List.{append_assoc, append-nil, drop_all, take-map, drop-map}
use Rattle.std.specs.List.{AllByRecursion}
use Rattle.std.proofs.lemmas.List.Elements.{All-from_recursion}
use Rattle.namespace_id.specs.declared.namespaces.Namespace.{Namespace}
use Rattle.namespace_id.specs.declared.shares.Share.{Share}
use Rattle.namespace_id.specs.declared.digests.Digest.{Digest}
use Rattle.namespace_id.specs.Shares.{name_in}
use Rattle.namespace_id.proofs.PowerLemmas.{power-half, power_halvings, halvings_half}
use Rattle.nmt_tree.specs.Digests.{node_digest}
use Rattle.nmt_tree.specs.Roots.{is_leaf_count, halvings, root}
use Rattle.data_header.specs.DataRoots.{leaf_hash}
use Rattle.square_layout.specs.Refusals.{max_shares}
use Rattle.blob_commit.specs.Commitments.{subtree_root, subtree_roots, leaf_hashes}
use Rattle.blob_commit.specs.Cuts.{cut, levels_of}
use Rattle.blob_commit.proofs.CutLemmas.{total, IsPiece, pieces-cut, levels_le}

-- ---- of one piece

-- the root of more leaves than one
root-suc : (depth : ℕ) (names : List Namespace) (shares : List Share) → root (suc depth) names shares
    ≡ node_digest (root depth (take (2 ^ depth) names) (take (2 ^ depth) shares)) (root depth (drop (2 ^ depth) names) (drop (2 ^ depth) shares))
unfolding root
root-suc depth names shares = refl

-- the root of a subtree over so many shares, by how often their number is halved
root_of-part : (part half : List Share) (n : ℕ) → length part ≡ n → part ≡ half → subtree_root part ≡ root (halvings n) (map name_in half) half
root_of-part part half n count is =
    ap (λ (k : ℕ). root (halvings k) (map name_in part) part) count ∙ ap (λ (l : List Share). root (halvings n) (map name_in l) l) is

-- the root of a subtree over more shares than one, by those over both halves
pub subtree_root-halves : (shares left right : List Share) → IsTrue (is_leaf_count (length shares)) → (length shares ≡ 1 → ⊥)
    → left ≡ take (length shares / 2) shares → right ≡ drop (length shares / 2) shares
    → length left ≡ length shares / 2 → length right + length shares / 2 ≡ length shares
    → node_digest (subtree_root left) (subtree_root right) ≡ subtree_root shares
subtree_root-halves shares left right count several left_is right_is left_len right_len =
    let h : ℕ = length shares / 2 in
    let d : ℕ = halvings h in
    let half = power-half (length shares) count several in
    let power : 2 ^ d ≡ h = power_halvings h half.0 in
    let right_half : length right ≡ h = omega (arith, half.2, right_len) in
    ap₂ node_digest
    (root_of-part left (take (2 ^ d) shares) h left_len (left_is ∙ ap (λ (n : ℕ). take n shares) (sym power))
    ∙ ap (λ (names : List Namespace). root d names (take (2 ^ d) shares)) (sym (take-map name_in (2 ^ d) shares)))
    (root_of-part right (drop (2 ^ d) shares) h right_half (right_is ∙ ap (λ (n : ℕ). drop n shares) (sym power))
    ∙ ap (λ (names : List Namespace). root d names (drop (2 ^ d) shares)) (sym (drop-map name_in (2 ^ d) shares)))
    ∙ sym (root-suc d (map name_in shares) shares)
    ∙ ap (λ (k : ℕ). root k (map name_in shares) shares) (sym (halvings_half (length shares) count several))

-- ---- one by one

-- how many shares are left behind a piece
pub left_behind : (sizes : List ℕ) (i z : ℕ) (rest after : List Share) → i < length sizes → z ≡ get_or sizes i 0 → total (drop i sizes) ≡ length rest
    → length after + z ≡ length rest → total (drop (i + 1) sizes) ≡ length after
left_behind sizes i z rest after lt e so_far count =
    let next : total (drop i sizes) ≡ get_or sizes i 0 + total (drop (i + 1) sizes) =
    ap total (drop-cons sizes i 0 lt) ∙ ap (λ (k : ℕ). get_or sizes i 0 + total (drop k sizes)) (sym (add-one i)) in
    omega (arith, next, so_far, count, e)

subtree_roots-cons : (z : ℕ) (sizes : List ℕ) (shares : List Share)
    → subtree_roots (z ∷ sizes) shares ≡ root (halvings z) (map name_in (take z shares)) (take z shares) ∷ subtree_roots sizes (drop z shares)
unfolding subtree_roots
subtree_roots-cons z sizes shares = refl

-- the hash of one more piece
pub hash_more : (sizes : List ℕ) (i z : ℕ) (rest piece after : List Share) (hashes new whole : List (List ℕ)) (hash : List ℕ) (d : Digest) → i < length sizes → z ≡ get_or sizes i 0
    → piece ≡ take z rest → after ≡ drop z rest → length piece ≡ z → d ≡ subtree_root piece → hash ≡ leaf_hash d → new ≡ hashes ++ hash ∷ []
    → hashes ++ leaf_hashes (subtree_roots (drop i sizes) rest) ≡ whole
    → new ++ leaf_hashes (subtree_roots (drop (i + 1) sizes) after) ≡ whole
hash_more sizes i z rest piece after hashes new whole hash d lt e front back count root_is hash_is pushed so_far =
    let tail : List ℕ = drop (i + 1) sizes in
    let here : drop i sizes ≡ z ∷ tail =
    drop-cons sizes i 0 lt ∙ ap₂ (λ (x k : ℕ). x ∷ drop k sizes) (sym e) (sym (add-one i)) in
    let digest : d ≡ root (halvings z) (map name_in (take z rest)) (take z rest) =
    root_is ∙ ap (λ (k : ℕ). root (halvings k) (map name_in piece) piece) count ∙ ap (λ (l : List Share). root (halvings z) (map name_in l) l) front in
    let one : hash ∷ leaf_hashes (subtree_roots tail after) ≡ leaf_hashes (subtree_roots (drop i sizes) rest) =
    ap₂ (λ (h : List ℕ) (l : List Share). h ∷ leaf_hashes (subtree_roots tail l)) (hash_is ∙ ap leaf_hash digest) back
    ∙ sym (ap leaf_hashes (ap (λ (l : List ℕ). subtree_roots l rest) here ∙ subtree_roots-cons z tail rest)) in
    ap (λ (l : List (List ℕ)). l ++ leaf_hashes (subtree_roots tail after)) pushed
    ∙ append_assoc hashes (hash ∷ []) (leaf_hashes (subtree_roots tail after))
    ∙ ap (λ (l : List (List ℕ)). hashes ++ l) one ∙ so_far

subtree_roots-nil : (shares : List Share) → subtree_roots [] shares ≡ []
unfolding subtree_roots
subtree_roots-nil shares = refl

-- all pieces
pub hashes_all : (sizes : List ℕ) (i : ℕ) (rest : List Share) (hashes whole : List (List ℕ)) → length sizes ≤ i
    → hashes ++ leaf_hashes (subtree_roots (drop i sizes) rest) ≡ whole → hashes ≡ whole
hashes_all sizes i rest hashes whole end so_far =
    sym (append-nil hashes)
    ∙ ap (λ (l : List (List ℕ)). hashes ++ l) (sym (ap leaf_hashes (ap (λ (l : List ℕ). subtree_roots l rest) (drop_all i sizes end) ∙ subtree_roots-nil rest)))
    ∙ so_far

-- a piece is a count of leaves
pub piece_sized : (sizes : List ℕ) (n i len : ℕ) → sizes ≡ cut n → 1 ≤ n → n ≤ max_shares → i < length sizes → len ≡ get_or sizes i 0 → IsPiece len
piece_sized sizes n i len sizes_are some most lt e =
    subst IsPiece (sym e) (All-from_recursion IsPiece sizes (subst (AllByRecursion IsPiece) (sym sizes_are) (pieces-cut (levels_of n) n (levels_le n some most))) i 0 lt)
