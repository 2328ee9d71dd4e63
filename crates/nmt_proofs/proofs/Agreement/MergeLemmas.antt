-- Openings of single leaves under one root, of which no neighbors differ, are one opening of all their leaves.
use Rattle.std.proofs.Common.{◌≡◌, ◌∙◌, ℕ, zero, suc, ◌+◌, ◌^◌, ◌<◌, ◌≤◌, List, [], ◌∷◌, ◌++◌, length, map, take, drop, get_or, Bool, true, false, cond, ltb, ◌&&◌, None, refl, sym, ap, ap₂, subst, subst₂, inl, inr, arith, length-append}
use Rattle.std.specs.List.{AllByRecursion}
use Rattle.std.specs.Option.{option_or}
use Rattle.std.proofs.lemmas.Bool.{cases_Bool, and_parts, eq-eqb, le-ltb}
use Rattle.std.proofs.lemmas.List.{take-map, drop-map, get_or-take, get_or-drop}
use Rattle.std.proofs.lemmas.Slice.Eq.{bytes_eq-Decides}
use Rattle.std.proofs.Math.Nat.{pow-suc}
use Rattle.namespace_id.specs.declared.digests.Digest.{Digest}
use Rattle.namespace_id.specs.Digests.{no_digest}
use Rattle.namespace_id.proofs.StringLemmas.{front, behind}
use Rattle.nmt_tree.specs.Digests.{node_digest, is_ordered_join}
use Rattle.nmt_proofs.specs.Parts.{Part, given, leaf, join, digest_of, is_in_order}
use Rattle.nmt_proofs.specs.Openings.{Shown, begun, is_interval, outside, opened, one_leaf, leaves_at, Opens}
use Rattle.nmt_proofs.specs.Clashes.{clash_at, join_text, IsSized, ArePlacesBetween}
use Rattle.nmt_proofs.specs.Places.{AreAscending}
use Rattle.nmt_proofs.specs.Merging.{Branch, branch_shown, leaves_of, merged_nodes, branch_tree, HoldsFrom, HoldsAlong, BranchesAgree, IsBranch, AreBranches}
use Rattle.nmt_proofs.proofs.Parts.ListLemmas.{each-take, each-drop, each-then, each-both}
use Rattle.nmt_proofs.proofs.Parts.BegunLemmas.{places-halves}
use Rattle.nmt_proofs.proofs.Parts.SingleLemmas.{single, opened_left, opened_right}
use Rattle.nmt_proofs.proofs.Parts.DigestLemmas.{join_parts}
use Rattle.nmt_proofs.proofs.Agreement.AgreeLemmas.{digest-sized, none_where, or_none}
use Rattle.nmt_proofs.proofs.Parts.ShownLemmas.{opening-sized}
use Rattle.nmt_proofs.proofs.Agreement.MadeLemmas.{and_true}

-- ---- lists

from-take : {A : Type 0} (R : A → A → Type 0) (n : ℕ) (x : A) (ys : List A) → HoldsFrom R x ys → HoldsFrom R x (take n ys)
from-take R zero x ys h = tt
from-take R (suc n) x [] h = tt
from-take R (suc n) x (y ∷ ys) h = (h.0, from-take R n y ys h.1)

-- along the first elements of a list
along-take : {A : Type 0} (R : A → A → Type 0) (n : ℕ) (xs : List A) → HoldsAlong R xs → HoldsAlong R (take n xs)
along-take R zero xs h = tt
along-take R (suc n) [] h = tt
along-take R (suc n) (x ∷ xs) h = from-take R n x xs h

along-tail : {A : Type 0} (R : A → A → Type 0) (x : A) (xs : List A) → HoldsFrom R x xs → HoldsAlong R xs
along-tail R x [] h = tt
along-tail R x (y ∷ ys) h = h.1

-- and along those behind them
along-drop : {A : Type 0} (R : A → A → Type 0) (n : ℕ) (xs : List A) → HoldsAlong R xs → HoldsAlong R (drop n xs)
along-drop R zero xs h = h
along-drop R (suc n) [] h = tt
along-drop R (suc n) (x ∷ xs) h = along-drop R n xs (along-tail R x xs h)

from-weaken : {A : Type 0} (P : A → Type 0) (R S : A → A → Type 0) (x : A) (ys : List A) → ((a b : A) → P a → P b → R a b → S a b) → P x → AllByRecursion P ys
    → HoldsFrom R x ys → HoldsFrom S x ys
from-weaken P R S x [] f p ps h = tt
from-weaken P R S x (y ∷ ys) f p ps h = (f x y p ps.0 h.0, from-weaken P R S y ys f ps.0 ps.1 h.1)

-- a relation that follows from another where a fact holds of both
along-weaken : {A : Type 0} (P : A → Type 0) (R S : A → A → Type 0) (xs : List A) → ((a b : A) → P a → P b → R a b → S a b) → AllByRecursion P xs → HoldsAlong R xs → HoldsAlong S xs
along-weaken P R S [] f ps h = tt
along-weaken P R S (x ∷ xs) f ps h = from-weaken P R S x xs f ps.0 ps.1 h

-- ---- the tree of a branch, by the nodes that an interval takes

-- behind so many right turns the nodes from that place on are those of the interval
unfoldable tree_in : ℕ → ℕ → ℕ → Branch → Part
tree_in zero st t b = leaf b.name b.share
tree_in (suc d) st t b = cond (ltb b.pos (st + 2 ^ d))
    (join (tree_in d st t b) (given (get_or b.nodes (t + d) no_digest)))
    (join (given (get_or b.nodes t no_digest)) (tree_in d (st + 2 ^ d) (suc t) b))

-- what is left of the middle
left_in : ℕ → ℕ → ℕ → Branch → Part
left_in d st t b = cond (ltb b.pos (st + 2 ^ d)) (tree_in d st t b) (given (get_or b.nodes t no_digest))

-- and right of it
right_in : ℕ → ℕ → ℕ → Branch → Part
right_in d st t b = cond (ltb b.pos (st + 2 ^ d)) (given (get_or b.nodes (t + d) no_digest)) (tree_in d (st + 2 ^ d) (suc t) b)

choice : (b : Bool) (p q r s : Part) → cond b (join p q) (join r s) ≡ join (cond b p r) (cond b q s)
choice true p q r s = refl
choice false p q r s = refl

tree_halves : (d st t : ℕ) (b : Branch) → tree_in (suc d) st t b ≡ join (left_in d st t b) (right_in d st t b)
unfolding tree_in left_in right_in
tree_halves d st t b = choice (ltb b.pos (st + 2 ^ d)) (tree_in d st t b) (given (get_or b.nodes (t + d) no_digest)) (given (get_or b.nodes t no_digest)) (tree_in d (st + 2 ^ d) (suc t) b)

-- what is opened of one leaf is the branch's tree
opened-tree : (d st t : ℕ) (b : Branch) (ns : List Digest) → ((i : ℕ) → i < d → get_or ns i no_digest ≡ get_or b.nodes (t + i) no_digest)
    → opened d st (one_leaf b.pos b.name b.share) ns ≡ tree_in d st t b
unfolding tree_in opened
opened-tree zero st t b ns h = refl
opened-tree (suc d) st t b ns h =
    let p : Part = leaf b.name b.share in
    let m : ℕ = st + 2 ^ d in
    let L : Part = join (tree_in d st t b) (given (get_or b.nodes (t + d) no_digest)) in
    let R : Part = join (given (get_or b.nodes t no_digest)) (tree_in d m (suc t) b) in
    elim (cases_Bool (ltb b.pos m)) [
      | inl before ↦
          opened_left d st b.pos p ns before
          ∙ ap₂ (λ (x : Part) (y : Digest). join x (given y))
          (opened-tree d st t b (take d ns) (λ i lt. get_or-take d ns i no_digest lt ∙ h i (omega arith)))
          (get_or-drop d ns 0 no_digest ∙ ap (λ (k : ℕ). get_or ns k no_digest) (let e : d + 0 ≡ d = omega arith in e) ∙ h d (omega arith))
          ∙ sym (ap (λ (c : Bool). cond c L R) before)
      | inr past ↦
          opened_right d st b.pos p ns past
          ∙ ap₂ (λ (x : Digest) (y : Part). join (given x) y)
          (get_or-take 1 ns 0 no_digest (omega arith) ∙ h 0 (omega arith) ∙ ap (λ (k : ℕ). get_or b.nodes k no_digest) (let e : t + 0 ≡ t = omega arith in e))
          (opened-tree d m (suc t) b (drop 1 ns) (λ i lt.
          get_or-drop 1 ns i no_digest ∙ h (1 + i) (omega arith) ∙ ap (λ (k : ℕ). get_or b.nodes k no_digest) (let e : t + (1 + i) ≡ suc t + i = omega arith in e)))
          ∙ sym (ap (λ (c : Bool). cond c L R) past)
    ]

-- ---- trees with one digest

-- a part is sized and in order, and has this digest
record IsFit (D : Digest) (p : Part) : Type 0 where
  pub sized : IsSized p
  pub digest : digest_of p ≡ D
  pub order : is_in_order p ≡ true

-- so are the halves of a join, each with its own digest
record JoinFits (D : Digest) (l r : Part) : Type 0 where
  pub left : IsFit (digest_of l) l
  pub right : IsFit (digest_of r) r
  pub node : node_digest (digest_of l) (digest_of r) ≡ D
  pub order : is_ordered_join (digest_of l) (digest_of r) ≡ true

join_fits : (D : Digest) (l r : Part) → IsFit D (join l r) → JoinFits D l r
join_fits D l r h =
    let outer = and_parts (is_in_order l && is_in_order r) (is_ordered_join (digest_of l) (digest_of r)) h.order in
    let inner = and_parts (is_in_order l) (is_in_order r) outer.0 in
    record {
      left = record { sized = h.sized.0; digest = refl; order = inner.0 };
      right = record { sized = h.sized.1; digest = refl; order = inner.1 };
      node = h.digest;
      order = outer.1;
    }

-- two joins that don't differ have the same digests in both halves, and the halves don't differ
record SameHalves (l r u v : Part) : Type 0 where
  pub left : digest_of l ≡ digest_of u
  pub right : digest_of r ≡ digest_of v
  pub left_none : clash_at l u ≡ None
  pub right_none : clash_at r v ≡ None

same_joins : (l r u v : Part) → IsSized (join l r) → IsSized (join u v) → clash_at (join l r) (join u v) ≡ None → SameHalves l r u v
unfolding clash_at
same_joins l r u v h k e =
    let x = none_where (join_text (digest_of l) (digest_of r)) (join_text (digest_of u) (digest_of v)) (option_or (clash_at l u) (clash_at r v)) e in
    let same = join_parts (digest_of l) (digest_of r) (digest_of u) (digest_of v) (digest-sized l h.0) (digest-sized u k.0) x.0 in
    let sub = or_none (clash_at l u) (clash_at r v) x.1 in
    record { left = same.0; right = same.1; left_none = sub.0; right_none = sub.1 }

-- both halves of a branch's tree have these digests
record HalvesFit (d st t : ℕ) (A B : Digest) (b : Branch) : Type 0 where
  pub left : IsFit A (left_in d st t b)
  pub right : IsFit B (right_in d st t b)

-- a branch behind one with these digests has them too, where the two don't differ
next_fits : (d st t : ℕ) (A B D : Digest) (x y : Branch) → HalvesFit d st t A B x → IsFit D (tree_in (suc d) st t x) → IsFit D (tree_in (suc d) st t y)
    → clash_at (tree_in (suc d) st t x) (tree_in (suc d) st t y) ≡ None
    → HalvesFit d st t A B y × (clash_at (left_in d st t x) (left_in d st t y) ≡ None) × (clash_at (right_in d st t x) (right_in d st t y) ≡ None)
next_fits d st t A B D x y fit fx fy e =
    let jx : IsFit D (join (left_in d st t x) (right_in d st t x)) = subst (IsFit D) (tree_halves d st t x) fx in
    let jy : IsFit D (join (left_in d st t y) (right_in d st t y)) = subst (IsFit D) (tree_halves d st t y) fy in
    let same = same_joins (left_in d st t x) (right_in d st t x) (left_in d st t y) (right_in d st t y) jx.sized jy.sized
    (subst₂ (λ (p q : Part). clash_at p q ≡ None) (tree_halves d st t x) (tree_halves d st t y) e) in
    let parts = join_fits D (left_in d st t y) (right_in d st t y) jy in (
      record {
        left = record { sized = parts.left.sized; digest = sym same.left ∙ fit.left.digest; order = parts.left.order };
        right = record { sized = parts.right.sized; digest = sym same.right ∙ fit.right.digest; order = parts.right.order };
      },
      same.left_none,
      same.right_none,
    )

-- two branches don't differ in an interval
abbrev Alike : ℕ → ℕ → ℕ → Branch → Branch → Type 0
Alike d st t x y = clash_at (tree_in d st t x) (tree_in d st t y) ≡ None

-- nor in the halves of one
abbrev LeftAlike : ℕ → ℕ → ℕ → Branch → Branch → Type 0
LeftAlike d st t x y = clash_at (left_in d st t x) (left_in d st t y) ≡ None

abbrev RightAlike : ℕ → ℕ → ℕ → Branch → Branch → Type 0
RightAlike d st t x y = clash_at (right_in d st t x) (right_in d st t y) ≡ None

-- all of a list have these digests in both halves, and neighbors don't differ there
record AllFit (d st t : ℕ) (A B : Digest) (x : Branch) (ys : List Branch) : Type 0 where
  pub fit : AllByRecursion (HalvesFit d st t A B) ys
  pub left : HoldsFrom (LeftAlike d st t) x ys
  pub right : HoldsFrom (RightAlike d st t) x ys

all_fit : (d st t : ℕ) (A B D : Digest) (x : Branch) (ys : List Branch) → HalvesFit d st t A B x → IsFit D (tree_in (suc d) st t x)
    → AllByRecursion (λ y. IsFit D (tree_in (suc d) st t y)) ys → HoldsFrom (Alike (suc d) st t) x ys → AllFit d st t A B x ys
all_fit d st t A B D x [] fit fx fits chain = record { fit = tt; left = tt; right = tt }
all_fit d st t A B D x (y ∷ ys) fit fx fits chain =
    let next = next_fits d st t A B D x y fit fx fits.0 chain.0 in
    let rest = all_fit d st t A B D y ys next.0 fits.0 fits.1 chain.1 in
    record { fit = (next.0, rest.fit); left = (next.1, rest.left); right = (next.2, rest.right) }

-- ---- places

-- those that begin before the middle
begun_before : (m : ℕ) (xs : List Branch) → AllByRecursion (λ x. ltb x.pos m ≡ true) (take (begun m (leaves_of xs)) xs)
unfolding begun
begun_before m [] = tt
begun_before m (x ∷ xs) =
    let Goal : Bool → Type 0 = λ b. AllByRecursion (λ x. ltb x.pos m ≡ true) (take (cond b (suc (begun m (leaves_of xs))) 0) (x ∷ xs)) in
    elim (cases_Bool (ltb x.pos m)) [
      | inl t ↦ subst Goal (sym t) (t, begun_before m xs)
      | inr f ↦ subst Goal (sym f) tt
    ]

-- places from the middle on
not_before : (low high m : ℕ) (xs : List Branch) → m ≤ low → ArePlacesBetween low high (leaves_of xs) → AllByRecursion (λ x. ltb x.pos m ≡ false) xs
not_before low high m [] h of = tt
not_before low high m (x ∷ xs) h of = (le-ltb x.pos m (omega (arith, h, of.1)), not_before (x.pos + 1) high m xs (omega (arith, h, of.1)) of.3)

-- the first of a list of branches is before the middle, or none is
first_before : (m : ℕ) (x : Branch) (xs : List Branch) → ltb x.pos m ≡ true → 0 < begun m (leaves_of (x ∷ xs))
unfolding begun
first_before m x xs t =
    let e : cond (ltb x.pos m) (suc (begun m (leaves_of xs))) 0 ≡ suc (begun m (leaves_of xs)) = ap (λ (b : Bool). cond b (suc (begun m (leaves_of xs))) 0) t in
    omega (arith, e)

none_before : (m : ℕ) (x : Branch) (xs : List Branch) → ltb x.pos m ≡ false → begun m (leaves_of (x ∷ xs)) ≡ 0
unfolding begun
none_before m x xs f = ap (λ (b : Bool). cond b (suc (begun m (leaves_of xs))) 0) f

-- ---- all together

-- what is opened of branches and the nodes put together has the digest of each, and is in order
record IsMerged (d st t : ℕ) (g D : Digest) (xs : List Branch) : Type 0 where
  pub digest : digest_of (opened d st (leaves_of xs) (merged_nodes d st t g xs)) ≡ D
  pub order : is_in_order (opened d st (leaves_of xs) (merged_nodes d st t g xs)) ≡ true
  pub count : length (merged_nodes d st t g xs) ≡ length (outside d st (leaves_of xs))

-- in an interval that holds none the node beside is the digest
merged_none : (d st t : ℕ) (g D : Digest) → g ≡ D → IsMerged d st t g D []
unfolding merged_nodes opened outside
merged_none zero st t g D e = record { digest = e; order = refl; count = refl }
merged_none (suc d) st t g D e = record { digest = e; order = refl; count = refl }

-- by those of both halves
merged_halves : (d st t : ℕ) (g A B D gl gr : Digest) (b : Branch) (bs : List Branch) → b.nodes ≡ b.nodes
    → gl ≡ get_or b.nodes t no_digest → gr ≡ get_or b.nodes (t + d) no_digest
    → node_digest A B ≡ D → is_ordered_join A B ≡ true
    → IsMerged d st t gl A (take (begun (st + 2 ^ d) (leaves_of (b ∷ bs))) (b ∷ bs))
    → IsMerged d (st + 2 ^ d) (suc t) gr B (drop (begun (st + 2 ^ d) (leaves_of (b ∷ bs))) (b ∷ bs))
    → IsMerged (suc d) st t g D (b ∷ bs)
unfolding merged_nodes opened outside
merged_halves d st t g A B D gl gr b bs same el er en eo l r =
    let xs : List Branch = b ∷ bs in
    let ss : List Shown = leaves_of xs in
    let m : ℕ = st + 2 ^ d in
    let k : ℕ = begun m ss in
    let lm : List Digest = merged_nodes d st t gl (take k xs) in
    let rm : List Digest = merged_nodes d m (suc t) gr (drop k xs) in
    let nodes : merged_nodes d st t (get_or b.nodes t no_digest) (take k xs) ++ merged_nodes d m (suc t) (get_or b.nodes (t + d) no_digest) (drop k xs) ≡ lm ++ rm =
    ap₂ (λ (x y : Digest). merged_nodes d st t x (take k xs) ++ merged_nodes d m (suc t) y (drop k xs)) (sym el) (sym er) in
    let one : is_interval (suc d) (branch_shown b) ≡ false = single d (branch_shown b) refl in
    let ls : take k ss ≡ leaves_of (take k xs) = take-map branch_shown k xs in
    let rs : drop k ss ≡ leaves_of (drop k xs) = drop-map branch_shown k xs in
    let count : length lm ≡ length (outside d st (take k ss)) = l.count ∙ sym (ap (λ (x : List Shown). length (outside d st x)) ls) in
    let j : ℕ = length (outside d st (take k ss)) in
    let lp : Part = opened d st (leaves_of (take k xs)) lm in
    let rp : Part = opened d m (leaves_of (drop k xs)) rm in
    let Of : List Digest → Part = λ ns. cond (is_interval (suc d) (branch_shown b)) (leaf b.name b.share) (join (opened d st (take k ss) (take j ns)) (opened d m (drop k ss) (drop j ns))) in
    let whole : Of (merged_nodes d st t (get_or b.nodes t no_digest) (take k xs) ++ merged_nodes d m (suc t) (get_or b.nodes (t + d) no_digest) (drop k xs)) ≡ join lp rp =
    ap Of nodes
    ∙ ap (λ (c : Bool). cond c (leaf b.name b.share) (join (opened d st (take k ss) (take j (lm ++ rm))) (opened d m (drop k ss) (drop j (lm ++ rm))))) one
    ∙ ap₂ join
    (ap₂ (λ (x : List Shown) (y : List Digest). opened d st x y) ls (front lm rm j count))
    (ap₂ (λ (x : List Shown) (y : List Digest). opened d m x y) rs (behind lm rm j count)) in
    record {
      digest = ap digest_of whole ∙ ap₂ node_digest l.digest r.digest ∙ en;
      order = ap is_in_order whole ∙ and_true _ _ _ l.order r.order (ap₂ (λ (x y : Digest). is_ordered_join x y) l.digest r.digest ∙ eo);
      count = ap length nodes ∙ length-append lm rm ∙ ap₂ (λ (x y : ℕ). x + y) l.count r.count
          ∙ ap₂ (λ (x y : List Shown). length (outside d st x) + length (outside d m y)) (sym ls) (sym rs)
          ∙ sym (length-append (outside d st (take k ss)) (outside d m (drop k ss)))
          ∙ sym (ap (λ (c : Bool). length (cond c [] (outside d st (take k ss) ++ outside d m (drop k ss)))) one);
    }

-- the left halves of branches that begin before the middle are their trees
left_tree : (d st t : ℕ) (A B : Digest) (x : Branch) → HalvesFit d st t A B x × (ltb x.pos (st + 2 ^ d) ≡ true) → IsFit A (tree_in d st t x)
unfolding left_in
left_tree d st t A B x h = subst (IsFit A) (ap (λ (b : Bool). cond b (tree_in d st t x) (given (get_or x.nodes t no_digest))) h.1) h.0.left

left_alike : (d st t : ℕ) (x y : Branch) → ltb x.pos (st + 2 ^ d) ≡ true → ltb y.pos (st + 2 ^ d) ≡ true → LeftAlike d st t x y → Alike d st t x y
unfolding left_in
left_alike d st t x y hx hy e =
    subst₂ (λ (p q : Part). clash_at p q ≡ None)
    (ap (λ (b : Bool). cond b (tree_in d st t x) (given (get_or x.nodes t no_digest))) hx)
    (ap (λ (b : Bool). cond b (tree_in d st t y) (given (get_or y.nodes t no_digest))) hy) e

-- and the right halves of the others
right_tree : (d st t : ℕ) (A B : Digest) (x : Branch) → HalvesFit d st t A B x × (ltb x.pos (st + 2 ^ d) ≡ false) → IsFit B (tree_in d (st + 2 ^ d) (suc t) x)
unfolding right_in
right_tree d st t A B x h = subst (IsFit B) (ap (λ (b : Bool). cond b (given (get_or x.nodes (t + d) no_digest)) (tree_in d (st + 2 ^ d) (suc t) x)) h.1) h.0.right

right_alike : (d st t : ℕ) (x y : Branch) → ltb x.pos (st + 2 ^ d) ≡ false → ltb y.pos (st + 2 ^ d) ≡ false → RightAlike d st t x y → Alike d (st + 2 ^ d) (suc t) x y
unfolding right_in
right_alike d st t x y hx hy e =
    subst₂ (λ (p q : Part). clash_at p q ≡ None)
    (ap (λ (b : Bool). cond b (given (get_or x.nodes (t + d) no_digest)) (tree_in d (st + 2 ^ d) (suc t) x)) hx)
    (ap (λ (b : Bool). cond b (given (get_or y.nodes (t + d) no_digest)) (tree_in d (st + 2 ^ d) (suc t) y)) hy) e

-- where the first isn't before the middle, its node is the left half
beside_left : (d st t : ℕ) (A B : Digest) (x : Branch) → HalvesFit d st t A B x → ltb x.pos (st + 2 ^ d) ≡ false → get_or x.nodes t no_digest ≡ A
unfolding left_in
beside_left d st t A B x h f = sym (ap (λ (b : Bool). digest_of (cond b (tree_in d st t x) (given (get_or x.nodes t no_digest)))) f) ∙ h.left.digest

beside_right : (d st t : ℕ) (A B : Digest) (x : Branch) → HalvesFit d st t A B x → ltb x.pos (st + 2 ^ d) ≡ true → get_or x.nodes (t + d) no_digest ≡ B
unfolding right_in
beside_right d st t A B x h y = sym (ap (λ (b : Bool). digest_of (cond b (given (get_or x.nodes (t + d) no_digest)) (tree_in d (st + 2 ^ d) (suc t) x))) y) ∙ h.right.digest

-- the first of some behind a list is none where there are no more of them
taken_none : (k : ℕ) (x : Branch) (xs : List Branch) → length (take k (x ∷ xs)) ≡ 0 → k ≡ 0
taken_none zero x xs h = refl
taken_none (suc k) x xs h = absurd (omega arith)

merged : (d st t : ℕ) (g D : Digest) (xs : List Branch) → (length xs ≡ 0 → g ≡ D) → ArePlacesBetween st (st + 2 ^ d) (leaves_of xs)
    → AllByRecursion (λ x. IsFit D (tree_in d st t x)) xs → HoldsAlong (Alike d st t) xs → IsMerged d st t g D xs
unfolding merged_nodes opened outside tree_in
merged d st t g D [] none of fits chain = merged_none d st t g D (none refl)
merged zero st t g D (b ∷ bs) none of fits chain = record { digest = fits.0.digest; order = refl; count = refl }
merged (suc d) st t g D (b ∷ bs) none of fits chain =
    let xs : List Branch = b ∷ bs in
    let ss : List Shown = leaves_of xs in
    let m : ℕ = st + 2 ^ d in
    let k : ℕ = begun m ss in
    let end : st + 2 ^ suc d ≡ m + 2 ^ d = omega (arith, pow-suc 2 d) in
    let parts = places-halves st m (m + 2 ^ d) ss (omega arith) (subst (λ (n : ℕ). ArePlacesBetween st n ss) end of) in
    let first : JoinFits D (left_in d st t b) (right_in d st t b) = join_fits D (left_in d st t b) (right_in d st t b) (subst (IsFit D) (tree_halves d st t b) fits.0) in
    let A : Digest = digest_of (left_in d st t b) in
    let B : Digest = digest_of (right_in d st t b) in
    let fit : HalvesFit d st t A B b = record { left = first.left; right = first.right } in
    let all : AllFit d st t A B b bs = all_fit d st t A B D b bs fit fits.0 fits.1 chain in
    let all_halves : AllByRecursion (HalvesFit d st t A B) xs = (fit, all.fit) in
    let left_places : ArePlacesBetween st m (leaves_of (take k xs)) = subst (ArePlacesBetween st m) (take-map branch_shown k xs) parts.0 in
    let right_places : ArePlacesBetween m (m + 2 ^ d) (leaves_of (drop k xs)) = subst (ArePlacesBetween m (m + 2 ^ d)) (drop-map branch_shown k xs) parts.1 in
    let before : AllByRecursion (λ x. ltb x.pos m ≡ true) (take k xs) = begun_before m xs in
    let past : AllByRecursion (λ x. ltb x.pos m ≡ false) (drop k xs) = not_before m (m + 2 ^ d) m (drop k xs) (omega arith) right_places in
    let l : IsMerged d st t (get_or b.nodes t no_digest) A (take k xs) =
    merged d st t (get_or b.nodes t no_digest) A (take k xs)
    (λ e. elim (cases_Bool (ltb b.pos m)) [
      | inl y ↦ absurd (omega (arith, first_before m b bs y, taken_none k b bs e))
      | inr f ↦ beside_left d st t A B b fit f
    ])
    left_places
    (each-then _ _ (left_tree d st t A B) (take k xs) (each-both _ _ (take k xs) (each-take _ k xs all_halves) before))
    (along-weaken _ _ _ (take k xs) (left_alike d st t) before (along-take _ k xs all.left)) in
    let r : IsMerged d m (suc t) (get_or b.nodes (t + d) no_digest) B (drop k xs) =
    merged d m (suc t) (get_or b.nodes (t + d) no_digest) B (drop k xs)
    (λ e. elim (cases_Bool (ltb b.pos m)) [
      | inl y ↦ beside_right d st t A B b fit y
      | inr f ↦ absurd (let z : length (drop k xs) ≡ length xs = ap (λ (n : ℕ). length (drop n xs)) (none_before m b bs f) in omega (arith, z, e))
    ])
    right_places
    (each-then _ _ (right_tree d st t A B) (drop k xs) (each-both _ _ (drop k xs) (each-drop _ k xs all_halves) past))
    (along-weaken _ _ _ (drop k xs) (right_alike d st t) past (along-drop _ k xs all.right)) in
    merged_halves d st t g A B D (get_or b.nodes t no_digest) (get_or b.nodes (t + d) no_digest) b bs refl refl refl first.node first.order l r

-- ---- the law

-- the leaves of branches, by three lists
leaves_listed : (bs : List Branch) → leaves_of bs ≡ leaves_at (map (λ b. b.pos) bs) (map (λ b. b.name) bs) (map (λ b. b.share) bs)
unfolding leaves_at
leaves_listed [] = refl
leaves_listed (b ∷ bs) = ap (λ (l : List Shown). branch_shown b ∷ l) (leaves_listed bs)

-- ascending places are single places
pub places_listed : (low high : ℕ) (bs : List Branch) → AreAscending low high (map (λ b. b.pos) bs) → ArePlacesBetween low high (leaves_of bs)
places_listed low high [] h = tt
places_listed low high (b ∷ bs) h = (refl, h.0, h.1, places_listed (b.pos + 1) high bs h.2)

-- the tree of a branch that opens
branch_tree-in : (d : ℕ) (root : Digest) (b : Branch) → IsBranch d root b → branch_tree d b ≡ tree_in d 0 0 b
branch_tree-in d root b h = opened-tree d 0 0 b b.nodes (λ i lt. let e : i ≡ 0 + i = omega arith in ap (λ (k : ℕ). get_or b.nodes k no_digest) e)

branch_fits : (d : ℕ) (root : Digest) (b : Branch) → IsBranch d root b → IsFit root (tree_in d 0 0 b)
branch_fits d root b h =
    subst (IsFit root) (branch_tree-in d root b h) (record {
      sized = opening-sized d (one_leaf b.pos b.name b.share) b.nodes h.opening;
      digest = ap (λ (bytes : List ℕ). record { 0 = bytes }) ((bytes_eq-Decides _ _).0 h.opens.value);
      order = h.opens.order;
    })

-- they are one opening of all their leaves
pub merged_opens : (d : ℕ) (root g : Digest) (bs : List Branch) → 0 < length bs → AreBranches d root bs
    → Opens d (leaves_at (map (λ b. b.pos) bs) (map (λ b. b.name) bs) (map (λ b. b.share) bs)) (merged_nodes d 0 0 g bs) root
merged_opens d root g bs some h =
    let zero_first : 2 ^ d ≡ 0 + 2 ^ d = omega arith in
    let m : IsMerged d 0 0 g root bs =
    merged d 0 0 g root bs (λ e. absurd (omega (arith, some, e)))
    (subst (λ (k : ℕ). ArePlacesBetween 0 k (leaves_of bs)) zero_first (places_listed 0 (2 ^ d) bs h.places))
    (each-then _ _ (branch_fits d root) bs h.each)
    (along-weaken (IsBranch d root) (BranchesAgree d) (Alike d 0 0) bs (λ x y hx hy e.
    subst₂ (λ (p q : Part). clash_at p q ≡ None) (branch_tree-in d root x hx) (branch_tree-in d root y hy) e) h.each h.alike) in
    subst (λ (ss : List Shown). Opens d ss (merged_nodes d 0 0 g bs) root) (leaves_listed bs) (record {
      count = eq-eqb _ _ m.count;
      order = m.order;
      value = (bytes_eq-Decides _ _).1 (ap (λ (x : Digest). x.0) m.digest);
    })
