-- Where two parts first differ, by their halves.
use Rattle.std.proofs.Common.{◌≡◌, ◌∙◌, ◌+◌, ◌-◌, ◌^◌, List, ℕ, Bor, Bool, true, false, cond, Option, Some, None, refl, sym, ap, ap₂}
use Rattle.std.specs.Option.{option_or, is_some}
use Rattle.std.specs.Str.{bytes_eq}
use Rattle.std.proofs.lemmas.Bool.{true≢false}
use Rattle.namespace_id.specs.declared.namespaces.Namespace.{Namespace}
use Rattle.namespace_id.specs.declared.shares.Share.{Share}
use Rattle.namespace_id.specs.declared.digests.Digest.{Digest}
use Rattle.hash_clash.specs.declared.sides.Side.{Side}
use Rattle.hash_clash.specs.declared.sides.Seen.{Seen}
use Rattle.hash_clash.specs.declared.sides.Seen.TheVariants.{Given, Leaf, Join}
use Rattle.hash_clash.specs.Sides.{part_of, IsSeenAs, IsJoined}
use Rattle.nmt_proofs.specs.Parts.{Part, given, leaf, join, digest_of}
use Rattle.nmt_proofs.specs.Clashes.{leaf_text, join_text, apart_or, clash_at}

-- of two leaves
pub of_leaves : (p q : Part) (n m : Namespace) (s t : Share) (x y : List ℕ) (found : Option (List ℕ × List ℕ)) → p ≡ leaf n s → q ≡ leaf m t
    → x ≡ leaf_text n s → y ≡ leaf_text m t → found ≡ apart_or x y None → found ≡ clash_at p q
unfolding clash_at
of_leaves p q n m s t x y found ep eq ex ey is = is ∙ ap₂ (λ a b. apart_or a b None) ex ey ∙ sym (ap₂ clash_at ep eq)

-- a comparison of two strings is the first of two searches
apart_first : (b : Bool) (w : List ℕ × List ℕ) (rest : Option (List ℕ × List ℕ)) → cond b rest (Some w) ≡ option_or (cond b None (Some w)) rest
apart_first true w rest = refl
apart_first false w rest = refl

-- of two joins: what their strings show, else the left halves, else the right ones
of_joins : (p q l r u v : Part) (x y : List ℕ) (found : Option (List ℕ × List ℕ)) → p ≡ join l r → q ≡ join u v
    → x ≡ join_text (digest_of l) (digest_of r) → y ≡ join_text (digest_of u) (digest_of v) → found ≡ apart_or x y None
    → clash_at p q ≡ option_or found (option_or (clash_at l u) (clash_at r v))
unfolding clash_at
of_joins p q l r u v x y found ep eq ex ey is =
    let rest : Option (List ℕ × List ℕ) = option_or (clash_at l u) (clash_at r v) in
    ap₂ clash_at ep eq ∙ sym (ap₂ (λ a b. apart_or a b rest) ex ey) ∙ apart_first (bytes_eq x y) (x, y) rest ∙ ap (λ o. option_or o rest) (sym is)

-- what the first of two searches finds is found
some_first : (o p : Option (List ℕ × List ℕ)) → is_some o ≡ true → option_or o p ≡ o
some_first None p h = absurd (true≢false (sym h))
some_first (Some w) p h = refl

-- where it finds nothing, the second says
none_first : (o p : Option (List ℕ × List ℕ)) → is_some o ≡ false → option_or o p ≡ p
none_first None p h = refl
none_first (Some w) p h = absurd (true≢false h)

-- of two joins whose strings differ
pub of_roots : (p q l r u v : Part) (x y : List ℕ) (found : Option (List ℕ × List ℕ)) → p ≡ join l r → q ≡ join u v
    → x ≡ join_text (digest_of l) (digest_of r) → y ≡ join_text (digest_of u) (digest_of v) → found ≡ apart_or x y None → is_some found ≡ true → found ≡ clash_at p q
of_roots p q l r u v x y found ep eq ex ey is some =
    sym (of_joins p q l r u v x y found ep eq ex ey is ∙ some_first found (option_or (clash_at l u) (clash_at r v)) some)

-- of two joins whose strings don't
of_halves : (p q l r u v : Part) (x y : List ℕ) (found : Option (List ℕ × List ℕ)) → p ≡ join l r → q ≡ join u v
    → x ≡ join_text (digest_of l) (digest_of r) → y ≡ join_text (digest_of u) (digest_of v) → found ≡ apart_or x y None → is_some found ≡ false
    → clash_at p q ≡ option_or (clash_at l u) (clash_at r v)
of_halves p q l r u v x y found ep eq ex ey is none =
    of_joins p q l r u v x y found ep eq ex ey is ∙ none_first found (option_or (clash_at l u) (clash_at r v)) none

-- of two joins whose left halves differ
pub of_left : (p q l r u v : Part) (x y : List ℕ) (found left : Option (List ℕ × List ℕ)) → p ≡ join l r → q ≡ join u v
    → x ≡ join_text (digest_of l) (digest_of r) → y ≡ join_text (digest_of u) (digest_of v) → found ≡ apart_or x y None → is_some found ≡ false
    → left ≡ clash_at l u → is_some left ≡ true → left ≡ clash_at p q
of_left p q l r u v x y found left ep eq ex ey is none el some =
    el ∙ sym (of_halves p q l r u v x y found ep eq ex ey is none ∙ some_first (clash_at l u) (clash_at r v) (sym (ap is_some el) ∙ some))

-- and of two joins whose left halves don't
pub of_right : (p q l r u v : Part) (x y : List ℕ) (found left right : Option (List ℕ × List ℕ)) → p ≡ join l r → q ≡ join u v
    → x ≡ join_text (digest_of l) (digest_of r) → y ≡ join_text (digest_of u) (digest_of v) → found ≡ apart_or x y None → is_some found ≡ false
    → left ≡ clash_at l u → is_some left ≡ false → right ≡ clash_at r v → right ≡ clash_at p q
of_right p q l r u v x y found left right ep eq ex ey is none el none' er =
    er ∙ sym (of_halves p q l r u v x y found ep eq ex ey is none ∙ none_first (clash_at l u) (clash_at r v) (sym (ap is_some el) ∙ none'))

-- a given digest has no string
pub given_first : (p q : Part) (d : Digest) → p ≡ given d → None ≡ clash_at p q
unfolding clash_at
given_first p q d e = sym (ap (λ (x : Part). clash_at x q) e)

-- a leaf beside what is none
pub leaf_alone : (depth start : ℕ) (p : Part) (n : Namespace) (s : Share) (b : Side) (seen : Seen) → p ≡ leaf n s → IsSeenAs depth start b seen
    → ((x : Bor Namespace) (y : Bor Share) → seen ≡ Leaf x y → ⊥) → None ≡ clash_at p (part_of depth start b)
unfolding clash_at
leaf_alone depth start p n s b (Given d) e h other = sym (ap₂ clash_at e h)
leaf_alone depth start p n s b (Leaf x y) e h other = absurd (other x y refl)
leaf_alone depth start p n s b (Join x y) e h other = sym (ap₂ clash_at e h.part)

-- a join beside what is none
pub join_alone : (depth start : ℕ) (p l r : Part) (b : Side) (seen : Seen) → p ≡ join l r → IsSeenAs depth start b seen → ((x y : Side) → seen ≡ Join x y → ⊥)
    → None ≡ clash_at p (part_of depth start b)
unfolding clash_at
join_alone depth start p l r b (Given d) e h other = sym (ap₂ clash_at e h)
join_alone depth start p l r b (Leaf x y) e h other = sym (ap₂ clash_at e h)
join_alone depth start p l r b (Join x y) e h other = absurd (other x y refl)

-- the part of an interval whose half is m places wide
pub joined_at : (depth start m : ℕ) (side l r : Side) → IsJoined depth start side l r → m ≡ 2 ^ (depth - 1)
    → part_of depth start side ≡ join (part_of (depth - 1) start l) (part_of (depth - 1) (start + m) r)
joined_at depth start m side l r h e = h.part ∙ ap (λ (k : ℕ). join (part_of (depth - 1) start l) (part_of (depth - 1) (start + k) r)) (sym e)
