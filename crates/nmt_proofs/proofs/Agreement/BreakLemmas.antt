-- The first node that leaves a place, by the parts of an opening.
use Rattle.std.proofs.Common.{◌≡◌, ◌∙◌, ℕ, suc, ◌+◌, List, [], ◌∷◌, ◌++◌, Bool, true, false, cond, Option, Some, None, ap, ap₂, sym, refl, length, take, drop, get_or, arith}
use Rattle.std.specs.Prelude.{nat_lt}
use Rattle.std.specs.Option.{option_or}
use Rattle.namespace_id.specs.declared.namespaces.Namespace.{Namespace}
use Rattle.namespace_id.specs.declared.digests.Digest.{Digest}
use Rattle.nmt_proofs.specs.Complete.{excludes, first_break}

-- a choice between what is found first and what is found behind it
or_choice : (k : Bool) (a b : Option ℕ) (i : ℕ) → cond k (option_or a b) (Some i) ≡ option_or (cond k a (Some i)) b
or_choice true a b i = refl
or_choice false a b i = refl

-- without nodes none leaves a place
first_break-none : (name : Namespace) (from number : ℕ) (xs : List (ℕ × ℕ)) → first_break name from number xs [] ≡ None
unfolding first_break
first_break-none name from number [] = refl
first_break-none name from number (x ∷ xs) = refl

-- first the left intervals with their nodes, then the right ones
pub first_break-append : (name : Namespace) (from number : ℕ) (xs ys : List (ℕ × ℕ)) (ns : List Digest)
    → first_break name from number (xs ++ ys) ns ≡ option_or (first_break name from number xs (take (length xs) ns)) (first_break name from (number + length xs) ys (drop (length xs) ns))
unfolding first_break
first_break-append name from number [] ys ns = let e : number ≡ number + 0 = omega arith in ap (λ (k : ℕ). first_break name from k ys ns) e
first_break-append name from number (x ∷ xs) ys [] = sym (first_break-none name from (number + suc (length xs)) ys)
first_break-append name from number (x ∷ xs) ys (n ∷ ns) =
    let e : suc number + length xs ≡ number + suc (length xs) = omega arith in
    let front : Option ℕ = first_break name from (suc number) xs (take (length xs) ns) in
    let test : Bool = excludes name (nat_lt x.0 from) n in
    ap (λ (o : Option ℕ). cond test o (Some number)) (first_break-append name from (suc number) xs ys ns)
    ∙ or_choice test front (first_break name from (suc number + length xs) ys (drop (length xs) ns)) number
    ∙ ap (λ (k : ℕ). option_or (cond test front (Some number)) (first_break name from k ys (drop (length xs) ns))) e

-- one interval and one node
pub first_break-one : (name : Namespace) (from number : ℕ) (x : ℕ × ℕ) (ns : List Digest) (o : Digest) → length ns ≡ 1
    → first_break name from number (x ∷ []) ns ≡ cond (excludes name (nat_lt x.0 from) (get_or ns 0 o)) None (Some number)
unfolding first_break
first_break-one name from number x [] o h = absurd (omega arith)
first_break-one name from number x (n ∷ ns) o h = refl

-- no interval
pub first_break-nothing : (name : Namespace) (from number : ℕ) (xs : List (ℕ × ℕ)) (ns : List Digest) → xs ≡ [] → None ≡ first_break name from number xs ns
unfolding first_break
first_break-nothing name from number xs ns e = sym (ap (λ (l : List (ℕ × ℕ)). first_break name from number l ns) e)

-- an interval that takes one node, whether or not that leaves a place
pub first_break-only : (name : Namespace) (from number start depth : ℕ) (xs : List (ℕ × ℕ)) (ns : List Digest) (o : Digest) (b : Bool) → xs ≡ (start, depth) ∷ []
    → length ns ≡ length xs → b ≡ excludes name (nat_lt start from) (get_or ns 0 o) → cond b None (Some number) ≡ first_break name from number xs ns
first_break-only name from number start depth xs ns o b e count test =
    ap (λ (c : Bool). cond c None (Some number)) test
    ∙ sym (ap (λ (l : List (ℕ × ℕ)). first_break name from number l ns) e ∙ first_break-one name from number (start, depth) ns o (count ∙ ap length e))

-- what is found in the left half is found
pub first_break-left : (name : Namespace) (from number found k : ℕ) (whole xs ys : List (ℕ × ℕ)) (ns ln : List Digest) → whole ≡ xs ++ ys → k ≡ length xs → ln ≡ take k ns
    → Some found ≡ first_break name from number xs ln → Some found ≡ first_break name from number whole ns
first_break-left name from number found k whole xs ys ns ln e ek eln h =
    let rest : Option ℕ = first_break name from (number + length xs) ys (drop (length xs) ns) in
    sym (ap (λ (w : List (ℕ × ℕ)). first_break name from number w ns) e
    ∙ first_break-append name from number xs ys ns
    ∙ ap (λ (m : ℕ). option_or (first_break name from number xs (take m ns)) rest) (sym ek)
    ∙ ap (λ (l : List Digest). option_or (first_break name from number xs l) rest) (sym eln)
    ∙ ap (λ (o : Option ℕ). option_or o rest) (sym h))

-- where nothing is found there, what is found in the right half
pub first_break-right : (name : Namespace) (from number next k : ℕ) (whole xs ys : List (ℕ × ℕ)) (ns ln rn : List Digest) (r : Option ℕ) → whole ≡ xs ++ ys → k ≡ length xs → ln ≡ take k ns → rn ≡ drop k ns
    → next ≡ number + k → None ≡ first_break name from number xs ln → r ≡ first_break name from next ys rn → r ≡ first_break name from number whole ns
first_break-right name from number next k whole xs ys ns ln rn r e ek eln ern en h g =
    sym (ap (λ (w : List (ℕ × ℕ)). first_break name from number w ns) e
    ∙ first_break-append name from number xs ys ns
    ∙ ap (λ (m : ℕ). option_or (first_break name from number xs (take m ns)) (first_break name from (number + m) ys (drop m ns))) (sym ek)
    ∙ ap₂ (λ (l q : List Digest). option_or (first_break name from number xs l) (first_break name from (number + k) ys q)) (sym eln) (sym ern)
    ∙ ap (λ (m : ℕ). option_or (first_break name from number xs ln) (first_break name from m ys rn)) (sym en)
    ∙ ap (λ (o : Option ℕ). option_or o (first_break name from next ys rn)) (sym h)
    ∙ sym g)
