-- The strings of a collision that two trees name.
use Rattle.std.proofs.Common.{◌≡◌, ℕ, suc, Bool, true, false, ◌||◌, cond, List, ◌∷◌, ◌++◌, length, Some, None, IfSome, ap₂, subst, arith}
use Rattle.std.specs.Prelude.{◌==◌}
use Rattle.std.proofs.lemmas.Bool.Decides.{nat_tests}
use Rattle.std.specs.declared.option.Option.{Option}
use Rattle.std.specs.Option.{option_or}
use Rattle.std.specs.Str.{bytes_eq}
use Rattle.nmt_proofs.specs.Parts.{Part, given, leaf, join, digest_of}
use Rattle.nmt_proofs.specs.Clashes.{clash_at}
use Rattle.frame_payloads.specs.kinds.Clash.{has_empty}

-- none of two strings is empty
abbrev AreFull : List ℕ × List ℕ → Type 0
AreFull texts = has_empty (record { left = texts.0; right = texts.1 }) ≡ false

-- a number that is more than one other isn't 0
above_zero : (n : ℕ) → (suc n == 0) ≡ false
above_zero n = grind (arith, nat_tests)

-- strings with a first byte aren't empty, by their test
apart_by : (b : Bool) (x y : ℕ) (left right : List ℕ) (rest : Option (List ℕ × List ℕ)) → IfSome rest AreFull
    → IfSome (cond b rest (Some (x ∷ left, y ∷ right))) AreFull
apart_by true x y left right rest full = full
apart_by false x y left right rest full = ap₂ (λ (a b : Bool). a || b) (above_zero (length left)) (above_zero (length right))

-- of two options the one that is there holds strings that aren't empty
full_or : (o p : Option (List ℕ × List ℕ)) → IfSome o AreFull → IfSome p AreFull → IfSome (option_or o p) AreFull
full_or None p first second = second
full_or (Some texts) p first second = first

-- the strings that two trees name aren't empty: each begins with the byte of a leaf or a node
clash_full : (one other : Part) → IfSome (clash_at one other) AreFull
unfolding clash_at
clash_full (given d) other = tt
clash_full (leaf name share) (given e) = tt
clash_full (leaf name share) (leaf name' share') =
    apart_by (bytes_eq (0 ∷ name.0 ++ share.0) (0 ∷ name'.0 ++ share'.0)) 0 0 (name.0 ++ share.0) (name'.0 ++ share'.0) None tt
clash_full (leaf name share) (join left' right') = tt
clash_full (join left right) (given e) = tt
clash_full (join left right) (leaf name' share') = tt
clash_full (join left right) (join left' right') =
    let texts = (digest_of left).0 ++ (digest_of right).0 in
    let texts' = (digest_of left').0 ++ (digest_of right').0 in
    apart_by (bytes_eq (1 ∷ texts) (1 ∷ texts')) 1 1 texts texts' (option_or (clash_at left left') (clash_at right right'))
    (full_or (clash_at left left') (clash_at right right') (clash_full left left') (clash_full right right'))

-- no string of a collision that two trees name is empty
pub found_full : (one other : Part) (left right : List ℕ) → clash_at one other ≡ Some (left, right) → has_empty (record { left = left; right = right }) ≡ false
found_full one other left right found = subst (λ (o : Option (List ℕ × List ℕ)). IfSome o AreFull) found (clash_full one other)
