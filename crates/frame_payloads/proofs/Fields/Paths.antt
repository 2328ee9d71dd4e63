-- The fields of a sample that are read are those that were written, and those that were written are read.
use Rattle.std.proofs.Common.{◌≡◌, ◌∙◌, ℕ, zero, suc, ◌≤◌, false, ltb, eqb, List, [], ◌∷◌, ◌++◌, length, Option, Some, refl, sym, ap, ap₂, subst, arith, ltb-false, le-ltb}
use Rattle.std.proofs.lemmas.Bool.Decides.{nat_tests}
use Rattle.std.proofs.lemmas.Option.{some_pair_parts}
use Rattle.namespace_id.specs.declared.cells.Axis.{Axis}
use Rattle.namespace_id.specs.declared.cells.Axis.TheVariants.{Row, Col}
use Rattle.namespace_id.specs.declared.digests.Digest.{Digest}
use Rattle.namespace_id.specs.Bytes.{AreBytes}
use Rattle.namespace_id.specs.Digests.{AreDigests}
use Rattle.frame_fields.specs.Fields.{byte_at, digests_at, axis_at, path_at}
use Rattle.frame_payloads.specs.codec.Texts.{digest_bytes, axis_byte}
use Rattle.frame_payloads.proofs.Fields.Readers.{bind_some, if_false, if_false_again, Takes, Takes-then}
use Rattle.frame_payloads.proofs.Fields.Strings.{AreBytes-rest, byte_takes}
use Rattle.frame_payloads.proofs.Fields.Digests.{digests_take, digests_again}

-- ---- the axis

-- an axis that is answered is the one whose byte stands at the front
axis_is : (byte : ℕ) (bytes : List ℕ) (read axis : Axis) (rest : List ℕ) → byte ≡ axis_byte read → AreBytes (byte ∷ bytes) → ◌≡◌ {A = Option (Axis × List ℕ)} (Some (read, bytes)) (Some (axis, rest)) → Takes (byte ∷ bytes) (axis_byte axis ∷ []) rest
axis_is byte bytes read axis rest b fits e =
    let same = some_pair_parts read axis bytes rest e in
    let parts : byte ∷ bytes ≡ axis_byte axis ∷ rest = ap₂ (λ (x : ℕ) (xs : List ℕ). x ∷ xs) (b ∙ ap (λ (a : Axis). axis_byte a) same.0) same.1 in
    record { parts = parts; rest_fits = subst (λ (l : List ℕ). AreBytes l) same.1 (AreBytes-rest byte bytes fits) }

-- an axis that is read is the one that was written
pub axis_takes : (bytes : List ℕ) (axis : Axis) (rest : List ℕ) → AreBytes bytes → axis_at bytes ≡ Some (axis, rest) → Takes bytes (axis_byte axis ∷ []) rest
unfolding axis_at
axis_takes [] axis rest fits e = absurd cc
axis_takes (zero ∷ bytes) axis rest fits e = axis_is 0 bytes Row axis rest refl fits e
axis_takes (suc zero ∷ bytes) axis rest fits e = axis_is 1 bytes Col axis rest refl fits e
axis_takes (suc (suc b) ∷ bytes) axis rest fits e =
    let row : eqb (suc (suc b)) 0 ≡ false = grind (arith, nat_tests) in
    let col : eqb (suc (suc b)) 1 ≡ false = grind (arith, nat_tests) in
    absurd cc

-- an axis that was written is read, whatever follows it
pub axis_again : (axis : Axis) (rest : List ℕ) → axis_at (axis_byte axis ∷ rest) ≡ Some (axis, rest)
unfolding axis_at
axis_again Row rest = refl
axis_again Col rest = refl

-- ---- the path

-- a path that is read is the one that was written, and is within the limit
pub path_takes : (limit : ℕ) (bytes : List ℕ) (path : List Digest) (rest : List ℕ) → AreBytes bytes → path_at limit bytes ≡ Some (path, rest) → Takes bytes (length path ∷ digest_bytes path) rest × (length path ≤ limit) × AreDigests path
unfolding path_at
path_takes limit bytes path rest fits e =
    let read : List Digest × List ℕ = (path, rest) in
    let a = bind_some (byte_at bytes) _ read e in
    let t = byte_takes bytes a.0.0 a.0.1 fits a.1 in
    let b = if_false (ltb limit a.0.0) (digests_at a.0.0 a.0.1) read a.2 in
    let d = digests_take a.0.0 a.0.1 path rest t.0.rest_fits b.1 in
    let few : a.0.0 ≤ limit = ltb-false limit a.0.0 b.0 in
    let both : Takes bytes (a.0.0 ∷ digest_bytes path) rest = Takes-then bytes (a.0.0 ∷ []) a.0.1 (digest_bytes path) rest t.0 d.0 in
    (subst (λ (n : ℕ). Takes bytes (n ∷ digest_bytes path) rest) (sym d.1) both, omega (arith, d.1, few), d.2)

-- a path within the limit that was written is read, whatever follows it
pub path_again : (limit : ℕ) (path : List Digest) (rest : List ℕ) → length path ≤ limit → AreDigests path → path_at limit (length path ∷ digest_bytes path ++ rest) ≡ Some (path, rest)
unfolding path_at
path_again limit path rest few all =
    if_false_again (ltb limit (length path)) (digests_at (length path) (digest_bytes path ++ rest)) (path, rest) (le-ltb _ _ few) (digests_again path rest all)
