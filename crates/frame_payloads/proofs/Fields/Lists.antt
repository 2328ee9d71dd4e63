-- Lists that are read are those that were written, and lists that were written are read.
use Rattle.std.proofs.Common.{◌≡◌, ℕ, zero, suc, ◌+◌, ◌^◌, ◌<◌, ◌≤◌, List, [], ◌∷◌, ◌++◌, length, Option, Some, refl, sym, ap, subst, arith, append_assoc}
use Rattle.std.specs.Int.{Width, to_be_bytes}
use Rattle.std.specs.List.{flat_map, AllByRecursion}
use Rattle.std.proofs.lemmas.List.{length-append}
use Rattle.std.proofs.lemmas.Option.{some_pair_parts}
use Rattle.namespace_id.specs.Bytes.{AreBytes}
use Rattle.frame_fields.specs.Fields.{count_at, many_at, list_at}
use Rattle.frame_payloads.specs.codec.Texts.{list_bytes}
use Rattle.frame_payloads.proofs.Fields.Readers.{bind_some, Takes, Takes-is, Takes-then}
use Rattle.frame_payloads.proofs.Fields.Numbers.{IsWide, count_takes, count_again}
use Rattle.frame_payloads.proofs.Fields.Texts.{IsField}

-- ---- values, one after another

-- values that are read one after another are those that were written
many_take : {A : Type 0} (read : List ℕ → Option (A × List ℕ)) (text : A → List ℕ) (Is : A → Type 0) (field : IsField read text Is) (count : ℕ) (bytes : List ℕ) (xs : List A) (rest : List ℕ)
    → AreBytes bytes → many_at read count bytes ≡ Some (xs, rest) → Takes bytes (flat_map text xs) rest × AllByRecursion Is xs × (length xs ≡ count)
unfolding many_at
many_take read text Is field zero bytes xs rest fits e =
    let same = some_pair_parts [] xs bytes rest e in
    subst (λ (l : List _). Takes bytes (flat_map text l) rest × AllByRecursion Is l × (length l ≡ 0)) same.0
    (record { parts = same.1; rest_fits = subst (λ (l : List ℕ). AreBytes l) same.1 fits }, tt, refl)
many_take {A} read text Is field (suc count) bytes xs rest fits e =
    let all : List A × List ℕ = (xs, rest) in
    let a = bind_some (read bytes) _ all e in
    let b = bind_some (many_at read count a.0.1) _ all a.2 in
    let same = some_pair_parts (a.0.0 ∷ b.0.0) xs b.0.1 rest b.2 in
    let t = field.takes bytes a.0.0 a.0.1 fits a.1 in
    let u = many_take read text Is field count a.0.1 b.0.0 b.0.1 t.0.rest_fits b.1 in
    let both = Takes-then bytes (text a.0.0) a.0.1 (flat_map text b.0.0) b.0.1 t.0 u.0 in
    subst (λ (l : List A). Takes bytes (flat_map text l) rest × AllByRecursion Is l × (length l ≡ suc count)) same.0
    (Takes-is bytes (flat_map text (a.0.0 ∷ b.0.0)) (flat_map text (a.0.0 ∷ b.0.0)) b.0.1 rest refl same.1 both, (t.1, u.1), ap suc u.2)

-- values that were written one after another are read, whatever follows them
many_again : {A : Type 0} (read : List ℕ → Option (A × List ℕ)) (text : A → List ℕ) (Is : A → Type 0) (field : IsField read text Is) (xs : List A) (rest : List ℕ)
    → AllByRecursion Is xs → length (flat_map text xs) < 2 ^ 32 → many_at read (length xs) (flat_map text xs ++ rest) ≡ Some (xs, rest)
unfolding many_at
many_again read text Is field [] rest all few = refl
many_again {A} read text Is field (x ∷ xs) rest all few =
    let tail : List ℕ = flat_map text xs ++ rest in
    let sum : length (text x ++ flat_map text xs) ≡ length (text x) + length (flat_map text xs) = length-append (text x) (flat_map text xs) in
    let here : length (text x) < 2 ^ 32 = omega arith in
    let later : length (flat_map text xs) < 2 ^ 32 = omega arith in
    rw (append_assoc (text x) (flat_map text xs) rest, field.again x tail all.0 here, many_again read text Is field xs rest all.1 later) refl

-- ---- a list behind its count

-- values that are read stand behind their count, which is within the limit
pub list_takes : {A : Type 0} (read : List ℕ → Option (A × List ℕ)) (text : A → List ℕ) (Is : A → Type 0) (field : IsField read text Is)
    (w : Width) (bound : ℕ) (wide : IsWide w bound) (limit : ℕ) (bytes : List ℕ) (xs : List A) (rest : List ℕ)
    → AreBytes bytes → list_at w limit read bytes ≡ Some (xs, rest) → Takes bytes (list_bytes w text xs) rest × AllByRecursion Is xs × (length xs ≤ limit)
unfolding list_at
list_takes {A} read text Is field w bound wide limit bytes xs rest fits e =
    let a = bind_some (count_at w limit bytes) _ (xs, rest) e in
    let t = count_takes w bound wide limit bytes a.0.0 a.0.1 fits a.1 in
    let u = many_take read text Is field a.0.0 a.0.1 xs rest t.0.rest_fits a.2 in
    let both = Takes-then bytes (to_be_bytes w a.0.0) a.0.1 (flat_map text xs) rest t.0 u.0 in
    (subst (λ (n : ℕ). Takes bytes (to_be_bytes w n ++ flat_map text xs) rest) (sym u.2) both, u.1, subst (λ (n : ℕ). n ≤ limit) (sym u.2) t.1)

-- values behind their count are read, where the count fits its width and its limit
pub list_again : {A : Type 0} (read : List ℕ → Option (A × List ℕ)) (text : A → List ℕ) (Is : A → Type 0) (field : IsField read text Is)
    (w : Width) (bound : ℕ) (wide : IsWide w bound) (limit : ℕ) (xs : List A) (rest : List ℕ)
    → AllByRecursion Is xs → length (flat_map text xs) < 2 ^ 32 → length xs < bound → length xs ≤ limit → list_at w limit read (list_bytes w text xs ++ rest) ≡ Some (xs, rest)
unfolding list_at
list_again {A} read text Is field w bound wide limit xs rest all short lt few =
    rw (append_assoc (to_be_bytes w (length xs)) (flat_map text xs) rest, count_again w bound wide limit (length xs) (flat_map text xs ++ rest) lt few) (many_again read text Is field xs rest all short)
