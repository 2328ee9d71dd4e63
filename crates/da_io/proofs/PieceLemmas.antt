-- Lemmas on the front of a piece, which is taken in slices, and on pieces one behind another.
use Rattle.std.proofs.Common.{◌≡◌, ℕ, ◌+◌, ◌-◌, List, [], ◌++◌, length, take, drop, Result, Ok, Err, sym, ap, ◌∙◌, subst, arith, append_assoc, append-nil}
use Rattle.std.proofs.Math.Seq.{take-add}
use Rattle.std.proofs.lemmas.List.{take_rest, length-append}
use Rattle.std.specs.declared.option.Option.{Option}
use Rattle.std.specs.Io.KnownBytes.{Appends}
use Rattle.std.proofs.KnownBytes.{Appends-trans}
use Rattle.da_io.specs.Sinks.{AppendsPart, WritesAll, Gathers}

-- the front of a piece, and then the next n bytes of it
pub appends_on : (a b c : Option (List ℕ)) (bytes : List ℕ) (at n : ℕ) → Appends a b (take at bytes)
    → Appends b c (take n (take (length bytes - at) (drop at bytes))) → Appends a c (take (at + n) bytes)
appends_on a b c bytes at n first second =
    let next : take n (take (length bytes - at) (drop at bytes)) ≡ take n (drop at bytes) = ap (take n) (take_rest bytes at) in
    let joined : take at bytes ++ take n (take (length bytes - at) (drop at bytes)) ≡ take (at + n) bytes =
    ap (λ (l : List ℕ). take at bytes ++ l) next ∙ sym (take-add at n bytes) in
    subst (Appends a c) joined (Appends-trans a b c _ _ first second)

-- a proper prefix of the front is one of the whole
pub part_of_front : (a b : Option (List ℕ)) (front back : List ℕ) → AppendsPart a b front → AppendsPart a b (front ++ back)
part_of_front a b front back p =
    let more = p.1.0 in
    let split : front ++ back ≡ p.0 ++ (more ++ back) = ap (λ (l : List ℕ). l ++ back) p.1.2 ∙ append_assoc p.0 more back in
    (p.0, (more ++ back, omega (arith, p.1.1, length-append more back), split), p.2)

-- the front was taken, and then a proper prefix of the rest
pub part_of_back : (a b c : Option (List ℕ)) (front back : List ℕ) → Appends a b front → AppendsPart b c back → AppendsPart a c (front ++ back)
part_of_back a b c front back first p =
    let split : front ++ back ≡ (front ++ p.0) ++ p.1.0 = ap (λ (l : List ℕ). front ++ l) p.1.2 ∙ sym (append_assoc front p.0 p.1.0) in
    (front ++ p.0, (p.1.0, p.1.1, split), Appends-trans a b c front p.0 first p.2)

-- what was held was taken, and then a line was given to the sink
pub gathers_on : {T E : Type 0} (a b c : Option (List ℕ)) (held line : List ℕ) (result : Result T E) → Appends a b held → WritesAll b c line result
    → Gathers a c held [] line result
gathers_on a b c held line (Ok t) first p = (held ++ line, Appends-trans a b c held line first p, sym (append-nil (held ++ line)))
gathers_on a b c held line (Err e) first p = part_of_back a b c held line first p
