-- Outputs that are written in pieces.
use Rattle.std.proofs.Common.{◌≡◌, ℕ, List, ◌++◌, sym, ap, ◌∙◌, subst, append_assoc}
use Rattle.std.specs.declared.option.Option.{Option}
use Rattle.std.specs.Io.KnownBytes.{Appends}
use Rattle.std.proofs.KnownBytes.{Appends-trans}
use Rattle.da_io.specs.Sinks.{AppendsPart}
use Rattle.da_io.proofs.PieceLemmas.{part_of_front, part_of_back}

-- of all that is to be written the rest is left
abbrev pub Written : Option (List ℕ) → Option (List ℕ) → List ℕ → List ℕ → Type 0
Written a b all rest = (done : List ℕ) × Appends a b done × (all ≡ done ++ rest)

-- the next piece was taken
pub written_on : (a b c : Option (List ℕ)) (all rest piece more : List ℕ) → Written a b all rest → rest ≡ piece ++ more → Appends b c piece
    → Written a c all more
written_on a b c all rest piece more w e next =
    let split : all ≡ (w.0 ++ piece) ++ more = w.2 ∙ ap (λ (l : List ℕ). w.0 ++ l) e ∙ sym (append_assoc w.0 piece more) in
    (w.0 ++ piece, Appends-trans a b c w.0 piece w.1 next, split)

-- a proper prefix of the next piece was taken
pub written_part : (a b c : Option (List ℕ)) (all rest piece more : List ℕ) → Written a b all rest → rest ≡ piece ++ more → AppendsPart b c piece
    → AppendsPart a c all
written_part a b c all rest piece more w e next =
    let split : all ≡ w.0 ++ (piece ++ more) = w.2 ∙ ap (λ (l : List ℕ). w.0 ++ l) e in
    subst (AppendsPart a c) (sym split) (part_of_back a b c w.0 (piece ++ more) w.1 (part_of_front b c piece more next))

-- ---- lines that are held before they are written

-- a line was added to what is held
pub gathered_on : (a b c : Option (List ℕ)) (all rest held line more now : List ℕ) → Written a b all (held ++ rest) → rest ≡ line ++ more
    → ((front : List ℕ) × Appends b c front × (held ++ line ≡ front ++ now)) → Written a c all (now ++ more)
gathered_on a b c all rest held line more now w e g =
    let split : held ++ rest ≡ g.0 ++ (now ++ more) =
    ap (λ (l : List ℕ). held ++ l) e ∙ sym (append_assoc held line more) ∙ ap (λ (l : List ℕ). l ++ more) g.2 ∙ append_assoc g.0 now more in
    written_on a b c all (held ++ rest) g.0 (now ++ more) w split g.1

-- a proper prefix of what was held, with a line behind it, was taken
pub gathered_part : (a b c : Option (List ℕ)) (all rest held line more : List ℕ) → Written a b all (held ++ rest) → rest ≡ line ++ more
    → AppendsPart b c (held ++ line) → AppendsPart a c all
gathered_part a b c all rest held line more w e part =
    written_part a b c all (held ++ rest) (held ++ line) more w (ap (λ (l : List ℕ). held ++ l) e ∙ sym (append_assoc held line more)) part
