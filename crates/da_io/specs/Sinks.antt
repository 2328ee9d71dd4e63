-- What sinks take of a piece.
use Rattle.std.specs.Prelude.{◌≡◌, ℕ, ◌<◌, List, [], ◌∷◌, ◌++◌, length, ⊤, Result, Ok, IfOk, MatchResult}
use Rattle.std.specs.declared.option.Option.{Option}
use Rattle.std.specs.Io.KnownBytes.{Appends}

-- of a piece that isn't empty at least one byte is taken
abbrev pub TakesSome : {E : Type 0} → Result ℕ E → List ℕ → Type 0
TakesSome result bytes = IfOk result (λ n. 0 < length bytes → 0 < n)

-- of an empty piece nothing is taken, and nothing changes
abbrev pub TakesNothing : {E : Type 0} → List ℕ → Result ℕ E → Type 0 → Type 0
TakesNothing [] result Same = (result ≡ Ok 0) × Same
TakesNothing (_ ∷ _) result Same = ⊤

-- the front of a string, and not all of it
abbrev pub IsProperPrefix : List ℕ → List ℕ → Type 0
IsProperPrefix part whole = (more : List ℕ) × (0 < length more) × (whole ≡ part ++ more)

-- a proper prefix was appended
abbrev pub AppendsPart : Option (List ℕ) → Option (List ℕ) → List ℕ → Type 0
AppendsPart old new whole = (part : List ℕ) × IsProperPrefix part whole × Appends old new part

-- all of a piece was appended, or, where that failed, a proper prefix of it
abbrev pub WritesAll : {T E : Type 0} → Option (List ℕ) → Option (List ℕ) → List ℕ → Result T E → Type 0
WritesAll old new bytes result = MatchResult result (λ _. Appends old new bytes) (λ _. AppendsPart old new bytes)

-- of bytes that were held, with a line behind them, the front was appended and the rest is held; or, where
-- that failed, a proper prefix was appended
abbrev pub Gathers : {T E : Type 0} → Option (List ℕ) → Option (List ℕ) → List ℕ → List ℕ → List ℕ → Result T E → Type 0
Gathers old new held now line result =
    MatchResult result (λ _. (front : List ℕ) × Appends old new front × (held ++ line ≡ front ++ now)) (λ _. AppendsPart old new (held ++ line))
