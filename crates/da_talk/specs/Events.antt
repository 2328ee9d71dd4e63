-- What happens in a talk, in its order.
use Rattle.std.specs.Prelude.{◌≡◌, ℕ, List, [], ◌∷◌, ◌++◌, take, length, ◌<◌, ⊤, Some, None, Ok, Err, Result}
use Rattle.std.specs.declared.option.Option.{Option}
use Rattle.std.specs.List.{flat_map}
use Rattle.std.specs.Io.KnownBytes.{Appends, Consumes, IsAtEnd}
use Rattle.da_io.specs.Sinks.{IsProperPrefix}

-- bytes were heard, none at the end or where that failed; or bytes were said
pub data Event : Type 0 where
  heard : List ℕ → Event
  said : List ℕ → Event

-- the bytes that an event heard
abbrev pub heard_by : Event → List ℕ
heard_by (heard bytes) = bytes
heard_by (said bytes) = []

-- the bytes that an event said
abbrev pub said_by : Event → List ℕ
said_by (heard bytes) = []
said_by (said bytes) = bytes

-- all bytes that were heard, one after another
abbrev pub heard_in : List Event → List ℕ
heard_in events = flat_map heard_by events

-- all bytes that were said, one after another
abbrev pub said_in : List Event → List ℕ
said_in events = flat_map said_by events

-- these events came after those before, where they are still told; what isn't told once is never told again
abbrev pub Grows : Option (List Event) → Option (List Event) → List Event → Type 0
Grows None None more = ⊤
Grows None (Some now) more = ⊥
Grows (Some before) None more = ⊤
Grows (Some before) (Some now) more = now ≡ before ++ more

-- waiting for bytes is one event
abbrev pub Hears : {E : Type 0} → Option (List Event) → Option (List Event) → Result ℕ E → List ℕ → Type 0
Hears old new (Ok n) buf = Grows old new (heard (take n buf) ∷ [])
Hears old new (Err e) buf = Grows old new (heard [] ∷ [])

-- what is heard is gone from the front of what is left, none only at the end or with no room, and nothing is said
abbrev pub TakesBytes : {E : Type 0} → Option (List ℕ) → Option (List ℕ) → Option (List ℕ) → Option (List ℕ) → Result ℕ E → List ℕ → Type 0
TakesBytes rest left before now (Ok n) buf =
    Consumes rest left (take n buf) × Appends before now [] × (n ≡ 0 → 0 < length buf → IsAtEnd left)
TakesBytes rest left before now (Err e) buf = Consumes rest left [] × Appends before now []

-- the bytes that a call said, all of them or, where it failed, a proper prefix
abbrev pub IsSaid : {T E : Type 0} → List ℕ → Result T E → List ℕ → Type 0
IsSaid bytes (Ok x) part = part ≡ bytes
IsSaid bytes (Err e) part = IsProperPrefix part bytes

-- saying is one event, and nothing is heard
pub record GivesBytes {T E : Type 0} (old new : Option (List Event)) (had left before now : Option (List ℕ)) (bytes : List ℕ) (result : Result T E) : Type 0 where
  pub part : List ℕ
  pub is : IsSaid bytes result part
  pub grows : Grows old new (said part ∷ [])
  pub kept : Consumes had left []
  pub taken : Appends before now part
