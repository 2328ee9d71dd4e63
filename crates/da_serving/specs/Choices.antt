-- Outputs that are a choice: of the frames that each request allows, one.
use Rattle.std.specs.Prelude.{◌≡◌, ℕ, List, [], ◌∷◌, ◌++◌, Some, IsSome}
use Rattle.da_wire.specs.declared.frames.Frame.{Frame}
use Rattle.da_wire.specs.Spelling.{spelling}

-- for each request, in their order, a frame that it allows; the bytes are the spellings of these, one after
-- another
unfoldable pub FramesOf : {A : Type 0} → (A → Frame → Type 0) → List A → List ℕ → Type 0
FramesOf Allows [] w = w ≡ []
FramesOf Allows (request ∷ requests) w =
    (frame : Frame) × (text : List ℕ) × (rest : List ℕ) × Allows request frame × (spelling frame ≡ Some text)
    × (w ≡ text ++ rest) × FramesOf Allows requests rest

-- a request allows a frame that has a spelling
abbrev pub HasFrame : {A : Type 0} → (A → Frame → Type 0) → A → Type 0
HasFrame Allows request = (frame : Frame) × Allows request frame × IsSome (spelling frame)
