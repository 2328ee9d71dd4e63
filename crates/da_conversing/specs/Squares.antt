-- SQUARE, read and held before TALK is picked.
use Rattle.std.specs.Prelude.{ℕ, List, ⊤, Ok, Err, Result}
use Rattle.std.specs.declared.option.Option.{Option}
use Rattle.da_io.specs.Files.{Files}
use Rattle.da_io.specs.declared.inputs.LastCall.{LastCall}
use Rattle.square_layout.specs.Blocks.{SquareShares}
use Rattle.square_serve.specs.Serving.{HeldParts, Holds}
use Rattle.axis_roots.specs.Grids.{HasNoHeader}
use Rattle.da_status.specs.declared.status.Asked.TheVariants.{NoHeader}
use Rattle.da_status.specs.declared.status.Status.{Status}
use Rattle.da_status.specs.declared.status.Status.TheVariants as status
use Rattle.da_files.specs.Frames.{square_in}
use Rattle.da_conversing.specs.Inputs.{HasValue, IsNoValue, ReadsValue}

-- the file with a name is within the limit, and this is what it is as a square, where files are told
abbrev pub HasSquare : Option Files → List ℕ → Result SquareShares ℕ → Type 0
HasSquare told name square = HasValue square_in told name square

-- why file 0, which has this name, isn't a square: it isn't read, or leaves the form of a square
abbrev pub IsNoSquare : Option Files → List ℕ → LastCall → ℕ → Status → Type 0
IsNoSquare told name last given why = IsNoValue square_in 0 told name last given why

-- the square that it is, or why it is none
abbrev pub ReadsSquare : Option Files → List ℕ → LastCall → ℕ → Result SquareShares Status → Type 0
ReadsSquare told name last given square = ReadsValue square_in 0 told name last given square

-- a square is held, or has no header, or memory ran out
abbrev pub HoldsSquare : SquareShares → Result HeldParts Status → Type 0
HoldsSquare square (Ok held) = Holds held square
HoldsSquare square (Err (status.BadRequest NoHeader)) = HasNoHeader square
HoldsSquare square (Err status.NoMemory) = ⊤
HoldsSquare square (Err other) = ⊥
