-- The extension of a square that has a header, as far as its samples need it.
use Rattle.std.specs.Prelude.{◌≡◌}
use Rattle.data_header.specs.Headers.{Roots}
use Rattle.square_layout.specs.Blocks.{SquareShares}
use Rattle.axis_roots.specs.Grids.{IsHeaderOf}
use Rattle.square_serve.specs.Serving.{Holds}
use Rattle.da_serving.specs.declared.extension.Extension.{Extension}
use Rattle.da_serving.specs.declared.extension.Extension.TheVariants.{Whole, Left}

-- what is kept of it is a square's, with this header
abbrev pub KeepsExtension : Extension → SquareShares → Roots → Type 0
KeepsExtension (Whole held) square header = Holds held square × (held.header ≡ header)
KeepsExtension (Left half) square header = (half.square ≡ square) × (half.header ≡ header)

-- it is that of a square, and this is the square's header
abbrev pub IsExtensionOf : Extension → SquareShares → Roots → Type 0
IsExtensionOf extension square header = IsHeaderOf header square × KeepsExtension extension square header
