-- Files that are one value's spelling, and the square of a block.
use Rattle.std.proofs.Common.{◌≡◌, ◌∙◌, ◌↔◌, ℕ, true, List, [], ◌∷◌, Option, None, Some, IsSome, Result, Ok, Err, refl, ap}
use Rattle.std.specs.Option.{option_map_or}
use Rattle.namespace_id.specs.Bytes.{AreBytes}
use Rattle.namespace_id.specs.Shares.{AreShares}
use Rattle.data_header.specs.Headers.{Roots, IsHeader}
use Rattle.square_layout.specs.Blocks.{SquareShares, IsSquare}
use Rattle.da_wire.specs.declared.frames.Frame.{Frame}
use Rattle.da_wire.specs.declared.frames.Frame.TheVariants.{Header, Square}
use Rattle.da_wire.specs.declared.frames.Frame.TheVariants as frames
use Rattle.da_wire.specs.declared.frames.FrameError.{FrameError}
use Rattle.da_wire.specs.Spelling.{spelling, IsFrame, header_kind, square_kind}
use Rattle.da_wire.specs.Writing.{kind_of}
use Rattle.da_wire.specs.Reading.{is_among, only_of}
use Rattle.da_wire.specs.Laws.{OnlyIsSpelled, SpelledIsOnly}
use Rattle.da_wire.specs.Single.{header_of, square_of}
use Rattle.da_files.specs.declared.frames.BlockOrList.{BlockOrList}
use Rattle.da_files.specs.declared.frames.BlockOrList.TheVariants as either
use Rattle.da_files.specs.Frames.{single_file, header_in, square_in, block_kinds, block_or_list_of, block_or_list_frame, block_or_list_in}

-- a frame whose value of a kind is this one is that value's frame
header_frame : (frame : Frame) (header : Roots) → header_of frame ≡ Some header → frame ≡ Header header
header_frame (Header h) header e = cc
header_frame frame header e = absurd cc

-- a frame with this square is the frame of the square
square_frame : (frame : Frame) (square : SquareShares) → square_of frame ≡ Some square → frame ≡ Square square
square_frame (Square s) square e = cc
square_frame frame square e = absurd cc

module _ {A : Type 0} (value : Frame → Option A) (make : A → Frame) (is_made : (frame : Frame) (x : A) → value frame ≡ Some x → frame ≡ make x)
    (is_value : (x : A) → value (make x) ≡ Some x) where
  -- a frame with a value is the frame of the value, by what the frame is read as
  made_by : (frame : Frame) (o : Option A) (x : A) → value frame ≡ o → option_map_or {U = Result A ℕ} Ok o (Err 0) ≡ Ok x → frame ≡ make x
  made_by frame None x e h = absurd cc
  made_by frame (Some y) x e h = let same : y ≡ x = cc in is_made frame x (e ∙ ap Some same)

  -- a file is read as a value where it is read as the value's frame, and the other way
  pub single_value : (read : Result Frame FrameError) (x : A) → single_file value read ≡ Ok x → read ≡ Ok (make x)
  single_value (Err error) x h = absurd cc
  single_value (Ok frame) x h = ap Ok (made_by frame (value frame) x refl h)

  -- a file that is read as a value's frame is read as the value
  pub value_single : (read : Result Frame FrameError) (x : A) → read ≡ Ok (make x) → single_file value read ≡ Ok x
  value_single read x h =
      ap (single_file value) h ∙ ap (λ (o : Option A). option_map_or {U = Result A ℕ} Ok o (Err 0)) (is_value x)

  -- a file is read as a value of some kinds exactly where it is its one spelling
  file_is : (kinds : List ℕ) → ((x : A) → is_among kinds (kind_of (make x)) ≡ true) → OnlyIsSpelled → (bytes : List ℕ) (x : A) → AreBytes bytes
      → (single_file value (only_of bytes kinds) ≡ Ok x) ↔ (IsFrame (make x) × (spelling (make x) ≡ Some bytes))
  file_is kinds among only bytes x fits =
      let law = only (make x) bytes kinds fits in (
        λ h. let is = law.0 (single_value (only_of bytes kinds) x h) in (is.0, is.1),
        λ h. value_single (only_of bytes kinds) x (law.1 (h.0, h.1, among x)),
      )

-- a file is read as a header exactly where it is the header's one spelling
pub header_file : OnlyIsSpelled → (bytes : List ℕ) (header : Roots) → AreBytes bytes
    → (header_in bytes ≡ Ok header) ↔ (IsHeader header × (spelling (Header header) ≡ Some bytes))
header_file = file_is header_of Header header_frame (λ x. refl) (header_kind ∷ []) (λ x. refl)

-- a file is read as a square exactly where it is the square's one spelling
pub square_file : OnlyIsSpelled → (bytes : List ℕ) (square : SquareShares) → AreBytes bytes
    → (square_in bytes ≡ Ok square) ↔ (IsSquare square × AreShares square.shares × (spelling (Square square) ≡ Some bytes))
square_file only bytes square fits =
    let law = file_is square_of Square square_frame (λ x. refl) (square_kind ∷ []) (λ x. refl) only bytes square fits in
    (λ h. let is = law.0 h in (is.0.0, is.0.1, is.1), λ h. law.1 ((h.0, h.1), h.2))

-- ---- a block, or a list of transactions

-- a frame of one of their kinds is one of theirs
pub block_or_list_there : (frame : Frame) → is_among block_kinds (kind_of frame) ≡ true → IsSome (block_or_list_of frame)
block_or_list_there (frames.Block block) e = refl
block_or_list_there (frames.Transactions transactions) e = refl
block_or_list_there frame e = absurd cc

-- a frame that is one is its frame
block_or_list_made : (frame : Frame) (value : BlockOrList) → block_or_list_of frame ≡ Some value → frame ≡ block_or_list_frame value
block_or_list_made (frames.Block block) value e = let same : either.Block block ≡ value = cc in ap block_or_list_frame same
block_or_list_made (frames.Transactions transactions) value e =
    let same : either.Transactions transactions ≡ value = cc in ap block_or_list_frame same
block_or_list_made frame value e = absurd cc

-- the frame of one is read as it
block_or_list_again : (value : BlockOrList) → block_or_list_of (block_or_list_frame value) ≡ Some value
block_or_list_again (either.Block block) = refl
block_or_list_again (either.Transactions transactions) = refl

-- it is of one of their kinds
block_or_list_kind : (value : BlockOrList) → is_among block_kinds (kind_of (block_or_list_frame value)) ≡ true
block_or_list_kind (either.Block block) = refl
block_or_list_kind (either.Transactions transactions) = refl

-- a file is read as a block or a list of transactions exactly where it is its one spelling
pub block_or_list_file : OnlyIsSpelled → (bytes : List ℕ) (value : BlockOrList) → AreBytes bytes
    → (block_or_list_in bytes ≡ Ok value)
    ↔ (IsFrame (block_or_list_frame value) × (spelling (block_or_list_frame value) ≡ Some bytes))
block_or_list_file = file_is block_or_list_of block_or_list_frame block_or_list_made block_or_list_again block_kinds block_or_list_kind

-- the value of an option that has one
pub some_there : {A : Type 0} (o : Option A) → IsSome o → (x : A) × (o ≡ Some x)
some_there None h = absurd cc
some_there (Some x) h = (x, refl)

-- a square that has a spelling is read from it
pub square_again : SpelledIsOnly → (square : SquareShares) → IsSquare square → AreShares square.shares → IsSome (spelling (Square square))
    → (text : List ℕ) × (spelling (Square square) ≡ Some text) × (square_in text ≡ Ok square)
square_again again square is shares spelled =
    let text = some_there (spelling (Square square)) spelled in (
      text.0,
      text.1,
      value_single square_of Square square_frame (λ x. refl) (only_of text.0 (square_kind ∷ [])) square
          (again (Square square) text.0 (square_kind ∷ []) (is, shares) text.1 refl),
    )
