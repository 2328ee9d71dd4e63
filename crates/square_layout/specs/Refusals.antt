-- Which blocks have no square, and the first check that fails (docs/RULES.md, "From a block to its
-- square").
use Rattle.std.specs.Prelude.{◌≡◌, ◌⊎◌, ℕ, suc, ◌-◌, ◌*◌, ◌^◌, ◌==◌, nat_lt, min, List, [], ◌∷◌, length, Option, Some, None, Result, Ok, Err, if◌then◌else◌}
use Rattle.std.specs.Option.{option_map_or, option_or}
use Rattle.namespace_id.specs.Names.{namespace_refusal}
use Rattle.namespace_id.specs.Cells.{is_width}
use Rattle.namespace_id.specs.Sizes.{most_shares}
use Rattle.share_split.specs.Blobs.{NamedBytes}
use Rattle.square_layout.specs.declared.laying.LayError.{LayError}
use Rattle.square_layout.specs.declared.laying.LayError.TheVariants.{BadBlob, EmptyBlob, TooLarge, WidthTooSmall, BadWidth, NoMemory}
use Rattle.square_layout.specs.Blocks.{BlockParts}
use Rattle.square_layout.specs.Layout.{needed}

-- ---- blobs

-- the first blob, from blob i on, whose namespace isn't one of a blob
unfoldable pub bad_blob : ℕ → List NamedBytes → Option LayError
bad_blob i [] = None
bad_blob i (blob ∷ blobs) =
    option_map_or (λ e. Some (BadBlob i e)) (namespace_refusal blob.namespace.0) (bad_blob (suc i) blobs)

-- the first blob, from blob i on, that has no bytes
unfoldable pub empty_blob : ℕ → List NamedBytes → Option LayError
empty_blob i [] = None
empty_blob i (blob ∷ blobs) =
    if length blob.bytes == 0 then Some (EmptyBlob i) else empty_blob (suc i) blobs

-- the first check of blobs that fails: all namespaces come before all bytes
abbrev pub blobs_refusal : List NamedBytes → Option LayError
blobs_refusal blobs = option_or (bad_blob 0 blobs) (empty_blob 0 blobs)

-- ---- the size

-- the shares of the greatest square
abbrev pub max_shares : ℕ
max_shares = most_shares

-- a greater number of shares isn't told
abbrev pub most_named : ℕ
most_named = 2 ^ 64 - 1

-- why a square of the width k doesn't hold so many shares
abbrev pub width_refusal : ℕ → ℕ → Option LayError
width_refusal count k =
    if nat_lt (k * k) count then Some (WidthTooSmall count) else
    (if is_width k then None else Some BadWidth)

-- why no square holds so many shares, or not the one whose width is asked for
abbrev pub size_refusal : Option ℕ → ℕ → Option LayError
size_refusal width count =
    if nat_lt max_shares count then Some (TooLarge (min count most_named)) else
    option_map_or (width_refusal count) width None

-- ---- the block

-- the first check that fails
abbrev pub layout_refusal : BlockParts → Option LayError
layout_refusal block = option_or (blobs_refusal block.blobs) (size_refusal block.width (needed block))

-- a call answered the first check that fails, or, where none does, a value; unless memory ran out
abbrev pub AnswersLaying : {X : Type 0} → Result X LayError → Option LayError → Type 0
AnswersLaying (Ok x) refusal = refusal ≡ None
AnswersLaying (Err e) refusal = (e ≡ NoMemory) ⊎ (refusal ≡ Some e)
