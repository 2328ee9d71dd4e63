-- The headers and answers in a file.
use Rattle.std.proofs.Common.{ℕ, List, [], ◌∷◌, refl}
use Rattle.std.specs.List.{filter_map, cons_option, AllByRecursion}
use Rattle.namespace_id.specs.Bytes.{AreBytes}
use Rattle.blob_feed.specs.Feeds.{Item, AreItems}
use Rattle.da_wire.specs.declared.frames.Frame.{Frame}
use Rattle.da_wire.specs.declared.frames.Frame.TheVariants.{Header, Names}
use Rattle.da_wire.specs.Spelling.{IsFrame}
use Rattle.da_wire.specs.Values.{values_of, bad_value, IsValue}
use Rattle.da_wire.specs.Laws.{ValuesAreTheFile, BadValueIsFirst}
use Rattle.da_following.specs.Follow.{feed_kinds, item_of, items_in}
use Rattle.da_files.proofs.RequestLemmas.{values_by}

-- a frame that is a header or an answer is such an item
is_item : (frame : Frame) (items : List Item) → IsFrame frame → AreItems items → AreItems (cons_option (item_of frame) items)
is_item (Header header) items is all = (tt, all)
is_item (Names name answer) items is all = (record { name = is.0; entries = is.1 }, all)
is_item frame items is all = all

-- so are those among frames
are_items : (kinds : List ℕ) (frames : List Frame) → AllByRecursion (IsValue kinds) frames → AreItems (filter_map item_of frames)
are_items kinds [] all = tt
are_items kinds (frame ∷ frames) all = is_item frame (filter_map item_of frames) all.0.is (are_items kinds frames all.1)

-- and those in a file
pub items_fit : ValuesAreTheFile → BadValueIsFirst → (bytes : List ℕ) → AreBytes bytes → AreItems (items_in bytes)
items_fit whole first bytes fits =
    are_items feed_kinds (values_of feed_kinds bytes)
    (values_by feed_kinds bytes (bad_value feed_kinds bytes) whole first fits refl)
