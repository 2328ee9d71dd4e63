-- The headers and answers among frames.
use Rattle.std.proofs.Common.{◌≡◌, ◌+◌, ◌≤◌, List, [], ◌∷◌, ◌++◌, length, Option, Some, None, ap, arith}
use Rattle.std.specs.List.{cons_option}
use Rattle.blob_feed.specs.Feeds.{Item, headed, answered, heights_of}
use Rattle.da_wire.specs.Reading.{Raw}
use Rattle.da_attending.specs.Attended.{item_in, items_of}

-- behind one that may be there comes what came behind the others
cons_more : (o : Option Item) (items more : List Item) (item : Item) → more ≡ items ++ item ∷ [] → cons_option o more ≡ cons_option o items ++ item ∷ []
cons_more None items more item e = e
cons_more (Some first) items more item e = ap (λ (l : List Item). first ∷ l) e

-- one frame more that is a header or an answer
pub items_more : (frames : List Raw) (frame : Raw) (item : Item) → item_in frame ≡ Some item
    → items_of (frames ++ frame ∷ []) ≡ items_of frames ++ item ∷ []
items_more [] frame item is = ap (λ (o : Option Item). cons_option o []) is
items_more (first ∷ frames) frame item is =
    cons_more (item_in first) (items_of frames) (items_of (frames ++ frame ∷ [])) item (items_more frames frame item is)

-- one that may be there is one at most
cons_few : (o : Option Item) (items : List Item) → length (cons_option o items) ≤ length items + 1
cons_few None items = omega arith
cons_few (Some item) items = omega arith

-- there are no more headers and answers than frames
few_items : (frames : List Raw) → length (items_of frames) ≤ length frames
few_items [] = omega arith
few_items (frame ∷ frames) = omega (arith, few_items frames, cons_few (item_in frame) (items_of frames))

-- and no more heights than those
few_heights : (items : List Item) → length (heights_of items) ≤ length items
unfolding heights_of
few_heights [] = omega arith
few_heights (headed header ∷ items) = omega (arith, few_heights items)
few_heights (answered given ∷ items) = omega (arith, few_heights items)

-- there are no more heights than frames
pub few_began : (frames : List Raw) → length (heights_of (items_of frames)) ≤ length frames
few_began frames = omega (arith, few_items frames, few_heights (items_of frames))
