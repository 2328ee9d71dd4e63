-- The items among frames.
use Rattle.std.proofs.Common.{◌≡◌, ◌∙◌, ℕ, Bool, true, false, cond, List, [], ◌∷◌, ◌++◌, map, length, Option, Some, None, slice_get, refl, sym, ap}
use Rattle.std.specs.Prelude.{is_some}
use Rattle.std.specs.Option.{option_map, option_map_or}
use Rattle.std.proofs.lemmas.Option.{slice_get-map, same_Some, none-some}
use Rattle.da_wire.specs.declared.frames.RawFrame.{RawFrame}
use Rattle.da_wire.specs.Reading.{Raw, raw_seen}
use Rattle.da_net.specs.declared.items.Item.{Item}
use Rattle.da_script.specs.Plays.{frame_item, items_in, item_frames, item_sizes}
use Rattle.da_script.specs.Parts.{AreFramesOf, payload_sizes}
use Rattle.da_script.proofs.DrawLemmas.{made_more, made_all}

-- the items among frames, by the first frame
items_by : (rest after : List Raw) (frame : Raw) → rest ≡ frame ∷ after
    → items_in rest ≡ option_map_or (λ one. one ∷ items_in after) (frame_item frame) (items_in after)
unfolding items_in
items_by rest after frame next = ap items_in next

-- an item that is there
found : (o : Option Item) → is_some o ≡ true → (one : Item) × (o ≡ Some one)
found None some = absurd cc
found (Some one) some = (one, refl)

-- and none
missed : (o : Option Item) → is_some o ≡ false → o ≡ None
missed None none = refl
missed (Some one) none = absurd cc

-- the frames so far, and the items of those that are left, are all items
abbrev pub Sorted : List RawFrame → List Raw → List Raw → Type 0
Sorted frames rest all = map (λ frame. frame_item (raw_seen frame)) frames ++ map Some (items_in rest) ≡ map Some (items_in all)

module _ (frames : List RawFrame) (frame : RawFrame) (rest after all : List Raw) (o : Option Item) (next : rest ≡ raw_seen frame ∷ after)
    (is : o ≡ frame_item (raw_seen frame)) (sorted : Sorted frames rest all) where
  -- the next frame is an item
  pub sorted_on : is_some o ≡ true → Sorted (frames ++ frame ∷ []) after all
  sorted_on some =
      let one = found o some in
      let here : frame_item (raw_seen frame) ≡ Some one.0 = sym is ∙ one.1 in
      let items : items_in rest ≡ one.0 ∷ items_in after =
      items_by rest after (raw_seen frame) next
      ∙ ap (λ (x : Option Item). option_map_or (λ i. i ∷ items_in after) x (items_in after)) here in
      made_more (λ (f : RawFrame). frame_item (raw_seen f)) Some frames frame one.0 (items_in rest) (items_in after) (map Some (items_in all)) items here sorted

  -- it is none
  pub sorted_past : is_some o ≡ false → Sorted frames after all
  sorted_past none =
      let here : frame_item (raw_seen frame) ≡ None = sym is ∙ missed o none in
      let items : items_in rest ≡ items_in after =
      items_by rest after (raw_seen frame) next
      ∙ ap (λ (x : Option Item). option_map_or (λ i. i ∷ items_in after) x (items_in after)) here in
      ap (λ (l : List Item). map (λ f. frame_item (raw_seen f)) frames ++ map Some l) (sym items) ∙ sorted

-- no frame is left
pub sorted_all : (frames : List RawFrame) (rest all : List Raw) → rest ≡ [] → Sorted frames rest all → AreFramesOf frames (items_in all)
unfolding items_in
sorted_all frames rest all none sorted =
    made_all (λ (f : RawFrame). frame_item (raw_seen f)) Some frames (items_in rest) (map Some (items_in all)) (ap items_in none) sorted

-- ---- how many bytes they have

-- the sizes of the frames so far, and those of the items that are left, are all sizes
abbrev pub Sized : List RawFrame → List Raw → List Raw → Type 0
Sized frames rest all = payload_sizes frames ++ item_sizes rest ≡ item_sizes all

-- the items that are left, by whether the first frame is one
frames_by : (rest after : List Raw) (frame : Raw) (is : Bool) → rest ≡ frame ∷ after → is_some (frame_item frame) ≡ is
    → item_frames rest ≡ cond is (frame ∷ item_frames after) (item_frames after)
frames_by rest after frame is next here =
    ap item_frames next ∙ ap (λ (b : Bool). cond b (frame ∷ item_frames after) (item_frames after)) here

module _ (frames : List RawFrame) (frame : RawFrame) (rest after all : List Raw) (o : Option Item) (next : rest ≡ raw_seen frame ∷ after)
    (is : o ≡ frame_item (raw_seen frame)) (sized : Sized frames rest all) where
  -- the next frame is an item
  pub sized_on : is_some o ≡ true → Sized (frames ++ frame ∷ []) after all
  sized_on some =
      let left = frames_by rest after (raw_seen frame) true next (sym (ap (λ (x : Option Item). is_some x) is) ∙ some) in
      made_more (λ (f : RawFrame). length f.payload.now) (λ (r : Raw). length r.payload) frames frame (raw_seen frame) (item_frames rest) (item_frames after)
      (item_sizes all) left refl sized

  -- it is none
  pub sized_past : is_some o ≡ false → Sized frames after all
  sized_past none =
      let left = frames_by rest after (raw_seen frame) false next (sym (ap (λ (x : Option Item). is_some x) is) ∙ none) in
      ap (λ (l : List Raw). payload_sizes frames ++ map (λ r. length r.payload) l) (sym left) ∙ sized

-- no frame is left
pub sized_all : (frames : List RawFrame) (rest all : List Raw) → rest ≡ [] → Sized frames rest all → payload_sizes frames ≡ item_sizes all
sized_all frames rest all none sized =
    made_all (λ (f : RawFrame). length f.payload.now) (λ (r : Raw). length r.payload) frames (item_frames rest) (item_sizes all) (ap item_frames none) sized

-- ---- the item at a place

-- what is there is what was found
same_there : (o y : Option Item) → option_map Some o ≡ Some y → o ≡ y
same_there None y e = absurd (none-some y e)
same_there (Some one) y e = same_Some (Some one) y e

-- and something is there
some_there : (o : Option Item) → option_map Some o ≡ Some None → ⊥
some_there None e = none-some None e
some_there (Some one) e = none-some one (sym (same_Some (Some one) None e))

module _ (frames : List RawFrame) (items : List Item) (are : AreFramesOf frames items) (place : ℕ) (frame : RawFrame) (at : slice_get frames place ≡ Some frame) where
  there : option_map Some (slice_get items place) ≡ Some (frame_item (raw_seen frame))
  there =
      sym (slice_get-map Some items place) ∙ sym (ap (λ (l : List (Option Item)). slice_get l place) are)
      ∙ slice_get-map (λ (f : RawFrame). frame_item (raw_seen f)) frames place
      ∙ ap (option_map (λ (f : RawFrame). frame_item (raw_seen f))) at

  -- the item at a place is that of the frame there
  pub item_there : slice_get items place ≡ frame_item (raw_seen frame)
  item_there = same_there (slice_get items place) (frame_item (raw_seen frame)) there

  -- which is one
  pub item_some : frame_item (raw_seen frame) ≡ None → ⊥
  item_some none = some_there (slice_get items place) (there ∙ ap Some none)
