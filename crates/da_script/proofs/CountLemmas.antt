-- How many nodes, items and events a script has.
use Rattle.std.proofs.Common.{◌≡◌, ◌∙◌, ℕ, ◌+◌, ◌≤◌, Bool, true, false, ◌||◌, ◌↔◌, List, map, drop, replicate, length, Some, sym, ap, ap₂, true≢false}
use Rattle.std.specs.Prelude.{nat_lt}
use Rattle.std.specs.List.{list_any}
use Rattle.std.proofs.lemmas.Bool.{ltb-false, le-ltb, or_parts}
use Rattle.std.proofs.lemmas.List.{length-map, length-append, length-replicate}
use Rattle.data_header.specs.Headers.{Roots}
use Rattle.da_wire.specs.declared.frames.RawFrame.{RawFrame}
use Rattle.da_wire.specs.Reading.{raw_seen}
use Rattle.da_net.specs.declared.items.Item.{Item}
use Rattle.da_net.specs.Networks.{full}
use Rattle.da_net.specs.Nets.{is_too_many}
use Rattle.da_script.specs.declared.reading.Counts.{Counts}
use Rattle.da_script.specs.declared.reading.Move.{Move}
use Rattle.da_script.specs.Scripts.{full_count, light_count, draws_of}
use Rattle.da_script.specs.Plays.{frame_item, light_of, pooling, put_bytes, is_refused, first_net}
use Rattle.da_script.specs.Parts.{AreFramesOf, AreCounts, is_wide, is_refused_by}
use Rattle.da_script.proofs.DrawLemmas.{length-draws_at}

-- what isn't too many is few
pub record AreFew (fulls lights items steps : ℕ) : Type 0 where
  pub fulls_are : fulls ≤ 8
  pub lights_are : lights ≤ 64
  pub items_are : items ≤ 65536
  pub steps_are : steps ≤ 1048576

pub are_few : (fulls lights items steps : ℕ) → is_too_many fulls lights items steps ≡ false → AreFew fulls lights items steps
are_few fulls lights items steps not =
    let three = or_parts (nat_lt 8 fulls || nat_lt 64 lights || nat_lt 65536 items) (nat_lt 1048576 steps) not in
    let two = or_parts (nat_lt 8 fulls || nat_lt 64 lights) (nat_lt 65536 items) three.0 in
    let one = or_parts (nat_lt 8 fulls) (nat_lt 64 lights) two.0 in
    record {
      fulls_are = ltb-false 8 fulls one.0;
      lights_are = ltb-false 64 lights one.1;
      items_are = ltb-false 65536 items two.1;
      steps_are = ltb-false 1048576 steps three.1;
    }

-- the counts decide whether a script is refused
pub refused_by : (k : ℕ) (sizes : List ℕ) (counts : Counts) (moves : List Move) (script : List ℕ) → AreCounts sizes counts moves
    → is_refused_by k counts script ≡ is_refused k sizes moves script
refused_by k sizes counts moves script are =
    ap₂ (λ (items steps : ℕ). is_too_many (full_count script) (light_count script) items steps || nat_lt 536870912 counts.bytes
    || list_any (is_wide k) (draws_of script)) are.pooling_are are.moves_are
    ∙ ap₂ (λ (lights bytes : ℕ). is_too_many (full_count script) lights (pooling moves) (length moves) || nat_lt 536870912 bytes
    || list_any (is_wide k) (draws_of script))
    (sym (length-draws_at (light_count script) (drop 4 script))) are.bytes_are

-- the first network has all nodes of the script
pub first_nodes : (header : Roots) (moves : List Move) (script : List ℕ) → length (first_net header moves script).nodes ≡ full_count script + light_count script
first_nodes header moves script =
    length-append (replicate (full_count script) full) (map (light_of header.k) (draws_of script))
    ∙ ap₂ (λ (a b : ℕ). a + b) (length-replicate (full_count script) full)
    (length-map (draws_of script) (light_of header.k) ∙ length-draws_at (light_count script) (drop 4 script))

-- there are as many items as frames of them
pub item_count : (frames : List RawFrame) (items : List Item) → AreFramesOf frames items → length frames ≡ length items
item_count frames items are =
    sym (length-map frames (λ (f : RawFrame). frame_item (raw_seen f))) ∙ ap (λ l. length l) are ∙ length-map items Some

-- what isn't refused has few of each
pub few_of : (k : ℕ) (counts : Counts) (script : List ℕ) → is_refused_by k counts script ≡ false
    → AreFew (full_count script) (light_count script) counts.pooling counts.moves
few_of k counts script not =
    let many = is_too_many (full_count script) (light_count script) counts.pooling counts.moves in
    let narrow = or_parts (many || nat_lt 536870912 counts.bytes) (list_any (is_wide k) (draws_of script)) not in
    are_few (full_count script) (light_count script) counts.pooling counts.moves (or_parts many (nat_lt 536870912 counts.bytes) narrow.0).0

-- and no key that draws too many cells
pub narrow_of : (k : ℕ) (counts : Counts) (script : List ℕ) → is_refused_by k counts script ≡ false → list_any (is_wide k) (draws_of script) ≡ false
narrow_of k counts script not =
    (or_parts (is_too_many (full_count script) (light_count script) counts.pooling counts.moves || nat_lt 536870912 counts.bytes)
    (list_any (is_wide k) (draws_of script)) not).1

-- few are not too many
pub few_not : (fulls lights items steps : ℕ) → AreFew fulls lights items steps → is_too_many fulls lights items steps ≡ true → ⊥
few_not fulls lights items steps few many = true≢false (sym many ∙ none)
  where
    none : is_too_many fulls lights items steps ≡ false
    none =
        ap₂ (λ (a b : Bool). a || b || nat_lt 65536 items || nat_lt 1048576 steps) (le-ltb 8 fulls few.fulls_are) (le-ltb 64 lights few.lights_are)
        ∙ ap₂ (λ (a b : Bool). false || false || a || b) (le-ltb 65536 items few.items_are) (le-ltb 1048576 steps few.steps_are)

-- a script isn't refused exactly where there are few of each, its events put few bytes, and no key draws too many cells
pub within_bytes : (k : ℕ) (sizes : List ℕ) (moves : List Move) (script : List ℕ) → (is_refused k sizes moves script ≡ false)
    ↔ ((is_too_many (full_count script) (length (draws_of script)) (pooling moves) (length moves) ≡ false)
    × (put_bytes sizes moves ≤ 536870912) × (list_any (is_wide k) (draws_of script) ≡ false))
within_bytes k sizes moves script = (apart, together)
  where
    many : Bool
    many = is_too_many (full_count script) (length (draws_of script)) (pooling moves) (length moves)

    heavy : Bool
    heavy = nat_lt 536870912 (put_bytes sizes moves)

    wide : Bool
    wide = list_any (is_wide k) (draws_of script)

    apart : (many || heavy || wide) ≡ false → (many ≡ false) × (put_bytes sizes moves ≤ 536870912) × (wide ≡ false)
    apart not =
        let two = or_parts (many || heavy) wide not in
        let one = or_parts many heavy two.0 in (one.0, ltb-false 536870912 (put_bytes sizes moves) one.1, two.1)

    together : (many ≡ false) × (put_bytes sizes moves ≤ 536870912) × (wide ≡ false) → (many || heavy || wide) ≡ false
    together (few, light, narrow) =
        ap₂ (λ (a b : Bool). a || heavy || b) few narrow ∙ ap (λ (a : Bool). false || a || false) (le-ltb 536870912 (put_bytes sizes moves) light)
