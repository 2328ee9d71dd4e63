-- Scripts of networks (docs/FORMATS.md, "Scripts").
use Rattle.std.specs.Prelude.{ℕ, zero, suc, ◌+◌, ◌*◌, ◌==◌, ◌&&◌, nat_lt, Bool, List, [], ◌∷◌, length, take, drop, get_or, Option, Some, None, if◌then◌else◌}
use Rattle.std.specs.Int.{w16, w32, from_be_bytes}
use Rattle.std.specs.Option.{option_map}
use Rattle.da_wire.specs.Walks.{walk_from, stop_from}
use Rattle.da_script.specs.declared.reading.Move.{Move}
use Rattle.da_script.specs.declared.reading.Move.TheVariants.{Put, Hand, Publish}

-- ---- in front: the nodes

-- how many full nodes there are, and how many light nodes
abbrev pub full_count : List ℕ → ℕ
full_count script = from_be_bytes w16 (take 2 script)

abbrev pub light_count : List ℕ → ℕ
light_count script = from_be_bytes w16 (take 2 (drop 2 script))

-- how many bytes stand in front of the events: both counts, and a key and a count for each light node
abbrev pub front_size : List ℕ → ℕ
front_size script = 4 + 34 * light_count script

-- a key, and how many cells it draws
pub record Draw : Type 0 where
  pub key : List ℕ
  pub count : ℕ

-- so many of these, one after another
unfoldable pub draws_at : ℕ → List ℕ → List Draw
draws_at zero bytes = []
draws_at (suc n) bytes =
    record { key = take 32 bytes; count = from_be_bytes w16 (take 2 (drop 32 bytes)) } ∷ draws_at n (drop 34 bytes)

-- what the light nodes draw
abbrev pub draws_of : List ℕ → List Draw
draws_of script = draws_at (light_count script) (drop 4 script)

-- ---- behind: the events

-- the event of a tag and two numbers, where there are so many items to put: 0 puts item a into the pool, 1 hands item a of
-- the pool to node b, 2 publishes by node b; the number that an event doesn't have is 0
abbrev pub move_of : ℕ → ℕ → ℕ → ℕ → Option Move
move_of items tag a b =
    if tag == 0 then (if nat_lt a items && (b == 0) then Some (Put a) else None) else
    (if tag == 1 then Some (Hand a b) else
    (if (tag == 2) && (a == 0) then Some (Publish b) else None))

-- the event in front of bytes, and its length
abbrev pub move_at : ℕ → List ℕ → Option (Move × ℕ)
move_at items bytes = if nat_lt (length bytes) 7 then None else option_map (λ move. (move, 7))
    (move_of items (get_or bytes 0 0) (from_be_bytes w32 (take 4 (drop 1 bytes))) (from_be_bytes w16 (take 2 (drop 5 bytes))))

-- the events of a script
abbrev pub moves_of : ℕ → List ℕ → List Move
moves_of items script = walk_from (move_at items) 0 (drop (front_size script) script)

-- ---- the form

-- whether a script ends before its events do begin
abbrev pub is_cut : List ℕ → Bool
is_cut script = nat_lt (length script) (front_size script)

-- the offset of the first event that isn't one, 0 where the script ends before its events do begin, none where it is a script
abbrev pub bad_script : ℕ → List ℕ → Option ℕ
bad_script items script =
    if is_cut script then Some 0 else stop_from (move_at items) 0 (front_size script) (drop (front_size script) script)
