-- What is known of a frame by what was handed of it.
use Rattle.std.proofs.Common.{◌≡◌, ℕ, ◌+◌, ◌*◌, ◌<◌, ◌≤◌, Bool, true, false, cond, leb, ltb, List, [], ◌∷◌, length, take, drop, length-drop, Option, None, Some, refl, sym, ap, arith, leb-false, ltb-false, eqb-true}
use Rattle.std.proofs.lemmas.Option.{same_Some}
use Rattle.std.specs.Prelude.{◌==◌, ◌&&◌, is_some}
use Rattle.std.proofs.lemmas.Bool.{ne_eqb}
use Rattle.std.specs.Int.{w16, from_be_bytes}
use Rattle.namespace_id.specs.declared.cells.Axis.{Axis}
use Rattle.namespace_id.specs.declared.cells.Axis.TheVariants.{Row, Col}
use Rattle.namespace_id.specs.declared.cells.Cell.{Cell}
use Rattle.namespace_id.specs.declared.digests.Digest.{Digest}
use Rattle.namespace_id.specs.Shares.{share_of}
use Rattle.namespace_id.specs.Sizes.{share_size, most_depth}
use Rattle.axis_roots.specs.declared.message.messages.Message.{Message}
use Rattle.frame_fields.specs.Fields.{◌>>=◌, big_endian_at, byte_at, string_at, split_into, digest, digests_at, axis_at, cell_at, path_at}
use Rattle.frame_fields.specs.Messages.{message_front, message_at}
use Rattle.frame_payloads.specs.kinds.Message.{most_message}
use Rattle.frame_payloads.proofs.Fields.Readers.{bind_some, if_false, if_true}
use Rattle.da_wire.specs.Spelling.{message_kind, state_kind}
use Rattle.da_wire.specs.Reading.{Raw}
use Rattle.da_wire.specs.Frames.{raw_message}
use Rattle.da_talk.specs.Handed.{if_within, asks_state}

-- ---- what was handed

-- a frame that wasn't handed is longer
long_by : (b : Bool) (raw : Raw) → ◌≡◌ {A = Option Raw} None (cond b (Some raw) None) → b ≡ false
long_by true raw e = absurd cc
long_by false raw e = refl

pub handed_none : (longest : ℕ) (raw : Raw) → None ≡ if_within longest raw → longest < length raw.payload
handed_none longest raw e = leb-false (length raw.payload) longest (long_by (leb (length raw.payload) longest) raw e)

-- ---- the lengths of what is read

-- a number of two bytes
number_long : (bytes : List ℕ) (r : ℕ × List ℕ) → big_endian_at w16 bytes ≡ Some r → length bytes ≡ 2 + length r.1
number_long bytes r e =
    let f = if_false (ltb (length bytes) 2) (Some (from_be_bytes w16 (take 2 bytes), drop 2 bytes)) r e in
    let rest : length (drop 2 bytes) ≡ length r.1 = ap (λ (x : ℕ × List ℕ). length x.1) (same_Some _ r f.1) in
    omega (arith, ltb-false (length bytes) 2 f.0, length-drop 2 bytes, rest)

-- a cell
cell_long : (bytes : List ℕ) (r : Cell × List ℕ) → cell_at bytes ≡ Some r → length bytes ≡ 4 + length r.1
unfolding cell_at
cell_long bytes r e =
    let cell : ℕ → ℕ × List ℕ → Option (Cell × List ℕ) = λ row col. Some (record { row = row; col = col.0 }, col.1) in
    let row = bind_some (big_endian_at w16 bytes) (λ row. big_endian_at w16 row.1 >>= cell row.0) r e in
    let col = bind_some (big_endian_at w16 row.0.1) (cell row.0.0) r row.2 in
    let rest : length col.0.1 ≡ length r.1 = ap (λ (x : Cell × List ℕ). length x.1) (same_Some _ r col.2) in
    omega (arith, number_long bytes row.0 row.1, number_long row.0.1 col.0 col.1, rest)

-- a byte
byte_long : (bytes : List ℕ) (r : ℕ × List ℕ) → byte_at bytes ≡ Some r → length bytes ≡ 1 + length r.1
byte_long [] r e = absurd cc
byte_long (byte ∷ bytes) r e =
    let rest : length bytes ≡ length r.1 = ap (λ (x : ℕ × List ℕ). length x.1) (same_Some (byte, bytes) r e) in
    omega (arith, rest)

-- an axis
axis_by : (a b : Bool) (rest : List ℕ) (r : Axis × List ℕ) → cond a (Some (Row, rest)) (cond b (Some (Col, rest)) None) ≡ Some r → length rest ≡ length r.1
axis_by true b rest r e = ap (λ (x : Axis × List ℕ). length x.1) (same_Some _ r e)
axis_by false true rest r e = ap (λ (x : Axis × List ℕ). length x.1) (same_Some _ r e)
axis_by false false rest r e = absurd cc

axis_long : (bytes : List ℕ) (r : Axis × List ℕ) → axis_at bytes ≡ Some r → length bytes ≡ 1 + length r.1
unfolding axis_at
axis_long bytes r e =
    let axis : ℕ × List ℕ → Option (Axis × List ℕ) = λ byte. cond (byte.0 == 0) (Some (Row, byte.1)) (cond (byte.0 == 1) (Some (Col, byte.1)) None) in
    let byte = bind_some (byte_at bytes) axis r e in
    omega (arith, byte_long bytes byte.0 byte.1, axis_by (byte.0.0 == 0) (byte.0.0 == 1) byte.0.1 r byte.2)

-- a string of a length
string_long : (size : ℕ) (bytes : List ℕ) (r : List ℕ × List ℕ) → string_at size bytes ≡ Some r → length bytes ≡ size + length r.1
string_long size bytes r e =
    let f = if_false (ltb (length bytes) size) (Some (take size bytes, drop size bytes)) r e in
    let rest : length (drop size bytes) ≡ length r.1 = ap (λ (x : List ℕ × List ℕ). length x.1) (same_Some _ r f.1) in
    omega (arith, ltb-false (length bytes) size f.0, length-drop size bytes, rest)

-- a path of so many digests at most
path_long : (limit : ℕ) (bytes : List ℕ) (r : List Digest × List ℕ) → path_at limit bytes ≡ Some r → length bytes ≤ 1 + 90 * limit + length r.1
unfolding path_at
path_long limit bytes r e =
    let path : ℕ × List ℕ → Option (List Digest × List ℕ) = λ count. cond (ltb limit count.0) None (digests_at count.0 count.1) in
    let count = bind_some (byte_at bytes) path r e in
    let few = if_false (ltb limit count.0.0) (digests_at count.0.0 count.0.1) r count.2 in
    let f = if_false (ltb (length count.0.1) (90 * count.0.0)) (Some (split_into digest 90 count.0.0 (take (90 * count.0.0) count.0.1), drop (90 * count.0.0) count.0.1)) r few.1 in
    let rest : length (drop (90 * count.0.0) count.0.1) ≡ length r.1 = ap (λ (x : List Digest × List ℕ). length x.1) (same_Some _ r f.1) in
    omega (
      arith,
      byte_long bytes count.0 count.1,
      ltb-false limit count.0.0 few.0,
      ltb-false (length count.0.1) (90 * count.0.0) f.0,
      length-drop (90 * count.0.0) count.0.1,
      rest,
    )

-- ---- samples

abbrev with_path : Cell → Axis → List ℕ → List Digest × List ℕ → Option (Message × List ℕ)
with_path cell axis share path = Some (record { cell = cell; axis = axis; share = share_of share; path = path.0 }, path.1)

abbrev with_share : Cell → Axis → List ℕ × List ℕ → Option (Message × List ℕ)
with_share cell axis share = path_at most_depth share.1 >>= with_path cell axis share.0

abbrev with_axis : Cell → Axis × List ℕ → Option (Message × List ℕ)
with_axis cell axis = string_at share_size axis.1 >>= with_share cell axis.0

abbrev with_cell : Cell × List ℕ → Option (Message × List ℕ)
with_cell cell = axis_at cell.1 >>= with_axis cell.0

-- what is read as a sample isn't longer than the longest, whatever its numbers are
front_few : (bytes : List ℕ) (r : Message × List ℕ) → message_front bytes ≡ Some r → length bytes ≤ most_message + length r.1
unfolding message_front
front_few bytes r e =
    let cell = bind_some (cell_at bytes) with_cell r e in
    let axis = bind_some (axis_at cell.0.1) (with_axis cell.0.0) r cell.2 in
    let share = bind_some (string_at share_size axis.0.1) (with_share cell.0.0 axis.0.0) r axis.2 in
    let path = bind_some (path_at most_depth share.0.1) (with_path cell.0.0 axis.0.0 share.0.0) r share.2 in
    let rest : length path.0.1 ≡ length r.1 = ap (λ (x : Message × List ℕ). length x.1) (same_Some _ r path.2) in
    omega (
      arith,
      cell_long bytes cell.0 cell.1,
      axis_long cell.0.1 axis.0 axis.1,
      string_long share_size axis.0.1 share.0 share.1,
      path_long most_depth share.0.1 path.0 path.1,
      rest,
    )

-- no sample is longer than the longest
pub message_few : (payload : List ℕ) (m : Message) → message_at payload ≡ Some m → length payload ≤ most_message
unfolding message_at
message_few payload m e =
    let front = bind_some (message_front payload) (λ front. cond (length front.1 == 0) (Some front.0) None) m e in
    let all = if_true (length front.0.1 == 0) (Some front.0.0) m front.2 in
    let none : length front.0.1 ≡ 0 = eqb-true (length front.0.1) 0 all.0 in
    omega (arith, none, front_few payload front.0 front.1)

-- so a longer payload is no sample
none_by : (payload : List ℕ) (o : Option Message) → message_at payload ≡ o → most_message < length payload → o ≡ None
none_by payload None e long = refl
none_by payload (Some m) e long = absurd (omega (arith, long, message_few payload m e))

-- a frame that wasn't handed is no sample
unread : (test : Bool) (o : Option Message) → o ≡ None → cond test o None ≡ None
unread true o none = none
unread false o none = refl

pub no_sample : (longest : ℕ) (raw : Raw) → most_message ≤ longest → None ≡ if_within longest raw → None ≡ raw_message raw
no_sample longest raw room e =
    let long : most_message < length raw.payload = omega (arith, room, handed_none longest raw e) in
    sym (unread (raw.kind == message_kind) (message_at raw.payload) (none_by raw.payload (message_at raw.payload) refl long))

-- ---- states

-- a number above 0 isn't 0
some_byte : (n : ℕ) → 0 < n → (n == 0) ≡ false
some_byte n some = ne_eqb n 0 (λ (none : n ≡ 0). absurd (omega (arith, some, none)))

-- nothing is read of a payload that fails a test
unasked : {A : Type 0} (kind test : Bool) (x : A) → test ≡ false → false ≡ kind && is_some (cond test (Some x) None)
unasked true false x none = refl
unasked false false x none = refl
unasked kind true x none = absurd cc

-- a frame that wasn't handed is no state
pub no_state : (longest : ℕ) (raw : Raw) → None ≡ if_within longest raw → false ≡ asks_state raw
no_state longest raw e =
    unasked (raw.kind == state_kind) (length raw.payload == 0) _ (some_byte (length raw.payload) (omega (arith, handed_none longest raw e)))
