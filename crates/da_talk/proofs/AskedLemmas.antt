-- Requests are short.
use Rattle.std.proofs.Common.{◌≡◌, ℕ, ◌+◌, ◌<◌, Bool, true, false, eqb, ltb, leb, cond, List, [], ◌∷◌, length, Option, Some, None, refl, sym, ap, arith, eqb-true, ltb-false, leb-false}
use Rattle.std.proofs.lemmas.List.{length-drop}
use Rattle.std.proofs.lemmas.Option.{cond_some}
use Rattle.std.specs.Int.{w16}
use Rattle.namespace_id.specs.declared.cells.Axis.{Axis}
use Rattle.namespace_id.specs.declared.cells.Axis.TheVariants.{Row, Col}
use Rattle.namespace_id.specs.declared.cells.Cell.{Cell}
use Rattle.namespace_id.specs.declared.namespaces.Namespace.{Namespace}
use Rattle.namespace_id.specs.Sizes.{namespace_size}
use Rattle.frame_fields.specs.Fields.{big_endian_at, cell_at, axis_at}
use Rattle.frame_fields.proofs.StepLemmas.{bind_some}
use Rattle.frame_payloads.specs.kinds.Requests.{sample_at, request_at}
use Rattle.da_wire.specs.Spelling.{sample_kind, request_kind}
use Rattle.da_wire.specs.Reading.{Raw}
use Rattle.da_talk.specs.declared.asking.Asked.{Asked}
use Rattle.da_talk.specs.declared.asking.Asked.TheVariants.{Nothing}
use Rattle.da_talk.specs.Handed.{if_within}
use Rattle.da_talk.specs.Replies.{asked_by, sample_asked, names_asked}

-- what stands behind a test that passes
none_or : {A : Type 0} (b : Bool) (x y : A) → cond b None (Some x) ≡ Some y → (b ≡ false) × (x ≡ y)
none_or true x y e = absurd cc
none_or false x y e = (refl, cc)

-- a number takes two bytes
number_long : (bytes : List ℕ) (x : ℕ × List ℕ) → big_endian_at w16 bytes ≡ Some x → length bytes ≡ 2 + length x.1
number_long bytes x e =
    let is = none_or (ltb (length bytes) 2) _ x e in
    omega (arith, ltb-false (length bytes) 2 is.0, ap (λ (y : ℕ × List ℕ). length y.1) is.1, length-drop 2 bytes)

-- a cell takes four
cell_long : (bytes : List ℕ) (x : Cell × List ℕ) → cell_at bytes ≡ Some x → length bytes ≡ 4 + length x.1
unfolding cell_at
cell_long bytes x e =
    let row = bind_some (big_endian_at w16 bytes) _ x e in
    let col = bind_some (big_endian_at w16 row.0.1) _ x row.2 in
    let one : ◌≡◌ {A = Option (Cell × List ℕ)} (Some (record { row = row.0.0; col = col.0.0 }, col.0.1)) (Some x) = col.2 in
    let same : (record { row = row.0.0; col = col.0.0 }, col.0.1) ≡ x = cc in
    omega (arith, number_long bytes row.0 row.1, number_long row.0.1 col.0 col.1, ap (λ (y : Cell × List ℕ). length y.1) same)

-- one of two axes, and what is behind it
axis_or : (a b : Bool) (rest : List ℕ) (x : Axis × List ℕ) → cond a (Some (Row, rest)) (cond b (Some (Col, rest)) None) ≡ Some x → rest ≡ x.1
axis_or true b rest x e = let same : ◌≡◌ {A = Axis × List ℕ} (Row, rest) x = cc in ap (λ (y : Axis × List ℕ). y.1) same
axis_or false true rest x e = let same : ◌≡◌ {A = Axis × List ℕ} (Col, rest) x = cc in ap (λ (y : Axis × List ℕ). y.1) same
axis_or false false rest x e = absurd cc

-- an axis takes one
axis_long : (bytes : List ℕ) (x : Axis × List ℕ) → axis_at bytes ≡ Some x → length bytes ≡ 1 + length x.1
unfolding axis_at
axis_long [] x e = absurd cc
axis_long (byte ∷ rest) x e = omega (arith, ap length (axis_or (eqb byte 0) (eqb byte 1) rest x e))

-- a request for a sample has five bytes
sample_long : (payload : List ℕ) (x : Cell × Axis) → sample_at payload ≡ Some x → length payload ≡ 5
unfolding sample_at
sample_long payload x e =
    let cell = bind_some (cell_at payload) _ x e in
    let axis = bind_some (axis_at cell.0.1) _ x cell.2 in
    let none = cond_some (eqb (length axis.0.1) 0) _ x axis.2 in
    omega (arith, cell_long payload cell.0 cell.1, axis_long cell.0.1 axis.0 axis.1, eqb-true (length axis.0.1) 0 none.0)

-- a request for a namespace has those of a namespace
request_long : (payload : List ℕ) (name : Namespace) → request_at payload ≡ Some name → length payload ≡ 29
unfolding request_at
request_long payload name e = let is = cond_some (eqb (length payload) 29) _ name e in eqb-true (length payload) 29 is.0

-- a longer payload asks for no sample
no_sample : (payload : List ℕ) (o : Option (Cell × Axis)) → namespace_size < length payload → sample_at payload ≡ o → sample_asked o ≡ Nothing
no_sample payload None h e = refl
no_sample payload (Some s) h e = absurd (omega (arith, h, sample_long payload s e))

-- nor for a namespace
no_names : (payload : List ℕ) (o : Option Namespace) → namespace_size < length payload → request_at payload ≡ o → names_asked o ≡ Nothing
no_names payload None h e = refl
no_names payload (Some name) h e = absurd (omega (arith, h, request_long payload name e))

-- whatever its kind is
asks_nothing : (a b : Bool) (x y : Asked) → x ≡ Nothing → y ≡ Nothing → cond a x (cond b y Nothing) ≡ Nothing
asks_nothing true b x y p q = p
asks_nothing false true x y p q = q
asks_nothing false false x y p q = refl

-- nothing stands behind a test that fails
cond_none : {A : Type 0} (b : Bool) (x : A) → None ≡ cond b (Some x) None → b ≡ false
cond_none true x e = absurd cc
cond_none false x e = refl

-- so a frame that isn't handed asks for nothing
pub asks_long : (raw : Raw) → None ≡ if_within namespace_size raw → Nothing ≡ asked_by raw.kind raw.payload
asks_long raw e =
    let h : namespace_size < length raw.payload = leb-false (length raw.payload) namespace_size (cond_none (leb (length raw.payload) namespace_size) raw e) in
    sym (asks_nothing (eqb raw.kind sample_kind) (eqb raw.kind request_kind) (sample_asked (sample_at raw.payload)) (names_asked (request_at raw.payload))
    (no_sample raw.payload (sample_at raw.payload) h refl) (no_names raw.payload (request_at raw.payload) h refl))

-- and one that is handed asks for what it is handed for
pub asks_handed : (raw kept : Raw) → Some kept ≡ if_within namespace_size raw → asked_by kept.kind kept.payload ≡ asked_by raw.kind raw.payload
asks_handed raw kept e =
    ap (λ (r : Raw). asked_by r.kind r.payload) (sym (cond_some (leb (length raw.payload) namespace_size) raw kept (sym e)).1)
