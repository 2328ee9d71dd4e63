-- The fields that are one, each as a value.
use Rattle.std.proofs.Common.{◌≡◌, ℕ, ◌^◌, ◌<◌, ◌≤◌, false, ◌||◌, ltb, Bool, List, [], ◌∷◌, ◌++◌, length, Option, refl, arith, ltb-false, le-ltb}
use Rattle.std.specs.Prelude.{⊤}
use Rattle.std.specs.Int.{Width, w16, w32, to_be_bytes}
use Rattle.std.specs.List.{AllByRecursion, flat_map, list_any}
use Rattle.std.proofs.lemmas.List.{length-append}
use Rattle.std.proofs.lemmas.Bool.{or_parts, or_from}
use Rattle.namespace_id.specs.declared.digests.Digest.{Digest}
use Rattle.namespace_id.specs.Bytes.{AreBytes, IsString}
use Rattle.namespace_id.specs.Digests.{IsDigest, AreDigests}
use Rattle.namespace_id.specs.Names.{IsNamespace}
use Rattle.namespace_id.specs.Shares.{IsShare}
use Rattle.namespace_id.specs.declared.cells.Axis.{Axis}
use Rattle.namespace_id.specs.declared.cells.Cell.{Cell}
use Rattle.namespace_id.specs.declared.namespaces.Namespace.{Namespace}
use Rattle.namespace_id.specs.declared.shares.Share.{Share}
use Rattle.data_header.specs.Paths.{most_hashes}
use Rattle.frame_fields.specs.Fields.{byte_at, big_endian_at, string_at, cell_at, axis_at, path_at, hashes_at, digest_list_at, text_at, list_at}
use Rattle.frame_payloads.specs.codec.Texts.{axis_byte, cell_bytes, path_bytes, digest_list, text_bytes, list_bytes}
use Rattle.namespace_id.specs.Cells.{IsCell}
use Rattle.frame_payloads.specs.kinds.Commit.{hash_bytes}
use Rattle.frame_payloads.proofs.Fields.Numbers.{IsWide, wide16, wide32, number_takes, number_again}
use Rattle.frame_payloads.proofs.Fields.Strings.{byte_takes, string_takes, string_again}
use Rattle.frame_payloads.proofs.Fields.Hashes.{hashes_take, hashes_again}
use Rattle.frame_payloads.proofs.Fields.Paths.{axis_takes, axis_again, path_takes, path_again}
use Rattle.frame_payloads.proofs.Fields.Cells.{cell_takes, cell_again}
use Rattle.frame_payloads.proofs.Fields.DigestLists.{digest_list_takes, digest_list_again}
use Rattle.frame_payloads.proofs.Fields.Lists.{list_takes, list_again}
use Rattle.frame_payloads.proofs.Fields.Short.{short_parts, all_short}
use Rattle.frame_payloads.proofs.Fields.Texts.{IsField, text_takes, text_again}
use Rattle.frame_payloads.proofs.Fields.Fields.{Fields, Reads, Writes, one, as_field}

-- a fact of what was taken, and two of its value
pub with_both : {A B C : Type 0} → A × B × C → A × (B × C)
with_both t = (t.0, (t.1, t.2))

-- what stands behind a number is as short as both
pub tail_few : (w : Width) (tail : List ℕ) (n : ℕ) → length (to_be_bytes w n ++ tail) < 2 ^ 32 → length tail < 2 ^ 32
tail_few w tail n few = omega (arith, few, length-append (to_be_bytes w n) tail)

-- a number of this width
abbrev pub number : {R : Type 0} (w : Width) (limit : ℕ) → IsWide w limit → Fields R ℕ
number w limit wide = one (big_endian_at w) (to_be_bytes w) (λ n. n < limit) (number_takes w limit wide) (λ n rest is few. number_again w limit wide n rest is)

-- a number of two bytes
abbrev pub number16 : {R : Type 0} → Fields R ℕ
number16 = number w16 (2 ^ 16) wide16

-- a number of four bytes
abbrev pub number32 : {R : Type 0} → Fields R ℕ
number32 = number w32 (2 ^ 32) wide32

-- a byte
abbrev pub byte : {R : Type 0} → Fields R ℕ
byte = one byte_at (λ b. b ∷ []) (λ b. ⊤) (λ bytes b rest fits e. ((byte_takes bytes b rest fits e).0, tt)) (λ b rest is few. refl)

-- a byte string of this length
abbrev pub string : {R : Type 0} → ℕ → Fields R (List ℕ)
string size = one (string_at size) (λ l. l) (IsString size) (string_takes size) (λ l rest is few. string_again size l rest is.size_is)

-- a digest
abbrev pub digest90 : {R : Type 0} → Fields R Digest
digest90 = as_field (string 90) (λ l. record { 0 = l }) (λ d. d.0) IsDigest (record { there = λ l is. (is, refl); back = λ d is. (is, refl) })

-- a share
abbrev pub share512 : {R : Type 0} → Fields R Share
share512 = as_field (string 512) (λ l. record { 0 = l }) (λ s. s.0) IsShare (record { there = λ l is. (is, refl); back = λ s is. (is, refl) })

-- a namespace
abbrev pub name29 : {R : Type 0} → Fields R Namespace
name29 = as_field (string 29) (λ l. record { 0 = l }) (λ n. n.0) IsNamespace (record { there = λ l is. (is, refl); back = λ n is. (is, refl) })

-- a cell
abbrev pub cell : {R : Type 0} → Fields R Cell
cell = one cell_at cell_bytes IsCell cell_takes (λ c rest is few. cell_again c rest is)

-- an axis
abbrev pub axis : {R : Type 0} → Fields R Axis
axis = one axis_at (λ a. axis_byte a ∷ []) (λ a. ⊤) (λ bytes a rest fits e. (axis_takes bytes a rest fits e, tt)) (λ a rest is few. axis_again a rest)

-- nodes behind their count
abbrev pub path : {R : Type 0} → ℕ → Fields R (List Digest)
path limit = one (path_at limit) path_bytes (λ nodes. (length nodes ≤ limit) × AreDigests nodes) (λ bytes nodes rest fits e. with_both (path_takes limit bytes nodes rest fits e)) (λ nodes rest is few. path_again limit nodes rest is.0 is.1)

-- hashes behind their count
abbrev pub hashes : {R : Type 0} → Fields R (List (List ℕ))
hashes = one hashes_at hash_bytes (λ up. (length up ≤ most_hashes) × AllByRecursion (IsString 32) up) (λ bytes up rest fits e. with_both (hashes_take bytes up rest fits e)) (λ up rest is few. hashes_again up rest is.0 is.1)

-- a field that is read and spelled by itself
abbrev pub field : {R A : Type 0} (read : List ℕ → Option (A × List ℕ)) (text : A → List ℕ) (Is : A → Type 0) → IsField read text Is → Fields R A
field read text Is so = one read text Is so.takes so.again

-- digests behind their count in two bytes
abbrev pub digests16 : {R : Type 0} (limit : ℕ) → limit < 2 ^ 16 → Fields R (List Digest)
digests16 limit low = one (digest_list_at limit) digest_list (λ digests. AreDigests digests × (length digests ≤ limit)) (λ bytes digests rest fits e. with_both (digest_list_takes limit bytes digests rest fits e))
    (λ digests rest is few. digest_list_again limit digests rest is.0 (omega (arith, is.1, low)) is.1)

-- a byte string behind its length in two bytes
abbrev pub text16 : {R : Type 0} (limit : ℕ) → limit < 2 ^ 16 → Fields R (List ℕ)
text16 limit low = one (text_at w16 limit) (text_bytes w16) (λ text. AreBytes text × (length text ≤ limit)) (λ bytes text rest fits e. with_both (text_takes w16 (2 ^ 16) wide16 limit bytes text rest fits e))
    (λ text rest is few. text_again w16 (2 ^ 16) wide16 limit text rest (omega (arith, is.1, low)) is.1)

-- ---- lists

-- values behind their count in two bytes
abbrev pub list16 : {R A : Type 0} (limit : ℕ) (low : limit < 2 ^ 16) (read : List ℕ → Option (A × List ℕ)) (text : A → List ℕ) (Is : A → Type 0) → IsField read text Is → Fields R (List A)
list16 limit low read text Is so = one (list_at w16 limit read) (list_bytes w16 text) (λ xs. AllByRecursion Is xs × (length xs ≤ limit))
    (λ bytes xs rest fits e. with_both (list_takes read text Is so w16 (2 ^ 16) wide16 limit bytes xs rest fits e))
    (λ xs rest is few. list_again read text Is so w16 (2 ^ 16) wide16 limit xs rest is.0 (tail_few w16 (flat_map text xs) (length xs) few) (omega (arith, is.1, low)) is.1)

-- whether values are more than can be written, or one of them is too long
abbrev pub are_long : {A : Type 0} → ℕ → (A → Bool) → List A → Bool
are_long limit is_long xs = ltb limit (length xs) || list_any is_long xs

-- values of which none is too long, and not too many
abbrev pub AreShort : {A : Type 0} → (A → Type 0) → ℕ → (A → Bool) → List A → Type 0
AreShort Is limit is_long xs = AllByRecursion Is xs × (are_long limit is_long xs ≡ false)

-- a list of values behind their count that is read is the one that was written
pub short_list_takes : {A : Type 0} (read : List ℕ → Option (A × List ℕ)) (text : A → List ℕ) (Is : A → Type 0) (is_long : A → Bool) (w : Width) (bound : ℕ) (wide : IsWide w bound) (limit : ℕ)
    → IsField read text (λ x. Is x × (is_long x ≡ false)) → Reads (list_at w limit read) (list_bytes w text) (AreShort Is limit is_long)
short_list_takes read text Is is_long w bound wide limit so bytes xs rest fits e =
    let t = list_takes read text (λ x. Is x × (is_long x ≡ false)) so w bound wide limit bytes xs rest fits e in
    let short = short_parts Is is_long xs t.1 in
    (t.0, (short.0, or_from (ltb limit (length xs)) (list_any is_long xs) (le-ltb _ _ t.2) short.1))

-- one that was written is read
pub short_list_again : {A : Type 0} (read : List ℕ → Option (A × List ℕ)) (text : A → List ℕ) (Is : A → Type 0) (is_long : A → Bool) (w : Width) (bound : ℕ) (wide : IsWide w bound) (limit : ℕ)
    → limit < bound → IsField read text (λ x. Is x × (is_long x ≡ false)) → Writes (list_at w limit read) (list_bytes w text) (AreShort Is limit is_long)
short_list_again read text Is is_long w bound wide limit low so xs rest is small =
    let parts = or_parts (ltb limit (length xs)) (list_any is_long xs) is.1 in
    let few : length xs ≤ limit = ltb-false limit (length xs) parts.0 in
    list_again read text (λ x. Is x × (is_long x ≡ false)) so w bound wide limit xs rest (all_short Is is_long xs is.0 parts.1) (tail_few w (flat_map text xs) (length xs) small) (omega (arith, few, low)) few

-- values behind their count in two bytes, of which none is too long
abbrev pub short_list16 : {R A : Type 0} (limit : ℕ) (low : limit < 2 ^ 16) (read : List ℕ → Option (A × List ℕ)) (text : A → List ℕ) (Is : A → Type 0) (is_long : A → Bool)
    → IsField read text (λ x. Is x × (is_long x ≡ false)) → Fields R (List A)
short_list16 limit low read text Is is_long so = one (list_at w16 limit read) (list_bytes w16 text) (AreShort Is limit is_long)
    (short_list_takes read text Is is_long w16 (2 ^ 16) wide16 limit so) (short_list_again read text Is is_long w16 (2 ^ 16) wide16 limit low so)
