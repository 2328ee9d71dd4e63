-- The checks of rows, one row at a time.
use Rattle.std.proofs.Common.{◌≡◌, ◌≢◌, ◌∙◌, ℕ, suc, ◌+◌, ◌-◌, ◌*◌, ◌%◌, ◌<◌, ◌≤◌, ◌==◌, ◌&&◌, nat_lt, nat_eq, List, [], ◌∷◌, ◌++◌, length, Bool, true, false, Option, Some, None, cond, refl, sym, ap, ap₂, inl, inr, arith, length-append}
use Rattle.std.specs.Option.{option_map_or}
use Rattle.std.specs.Str.{bytes_eq}
use Rattle.std.proofs.lemmas.Bool.{cases_Bool, eqb-true, and_parts, ltb-true, lt-ltb, eq-eqb}
use Rattle.std.proofs.lemmas.Bool.Decides.{nat_tests}
use Rattle.std.proofs.lemmas.List.{map-append, append_assoc, append-nil, length-map}
use Rattle.std.proofs.lemmas.Slice.Eq.{bytes_eq-Decides}
use Rattle.namespace_id.specs.declared.cells.Axis.{Axis}
use Rattle.namespace_id.specs.declared.cells.Axis.TheVariants.{Row}
use Rattle.namespace_id.specs.declared.digests.Digest.{Digest}
use Rattle.namespace_id.specs.Cells.{is_width}
use Rattle.nmt_tree.specs.Roots.{halvings}
use Rattle.nmt_proofs.specs.Openings.{intervals_from}
use Rattle.nmt_proofs.specs.Causes.{set_refusal}
use Rattle.nmt_proofs.specs.declared.opening.OpenRefusal.{OpenRefusal}
use Rattle.data_header.specs.DataRoots.{root_halvings, root_place, leaf_hash, led, OpensRoot}
use Rattle.blob_commit.specs.Bounds.{most_subtrees}
use Rattle.blob_commit.specs.Commitments.{leaf_hashes}
use Rattle.blob_commit.specs.Proofs.{RowParts, part_of_row, row_sizes, fits_rows, subtrees_of}
use Rattle.blob_commit.specs.Refusals.{is_led, first_unled, row_refusal, first_unopened}

-- ---- shapes

pub fits-none : (k levels at left : ℕ) (rows : List RowParts) → length rows ≡ 0 → nat_eq left 0 ≡ fits_rows k levels at left rows
unfolding fits_rows
fits-none k levels at left [] h = refl
fits-none k levels at left (row ∷ rows) h = absurd (omega (arith, h))

pub fits-zero : (k levels at left : ℕ) (rows others : List RowParts) (row : RowParts) → rows ≡ row ∷ others → left ≡ 0 → false ≡ fits_rows k levels at left rows
unfolding fits_rows
fits-zero k levels at left rows others row e h =
    let test : nat_lt 0 left ≡ false = grind (arith, nat_tests) in
    sym (ap (fits_rows k levels at left) e
    ∙ ap (λ (b : Bool). b && (length row.subtrees == length (row_sizes k levels at left)) && fits_rows k levels (at + part_of_row k at left) (left - part_of_row k at left) others) test)

pub fits-short : (k levels at left : ℕ) (rows others : List RowParts) (row : RowParts) → rows ≡ row ∷ others → 0 < left → length row.subtrees ≢ length (row_sizes k levels at left) → false ≡ fits_rows k levels at left rows
unfolding fits_rows
fits-short k levels at left rows others row e some h =
    let one : nat_lt 0 left ≡ true = lt-ltb 0 left some in
    let two : (length row.subtrees == length (row_sizes k levels at left)) ≡ false = elim (cases_Bool (length row.subtrees == length (row_sizes k levels at left))) [
      | inl t ↦ absurd (h (eqb-true _ _ t))
      | inr f ↦ f
    ] in
    sym (ap (fits_rows k levels at left) e
    ∙ ap₂ (λ (a b : Bool). a && b && fits_rows k levels (at + part_of_row k at left) (left - part_of_row k at left) others) one two)

pub fits-more : (k levels at left : ℕ) (rows others : List RowParts) (row : RowParts) → rows ≡ row ∷ others → 0 < left → length row.subtrees ≡ length (row_sizes k levels at left)
    → fits_rows k levels (at + part_of_row k at left) (left - part_of_row k at left) others ≡ fits_rows k levels at left rows
unfolding fits_rows
fits-more k levels at left rows others row e some h =
    let one : nat_lt 0 left ≡ true = lt-ltb 0 left some in
    let two : (length row.subtrees == length (row_sizes k levels at left)) ≡ true = eq-eqb _ _ h in
    sym (ap (fits_rows k levels at left) e
    ∙ ap₂ (λ (a b : Bool). a && b && fits_rows k levels (at + part_of_row k at left) (left - part_of_row k at left) others) one two)

-- ---- paths

-- the test of a path is whether it opens the root
pub led-opens : (root : List ℕ) (k : ℕ) (axis : Axis) (index : ℕ) (digest : Digest) (path : List (List ℕ)) → is_led root k axis index digest path ≡ true → OpensRoot root k axis index digest path
led-opens root k axis index digest path h =
    let three = and_parts (is_width k && nat_lt index (2 * k) && (length path == root_halvings k)) (bytes_eq (led (root_place k axis index) (leaf_hash digest) path) root) h in
    let two = and_parts (is_width k && nat_lt index (2 * k)) (length path == root_halvings k) three.0 in
    let one = and_parts (is_width k) (nat_lt index (2 * k)) two.0 in
    record { width = one.0; place = ltb-true index (2 * k) one.1; count = eqb-true _ _ two.1; leads = (bytes_eq-Decides _ root).0 three.1 }

pub opens-led : (root : List ℕ) (k : ℕ) (axis : Axis) (index : ℕ) (digest : Digest) (path : List (List ℕ)) → OpensRoot root k axis index digest path → is_led root k axis index digest path ≡ true
opens-led root k axis index digest path h =
    let b : nat_lt index (2 * k) ≡ true = lt-ltb index (2 * k) h.place in
    let c : (length path == root_halvings k) ≡ true = eq-eqb _ _ h.count in
    let d : bytes_eq (led (root_place k axis index) (leaf_hash digest) path) root ≡ true = (bytes_eq-Decides _ root).1 h.leads in
    ap₂ (λ (x y : Bool). x && y && (length path == root_halvings k) && bytes_eq (led (root_place k axis index) (leaf_hash digest) path) root) h.width b
    ∙ ap₂ (λ (x y : Bool). x && y) c d

pub not_led : (root : List ℕ) (k : ℕ) (axis : Axis) (index : ℕ) (digest : Digest) (path : List (List ℕ)) → (OpensRoot root k axis index digest path → ⊥) → is_led root k axis index digest path ≡ false
not_led root k axis index digest path h = elim (cases_Bool (is_led root k axis index digest path)) [
  | inl t ↦ absurd (h (led-opens root k axis index digest path t))
  | inr f ↦ f
]

pub unled-none : (root : List ℕ) (k index number : ℕ) (rows : List RowParts) → length rows ≡ 0 → None ≡ first_unled root k index number rows
unfolding first_unled
unled-none root k index number [] h = refl
unled-none root k index number (row ∷ rows) h = absurd (omega (arith, h))

pub unled-here : (root : List ℕ) (k index number : ℕ) (rows others : List RowParts) (row : RowParts) → rows ≡ row ∷ others → (OpensRoot root k Row index row.root row.up → ⊥)
    → Some number ≡ first_unled root k index number rows
unfolding first_unled
unled-here root k index number rows others row e h =
    sym (ap (first_unled root k index number) e
    ∙ ap (λ (b : Bool). cond b (first_unled root k (suc index) (suc number) others) (Some number)) (not_led root k Row index row.root row.up h))

pub unled-more : (root : List ℕ) (k index number : ℕ) (rows others : List RowParts) (row : RowParts) → rows ≡ row ∷ others → OpensRoot root k Row index row.root row.up
    → first_unled root k (index + 1) (number + 1) others ≡ first_unled root k index number rows
unfolding first_unled
unled-more root k index number rows others row e h =
    let up : index + 1 ≡ suc index = omega arith in
    let up' : number + 1 ≡ suc number = omega arith in
    ap₂ (λ (i n : ℕ). first_unled root k i n others) up up'
    ∙ sym (ap (first_unled root k index number) e
    ∙ ap (λ (b : Bool). cond b (first_unled root k (suc index) (suc number) others) (Some number)) (opens-led root k Row index row.root row.up h))

-- ---- subtrees

pub unopened-none : (k levels at left number : ℕ) (rows : List RowParts) → length rows ≡ 0 → None ≡ first_unopened k levels at left number rows
unfolding first_unopened
unopened-none k levels at left number [] h = refl
unopened-none k levels at left number (row ∷ rows) h = absurd (omega (arith, h))

pub unopened-here : (k levels at left number : ℕ) (rows others : List RowParts) (row : RowParts) (why : OpenRefusal) → rows ≡ row ∷ others → row_refusal k levels at left row ≡ Some why
    → Some (number, why) ≡ first_unopened k levels at left number rows
unfolding first_unopened
unopened-here k levels at left number rows others row why e h =
    sym (ap (first_unopened k levels at left number) e
    ∙ ap (λ (o : Option OpenRefusal). option_map_or (λ w. Some (number, w)) o (first_unopened k levels (at + part_of_row k at left) (left - part_of_row k at left) (suc number) others)) h)

pub unopened-more : (k levels at left number : ℕ) (rows others : List RowParts) (row : RowParts) → rows ≡ row ∷ others → row_refusal k levels at left row ≡ None
    → first_unopened k levels (at + part_of_row k at left) (left - part_of_row k at left) (number + 1) others ≡ first_unopened k levels at left number rows
unfolding first_unopened
unopened-more k levels at left number rows others row e h =
    let up : number + 1 ≡ suc number = omega arith in
    ap (λ (n : ℕ). first_unopened k levels (at + part_of_row k at left) (left - part_of_row k at left) n others) up
    ∙ sym (ap (first_unopened k levels at left number) e
    ∙ ap (λ (o : Option OpenRefusal). option_map_or (λ w. Some (number, w)) o (first_unopened k levels (at + part_of_row k at left) (left - part_of_row k at left) (suc number) others)) h)

-- ---- digests

pub subtrees-none : (hashes : List (List ℕ)) (rows : List RowParts) → length rows ≡ 0 → hashes ≡ hashes ++ leaf_hashes (subtrees_of rows)
unfolding subtrees_of
subtrees-none hashes [] h = sym (append-nil hashes)
subtrees-none hashes (row ∷ rows) h = absurd (omega (arith, h))

pub subtrees-cons : (rows others : List RowParts) (row : RowParts) → rows ≡ row ∷ others → subtrees_of rows ≡ row.subtrees ++ subtrees_of others
unfolding subtrees_of
subtrees-cons rows others row e = ap subtrees_of e

pub length-subtrees : (rows others : List RowParts) (row : RowParts) → rows ≡ row ∷ others → length (subtrees_of rows) ≡ length row.subtrees + length (subtrees_of others)
length-subtrees rows others row e = ap length (subtrees-cons rows others row e) ∙ length-append row.subtrees (subtrees_of others)

pub subtrees-more : (hashes mid new : List (List ℕ)) (rows others : List RowParts) (row : RowParts) → rows ≡ row ∷ others → mid ≡ hashes ++ leaf_hashes row.subtrees
    → new ≡ mid ++ leaf_hashes (subtrees_of others) → new ≡ hashes ++ leaf_hashes (subtrees_of rows)
subtrees-more hashes mid new rows others row e first rest =
    rest ∙ ap (λ (l : List (List ℕ)). l ++ leaf_hashes (subtrees_of others)) first
    ∙ append_assoc hashes (leaf_hashes row.subtrees) (leaf_hashes (subtrees_of others))
    ∙ ap (λ (l : List (List ℕ)). hashes ++ l) (sym (map-append leaf_hash row.subtrees (subtrees_of others)) ∙ sym (ap leaf_hashes (subtrees-cons rows others row e)))

-- the hashes that are left fit
pub room_behind : (hashes mid : List (List ℕ)) (rows others : List RowParts) (row : RowParts) → rows ≡ row ∷ others → mid ≡ hashes ++ leaf_hashes row.subtrees
    → length hashes + length (subtrees_of rows) ≤ most_subtrees → length mid + length (subtrees_of others) ≤ most_subtrees
room_behind hashes mid rows others row e first room =
    let count : length mid ≡ length hashes + length row.subtrees = ap length first ∙ length-append hashes (leaf_hashes row.subtrees) ∙ ap (λ (n : ℕ). length hashes + n) (length-map row.subtrees leaf_hash) in
    omega (arith, count, length-subtrees rows others row e, room)

-- the refusal of a row, by what is handed over
pub refusal_row : (k levels at left : ℕ) (row : RowParts) (sizes : List ℕ) (digests nodes : List Digest) (root : Digest) (o : Option OpenRefusal) → o ≡ set_refusal (halvings (2 * k)) (intervals_from (at % k) sizes digests) nodes root
    → sizes ≡ row_sizes k levels at left → digests ≡ row.subtrees → nodes ≡ row.nodes → root ≡ row.root → row_refusal k levels at left row ≡ o
refusal_row k levels at left row sizes digests nodes root o e s d n r =
    sym (e ∙ ap₂ (λ (x : List ℕ) (y : List Digest). set_refusal (halvings (2 * k)) (intervals_from (at % k) x y) nodes root) s d
    ∙ ap₂ (λ (x : List Digest) (y : Digest). set_refusal (halvings (2 * k)) (intervals_from (at % k) (row_sizes k levels at left) row.subtrees) x y) n r)

-- hashes of some digests are some
pub some_hashes : (hashes new : List (List ℕ)) (digests : List Digest) → new ≡ hashes ++ leaf_hashes digests → 1 ≤ length digests → 1 ≤ length new
some_hashes hashes new digests e some = omega (arith, ap length e, length-append hashes (leaf_hashes digests), length-map digests leaf_hash, some)
