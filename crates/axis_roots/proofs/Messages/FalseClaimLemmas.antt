-- Fraud claims that are accepted under a square's own header.
use Rattle.std.proofs.Common.{◌≡◌, ◌∙◌, ℕ, zero, suc, ◌*◌, ◌<◌, List, [], ◌∷◌, length, map, true, false, ◌==◌, refl, sym, ap, subst, inl, inr, arith}
use Rattle.std.specs.Prelude.{◌⊎◌, ◌^◌, Option, Some, None, IfSome, nat_lt}
use Rattle.std.specs.List.{AllByRecursion, Contains, list_all, list_any, slice_get}
use Rattle.std.proofs.lemmas.Bool.{and_parts, cases_Bool}
use Rattle.std.proofs.lemmas.Bool.Decides.{nat_tests}
use Rattle.std.proofs.lemmas.Option.{slice_get-get_or}
use Rattle.std.proofs.lemmas.Slice.Eq.{bytes_eq-Decides}
use Rattle.namespace_id.specs.declared.cells.Axis.{Axis}
use Rattle.namespace_id.specs.declared.namespaces.Namespace.{Namespace}
use Rattle.namespace_id.specs.declared.shares.Share.{Share}
use Rattle.namespace_id.specs.declared.digests.Digest.{Digest}
use Rattle.namespace_id.specs.Cells.{is_in_square}
use Rattle.namespace_id.specs.Lists.{holds_along}
use Rattle.namespace_id.proofs.PowerLemmas.{double_halvings}
use Rattle.nmt_tree.specs.Roots.{halvings}
use Rattle.nmt_proofs.specs.Parts.{Part, digest_of}
use Rattle.nmt_proofs.specs.Clashes.{Agree}
use Rattle.nmt_proofs.specs.Places.{AreAscending}
use Rattle.nmt_proofs.proofs.Parts.ShownLemmas.{opening-sized, opening-deep}
use Rattle.nmt_proofs.proofs.Sets.SetLawLemmas.{set_agreed}
use Rattle.leopard_code.specs.Codewords.{HasEntries}
use Rattle.data_header.specs.Headers.{Roots}
use Rattle.square_layout.specs.Blocks.{SquareShares}
use Rattle.axis_roots.specs.declared.message.messages.Message.{Message}
use Rattle.axis_roots.specs.Messages.{position, index}
use Rattle.axis_roots.specs.Openings.{IsProved}
use Rattle.axis_roots.specs.Lines.{blank, cell_on, line_strict_root}
use Rattle.axis_roots.specs.Grids.{share_at, axis_shares, axis_names, axis_tree, Extends, IsHeaderOf}
use Rattle.axis_roots.specs.Own.{ShowsOwn, NamesClash}
use Rattle.axis_roots.specs.Sets.{is_along, is_shown, along_in, sample_names, set_of, set_tree, is_bare, fits_set, OpensSet}
use Rattle.axis_roots.specs.Claims.{ClaimParts, IsThrough, ShowsBad, claimed_root, is_set_cell, AreProved, Accepts, SetNames, IsFalseClaim}
use Rattle.axis_roots.proofs.Grids.AxisLemmas.{cell_on-own, length-along, get_or-along}
use Rattle.axis_roots.proofs.Grids.NumberLemmas.{position-lt}
use Rattle.axis_roots.proofs.Grids.ExtensionLemmas.{extension_once}
use Rattle.axis_roots.proofs.Grids.HeaderLemmas.{header_width, header_strict}
use Rattle.axis_roots.proofs.Messages.OwnLemmas.{leaves_are, names_or_agrees, share_on, accepted_own}
use Rattle.axis_roots.proofs.Messages.ClaimLemmas.{are_inside, Shape, shape_of, word_once}
use Rattle.axis_roots.proofs.Messages.SetLemmas.{bare_inside, along-each, set_ascending, set_opening, listed_shares, claim_inside}

-- a sample shows the share of the extension that the header is made of
own_share : (header : Roots) (square : SquareShares) (own : IsHeaderOf header square) (m : Message) → ShowsOwn m square
    → m.share ≡ share_at (2 * square.k) own.grid m.cell
own_share header square own m shows =
    shows.share
    ∙ ap (λ (grid : List Share). share_at (2 * square.k) grid m.cell)
    (extension_once square.k square.shares shows.grid own.grid own.whole.width shows.extends own.extends)

-- the sample shows the share of a grid at its cell
abbrev IsOwnShare : ℕ → List Share → Message → Type 0
IsOwnShare k grid m = m.share ≡ share_at (2 * k) grid m.cell

-- a cell that the set doesn't show, or whose own share it shows, shows the square's own share or names a collision
own_here : (header : Roots) (square : SquareShares) (own : IsHeaderOf header square) (claim : ClaimParts) (m : Message)
    → (is_set_cell claim m ≡ false → IsProved header m) → (is_set_cell claim m ≡ true → IsOwnShare square.k own.grid m) → IsOwnShare square.k own.grid m ⊎ ((is_set_cell claim m ≡ false) × NamesClash m square)
own_here header square own claim m proved shown = elim (cases_Bool (is_set_cell claim m)) [
  | inl t ↦ inl (shown t)
  | inr f ↦ elim (accepted_own header m (proved f) square own) [
    | inr names ↦ inr (f, names)
    | inl shows ↦ inl (own_share header square own m shows)
  ]
]

-- under the header of a square all cells show the square's own shares, or the sample of one names a collision
own_or_named : (header : Roots) (square : SquareShares) (own : IsHeaderOf header square) (claim : ClaimParts) (cells : List Message) → AreProved header claim cells
    → AllByRecursion (λ m. is_set_cell claim m ≡ true → IsOwnShare square.k own.grid m) cells
    → AllByRecursion (IsOwnShare square.k own.grid) cells ⊎ ((m : Message) × Contains cells m × (is_set_cell claim m ≡ false) × NamesClash m square)
own_or_named header square own claim [] proved shown = inl tt
own_or_named header square own claim (m ∷ cells) proved shown = elim (own_here header square own claim m proved.0 shown.0) [
  | inr names ↦ inr (m, (0, omega arith, refl), names.0, names.1)
  | inl here ↦ elim (own_or_named header square own claim cells proved.1 shown.1) [
    | inl rest ↦ inl (here, rest)
    | inr later ↦
        let place = later.1 in
        let within : place.0 < length cells = place.1 in
        inr (later.0, (suc place.0, omega arith, place.2), later.2, later.3)
  ]
]

-- ---- what the set shows

-- samples along an axis, of which each shows what stands there, show the grid's own shares
own_along : (k : ℕ) (grid : List Share) (axis : Axis) (i : ℕ) (cells : List Message) → list_all (λ m. index axis m.cell == i) cells ≡ true
    → AllByRecursion (λ m. is_along axis m ≡ true → is_in_square k m.cell ≡ true) cells
    → AllByRecursion (λ m. is_along axis m ≡ true → slice_get (axis_shares k grid axis i) (position axis m.cell) ≡ Some m.share) cells
    → AllByRecursion (λ m. is_along axis m ≡ true → IsOwnShare k grid m) cells
own_along k grid axis i [] on inside listed = tt
own_along k grid axis i (m ∷ cells) on inside listed =
    let here = and_parts (index axis m.cell == i) (list_all (λ n. index axis n.cell == i) cells) on in
    let test : (index axis m.cell == i) ≡ true = here.0 in
    let place : index axis m.cell ≡ i = grind (arith, nat_tests) in (
      λ t. share_on k grid axis m.cell m.share (position-lt k axis m.cell (inside.0 t))
          (subst (λ (n : ℕ). slice_get (axis_shares k grid axis n) (position axis m.cell) ≡ Some m.share) (sym place) (listed.0 t)),
      own_along k grid axis i cells here.1 inside.1 listed.1,
    )

-- a set that agrees with the square's tree shows the square's own shares
set_shows_own : (k : ℕ) (square grid : List Share) (axis : Axis) (i : ℕ) (cells : List Message) (nodes : List Digest) (root : Digest) → OpensSet k axis cells nodes root
    → Extends k square grid → i < 2 * k → list_all (λ m. index axis m.cell == i) cells ≡ true → holds_along nat_lt (map (λ m. position axis m.cell) cells) ≡ true
    → list_all (is_bare k axis) cells ≡ true → Agree (set_tree k axis cells nodes) (axis_tree k grid axis i)
    → AllByRecursion (λ m. is_along axis m ≡ true → IsOwnShare k grid m) cells
set_shows_own k square grid axis i cells nodes root opens extends below on up bare same =
    let ms : List Message = along_in axis cells in
    let names : List Namespace = axis_names k grid axis i in
    let shares : List Share = axis_shares k grid axis i in
    let places : AreAscending 0 (2 ^ halvings (2 * k)) (map (λ m. position axis m.cell) ms) =
    subst (λ (n : ℕ). AreAscending 0 n (map (λ m. position axis m.cell) ms)) (sym (double_halvings k opens.width)) (set_ascending k axis cells up bare) in
    let listed = set_agreed (halvings (2 * k)) (map (λ m. position axis m.cell) ms) (sample_names k ms) (map (λ m. m.share) ms) nodes names shares
    (set_opening k axis cells nodes root opens) places (leaves_are k square grid axis i opens.width extends below) same in
    own_along k grid axis i cells on (bare_inside k axis cells bare)
    (along-each (λ m. slice_get shares (position axis m.cell) ≡ Some m.share) axis cells (listed_shares k axis ms names shares listed.0))

-- under the header of a square a set shows the square's own shares, or it names a collision
set_own_or_named : (header : Roots) (square : SquareShares) (own : IsHeaderOf header square) (claim : ClaimParts) (set : Option (List Digest)) → claim.set ≡ set
    → IfSome set (λ nodes. OpensSet square.k claim.axis claim.cells nodes (claimed_root header claim)) → fits_set square.k claim.axis claim.cells set ≡ true → Shape square.k claim
    → AllByRecursion (λ m. is_shown set claim.axis m ≡ true → IsOwnShare square.k own.grid m) claim.cells ⊎ SetNames claim square
set_own_or_named header square own claim None e opens fits shape = inl (none_shown claim.cells)
  where
    none_shown : (cs : List Message) → AllByRecursion (λ m. is_shown None claim.axis m ≡ true → IsOwnShare square.k own.grid m) cs
    none_shown [] = tt
    none_shown (m ∷ cs) = (λ t. absurd (let x : false ≡ true = t in cc), none_shown cs)
set_own_or_named header square own claim (Some nodes) e opens fits shape =
    let k : ℕ = square.k in
    let root : Digest = claimed_root header claim in
    let opening = set_opening k claim.axis claim.cells nodes root opens in
    let tests = and_parts (list_any (is_along claim.axis) claim.cells) (list_all (is_bare k claim.axis) claim.cells) fits in
    let part : Part = set_tree k claim.axis claim.cells nodes in
    let value : digest_of part ≡ root = ap (λ (bytes : List ℕ). record { 0 = bytes }) ((bytes_eq-Decides (digest_of part).0 root.0).0 opens.opens.value) in
    elim (names_or_agrees header square claim.axis claim.index part own shape.index
    (opening-deep (halvings (2 * k)) (set_of k claim.axis claim.cells) nodes opening) (opening-sized (halvings (2 * k)) (set_of k claim.axis claim.cells) nodes opening) value) [
      | inr names ↦ inr (nodes, e, names)
      | inl agrees ↦ inl (subst (λ (grid : List Share). AllByRecursion (λ m. is_along claim.axis m ≡ true → IsOwnShare k grid m) claim.cells)
          (extension_once k square.shares agrees.grid own.grid own.whole.width agrees.extends own.extends)
          (set_shows_own k square.shares agrees.grid claim.axis claim.index claim.cells nodes root opens agrees.extends shape.index shape.on shape.rising tests.1 agrees.same))
    ]

-- ---- claims

-- samples that show a grid's own shares on an axis show what stands on it
own_entries : (k : ℕ) (grid : List Share) (axis : Axis) (i : ℕ) (cells : List Message) → list_all (λ m. index axis m.cell == i) cells ≡ true
    → are_inside k cells ≡ true → AllByRecursion (λ m. m.share ≡ share_at (2 * k) grid m.cell) cells
    → HasEntries (map (λ m. position axis m.cell) cells) (map (λ m. m.share) cells) (axis_shares k grid axis i)
own_entries k grid axis i [] on inside own j h = absurd (omega arith)
own_entries k grid axis i (m ∷ cells) on inside own zero h =
    let here = and_parts (index axis m.cell == i) (list_all (λ n. index axis n.cell == i) cells) on in
    let test : (index axis m.cell == i) ≡ true = here.0 in
    let place : index axis m.cell ≡ i = grind (arith, nat_tests) in
    let pos : ℕ = position axis m.cell in
    let below : pos < 2 * k = position-lt k axis m.cell (and_parts (is_in_square k m.cell) (are_inside k cells) inside).0 in
    let cell : cell_on axis i pos ≡ m.cell = ap (λ (n : ℕ). cell_on axis n pos) (sym place) ∙ cell_on-own axis m.cell in
    slice_get-get_or (axis_shares k grid axis i) pos blank (omega (arith, length-along k (share_at (2 * k) grid) axis i))
    ∙ ap Some (get_or-along k (share_at (2 * k) grid) axis i pos blank below ∙ ap (share_at (2 * k) grid) cell ∙ sym own.0)
own_entries k grid axis i (m ∷ cells) on inside own (suc j) h =
    own_entries k grid axis i cells (and_parts (index axis m.cell == i) (list_all (λ n. index axis n.cell == i) cells) on).1
    (and_parts (is_in_square k m.cell) (are_inside k cells) inside).1 own.1 j (omega arith)

-- a claim of the square's own shares shows nothing bad: the codeword through them is the extension's axis
own_not_bad : (header : Roots) (square : SquareShares) (own : IsHeaderOf header square) (claim : ClaimParts) → are_inside square.k claim.cells ≡ true
    → AllByRecursion (λ m. m.share ≡ share_at (2 * square.k) own.grid m.cell) claim.cells → ShowsBad square.k claim (claimed_root header claim) → ⊥
own_not_bad header square own claim inside shares bad =
    let k : ℕ = square.k in
    let line : List Share = axis_shares k own.grid claim.axis claim.index in
    let shape : Shape k claim = shape_of k claim bad.shape in
    let through : IsThrough k claim line = record {
      codeword = own.extends.codewords claim.axis claim.index shape.index;
      entries = own_entries k own.grid claim.axis claim.index claim.cells shape.on inside shares;
    } in
    let one : bad.word ≡ line = word_once k claim bad.word line own.whole.width shape inside bad.through through in
    bad.other (ap (line_strict_root k claim.axis claim.index) one ∙ header_strict k own.grid header own.roots claim.axis claim.index shape.index)

-- so a claim that is accepted has a sample, or a set, that names a collision
pub accepted_false : (header : Roots) (claim : ClaimParts) → Accepts header claim → IsFalseClaim header claim
accepted_false header claim accepts square own =
    let width : header.k ≡ square.k = header_width square.k own.grid header own.roots in
    let inside : are_inside square.k claim.cells ≡ true =
    subst (λ (n : ℕ). are_inside n claim.cells ≡ true) width (claim_inside header claim accepts.set_shape accepts.proved) in
    let bad : ShowsBad square.k claim (claimed_root header claim) = subst (λ (n : ℕ). ShowsBad n claim (claimed_root header claim)) width accepts.bad in
    let opens : IfSome claim.set (λ nodes. OpensSet square.k claim.axis claim.cells nodes (claimed_root header claim)) =
    subst (λ (n : ℕ). IfSome claim.set (λ nodes. OpensSet n claim.axis claim.cells nodes (claimed_root header claim))) width accepts.set in
    let fits : fits_set square.k claim.axis claim.cells claim.set ≡ true = subst (λ (n : ℕ). fits_set n claim.axis claim.cells claim.set ≡ true) width accepts.set_shape in
    elim (set_own_or_named header square own claim claim.set refl opens fits (shape_of square.k claim bad.shape)) [
      | inr named ↦ inr named
      | inl shown ↦ elim (own_or_named header square own claim claim.cells accepts.proved shown) [
        | inr named ↦ inl named
        | inl shares ↦ absurd (own_not_bad header square own claim inside shares bad)
      ]
    ]
