-- The set of a fraud claim: the samples that it shows, and their places.
use Rattle.std.proofs.Common.{◌≡◌, ◌∙◌, ℕ, suc, ◌+◌, ◌*◌, ◌^◌, ◌<◌, ◌≤◌, List, [], ◌∷◌, length, map, Bool, true, false, cond, ◌==◌, ◌&&◌, refl, sym, ap, subst, inl, inr, arith, eqb-true}
use Rattle.std.specs.Prelude.{Option, Some, None, IfSome, nat_lt, ◌||◌}
use Rattle.std.specs.List.{AllByRecursion, list_all, list_any, slice_get}
use Rattle.std.proofs.lemmas.Bool.{and_parts, and_from, cases_Bool}
use Rattle.std.proofs.lemmas.Bool.Decides.{nat_tests}
use Rattle.std.proofs.lemmas.List.{length-map}
use Rattle.namespace_id.specs.declared.cells.Axis.{Axis}
use Rattle.namespace_id.specs.declared.namespaces.Namespace.{Namespace}
use Rattle.namespace_id.specs.declared.shares.Share.{Share}
use Rattle.namespace_id.specs.declared.digests.Digest.{Digest}
use Rattle.namespace_id.specs.Cells.{is_in_square}
use Rattle.namespace_id.specs.Lists.{holds_along}
use Rattle.namespace_id.proofs.ShareLemmas.{name_of-is}
use Rattle.namespace_id.proofs.PowerLemmas.{halvings_double, power_halvings, width_power, double_halvings}
use Rattle.nmt_tree.specs.Roots.{halvings}
use Rattle.nmt_proofs.specs.Openings.{outside, leaves_at}
use Rattle.nmt_proofs.specs.Clashes.{AreShown, IsOpening, AreLeavesOf}
use Rattle.nmt_proofs.specs.Places.{AreAscending}
use Rattle.nmt_proofs.proofs.Sets.FewLemmas.{set_few}
use Rattle.data_header.specs.Headers.{Roots}
use Rattle.axis_roots.specs.declared.message.messages.Message.{Message}
use Rattle.axis_roots.specs.Messages.{IsMessage, position}
use Rattle.axis_roots.specs.Sets.{is_along, is_shown, along_in, sample_names, set_of, is_bare, fits_set, OpensSet}
use Rattle.axis_roots.specs.Claims.{ClaimParts, is_set_cell, has_set_shape, AreProved, Accepts}
use Rattle.axis_roots.proofs.Messages.ClaimLemmas.{are_inside, shape_of}
use Rattle.axis_roots.proofs.Grids.NumberLemmas.{position-lt}

-- ---- the samples along an axis

-- a fact of each sample holds of those along an axis
pub each-along : (P : Message → Type 0) (axis : Axis) (cells : List Message) → AllByRecursion P cells → AllByRecursion P (along_in axis cells)
unfolding along_in
each-along P axis [] h = tt
each-along P axis (m ∷ cells) h =
    let Goal : Bool → Type 0 = λ b. AllByRecursion P (cond b (m ∷ along_in axis cells) (along_in axis cells)) in
    elim (cases_Bool (is_along axis m)) [
      | inl t ↦ subst Goal (sym t) (h.0, each-along P axis cells h.1)
      | inr f ↦ subst Goal (sym f) (each-along P axis cells h.1)
    ]

-- a fact of those along an axis holds of each sample that is along it
pub along-each : (P : Message → Type 0) (axis : Axis) (cells : List Message) → AllByRecursion P (along_in axis cells) → AllByRecursion (λ m. is_along axis m ≡ true → P m) cells
unfolding along_in
along-each P axis [] h = tt
along-each P axis (m ∷ cells) h =
    let Given : Bool → Type 0 = λ b. AllByRecursion P (cond b (m ∷ along_in axis cells) (along_in axis cells)) in
    elim (cases_Bool (is_along axis m)) [
      | inl t ↦ let both : Given true = subst Given t h in (λ _. both.0, along-each P axis cells both.1)
      | inr f ↦ let rest : Given false = subst Given f h in (λ t. absurd (let e : true ≡ false = sym t ∙ f in cc), along-each P axis cells rest)
    ]

-- what holds of each by another fact
pub each_by : (P Q : Message → Type 0) (cells : List Message) → ((m : Message) → P m → Q m) → AllByRecursion P cells → AllByRecursion Q cells
each_by P Q [] f h = tt
each_by P Q (m ∷ cells) f h = (f m h.0, each_by P Q cells f h.1)

-- ---- bare cells

-- a bare cell along the axis is in the square
pub bare_here : (k : ℕ) (axis : Axis) (m : Message) → is_bare k axis m ≡ true → is_along axis m ≡ true → is_in_square k m.cell ≡ true
bare_here k axis m h t =
    (and_parts (is_in_square k m.cell) (length m.path == 0) (sym (ap (λ (b : Bool). cond b (is_in_square k m.cell && (length m.path == 0)) true) t) ∙ h)).0

-- so are all
pub bare_inside : (k : ℕ) (axis : Axis) (cells : List Message) → list_all (is_bare k axis) cells ≡ true → AllByRecursion (λ m. is_along axis m ≡ true → is_in_square k m.cell ≡ true) cells
bare_inside k axis [] h = tt
bare_inside k axis (m ∷ cells) h =
    let both = and_parts (is_bare k axis m) (list_all (is_bare k axis) cells) h in
    (bare_here k axis m both.0, bare_inside k axis cells both.1)

-- the cells of a set are in the square
shown_inside : (k : ℕ) (axis : Axis) (cells : List Message) (set : Option (List Digest)) → fits_set k axis cells set ≡ true
    → AllByRecursion (λ m. is_shown set axis m ≡ true → is_in_square k m.cell ≡ true) cells
shown_inside k axis cells None h = none_shown cells
  where
    none_shown : (cs : List Message) → AllByRecursion (λ m. is_shown None axis m ≡ true → is_in_square k m.cell ≡ true) cs
    none_shown [] = tt
    none_shown (m ∷ cs) = (λ t. absurd (let e : false ≡ true = t in cc), none_shown cs)
shown_inside k axis cells (Some nodes) h = bare_inside k axis cells (and_parts (list_any (is_along axis) cells) (list_all (is_bare k axis) cells) h).1

-- so all cells of a claim are, where the others are proved
both_inside : (header : Roots) (claim : ClaimParts) (cells : List Message) → AreProved header claim cells
    → AllByRecursion (λ m. is_set_cell claim m ≡ true → is_in_square header.k m.cell ≡ true) cells → are_inside header.k cells ≡ true
both_inside header claim [] proved bare = refl
both_inside header claim (m ∷ cells) proved bare =
    and_from (is_in_square header.k m.cell) (are_inside header.k cells)
    (elim (cases_Bool (is_set_cell claim m)) [ inl t ↦ bare.0 t | inr f ↦ (proved.0 f).inside ])
    (both_inside header claim cells proved.1 bare.1)

pub claim_inside : (header : Roots) (claim : ClaimParts) → has_set_shape header.k claim ≡ true → AreProved header claim claim.cells → are_inside header.k claim.cells ≡ true
claim_inside header claim fits proved = both_inside header claim claim.cells proved (shown_inside header.k claim.axis claim.cells claim.set fits)

-- ---- their places

-- positions ascend from `low` on
abbrev Rising : Axis → ℕ → List Message → Type 0
Rising axis low [] = Unit {0}
Rising axis low (m ∷ cells) = (low ≤ position axis m.cell) × Rising axis (position axis m.cell + 1) cells

rising_behind : (axis : Axis) (m : Message) (cells : List Message) → holds_along nat_lt (position axis m.cell ∷ map (λ n. position axis n.cell) cells) ≡ true
    → Rising axis (position axis m.cell + 1) cells
unfolding holds_along
rising_behind axis m [] h = tt
rising_behind axis m (n ∷ cells) h =
    let both = and_parts (nat_lt (position axis m.cell) (position axis n.cell)) (holds_along nat_lt (position axis n.cell ∷ map (λ x. position axis x.cell) cells)) h in
    let test : nat_lt (position axis m.cell) (position axis n.cell) ≡ true = both.0 in
    (grind (arith, nat_tests), rising_behind axis n cells both.1)

rising : (axis : Axis) (cells : List Message) → holds_along nat_lt (map (λ m. position axis m.cell) cells) ≡ true → Rising axis 0 cells
rising axis [] h = tt
rising axis (m ∷ cells) h = (omega arith, rising_behind axis m cells h)

-- places that ascend from a later one on
ascending_later : (low later high : ℕ) (places : List ℕ) → low ≤ later → AreAscending later high places → AreAscending low high places
ascending_later low later high [] le h = tt
ascending_later low later high (p ∷ places) le h = (omega (arith, le, h.0), h.1, h.2)

ascending_in : (k : ℕ) (axis : Axis) (low : ℕ) (cells : List Message) → Rising axis low cells → AllByRecursion (λ m. is_along axis m ≡ true → is_in_square k m.cell ≡ true) cells
    → AreAscending low (2 * k) (map (λ m. position axis m.cell) (along_in axis cells))
unfolding along_in
ascending_in k axis low [] h inside = tt
ascending_in k axis low (m ∷ cells) h inside =
    let Goal : Bool → Type 0 = λ b. AreAscending low (2 * k) (map (λ m. position axis m.cell) (cond b (m ∷ along_in axis cells) (along_in axis cells))) in
    let rest = ascending_in k axis (position axis m.cell + 1) cells h.1 inside.1 in
    elim (cases_Bool (is_along axis m)) [
      | inl t ↦ subst Goal (sym t) (h.0, position-lt k axis m.cell (inside.0 t), rest)
      | inr f ↦ subst Goal (sym f) (ascending_later low (position axis m.cell + 1) (2 * k) (map (λ m. position axis m.cell) (along_in axis cells)) (omega (arith, h.0)) rest)
    ]

-- the places of a set ascend, and are in the square
pub set_ascending : (k : ℕ) (axis : Axis) (cells : List Message) → holds_along nat_lt (map (λ m. position axis m.cell) cells) ≡ true → list_all (is_bare k axis) cells ≡ true
    → AreAscending 0 (2 * k) (map (λ m. position axis m.cell) (along_in axis cells))
set_ascending k axis cells up bare = ascending_in k axis 0 cells (rising axis cells up) (bare_inside k axis cells bare)

-- some are along the axis, so there is a place
pub some_along : (axis : Axis) (cells : List Message) → list_any (is_along axis) cells ≡ true → 0 < length (along_in axis cells)
unfolding along_in
some_along axis [] h = absurd cc
some_along axis (m ∷ cells) h =
    let Goal : Bool → Type 0 = λ b. 0 < length (cond b (m ∷ along_in axis cells) (along_in axis cells)) in
    elim (cases_Bool (is_along axis m)) [
      | inl t ↦ subst Goal (sym t) (omega arith)
      | inr f ↦ subst Goal (sym f) (some_along axis cells (later (is_along axis m) (list_any (is_along axis) cells) f h))
    ]
  where
    later : (a b : Bool) → a ≡ false → (a || b) ≡ true → b ≡ true
    later false b e h = h
    later true b e h = absurd cc

-- ---- what it shows

-- samples show leaves
leaves_shown : (k : ℕ) (axis : Axis) (ms : List Message) → AllByRecursion IsMessage ms → AreShown (leaves_at (map (λ m. position axis m.cell) ms) (sample_names k ms) (map (λ m. m.share) ms))
unfolding leaves_at
leaves_shown k axis [] h = tt
leaves_shown k axis (m ∷ ms) h = ((refl, name_of-is k m.cell m.share h.0.share, h.0.share), leaves_shown k axis ms h.1)

-- a set that opens is an opening
pub set_opening : (k : ℕ) (axis : Axis) (cells : List Message) (nodes : List Digest) (root : Digest) → OpensSet k axis cells nodes root
    → IsOpening (halvings (2 * k)) (set_of k axis cells) nodes
set_opening k axis cells nodes root h = record {
  count = h.opens.count;
  parts = leaves_shown k axis (along_in axis cells) (each-along IsMessage axis cells h.messages);
  node_bytes = h.digests;
}

-- of a list's leaves it shows the shares
pub listed_shares : (k : ℕ) (axis : Axis) (ms : List Message) (ns : List Namespace) (ss : List Share)
    → AreLeavesOf ns ss (map (λ m. position axis m.cell) ms) (sample_names k ms) (map (λ m. m.share) ms)
    → AllByRecursion (λ m. slice_get ss (position axis m.cell) ≡ Some m.share) ms
unfolding AreLeavesOf
listed_shares k axis [] ns ss h = tt
listed_shares k axis (m ∷ ms) ns ss h = (h.1, listed_shares k axis ms ns ss h.2)

-- ---- how many nodes it has

-- a set that opens has at most k nodes
opened_few : (k : ℕ) (axis : Axis) (cells : List Message) (nodes : List Digest) (root : Digest) → OpensSet k axis cells nodes root
    → holds_along nat_lt (map (λ m. position axis m.cell) cells) ≡ true → fits_set k axis cells (Some nodes) ≡ true → length nodes ≤ k
opened_few k axis cells nodes root opens up fits =
    let tests = and_parts (list_any (is_along axis) cells) (list_all (is_bare k axis) cells) fits in
    let ms : List Message = along_in axis cells in
    let places : List ℕ = map (λ m. position axis m.cell) ms in
    let placed : length places ≡ length ms = length-map ms (λ m. position axis m.cell) in
    let named : length (sample_names k ms) ≡ length places = length-map ms _ ∙ sym placed in
    let shared : length (map (λ m. m.share) ms) ≡ length places = length-map ms _ ∙ sym placed in
    let double : halvings (2 * k) ≡ suc (halvings k) = halvings_double k opens.width in
    let ascend : AreAscending 0 (2 ^ suc (halvings k)) places =
    subst (λ (n : ℕ). AreAscending 0 n places) (sym (double_halvings k opens.width) ∙ ap (λ (h : ℕ). 2 ^ h) double) (set_ascending k axis cells up tests.1) in
    let some : 0 < length places = omega (arith, some_along axis cells tests.0, placed) in
    let few : length (outside (suc (halvings k)) 0 (set_of k axis cells)) ≤ 2 ^ halvings k =
    set_few (halvings k) places (sample_names k ms) (map (λ m. m.share) ms) some named shared ascend in
    let count : length nodes ≡ length (outside (halvings (2 * k)) 0 (set_of k axis cells)) = eqb-true _ _ opens.opens.count in
    let sized : length nodes ≡ length (outside (suc (halvings k)) 0 (set_of k axis cells)) =
    count ∙ ap (λ (h : ℕ). length (outside h 0 (set_of k axis cells))) double in
    omega (arith, sized, few, power_halvings k (width_power k opens.width))

few_by : (k : ℕ) (axis : Axis) (cells : List Message) (set : Option (List Digest)) (root : Digest) → IfSome set (λ nodes. OpensSet k axis cells nodes root)
    → holds_along nat_lt (map (λ m. position axis m.cell) cells) ≡ true → fits_set k axis cells set ≡ true → IfSome set (λ nodes. length nodes ≤ k)
few_by k axis cells None root opens up fits = tt
few_by k axis cells (Some nodes) root opens up fits = opened_few k axis cells nodes root opens up fits

-- the set of an accepted claim has at most k nodes
pub accepted_few : (header : Roots) (claim : ClaimParts) → Accepts header claim → IfSome claim.set (λ nodes. length nodes ≤ header.k)
accepted_few header claim accepts =
    few_by header.k claim.axis claim.cells claim.set _ accepts.set (shape_of header.k claim accepts.bad.shape).rising accepts.set_shape
