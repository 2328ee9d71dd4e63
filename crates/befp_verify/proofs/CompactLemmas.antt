-- A claim whose set stands for the paths of its cells is accepted where the claim was.
use Rattle.std.proofs.Common.{◌≡◌, ◌∙◌, ℕ, ◌*◌, ◌^◌, ◌<◌, ◌≤◌, List, [], ◌∷◌, length, map, Bool, true, false, cond, ◌==◌, ◌&&◌, refl, sym, ap, subst, inl, inr, arith}
use Rattle.std.specs.Prelude.{◌||◌, None, nat_lt}
use Rattle.std.specs.List.{AllByRecursion, list_all, list_any}
use Rattle.std.proofs.lemmas.Bool.{and_from, and_parts, cases_Bool}
use Rattle.std.proofs.lemmas.Bool.Decides.{nat_tests}
use Rattle.std.proofs.lemmas.List.{length-map}
use Rattle.namespace_id.specs.declared.cells.Axis.{Axis}
use Rattle.namespace_id.specs.declared.cells.Axis.TheVariants.{Row, Col}
use Rattle.namespace_id.specs.declared.digests.Digest.{Digest}
use Rattle.namespace_id.specs.Digests.{AreDigests}
use Rattle.namespace_id.specs.Cells.{is_width, is_in_square, leaf_namespace}
use Rattle.namespace_id.specs.Lists.{holds_along}
use Rattle.namespace_id.specs.Sizes.{most_depth}
use Rattle.namespace_id.proofs.ShareLemmas.{name_of-is}
use Rattle.namespace_id.proofs.PowerLemmas.{double_halvings}
use Rattle.nmt_tree.specs.Roots.{halvings}
use Rattle.nmt_proofs.specs.Openings.{one_leaf, leaves_at, Opens}
use Rattle.nmt_proofs.specs.Places.{AreAscending}
use Rattle.nmt_proofs.specs.Merging.{merged_nodes, HoldsAlong, BranchesAgree, IsBranch, AreBranches, places_of_branches, names_of_branches, shares_of_branches}
use Rattle.nmt_proofs.proofs.Agreement.MergeLemmas.{merged_opens}
use Rattle.leopard_code.specs.Codewords.{HasEntries}
use Rattle.data_header.specs.Headers.{Roots, root_of}
use Rattle.axis_roots.specs.declared.message.messages.Message.{Message}
use Rattle.axis_roots.specs.Messages.{IsMessage, position, index}
use Rattle.axis_roots.specs.Openings.{IsProved}
use Rattle.axis_roots.specs.Sets.{is_one_axis, is_along, along_in, sample_names, set_of, is_bare}
use Rattle.axis_roots.specs.Claims.{ClaimParts, is_on, positions_of, claim_shares as shares_in, has_shape, ShowsBad, claimed_root, AreProved, Accepts}
use Rattle.axis_roots.proofs.Messages.ClaimLemmas.{Shape, shape_of}
use Rattle.axis_roots.proofs.Messages.ProofLemmas.{plain_accepted}
use Rattle.axis_roots.proofs.Messages.SetLemmas.{set_ascending, some_along, each_by}
use Rattle.befp_verify.specs.Compacting.{bare, bare_all, with_set, branch_of, branches_of}

-- ---- samples without their paths

-- one after another
maps_once : {A B C : Type 0} (f : B → C) (g : A → B) (xs : List A) → map f (map g xs) ≡ map (λ x. f (g x)) xs
maps_once f g [] = refl
maps_once f g (x ∷ xs) = ap (λ (l : List _). f (g x) ∷ l) (maps_once f g xs)

-- along an axis the same are left
along-bare : (axis : Axis) (cells : List Message) → along_in axis (bare_all axis cells) ≡ bare_all axis (along_in axis cells)
unfolding along_in
along-bare axis [] = refl
along-bare axis (m ∷ cells) =
    ap (λ (l : List Message). cond (is_along axis m) (bare axis m ∷ l) l) (along-bare axis cells) ∙ choice (is_along axis m)
  where
    choice : (b : Bool) → cond b (bare axis m ∷ bare_all axis (along_in axis cells)) (bare_all axis (along_in axis cells)) ≡ bare_all axis (cond b (m ∷ along_in axis cells) (along_in axis cells))
    choice true = refl
    choice false = refl

-- so a set shows the same
set_of-bare : (k : ℕ) (axis : Axis) (cells : List Message) → set_of k axis (bare_all axis cells) ≡ set_of k axis cells
set_of-bare k axis cells =
    ap (λ (ms : List Message). leaves_at (map (λ m. position axis m.cell) ms) (sample_names k ms) (map (λ m. m.share) ms)) (along-bare axis cells)
    ∙ (λ i. leaves_at (maps_once (λ m. position axis m.cell) (bare axis) (along_in axis cells) i) (maps_once (λ m. leaf_namespace k m.cell m.share) (bare axis) (along_in axis cells) i)
    (maps_once (λ m. m.share) (bare axis) (along_in axis cells) i))

-- a sample that isn't along the axis is left as it is
bare_same : (axis : Axis) (m : Message) → is_along axis m ≡ false → bare axis m ≡ m
bare_same axis m f = ap (λ (b : Bool). record { cell = m.cell; axis = m.axis; share = m.share; path = cond b [] m.path }) f

-- a sample without its path is one too
bare_message : (axis : Axis) (m : Message) → IsMessage m → IsMessage (bare axis m)
bare_message axis m h = record { row = h.row; col = h.col; share = h.share; few = few (is_along axis m); nodes = digests (is_along axis m) }
  where
    few : (b : Bool) → length (cond b [] m.path) ≤ most_depth
    few true = omega arith
    few false = h.few

    digests : (b : Bool) → AreDigests (cond b [] m.path)
    digests true = tt
    digests false = h.nodes

bare_messages : (axis : Axis) (cells : List Message) → AllByRecursion IsMessage cells → AllByRecursion IsMessage (bare_all axis cells)
bare_messages axis [] h = tt
bare_messages axis (m ∷ cells) h = (bare_message axis m h.0, bare_messages axis cells h.1)

-- it is bare, where its cell is in the square
bare_is : (k : ℕ) (axis : Axis) (m : Message) → is_in_square k m.cell ≡ true → is_bare k axis (bare axis m) ≡ true
bare_is k axis m inside = test (is_along axis m)
  where
    test : (b : Bool) → cond b (is_in_square k m.cell && (length (cond b [] m.path) == 0)) true ≡ true
    test true = and_from (is_in_square k m.cell) true inside refl
    test false = refl

all_bare : (k : ℕ) (axis : Axis) (cells : List Message) → AllByRecursion (λ m. is_in_square k m.cell ≡ true) cells → list_all (is_bare k axis) (bare_all axis cells) ≡ true
all_bare k axis [] h = refl
all_bare k axis (m ∷ cells) h = and_from (is_bare k axis (bare axis m)) (list_all (is_bare k axis) (bare_all axis cells)) (bare_is k axis m h.0) (all_bare k axis cells h.1)

-- some are along the axis where some were
any_bare : (axis : Axis) (cells : List Message) → list_any (is_along axis) (bare_all axis cells) ≡ list_any (is_along axis) cells
any_bare axis [] = refl
any_bare axis (m ∷ cells) = ap (λ (b : Bool). is_along axis m || b) (any_bare axis cells)

-- and all are on it where all were
on_bare : (claim : ClaimParts) (nodes : List Digest) (cells : List Message) → list_all (is_on (with_set claim nodes)) (bare_all claim.axis cells) ≡ list_all (is_on claim) cells
on_bare claim nodes [] = refl
on_bare claim nodes (m ∷ cells) = ap (λ (b : Bool). is_on claim m && b) (on_bare claim nodes cells)

-- ---- the claim

positions-bare : (claim : ClaimParts) (nodes : List Digest) → positions_of (with_set claim nodes) ≡ positions_of claim
positions-bare claim nodes = maps_once (λ m. position claim.axis m.cell) (bare claim.axis) claim.cells

shares-bare : (claim : ClaimParts) (nodes : List Digest) → shares_in (with_set claim nodes) ≡ shares_in claim
shares-bare claim nodes = maps_once (λ m. m.share) (bare claim.axis) claim.cells

shape-bare : (k : ℕ) (claim : ClaimParts) (nodes : List Digest) → has_shape k (with_set claim nodes) ≡ has_shape k claim
shape-bare k claim nodes =
    (λ i. nat_lt claim.index (2 * k) && (length-map claim.cells (bare claim.axis) i == k) && on_bare claim nodes claim.cells i && holds_along nat_lt (positions-bare claim nodes i))

-- it shows its axis to be bad where the claim did
bad-bare : (k : ℕ) (claim : ClaimParts) (nodes : List Digest) (root : Digest) → ShowsBad k claim root → ShowsBad k (with_set claim nodes) root
bad-bare k claim nodes root h = record {
  shape = shape-bare k claim nodes ∙ h.shape;
  word = h.word;
  through = record {
    codeword = h.through.codeword;
    entries = subst (λ (ps : List ℕ). HasEntries ps (shares_in (with_set claim nodes)) h.word) (sym (positions-bare claim nodes))
        (subst (λ (ss : List _). HasEntries (positions_of claim) ss h.word) (sym (shares-bare claim nodes)) h.through.entries);
  };
  other = h.other;
}

-- each cell that isn't along the axis is proved as before
proved-bare : (header : Roots) (claim : ClaimParts) (nodes : List Digest) (cells : List Message) → AllByRecursion (IsProved header) cells → AreProved header (with_set claim nodes) (bare_all claim.axis cells)
proved-bare header claim nodes [] h = tt
proved-bare header claim nodes (m ∷ cells) h = (λ f. subst (IsProved header) (sym (bare_same claim.axis m f)) h.0, proved-bare header claim nodes cells h.1)

-- ---- the openings along the axis

pub one_axis : (a b : Axis) → is_one_axis a b ≡ true → a ≡ b
one_axis Row Row e = refl
one_axis Row Col e = absurd cc
one_axis Col Row e = absurd cc
one_axis Col Col e = refl

-- a proved sample along the axis opens its leaf under the axis' root
is_branch : (header : Roots) (axis : Axis) (i : ℕ) (m : Message) → IsProved header m → is_along axis m ≡ true → index axis m.cell ≡ i
    → IsBranch (halvings (2 * header.k)) (root_of header axis i) (branch_of header.k axis m)
is_branch header axis i m proved along on =
    let name = leaf_namespace header.k m.cell m.share in
    let opens : Opens (halvings (2 * header.k)) (one_leaf (position axis m.cell) name m.share) m.path (root_of header axis i) =
    subst (λ (n : ℕ). Opens (halvings (2 * header.k)) (one_leaf (position axis m.cell) name m.share) m.path (root_of header axis n)) on
    (subst (λ (a : Axis). Opens (halvings (2 * header.k)) (one_leaf (position a m.cell) name m.share) m.path (root_of header a (index a m.cell))) (sym (one_axis axis m.axis along)) proved.opened) in
    record {
      opening = record {
        count = opens.count;
        parts = ((refl, name_of-is header.k m.cell m.share proved.sized.share, proved.sized.share), tt);
        node_bytes = proved.sized.nodes;
      };
      opens = opens;
    }

-- so do all of them
pub are_branches : (header : Roots) (axis : Axis) (i : ℕ) (cells : List Message) → AllByRecursion (IsProved header) cells → list_all (λ m. index axis m.cell == i) cells ≡ true
    → AllByRecursion (IsBranch (halvings (2 * header.k)) (root_of header axis i)) (branches_of header.k axis cells)
unfolding along_in
are_branches header axis i [] proved on = tt
are_branches header axis i (m ∷ cells) proved on =
    let both = and_parts (index axis m.cell == i) (list_all (λ n. index axis n.cell == i) cells) on in
    let test : (index axis m.cell == i) ≡ true = both.0 in
    let place : index axis m.cell ≡ i = grind (arith, nat_tests) in
    let rest = are_branches header axis i cells proved.1 both.1 in
    let Goal : Bool → Type 0 = λ b. AllByRecursion (IsBranch (halvings (2 * header.k)) (root_of header axis i)) (map (branch_of header.k axis) (cond b (m ∷ along_in axis cells) (along_in axis cells))) in
    elim (cases_Bool (is_along axis m)) [
      | inl t ↦ subst Goal (sym t) (is_branch header axis i m proved.0 t place, rest)
      | inr f ↦ subst Goal (sym f) rest
    ]

-- their places ascend
pub branch_places : (k : ℕ) (axis : Axis) (cells : List Message) → is_width k ≡ true → AllByRecursion (λ m. is_in_square k m.cell ≡ true) cells
    → holds_along nat_lt (map (λ m. position axis m.cell) cells) ≡ true → AreAscending 0 (2 ^ halvings (2 * k)) (places_of_branches (branches_of k axis cells))
branch_places k axis cells width inside up =
    let places : map (λ m. position axis m.cell) (along_in axis (bare_all axis cells)) ≡ places_of_branches (branches_of k axis cells) =
    ap (map (λ m. position axis m.cell)) (along-bare axis cells) ∙ maps_once (λ m. position axis m.cell) (bare axis) (along_in axis cells)
    ∙ sym (maps_once (λ b. b.pos) (branch_of k axis) (along_in axis cells)) in
    let rising : holds_along nat_lt (map (λ m. position axis m.cell) (bare_all axis cells)) ≡ true =
    ap (holds_along nat_lt) (maps_once (λ m. position axis m.cell) (bare axis) cells) ∙ up in
    subst (λ (n : ℕ). AreAscending 0 n (places_of_branches (branches_of k axis cells))) (sym (double_halvings k width))
    (subst (AreAscending 0 (2 * k)) places (set_ascending k axis (bare_all axis cells) rising (all_bare k axis cells inside)))

-- what is known of a claim's openings along its axis
pub claim_branches : (header : Roots) (claim : ClaimParts) → is_width header.k ≡ true → Shape header.k claim → AllByRecursion (IsProved header) claim.cells
    → HoldsAlong (BranchesAgree (halvings (2 * header.k))) (branches_of header.k claim.axis claim.cells)
    → AreBranches (halvings (2 * header.k)) (claimed_root header claim) (branches_of header.k claim.axis claim.cells)
claim_branches header claim width shape proved alike = record {
  places = branch_places header.k claim.axis claim.cells width (each_by (IsProved header) (λ m. is_in_square header.k m.cell ≡ true) claim.cells (λ m p. p.inside) proved) shape.rising;
  each = are_branches header claim.axis claim.index claim.cells proved shape.on;
  alike = alike;
}

-- ---- all together

-- they show what the set shows
branches_show : (k : ℕ) (axis : Axis) (cells : List Message)
    → leaves_at (places_of_branches (branches_of k axis cells)) (names_of_branches (branches_of k axis cells)) (shares_of_branches (branches_of k axis cells)) ≡ set_of k axis cells
branches_show k axis cells =
    (λ i. leaves_at (maps_once (λ b. b.pos) (branch_of k axis) (along_in axis cells) i) (maps_once (λ b. b.name) (branch_of k axis) (along_in axis cells) i)
    (maps_once (λ b. b.share) (branch_of k axis) (along_in axis cells) i))

-- there are branches where some cell is along the axis
pub some_branches : (k : ℕ) (axis : Axis) (cells : List Message) → list_any (is_along axis) cells ≡ true → 0 < length (branches_of k axis cells)
some_branches k axis cells any = omega (arith, length-map (along_in axis cells) (branch_of k axis), some_along axis cells any)

-- an accepted claim without a set is accepted with one too, where none of its neighbors along the axis name a collision
pub compacted_accepts : (header : Roots) (claim : ClaimParts) (beside : Digest) (nodes : List Digest) → is_width header.k ≡ true → Accepts header claim → claim.set ≡ None
    → list_any (is_along claim.axis) claim.cells ≡ true
    → HoldsAlong (BranchesAgree (halvings (2 * header.k))) (branches_of header.k claim.axis claim.cells)
    → nodes ≡ merged_nodes (halvings (2 * header.k)) 0 0 beside (branches_of header.k claim.axis claim.cells) → AreDigests nodes
    → Accepts header (with_set claim nodes)
compacted_accepts header claim beside nodes width accepts plain any alike is digests =
    let k : ℕ = header.k in
    let axis : Axis = claim.axis in
    let both = (plain_accepted header claim plain).1 accepts in
    let proved : AllByRecursion (IsProved header) claim.cells = both.0 in
    let inside : AllByRecursion (λ m. is_in_square k m.cell ≡ true) claim.cells = each_by (IsProved header) (λ m. is_in_square k m.cell ≡ true) claim.cells (λ m p. p.inside) proved in
    let branches = claim_branches header claim width (shape_of k claim both.1.shape) proved alike in
    let merged = merged_opens (halvings (2 * k)) (claimed_root header claim) beside (branches_of k axis claim.cells) (some_branches k axis claim.cells any) branches in
    let opens : Opens (halvings (2 * k)) (set_of k axis (bare_all axis claim.cells)) nodes (claimed_root header claim) =
    subst (λ (ss : List _). Opens (halvings (2 * k)) ss nodes (claimed_root header claim)) (branches_show k axis claim.cells ∙ sym (set_of-bare k axis claim.cells))
    (subst (λ (ns : List Digest). Opens (halvings (2 * k)) (leaves_at (places_of_branches (branches_of k axis claim.cells)) (names_of_branches (branches_of k axis claim.cells)) (shares_of_branches (branches_of k axis claim.cells))) ns (claimed_root header claim)) (sym is) merged) in
    record {
      set_shape = and_from (list_any (is_along axis) (bare_all axis claim.cells)) (list_all (is_bare k axis) (bare_all axis claim.cells)) (any_bare axis claim.cells ∙ any) (all_bare k axis claim.cells inside);
      proved = proved-bare header claim nodes claim.cells proved;
      set = record {
        width = width;
        messages = bare_messages axis claim.cells (each_by (IsProved header) IsMessage claim.cells (λ m p. p.sized) proved);
        digests = digests;
        opens = opens;
      };
      bad = bad-bare k claim nodes (claimed_root header claim) both.1;
    }
