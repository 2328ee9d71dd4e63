-- A claim with a set that is read of a payload is what the payload spells, and the payload that one has is read.
use Rattle.std.proofs.Common.{◌≡◌, ℕ, ◌+◌, ◌^◌, ◌<◌, ◌≤◌, true, eqb, ◌&&◌, List, [], ◌++◌, length, Some, refl, subst, arith, append-nil, append_assoc, eqb-true}
use Rattle.std.specs.Int.{w16}
use Rattle.std.specs.List.{list_all, list_any}
use Rattle.std.proofs.lemmas.Bool.{and_parts}
use Rattle.std.proofs.lemmas.List.{length-append}
use Rattle.std.proofs.lemmas.Option.{cond_some}
use Rattle.namespace_id.specs.declared.digests.Digest.{Digest}
use Rattle.namespace_id.specs.Bytes.{AreBytes}
use Rattle.axis_roots.specs.declared.message.messages.Message.{Message}
use Rattle.axis_roots.specs.Sets.{is_along}
use Rattle.axis_roots.specs.Claims.{ClaimParts, IsClaim}
use Rattle.frame_fields.specs.Fields.{digest_list_at}
use Rattle.frame_payloads.specs.codec.Texts.{list_bytes, digest_list}
use Rattle.frame_payloads.specs.kinds.Fraud.{most_cells, most_set_nodes, cell_payload, set_payload, accused_at, set_cell_at, set_cells_at, with_set_at}
use Rattle.frame_payloads.proofs.Fields.Readers.{bind_some, Takes-then, Takes-all}
use Rattle.frame_payloads.proofs.Fields.Numbers.{wide16}
use Rattle.frame_payloads.proofs.Fields.DigestLists.{digest_list_takes, digest_list_again}
use Rattle.frame_payloads.proofs.Fields.Lists.{list_takes, list_again}
use Rattle.frame_payloads.proofs.Forms.AccusedForm.{Accused, text, accused_takes, accused_again}
use Rattle.frame_payloads.proofs.Forms.ClaimCells.{is_at, IsSetCell, set_cell_field, placed_messages, all_placed}

-- ---- claims

-- the claim with this set that accuses an axis by these cells
abbrev pub claim : Accused → List Message → List Digest → ClaimParts
claim accused cells nodes = record { axis = accused.0; index = accused.1; cells = cells; set = Some nodes }

-- what a payload that is read as a claim with a set tells
pub record IsWith (payload : List ℕ) (x : ClaimParts) (nodes : List Digest) : Type 0 where
  pub is : IsClaim x
  pub has : x.set ≡ Some nodes
  pub placed : list_all (is_at x.axis x.index) x.cells ≡ true
  pub some : list_any (is_along x.axis) x.cells ≡ true
  pub few_nodes : length nodes ≤ most_set_nodes
  pub few : length x.cells ≤ most_cells
  pub spelled : payload ≡ set_payload x nodes

-- a claim with a set that is read of a payload is what the payload spells
pub with_set_takes : (payload : List ℕ) (x : ClaimParts) → AreBytes payload → with_set_at payload ≡ Some x → (nodes : List Digest) × IsWith payload x nodes
unfolding with_set_at
with_set_takes payload x fits e =
    let a = bind_some (accused_at 2 payload) _ x e in
    let accused : Accused = a.0.0 in
    let axis = accused.0 in
    let c = bind_some (set_cells_at axis accused.1 a.0.1) _ x a.2 in
    let cells : List Message = c.0.0 in
    let n = bind_some (digest_list_at most_set_nodes c.0.1) _ x c.2 in
    let nodes : List Digest = n.0.0 in
    let rest : List ℕ = n.0.1 in
    let g = cond_some (eqb (length rest) 0 && list_any (is_along axis) cells) (claim accused cells nodes) x n.2 in
    let tests = and_parts (eqb (length rest) 0) (list_any (is_along axis) cells) g.0 in
    let t = accused_takes 2 payload accused a.0.1 fits a.1 in
    let u = list_takes (set_cell_at axis accused.1) (cell_payload axis) (IsSetCell axis accused.1) (set_cell_field axis accused.1 t.1) w16 (2 ^ 16) wide16 most_cells a.0.1 cells c.0.1 t.0.rest_fits c.1 in
    let v = digest_list_takes most_set_nodes c.0.1 nodes rest u.0.rest_fits n.1 in
    let made = placed_messages axis accused.1 cells u.1 in
    let list : List ℕ = list_bytes w16 (cell_payload axis) cells in
    let front = Takes-then payload (text 2 accused) a.0.1 list c.0.1 t.0 u.0 in
    let both = Takes-then payload (text 2 accused ++ list) c.0.1 (digest_list nodes) rest front v.0 in
    let all : payload ≡ set_payload (claim accused cells nodes) nodes = Takes-all payload (text 2 accused ++ list ++ digest_list nodes) rest both (eqb-true (length rest) 0 tests.0) in (
      nodes,
      subst (λ (y : ClaimParts). IsWith payload y nodes) g.1 (record {
        is = record { index_bytes = t.1; messages = made.0; digests = v.1 };
        has = refl;
        placed = made.1;
        some = tests.1;
        few_nodes = v.2;
        few = u.2;
        spelled = all;
      }),
    )

-- the payload of cells that fit a set is read as the claim of them that has the set
pub with_set_again : (accused : Accused) (cells : List Message) (nodes : List Digest) → IsClaim (claim accused cells nodes) → list_all (is_at accused.0 accused.1) cells ≡ true
    → list_any (is_along accused.0) cells ≡ true → length nodes ≤ most_set_nodes → length cells ≤ most_cells → length (set_payload (claim accused cells nodes) nodes) < 2 ^ 32
    → with_set_at (set_payload (claim accused cells nodes) nodes) ≡ Some (claim accused cells nodes)
unfolding with_set_at
with_set_again accused cells nodes is placed some few_nodes few small =
    let axis = accused.0 in
    let made : ClaimParts = claim accused cells nodes in
    let front : List ℕ = text 2 accused in
    let list : List ℕ = list_bytes w16 (cell_payload axis) cells in
    let tail : List ℕ = digest_list nodes in
    let sum : length (set_payload made nodes) ≡ length (front ++ list) + length tail = length-append (front ++ list) tail in
    let sum_front : length (front ++ list) ≡ length front + length list = length-append front list in
    let joined : front ++ list ++ tail ≡ front ++ (list ++ tail) = append_assoc front list tail in
    let nodes_read : digest_list_at most_set_nodes tail ≡ Some (nodes, []) = subst (λ (l : List ℕ). digest_list_at most_set_nodes l ≡ Some (nodes, [])) (append-nil tail) (digest_list_again most_set_nodes nodes [] is.digests (omega (arith, few_nodes)) few_nodes) in
    let listed : set_cells_at axis accused.1 (list ++ tail) ≡ Some (cells, tail) =
    list_again (set_cell_at axis accused.1) (cell_payload axis) (IsSetCell axis accused.1) (set_cell_field axis accused.1 is.index_bytes) w16 (2 ^ 16) wide16 most_cells cells tail
    (all_placed axis accused.1 cells is.messages placed) (omega arith) (omega (arith, few)) few in
    rw (joined, accused_again 2 accused (list ++ tail) is.index_bytes, listed, nodes_read, some) refl
