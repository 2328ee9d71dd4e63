use Rattle.std.proofs.Common.{◌≡◌, ◌∙◌, ◌==◌, ap, sym, length, ℕ, refl}
use Rattle.std.specs.Str.{bytes_eq}
use Rattle.std.proofs.lemmas.Bool.{eq-eqb, ne_eqb}
use Rattle.nmt_tree.specs.Roots.{halvings}
use Rattle.nmt_proofs.specs.Openings.{outside, opened, has_order}
use Rattle.nmt_proofs.specs.Pieces.{shown_pieces}
use Rattle.nmt_proofs.specs.Parts.{digest_of}
use Rattle.nmt_proofs.proofs.Parts.ValueLemmas.{none_unordered, some_ordered}
use Rattle.nmt_proofs.proofs.opening.open.Goals as goal

pub returns-then-nodes-count_outside : goal.returns-then-nodes-count_outside
returns-then-nodes-count_outside c =
    ap (λ (k : ℕ). length c.args.nodes.now == length (outside k 0 (shown_pieces c.args.pieces.now))) (sym c.halvings-depth.ensures.value)
    ∙ ap (λ (k : ℕ). length c.args.nodes.now == k) (sym c.count_outside.ensures.count)
    ∙ ne_eqb (length c.args.nodes.now) c.count_outside.result c.if-nodes-count_outside.true

pub returns-in_default : goal.returns-in_default
returns-in_default c =
    let same : halvings c.args.n ≡ c.halvings-depth.result = sym c.halvings-depth.ensures.value in (
      ap (λ (k : ℕ). length c.args.nodes.now == length (outside k 0 (shown_pieces c.args.pieces.now))) same
          ∙ eq-eqb _ _ (c.if-nodes-count_outside.false ∙ c.count_outside.ensures.count),
      ap (λ (k : ℕ). has_order k (shown_pieces c.args.pieces.now) c.args.nodes.now) same
          ∙ none_unordered (opened c.halvings-depth.result 0 (shown_pieces c.args.pieces.now) c.args.nodes.now) (sym c.in_default.is ∙ c.joined.ensures),
    )

pub returns-then-eq : goal.returns-then-eq
returns-then-eq c =
    let same : halvings c.args.n ≡ c.halvings-depth.result = sym c.halvings-depth.ensures.value in
    let part = opened c.halvings-depth.result 0 (shown_pieces c.args.pieces.now) c.args.nodes.now in
    let ordered = some_ordered part c.in-Some.value (sym c.in-Some.is ∙ c.joined.ensures) in (
      ap (λ (k : ℕ). length c.args.nodes.now == length (outside k 0 (shown_pieces c.args.pieces.now))) same
          ∙ eq-eqb _ _ (c.if-nodes-count_outside.false ∙ c.count_outside.ensures.count),
      ap (λ (k : ℕ). has_order k (shown_pieces c.args.pieces.now) c.args.nodes.now) same ∙ ordered.0,
      ap (λ (k : ℕ). bytes_eq (digest_of (opened k 0 (shown_pieces c.args.pieces.now) c.args.nodes.now)).0 c.args.root.now.0) same
          ∙ ap (λ d. bytes_eq d.0 c.args.root.now.0) (sym ordered.1) ∙ sym c.eq.ensures ∙ c.if-eq.true,
      refl,
    )

pub returns-else-eq : goal.returns-else-eq
returns-else-eq c =
    let same : halvings c.args.n ≡ c.halvings-depth.result = sym c.halvings-depth.ensures.value in
    let part = opened c.halvings-depth.result 0 (shown_pieces c.args.pieces.now) c.args.nodes.now in
    let ordered = some_ordered part c.in-Some.value (sym c.in-Some.is ∙ c.joined.ensures) in (
      ap (λ (k : ℕ). length c.args.nodes.now == length (outside k 0 (shown_pieces c.args.pieces.now))) same
          ∙ eq-eqb _ _ (c.if-nodes-count_outside.false ∙ c.count_outside.ensures.count),
      ap (λ (k : ℕ). has_order k (shown_pieces c.args.pieces.now) c.args.nodes.now) same ∙ ordered.0,
      ap (λ (k : ℕ). bytes_eq (digest_of (opened k 0 (shown_pieces c.args.pieces.now) c.args.nodes.now)).0 c.args.root.now.0) same
          ∙ ap (λ d. bytes_eq d.0 c.args.root.now.0) (sym ordered.1) ∙ sym c.eq.ensures ∙ c.if-eq.false,
    )
