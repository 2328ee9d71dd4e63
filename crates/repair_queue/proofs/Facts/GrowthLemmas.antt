-- Only the proved samples of a list count, and a fraud or a collision stays one when samples are added.
use Rattle.std.proofs.Common.{ℕ, List}
use Rattle.namespace_id.specs.declared.cells.Axis.{Axis}
use Rattle.nmt_proofs.specs.Parts.{Part}
use Rattle.data_header.specs.Headers.{Roots}
use Rattle.axis_roots.specs.declared.message.messages.Message.{Message}
use Rattle.axis_roots.specs.Lines.{cell_on, entry}
use Rattle.axis_roots.specs.Grids.{share_at}
use Rattle.axis_roots.specs.Claims.{ClaimParts}
use Rattle.axis_roots.proofs.Messages.SetLemmas.{each_by}
use Rattle.repair_queue.specs.Closures.{Fact, IsDecided, Covers}
use Rattle.repair_queue.specs.Settled.{IsLineSettled, IsSettled}
use Rattle.repair_queue.specs.Verdicts.{VerdictParts, whole, missing, fraud, clash, IsFraud, IsKnownTree, of_message, of_line, IsFoundClash, IsVerdict}
use Rattle.repair_queue.proofs.Facts.ClosureLemmas.{half_grows, fact_grows}

-- a fraud stays one
pub fraud_grows : (header : Roots) (ms others : List Message) (claim : ClaimParts) → Covers header ms others → IsFraud header ms claim → IsFraud header others claim
fraud_grows header ms others claim covers f = record {
  accepts = f.accepts;
  facts = each_by (λ m. Fact header ms m.cell m.share) (λ m. Fact header others m.cell m.share) claim.cells
      (λ m. fact_grows header ms others covers m.cell m.share) f.facts;
}

-- what is known of a row or a column
tree_grows : (header : Roots) (ms others : List Message) → Covers header ms others → (axis : Axis) (i : ℕ) (part : Part)
    → IsKnownTree header ms axis i part → IsKnownTree header others axis i part
tree_grows header ms others covers axis i part (of_message m at proved ea ei) = of_message m (covers m at proved) proved ea ei
tree_grows header ms others covers axis i part (of_line line long facts root) =
    of_line line long (λ pos below. fact_grows header ms others covers (cell_on axis i pos) (entry line pos) (facts pos below)) root

-- and a collision
pub clash_grows : (header : Roots) (ms others : List Message) (left right : List ℕ) → Covers header ms others
    → IsFoundClash header ms left right → IsFoundClash header others left right
clash_grows header ms others left right covers c = record {
  is_clash = c.is_clash;
  axis = c.axis;
  i = c.i;
  within = c.within;
  one = c.one;
  other = c.other;
  one_known = tree_grows header ms others covers c.axis c.i c.one c.one_known;
  other_known = tree_grows header ms others covers c.axis c.i c.other c.other_known;
  found = c.found;
}

-- a row or a column stays decided
pub decided_grows : (header : Roots) (ms others : List Message) (axis : Axis) (i : ℕ) → Covers header ms others → IsDecided header ms axis i
    → IsDecided header others axis i
decided_grows header ms others axis i covers d = record {
  within = d.within;
  chosen = d.chosen;
  are_chosen = d.are_chosen;
  halves = λ p at. half_grows header ms others covers (cell_on axis i p) (d.halves p at);
}

-- with the same proved samples a list is settled too
pub settled_same : (header : Roots) (ms others : List Message) → Covers header ms others → Covers header others ms → IsSettled header ms → IsSettled header others
settled_same header ms others to from settled axis i d =
    let x : IsLineSettled header ms axis i = settled axis i (decided_grows header others ms axis i from d) in
    record {
      shares = x.shares;
      count = x.count;
      only = λ pos below share. (
        (λ fact. (x.only pos below share).0 (fact_grows header others ms from (cell_on axis i pos) share fact)),
        λ e. fact_grows header ms others to (cell_on axis i pos) share ((x.only pos below share).1 e),
      );
      root = x.root;
    }

-- and each answer is one for it
pub same_verdict : (header : Roots) (ms others : List Message) → Covers header ms others → Covers header others ms → (v : VerdictParts)
    → IsVerdict header ms v → IsVerdict header others v
same_verdict header ms others to from (whole square) v = record {
  all = λ cell within. half_grows header ms others to cell (v.all cell within);
  settled = settled_same header ms others to from v.settled;
  facts = λ cell within. fact_grows header ms others to cell (share_at header.k square.shares cell) (v.facts cell within);
  own = v.own;
}
same_verdict header ms others to from (missing cells) v = record {
  settled = settled_same header ms others to from v.settled;
  width = v.width;
  row_major = v.row_major;
  some = v.some;
  missing = λ cell. (
    (λ at. let out = (v.missing cell).0 at in (out.0, λ half. out.1 (half_grows header others ms from cell half))),
    λ out. (v.missing cell).1 (out.0, λ half. out.1 (half_grows header ms others to cell half)),
  );
}
same_verdict header ms others to from (fraud claim) v = fraud_grows header ms others claim to v
same_verdict header ms others to from (clash left right) v = clash_grows header ms others left right to v
