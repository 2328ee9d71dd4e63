-- A commitment proof that is read of a payload is what the payload spells, and the payload that one has is read.
use Rattle.std.proofs.Common.{ℕ, List, refl, arith}
use Rattle.blob_commit.specs.Proofs.{RowParts, CommitParts}
use Rattle.frame_payloads.specs.kinds.Commit.{most_rows, IsRowSent, IsCommitSent, is_long_row, is_long_commit, row_bytes, commit_payload, row_at, commit_at}
use Rattle.frame_payloads.proofs.Fields.Fields.{AreMaps, ◌▸◌}
use Rattle.frame_payloads.proofs.Fields.Bases.{number16, number32, string, short_list16}
use Rattle.frame_payloads.proofs.Forms.Rows.{row_field}
use Rattle.frame_payloads.proofs.Forms.Form.{IsForm, IsSpelled, form_of}

-- the proof of these fields
abbrev pub commit : ℕ → ℕ → ℕ → List ℕ → List RowParts → CommitParts
commit k start count commitment rows = record { k = k; start = start; count = count; commitment = commitment; rows = rows }

-- a commitment proof is a width, a first index, a number of shares, a commitment, and rows
maps : AreMaps {R = CommitParts} (number16 ▸ number32 ▸ number32 ▸ string 32 ▸ short_list16 most_rows (omega arith) row_at row_bytes IsRowSent is_long_row row_field)
    (λ x. commit x.0.0.0.0 x.0.0.0.1 x.0.0.1 x.0.1 x.1) (λ p. ((((p.k, p.start), p.count), p.commitment), p.rows)) (IsSpelled IsCommitSent is_long_commit)
maps = record {
  there = λ x is. ((record { k = is.0.0.0.0; start = is.0.0.0.1; count = is.0.0.1; commitment = is.0.1; rows = is.1.0 }, is.1.1), refl);
  back = λ p is. (((((is.0.k, is.0.start), is.0.count), is.0.commitment), (is.0.rows, is.1)), refl);
}

-- the form of this kind
pub commit_form : IsForm IsCommitSent commit_at commit_payload is_long_commit
unfolding commit_at
commit_form = form_of maps (λ bytes. refl) (λ x. refl)
