-- Worked frames, by the definitions (docs/FORMATS.md, "Payloads").
use Rattle.std.proofs.Common.{◌≡◌, ◌∷◌, ◌++◌, [], Some, None, refl, replicate}
use Rattle.namespace_id.specs.declared.cells.Axis.TheVariants.{Row, Col}
use Rattle.da_wire.specs.declared.frames.Frame.TheVariants.{Sample, Block, Transactions, Refusal, State}
use Rattle.frame_payloads.specs.declared.refusals.Reason.TheVariants.{NoAnswer}
use Rattle.da_wire.specs.Spelling.{spelling}

-- a request for cell (1, 2) on its column
sample_on_a_column : spelling (Sample (record { row = 1; col = 2 }) Col) ≡ Some (0x51 ∷ 0 ∷ 0 ∷ 0 ∷ 5 ∷ 0 ∷ 1 ∷ 0 ∷ 2 ∷ 1 ∷ [])
sample_on_a_column = refl

-- a request for cell (0, 0) on its row
sample_on_a_row : spelling (Sample (record { row = 0; col = 0 }) Row) ≡ Some (0x51 ∷ 0 ∷ 0 ∷ 0 ∷ 5 ∷ 0 ∷ 0 ∷ 0 ∷ 0 ∷ 0 ∷ [])
sample_on_a_row = refl

-- a block of one blob of one byte, which has a signer: 69 bytes behind the head
signed_blob : spelling (Block (record {
  units = [];
  pay_units = [];
  blobs = record { namespace = record { 0 = replicate 29 9 }; bytes = 0x61 ∷ []; signer = Some (replicate 20 8) } ∷ [];
  width = None;
})) ≡ Some (0x56 ∷ 0 ∷ 0 ∷ 0 ∷ 0x45 ∷ replicate 13 0 ++ 1 ∷ replicate 29 9 ++ 1 ∷ replicate 20 8 ++ 0 ∷ 0 ∷ 0 ∷ 1 ∷ 0x61 ∷ [])
signed_blob = refl

-- no transactions, and one of no bytes
no_transactions : spelling (Transactions []) ≡ Some (0x54 ∷ 0 ∷ 0 ∷ 0 ∷ 4 ∷ 0 ∷ 0 ∷ 0 ∷ 0 ∷ [])
no_transactions = refl

one_empty_transaction : spelling (Transactions ([] ∷ [])) ≡ Some (0x54 ∷ 0 ∷ 0 ∷ 0 ∷ 8 ∷ 0 ∷ 0 ∷ 0 ∷ 1 ∷ 0 ∷ 0 ∷ 0 ∷ 0 ∷ [])
one_empty_transaction = refl

-- frame 258 has no answer
no_answer : spelling (Refusal (record { reason = NoAnswer; number = 258 })) ≡ Some (0x45 ∷ 0 ∷ 0 ∷ 0 ∷ 9 ∷ 5 ∷ 0 ∷ 0 ∷ 0 ∷ 0 ∷ 0 ∷ 0 ∷ 1 ∷ 2 ∷ [])
no_answer = refl

-- a state
state : spelling State ≡ Some (0x41 ∷ 0 ∷ 0 ∷ 0 ∷ 0 ∷ [])
state = refl
