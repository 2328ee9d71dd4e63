use Rattle.std.proofs.Common.{◌+◌, ◌*◌, length, refl, sym, arith}
use Rattle.std.proofs.lemmas.List.{nil_from_length}
use Rattle.da_wire.specs.declared.frames.Frame.TheVariants.{Header, Square, Message, Names, Fraud, Missing, Sample, Request, Commit, Rooted, Refusal, State}
use Rattle.frame_payloads.proofs.AcceptedClaims.{accepted_written}
use Rattle.frame_payloads.proofs.Forms.CellCounts.{cells_few, cells_counted}
use Rattle.frame_payloads.proofs.Forms.CommitSizes.{commit_few, commit_short, rooted_sized}
use Rattle.frame_payloads.proofs.Forms.FraudSizes.{fraud_few}
use Rattle.frame_payloads.proofs.Forms.MessageForm.{message_again, message_takes}
use Rattle.frame_payloads.proofs.Forms.NamesSizes.{names_few}
use Rattle.frame_payloads.proofs.Forms.PayloadSizes.{header_sized, square_sized, message_sized, missing_sized, request_sized}
use Rattle.da_wire.proofs.FrameLemmas.{spelled_is_read, read_is_spelled, one_spelling}
use Rattle.da_wire.proofs.FrameListLemmas.{raw_is_frame, frames_are_the_file, files_are_frames, bad_frame_is_first}
use Rattle.da_wire.proofs.OnlyLemmas.{only_is_spelled, spelled_only}
use Rattle.da_wire.proofs.kinds.Form.{spelled_when, spelled_within, transactions_spelled}
use Rattle.da_wire.proofs.laws.wire_laws.Goals as goal

pub returns : goal.returns
returns c = record {
  read = spelled_is_read;
  spelled = read_is_spelled;
  one = one_spelling;
  only = only_is_spelled;
  only_read = spelled_only;
  headers = λ h is. spelled_when (Header h) (header_sized h (2 + 360 * h.k) is.roots is.rows is.cols refl).1;
  squares = λ s is shares. spelled_when (Square s) (square_sized s (2 + 512 * (s.k * s.k)) is shares refl).1;
  messages = λ m is. spelled_when (Message m) (message_sized m (518 + 90 * length m.path) is.share is.nodes is.few refl).1;
  names = λ name answer is are short. spelled_within (Names name answer) short (names_few name answer is are short);
  claims = λ claim is short. spelled_within (Fraud claim) short (fraud_few claim is short);
  accepted = accepted_written;
  missing = λ cells are some.
      spelled_when (Missing cells) (missing_sized cells (6 + 4 * length cells.list) (λ none. some (nil_from_length cells.list none)) (omega (arith, cells_few cells are)) refl).1;
  cells = cells_counted;
  samples = λ cell axis. spelled_within (Sample cell axis) refl (omega arith);
  requests = λ name is. spelled_when (Request name) (request_sized name 29 (sym is.size_is) (omega arith)).1;
  commits = λ proof is short. spelled_within (Commit proof) short (commit_few proof is short);
  shaped = λ proof shape. commit_short proof (c.shape_laws.ensures.rows proof shape) (c.shape_laws.ensures.subtrees proof shape);
  rooted = λ proof is. spelled_when (Rooted proof) (rooted_sized proof (611 + 90 * length proof.message.path + 32 * length proof.up) is.is is.few_hashes refl).1;
  transactions = transactions_spelled;
  refusals = λ refusal. spelled_within (Refusal refusal) refl (omega arith);
  states = spelled_within State refl (omega arith);
  message_read = message_again;
  message_spelled = message_takes;
  raw = raw_is_frame;
  frames = frames_are_the_file;
  files = files_are_frames;
  bad = bad_frame_is_first;
  limit = refl;
}
