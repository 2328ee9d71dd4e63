use Rattle.std.proofs.Common.{arith}
use Rattle.frame_payloads.proofs.MessageLengths.{length-message_payload}
use Rattle.da_talk.proofs.replies.put_frame.Goals as goal

-- no sample has more bytes than the longest
pub put_message-requires : goal.put_message-requires
put_message-requires c = record {
  capacity = omega (
    arith,
    length-message_payload c.args.message.now c.message_law.ensures,
    c.put_head.ensures.len,
    c.put_head.ensures.capacity,
    c.requires,
  );
}
