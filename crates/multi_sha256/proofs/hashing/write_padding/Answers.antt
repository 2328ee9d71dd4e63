use Rattle.std.proofs.Common.{◌≡◌, ◌-◌, ◌∙◌, length, refl, arith}
use Rattle.std.proofs.lemmas.List.{length-set}
use Rattle.multi_sha256.proofs.PaddingLemmas.{padding_first, padding_more, padding_last}
use Rattle.multi_sha256.proofs.hashing.write_padding.Goals as goal

pub zeros-init : goal.zeros-init
zeros-init c = record {
  low = omega arith;
  count = length-set c.args.bytes.now c.args.size 0x80;
  done = padding_first c.args.bytes.now c.args.size (omega arith);
}

pub zeros-preserved : goal.zeros-preserved
zeros-preserved c = record {
  low = omega arith;
  count = length-set c.zeros.bytes c.zeros.i 0 ∙ c.zeros.invariant.count;
  done = padding_more c.args.bytes.now c.zeros.bytes c.args.size c.zeros.i c.zeros.invariant.low (omega arith) c.zeros.invariant.done;
}

pub returns : goal.returns
returns c =
    let size = c.args.size in
    let old = c.args.bytes.now in
    let m = c.zeros.bytes in
    let end = length old - 8 in
    let at : c.zeros.i ≡ end = omega arith in
    let count : length m ≡ length old = c.zeros.invariant.count in
    padding_last old m c.copy_from_slice.new.self size end (length m - end) c.requires.whole c.requires.room c.requires.tight count refl
    (rw at at c.zeros.invariant.done) (c.copy_from_slice.ensures.after ∙ c.to_be_bytes.ensures) (omega (arith, c.copy_from_slice.ensures.len))
