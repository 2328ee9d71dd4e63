use Rattle.std.proofs.Common.{◌≡◌, ◌≢◌, ◌∙◌, ℕ, List, [], length, take, slice_index_or, refl, sym, ap, arith, inl, inr}
use Rattle.std.proofs.lemmas.List.{length-set, get_or-set_same, get_or-set_other}
use Rattle.std.proofs.lemmas.Bool.{cases_lt}
use Rattle.sha2.specs.Sha256.{padded_message}
use Rattle.multi_sha256.proofs.hashing.pad_all.Goals as goal

pub messages-init : goal.messages-init
messages-init g c = record {
  count = omega arith;
  sizes = λ j h. absurd (omega arith);
  done = λ j h. absurd (omega arith);
  left = λ j h. refl;
}

pub messages-preserved : goal.messages-preserved
messages-preserved g c =
    let now = c.messages.messages in
    let old = c.args.messages.now in
    let i = c.messages.j in
    let same : slice_index_or now i [] ≡ slice_index_or old i [] = c.messages.invariant.left i (omega arith) in
    record {
      count = length-set now i c.pad.new.message ∙ c.messages.invariant.count;
      sizes = λ j h. elim (cases_lt j i) [
        | inl a ↦ c.messages.invariant.sizes j a
        | inr b ↦
            let e : i ≡ j = omega arith in
            rw (← e) (ap (λ (l : List ℕ). length l) (sym same) ∙ c.pad.ensures.count)
      ];
      done = λ j h. elim (cases_lt j i) [
        | inl a ↦ get_or-set_other now i j c.pad.new.message [] (omega arith) ∙ c.messages.invariant.done j a
        | inr b ↦
            let e : i ≡ j = omega arith in
            rw (← e) (get_or-set_same now i c.pad.new.message [] (omega arith) ∙ c.pad.ensures.padded
            ∙ ap (λ (l : List ℕ). padded_message (take c.args.size l)) same)
      ];
      left = λ j h.
          let ne : j ≢ i = omega arith in
          get_or-set_other now i j c.pad.new.message [] ne ∙ c.messages.invariant.left j (omega arith);
    }

pub returns-clause-count : goal.returns-clause-count
returns-clause-count g c j h = c.messages.invariant.sizes j (omega arith)

pub returns-clause-padded : goal.returns-clause-padded
returns-clause-padded g c j h = c.messages.invariant.done j (omega arith)
