-- Compact shares that are read as a sequence are its later shares, to the end of its text.
use Rattle.std.proofs.Common.{◌≡◌, ◌∙◌, ℕ, suc, ◌+◌, ◌<◌, ◌≤◌, Bool, true, false, leb-true, leb-false, List, [], ◌∷◌, ◌++◌, length, drop, Option, Some, Ok, refl, sym, ap, subst, arith, length-append, append_assoc, append-nil}
use Rattle.namespace_id.specs.Bytes.{AreBytes}
use Rattle.namespace_id.specs.Shares.{AreShares}
use Rattle.namespace_id.specs.declared.shares.Share.{Share}
use Rattle.namespace_id.proofs.StringLemmas.{AreBytes-append}
use Rattle.namespace_id.proofs.RefusalLemmas.{checked, if_none}
use Rattle.share_split.specs.declared.walking.Form.TheVariants.{Units}
use Rattle.share_split.specs.Walks.{Sequence, missing, is_complete, extended_by, later_refusal, surplus_refusal, unit_refusal, sequence_from}
use Rattle.share_split.proofs.Reading.Sequence.{seq}
use Rattle.share_split.proofs.Reading.Next.{later_told, later_part, part-fits}
use Rattle.share_split.proofs.Reading.Runs.{AreLater, drop-parted}
use Rattle.share_split.proofs.Reading.UnitWalk.{sequence_from-cons, sequence_from-whole, sequence_from-open}

-- ---- the walk

-- what follows a sequence, to its end
pub record IsEnd (s : Sequence) (shares : List Share) (answer : Option Sequence) : Type 0 where
  pub text : List ℕ
  pub later : AreLater Units s.name s.version text shares
  pub all : s.size ≡ length s.content + length text
  pub fits : AreBytes text
  pub answer_is : answer ≡ Some (seq s.first s.name s.version s.signer s.size (s.content ++ text))

-- no share is left
end_by : (done : Bool) (i : ℕ) (s : Sequence) (answer : Option Sequence) → is_complete s ≡ done → length s.content ≤ s.size → sequence_from i (Some s) [] ≡ Ok answer
    → IsEnd s [] answer
end_by true i s answer is le e =
    let whole = sequence_from-whole i s is in
    let same : Some s ≡ answer = cc in
    let size : s.size ≤ length s.content = leb-true _ _ is in
    record {
      text = [];
      later = refl;
      all = omega arith;
      fits = λ i. omega arith;
      answer_is = sym same ∙ ap (λ (l : List ℕ). Some (seq s.first s.name s.version s.signer s.size l)) (sym (append-nil s.content));
    }
end_by false i s answer is le e = let cut = sequence_from-open i s is in absurd cc

-- the later shares
pub run_told : (shares : List Share) (i : ℕ) (s : Sequence) (answer : Option Sequence) → AreShares shares → length s.content ≤ s.size
    → sequence_from i (Some s) shares ≡ Ok answer → IsEnd s shares answer
run_told [] i s answer wholes le e = end_by (is_complete s) i s answer refl le e
run_told (share ∷ shares) i s answer wholes le e =
    let t : Sequence = extended_by Units s share in
    let p = checked (unit_refusal i (Some s) share) (sequence_from (suc i) (Some t) shares) answer (sym (sequence_from-cons i (Some s) share shares) ∙ e) in
    let q = if_none (is_complete s) (surplus_refusal i share) (later_refusal Units i s share) p.0 in
    let x = later_told Units i s share wholes.0 q.1 in
    let part : List ℕ = later_part Units s share in
    let so_far : length (s.content ++ part) ≡ length s.content + length part = length-append s.content part in
    let r = run_told shares (suc i) t answer wholes.1 (omega (arith, so_far, x.within)) p.1 in
    let text : List ℕ = part ++ r.text in
    let both : length text ≡ length part + length r.text = length-append part r.text in
    let behind : drop 478 text ≡ r.text = drop-parted 478 part r.text x.few (λ (k : length part < 478). omega (arith, x.full k, r.all, so_far)) in
    record {
      text = text;
      later = (
        omega (arith, both, r.all, so_far, leb-false _ _ q.0),
        x.later r.text (omega (arith, r.all, so_far)),
        subst (λ (l : List ℕ). AreLater Units s.name s.version l shares) (sym behind) r.later,
      );
      all = omega (arith, both, r.all, so_far);
      fits = AreBytes-append part r.text (part-fits Units (missing s) share wholes.0) r.fits;
      answer_is = r.answer_is ∙ ap (λ (l : List ℕ). Some (seq s.first s.name s.version s.signer s.size l)) (append_assoc s.content part r.text);
    }
