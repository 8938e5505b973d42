use Rattle.std.proofs.Common.{◌≡◌, ◌∙◌, ◌+◌, ◌≤◌, ap, sym, subst, arith, length}
use Rattle.pair_model.specs.Pieces.{pieces_of}
use Rattle.pair_model.specs.Sizes.{pieces_in}
use Rattle.frame_ring.specs.Calls.{entries_begun}
use Rattle.frame_ring.specs.Outgoing.{Outgoing, all_writes_in, most_numbers, sender_seen, with_progress}
use Rattle.frame_ring.proofs.Entries.{length-pieces_of}
use Rattle.frame_ring.proofs.Progress.{begun_is, some_pieces, some_writes}
use Rattle.frame_ring.proofs.sending.Sender.begin.Goals as goal

pub invariant_of-self : goal.invariant_of-self
invariant_of-self c =
    let kept = c.self.inside in
    let law = c.self.invariant in
    let largest : kept.largest ≡ c.args.self.now.largest = ap (λ (outgoing : Outgoing). outgoing.largest) c.self.view_is in
    let begun : kept.begun ≡ c.args.self.now.sending.begun = ap (λ (outgoing : Outgoing). outgoing.sending.begun) c.self.view_is in
    let told : kept.told ≡ c.args.self.now.sending.told = ap (λ (outgoing : Outgoing). outgoing.sending.told) c.self.view_is in
    let pieces : c.pieces_in-self-inside.result ≡ pieces_in kept.largest (length c.args.frame) = c.pieces_in-self-inside.ensures.value ∙ ap (pieces_in kept.largest) c.len.ensures.value in
    let some = some_pieces kept.largest c.args.frame in
    let count : length (pieces_of kept.largest c.args.frame) ≡ pieces_in kept.largest (length c.args.frame) = length-pieces_of kept.largest c.args.frame in
    let numbers : kept.begun + pieces_in kept.largest (length c.args.frame) ≤ most_numbers =
    subst (λ largest. kept.begun + pieces_in largest (length c.args.frame) ≤ most_numbers) (sym largest) (omega (arith, begun, c.requires.numbers)) in
    let left : c.args.left ≡ all_writes_in (pieces_of kept.largest c.args.frame) = c.requires.writes ∙ ap (λ largest. all_writes_in (pieces_of largest c.args.frame)) (sym largest) in
    let writes : 4 ≤ all_writes_in (pieces_of kept.largest c.args.frame) = some_writes (pieces_of kept.largest c.args.frame) some in
    record {
      payload = law.payload;
      pieces = pieces ∙ sym count;
      piece = omega (arith, pieces, count, some);
      few_pieces = c.pieces_in-self-inside.ensures.few;
      next = omega arith;
      left = omega (arith, left);
      begun = omega (arith, numbers, pieces);
      told = omega (arith, told, c.requires.frames);
      few_left = c.requires.few;
      gone = λ none. absurd (omega (arith, none, left, writes));
    }

pub returns : goal.returns
returns c =
    let kept = c.self.inside in
    ap (with_progress (sender_seen kept))
    (begun_is (pieces_of kept.largest c.args.frame) kept.queue (kept.told + 1) (sender_seen kept).sending (some_pieces kept.largest c.args.frame))
    ∙ ap (λ (outgoing : Outgoing). with_progress outgoing (record (entries_begun outgoing.queue outgoing.sending (pieces_of outgoing.largest c.args.frame)) { told = outgoing.sending.told + 1 })) c.self.view_is
