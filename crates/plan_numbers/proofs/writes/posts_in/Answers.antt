use Rattle.std.proofs.Common.{◌≡◌, ℕ, ◌+◌, ◌-◌, ◌*◌, min, map, sum, if◌then◌else◌, ap, ◌∙◌, sym, arith}
use Rattle.lane_model.specs.Lane.{chunks_in, count_from}
use Rattle.pair_model.specs.Sizes.{agreed_version, pieces_in, sizes_of}
use Rattle.ring_geometry.specs.Geometry.{max_payload_of}
use Rattle.plan_numbers.proofs.Posts.{posts_five, sum_counted_more}
use Rattle.plan_numbers.proofs.writes.posts_in.Goals as goal

pub loop-piece-preserved : goal.loop-piece-preserved
loop-piece-preserved c =
    let f : ℕ → ℕ = λ k. chunks_in (min c.max_payload-largest.result (c.args.len - c.max_payload-largest.result * k)) + 4 in
    let more = sum_counted_more f c.loop-piece.piece in
    let w : c.writes_in-posts.result ≡ f c.loop-piece.piece = c.writes_in-posts.ensures.value ∙ ap (λ n. chunks_in n + 4) (c.min.ensures ∙ ap (min c.max_payload-largest.result) c.saturating_sub.ensures) in
    record { counted = ap (λ n. n + c.writes_in-posts.result) c.loop-piece.invariant.counted ∙ (ap (λ n. sum (map f (count_from 0 c.loop-piece.piece)) + n) w ∙ sym more); few = omega arith }

pub returns-clause-value : goal.returns-clause-value
returns-clause-value c =
    let l : c.max_payload-largest.result ≡ (sizes_of c.args.pair.now c.args.side c.args.queue).largest = c.max_payload-largest.ensures ∙ ap max_payload_of c.sending_ring.ensures.value in
    let p : c.loop-piece.piece ≡ pieces_in c.max_payload-largest.result c.args.len = omega (arith, c.pieces_in-piece-end.ensures.value) in
    let v : agreed_version c.args.pair.now ≡ 5 = c.speaks_five.ensures ∙ ap (λ b. if b then 5 else 4) c.if-not-speaks_five.false in
    posts_five c.args.pair.now c.args.side c.args.queue c.args.len c.max_payload-largest.result c.loop-piece.piece c.loop-piece.posts v l p c.loop-piece.invariant.counted
