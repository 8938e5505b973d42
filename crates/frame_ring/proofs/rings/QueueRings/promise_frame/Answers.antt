use Rattle.std.proofs.Common.{◌≡◌, ◌∙◌, ℕ, ◌+◌, ◌<◌, ap, length, arith}
use Rattle.lane_model.specs.Lane.{bytes_of}
use Rattle.pair_model.specs.Pieces.{pieces_of}
use Rattle.pair_model.specs.Sizes.{pieces_in, sizes_of}
use Rattle.ring_geometry.specs.Geometry.{max_payload_of}
use Rattle.step_kinds.specs.Sides.{other_side}
use Rattle.bridge_pair.specs.Bridge.{pages_of}
use Rattle.bridge_pair.specs.Pages.{PagesGrow}
use Rattle.bridge_pair.proofs.Facade.{pages_again}
use Rattle.frame_ring.specs.Outgoing.{entry_at}
use Rattle.frame_ring.specs.Promises.{TouchesEntries}
use Rattle.frame_ring.specs.Rings.{QueueOf}
use Rattle.frame_ring.proofs.Entries.{length-pieces_of}
use Rattle.frame_ring.proofs.EntryPages.{entries_grow, entries_promised, piece_length}
use Rattle.frame_ring.proofs.rings.QueueRings.promise_frame.Goals as goal
use Rattle.frame_ring.proofs.rings.QueueRings.promise_frame.Goals.{After-promise_entry}

-- the most bytes of an entry
abbrev largest_in : QueueOf → ℕ
largest_in rings = (sizes_of rings.plan rings.side rings.queue).largest

-- the entry that was promised last is the next piece of the frame
piece_is : (c : After-promise_entry)
    → (length c.piece_bytes.result.now ≡ length (bytes_of (entry_at (pieces_of (largest_in c.args.self.now) c.args.frame.now) c.loop-k.k))) × (c.loop-k.k < length (pieces_of (largest_in c.args.self.now) c.args.frame.now))
piece_is c =
    piece_length (largest_in c.args.self.now) c.max_payload-largest.result c.loop-k.k c.pieces_in-k-end.result c.args.frame.now c.bytes.result.now c.piece_bytes.result.now
    (c.max_payload-largest.ensures ∙ ap max_payload_of c.out.ensures.value) c.bytes.ensures.value c.piece_bytes.ensures.value
    (c.pieces_in-k-end.ensures.value ∙ ap (pieces_in c.max_payload-largest.result) c.len.ensures.value) c.loop-k-test.true

-- and so are the pages that were
pages_grow : (c : After-promise_entry)
    → PagesGrow (TouchesEntries c.args.self.now c.args.from (pieces_of (largest_in c.args.self.now) c.args.frame.now)) (pages_of c.args.pair.now (other_side c.args.self.now.side)) (pages_of c.promise_entry.new.pair (other_side c.args.self.now.side))
pages_grow c =
    entries_grow c.args.self.now c.args.from (c.args.from + c.from.result) c.loop-k.k (length c.piece_bytes.result.now) (pieces_of (largest_in c.args.self.now) c.args.frame.now) _ _ _
    (ap (λ k. c.args.from + k) c.from.ensures) (piece_is c).1 (piece_is c).0 c.loop-k.invariant.pages c.promise_entry.ensures.pages

pub returns-in_err-promise_entry-clause-pages : goal.returns-in_err-promise_entry-clause-pages
returns-in_err-promise_entry-clause-pages c = pages_grow (goal.at.returns-in_err-promise_entry-clause-pages c).After-promise_entry

pub loop-k-preserved : goal.loop-k-preserved
loop-k-preserved c =
    let rings = c.args.self.now in
    let here = (goal.at.loop-k-preserved c).After-promise_entry in
    record {
      rest = pages_again c.args.pair.now c.loop-k.pair c.promise_entry.new.pair (other_side rings.side) c.loop-k.invariant.rest c.promise_entry.ensures.rest;
      pages = pages_grow here;
      done = entries_promised rings c.args.from (c.args.from + c.from.result) c.loop-k.k (length c.piece_bytes.result.now) (pieces_of (largest_in rings) c.args.frame.now) _ _ (ap (λ k. c.args.from + k) c.from.ensures) (piece_is here).0
          c.loop-k.invariant.done c.promise_entry.ensures.pages c.in_ok-promise_entry.ensures.ok;
    }

pub returns-clause-ok : goal.returns-clause-ok
returns-clause-ok c =
    let rings = c.args.self.now in
    let frame = c.args.frame.now in
    let seen : c.max_payload-largest.result ≡ largest_in rings = c.max_payload-largest.ensures ∙ ap max_payload_of c.out.ensures.value in
    let count : c.pieces_in-k-end.result ≡ pieces_in (largest_in rings) (length frame) = c.pieces_in-k-end.ensures.value ∙ ap (pieces_in c.max_payload-largest.result) c.len.ensures.value ∙ ap (λ largest. pieces_in largest (length frame)) seen in
    λ k among. c.loop-k.invariant.done k (omega (arith, among, count, length-pieces_of (largest_in rings) frame, c.loop-k-test.false))
