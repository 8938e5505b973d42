use Rattle.std.proofs.Common.{◌≡◌, ℕ, ◌+◌, ◌-◌, ◌≤◌, inl, inr, length, replicate, sym, ap, ◌∙◌, subst, arith}
use Rattle.pair_model.specs.Addresses.{own_header}
use Rattle.host_memory.specs.Memory.{written}
use Rattle.pair_model.specs.Sizes.{header_bytes, layout_to}
use Rattle.ring_geometry.specs.Geometry.{Layout, entries_of}
use Rattle.bridge_pair.specs.Bridge.{Bridge, bridge_bytes_of, pages_of, with_bytes}
use Rattle.bridge_pair.specs.Ends.{bytes_after}
use Rattle.bridge_pair.proofs.Facade.{bytes_again}
use Rattle.hand_shake.specs.Headers.{AreSomeZeroed, IsHeaderReady, some_stores}
use Rattle.hand_shake.proofs.HeaderPages.{bytes_same, header_before}
use Rattle.hand_shake.proofs.SomeHeaders.{passed_over}
use Rattle.hand_shake.proofs.ZeroHeaders.{ready_after, stored_again}
use Rattle.hand_shake.proofs.headers.zero_headers_of.Goals as goal

pub loop-count-init : goal.loop-count-init
loop-count-init c =
    let pair = c.args.pair.now in
    let side = c.args.side in
    let queue = c.args.queue in
    let same : c.receiving_ring-ring.result.queue ≡ queue = ap (λ (l : Layout). l.queue) c.receiving_ring-ring.ensures in
    let all = entries_of (layout_to pair.plan side queue) in
    let bytes = bridge_bytes_of pair side in
    let count = c.up_to_nonzero-count.result in
    let told = c.up_to_nonzero-count.ensures in
    let size : c.entries.result ≡ all = c.entries.ensures.value ∙ ap entries_of (c.receiving_ring-ring.ensures ∙ ap (λ plan. layout_to plan side queue) c.plan.ensures.value) in
    let none : all - all ≡ 0 = omega arith in
    let start : pair ≡ with_bytes pair side (bytes_after (some_stores pair.plan side queue all (all - all)) bytes) =
    sym (ap (λ (n : ℕ). with_bytes pair side (bytes_after (some_stores pair.plan side queue all n) bytes)) none ∙ bytes_same pair side) in
    record {
      count = omega (arith, told.fewer, size);
      nonzero = told.nonzero;
      so_far =
          passed_over pair pair side queue count all all start (omega (arith, told.fewer, size)) (omega arith) (omega arith)
          (subst (λ (n : ℕ). AreSomeZeroed pair.plan side queue count n bytes) size (subst (λ (q : ℕ). AreSomeZeroed pair.plan side q count c.entries.result bytes) same told.zero))
          (λ some. subst (λ (n : ℕ). own_header pair.plan side queue (n - 1) + header_bytes pair.plan ≤ length bytes) size
          (subst (λ (q : ℕ). own_header pair.plan side q (c.entries.result - 1) + header_bytes pair.plan ≤ length bytes) same (told.within (omega (arith, some, size)))));
    }

pub zero_header-requires-clause-promised : goal.zero_header-requires-clause-promised
zero_header-requires-clause-promised c =
    let pair = c.args.pair.now in
    let side = c.args.side in
    let queue = c.args.queue in
    let same : c.receiving_ring-ring.result.queue ≡ queue = ap (λ (l : Layout). l.queue) c.receiving_ring-ring.ensures in
    let now = c.loop-count.pair in
    let n = c.loop-count.count - 1 in
    let within = c.loop-count.invariant.count in
    let ready : IsHeaderReady now.plan side c.receiving_ring-ring.result.queue n (bridge_bytes_of now side) (pages_of now side) =
    subst (λ (q : ℕ). IsHeaderReady now.plan side q n (bridge_bytes_of now side) (pages_of now side)) (sym same)
    (stored_again pair now side _ (λ plan bytes pages. IsHeaderReady plan side queue n bytes pages) c.loop-count.invariant.so_far
    (ready_after pair.plan side queue n _ (bridge_bytes_of pair side) (pages_of pair side) (c.requires.ready n (omega (arith, within, c.loop-count-test.true))))) in
    elim ready [
      | inl zero ↦ absurd (c.loop-count.invariant.nonzero (omega (arith, c.loop-count-test.true)) zero)
      | inr promised ↦ promised
    ]

pub loop-count-preserved : goal.loop-count-preserved
loop-count-preserved c =
    let pair = c.args.pair.now in
    let side = c.args.side in
    let queue = c.args.queue in
    let same : c.receiving_ring-ring.result.queue ≡ queue = ap (λ (l : Layout). l.queue) c.receiving_ring-ring.ensures in
    let all = entries_of (layout_to pair.plan side queue) in
    let bytes = bridge_bytes_of pair side in
    let now = c.loop-count.pair in
    let new = c.zero_header.new.pair in
    let n = c.loop-count.count - 1 in
    let count = c.up_to_nonzero-count-in-loop-count.result in
    let told = c.up_to_nonzero-count-in-loop-count.ensures in
    let within = c.loop-count.invariant.count in
    let zeroed : new ≡ with_bytes now side (written (own_header now.plan side queue n) (replicate (header_bytes now.plan) 0) (bridge_bytes_of now side)) =
    subst (λ (q : ℕ). new ≡ with_bytes now side (written (own_header now.plan side q n) (replicate (header_bytes now.plan) 0) (bridge_bytes_of now side))) same c.zero_header.ensures in
    let stored =
    header_before pair.plan now.plan side queue n c.loop-count.count (all - c.loop-count.count) (all - n) bytes (ap (λ (bridge : Bridge). bridge.plan) c.loop-count.invariant.so_far)
    (omega (arith, within, c.loop-count-test.true)) (omega (arith, c.loop-count-test.true)) (omega (arith, within, c.loop-count-test.true)) in
    let so_far : new ≡ with_bytes pair side (bytes_after (some_stores pair.plan side queue n (all - n)) bytes) =
    bytes_again pair now new side _ (written (own_header now.plan side queue n) (replicate (header_bytes now.plan) 0)) c.loop-count.invariant.so_far zeroed ∙ ap (λ stored. with_bytes pair side stored) stored in
    record {
      count = omega (arith, told.fewer, within);
      nonzero = told.nonzero;
      so_far =
          passed_over pair new side queue count n all so_far told.fewer (omega (arith, within)) (omega arith)
          (subst (λ (q : ℕ). AreSomeZeroed new.plan side q count n (bridge_bytes_of new side)) same told.zero)
          (λ some. subst (λ (q : ℕ). own_header new.plan side q (n - 1) + header_bytes new.plan ≤ length (bridge_bytes_of new side)) same (told.within some));
    }
