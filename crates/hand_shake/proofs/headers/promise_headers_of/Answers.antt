use Rattle.std.proofs.Common.{◌≡◌, ◌∙◌, ℕ, ◌-◌, ◌<◌, inl, ap, sym, subst, arith}
use Rattle.pair_model.specs.Addresses.{own_header}
use Rattle.host_memory.specs.Memory.{ArePromised}
use Rattle.pair_model.specs.Sizes.{header_bytes, layout_to}
use Rattle.ring_geometry.specs.Geometry.{Layout, entries_of}
use Rattle.bridge_pair.specs.Bridge.{Bridge, bridge_bytes_of, pages_of}
use Rattle.bridge_pair.specs.Pages.{PagesGrow}
use Rattle.bridge_pair.proofs.Facade.{grows_nothing, pages_again}
use Rattle.pair_model.specs.Plans.{side_plan}
use Rattle.plan_numbers.specs.Memories.{WindowsFit}
use Rattle.step_kinds.specs.declared.plan.PairPlan.{PairPlan}
use Rattle.hand_shake.specs.Headers.{AreSomeZeroed, TouchesHeaderOf}
use Rattle.hand_shake.proofs.HeaderPages.{header_grows, pages_same, ready_down, receiving}
use Rattle.hand_shake.proofs.headers.promise_headers_of.Goals as goal

pub loop-count-init : goal.loop-count-init
loop-count-init c =
    let pair = c.args.pair.now in
    let side = c.args.side in
    let queue = c.args.queue in
    let same : c.receiving_ring-ring.result.queue ≡ queue = ap (λ (l : Layout). l.queue) c.receiving_ring-ring.ensures in
    let all = entries_of (layout_to pair.plan side queue) in
    let bytes = bridge_bytes_of pair side in
    let count = c.up_to_nonzero-count.result in
    let told = c.up_to_nonzero-count.ensures in
    let size : c.entries.result ≡ all = c.entries.ensures.value ∙ ap entries_of (c.receiving_ring-ring.ensures ∙ ap (λ plan. layout_to plan side queue) c.plan.ensures.value) in
    let zeroed = subst (λ (n : ℕ). AreSomeZeroed pair.plan side queue count n bytes) size (subst (λ (q : ℕ). AreSomeZeroed pair.plan side q count c.entries.result bytes) same told.zero) in
    record {
      count = omega (arith, told.fewer, size);
      nonzero = told.nonzero;
      grown = record { rest = pages_same pair side; pages = grows_nothing (TouchesHeaderOf pair.plan side queue bytes) (pages_of pair side) };
      done = λ k least below. inl (zeroed k least below);
    }

pub promise_header-requires-clause-fit : goal.promise_header-requires-clause-fit
promise_header-requires-clause-fit c =
    let plans : c.loop-count.pair.plan ≡ c.args.pair.now.plan = ap (λ (bridge : Bridge). bridge.plan) c.loop-count.invariant.grown.rest in
    subst (λ (plan : PairPlan). WindowsFit plan c.args.side) (sym plans) c.requires.fit

pub promise_header-requires-clause-ring : goal.promise_header-requires-clause-ring
promise_header-requires-clause-ring c =
    let plans : c.loop-count.pair.plan ≡ c.args.pair.now.plan = ap (λ (bridge : Bridge). bridge.plan) c.loop-count.invariant.grown.rest in
    receiving c.loop-count.pair.plan c.args.side c.args.queue c.receiving_ring-ring.result
    (c.receiving_ring-ring.ensures ∙ ap (λ (plan : PairPlan). layout_to plan c.args.side c.args.queue) (c.plan.ensures.value ∙ sym plans))
    (subst (λ (plan : PairPlan). c.args.queue < (side_plan plan c.args.side).queues) (sym plans) c.requires.among)

pub promise_header-requires-clause-slot : goal.promise_header-requires-clause-slot
promise_header-requires-clause-slot c =
    let size : entries_of c.receiving_ring-ring.result ≡ entries_of (layout_to c.args.pair.now.plan c.args.side c.args.queue) =
    ap entries_of (c.receiving_ring-ring.ensures ∙ ap (λ plan. layout_to plan c.args.side c.args.queue) c.plan.ensures.value) in
    omega (arith, size, c.loop-count.invariant.count, c.loop-count-test.true)

pub promise_header-requires-clause-nonzero : goal.promise_header-requires-clause-nonzero
promise_header-requires-clause-nonzero c = c.loop-count.invariant.nonzero c.loop-count-test.true

pub up_to_nonzero-count-requires-in-loop-count-clause-fit : goal.up_to_nonzero-count-requires-in-loop-count-clause-fit
up_to_nonzero-count-requires-in-loop-count-clause-fit c =
    let plans : c.promise_header.new.pair.plan ≡ c.args.pair.now.plan =
    ap (λ (bridge : Bridge). bridge.plan) c.promise_header.ensures.grown.rest ∙ ap (λ (bridge : Bridge). bridge.plan) c.loop-count.invariant.grown.rest in
    subst (λ (plan : PairPlan). WindowsFit plan c.args.side) (sym plans) c.requires.fit

pub up_to_nonzero-count-requires-in-loop-count-clause-ring : goal.up_to_nonzero-count-requires-in-loop-count-clause-ring
up_to_nonzero-count-requires-in-loop-count-clause-ring c =
    let plans : c.promise_header.new.pair.plan ≡ c.args.pair.now.plan =
    ap (λ (bridge : Bridge). bridge.plan) c.promise_header.ensures.grown.rest ∙ ap (λ (bridge : Bridge). bridge.plan) c.loop-count.invariant.grown.rest in
    receiving c.promise_header.new.pair.plan c.args.side c.args.queue c.receiving_ring-ring.result
    (c.receiving_ring-ring.ensures ∙ ap (λ (plan : PairPlan). layout_to plan c.args.side c.args.queue) (c.plan.ensures.value ∙ sym plans))
    (subst (λ (plan : PairPlan). c.args.queue < (side_plan plan c.args.side).queues) (sym plans) c.requires.among)

pub up_to_nonzero-count-requires-in-loop-count-clause-slots : goal.up_to_nonzero-count-requires-in-loop-count-clause-slots
up_to_nonzero-count-requires-in-loop-count-clause-slots c =
    let size : entries_of c.receiving_ring-ring.result ≡ entries_of (layout_to c.args.pair.now.plan c.args.side c.args.queue) =
    ap entries_of (c.receiving_ring-ring.ensures ∙ ap (λ plan. layout_to plan c.args.side c.args.queue) c.plan.ensures.value) in
    omega (arith, size, c.loop-count.invariant.count)

pub returns-in_err-promise_header-clause-grown : goal.returns-in_err-promise_header-clause-grown
returns-in_err-promise_header-clause-grown c =
    let pair = c.args.pair.now in
    let side = c.args.side in
    let queue = c.args.queue in
    let same : c.receiving_ring-ring.result.queue ≡ queue = ap (λ (l : Layout). l.queue) c.receiving_ring-ring.ensures in
    let now = c.loop-count.pair in
    let so_far = c.loop-count.invariant.grown in
    let next = c.promise_header.ensures.grown in
    record {
      rest = pages_again pair now c.promise_header.new.pair side so_far.rest next.rest;
      pages =
          header_grows pair now side queue _ so_far.rest so_far.pages
          (subst (λ (q : ℕ). PagesGrow (TouchesHeaderOf now.plan side q (bridge_bytes_of now side)) (pages_of now side) (pages_of c.promise_header.new.pair side)) same next.pages);
    }

pub loop-count-preserved : goal.loop-count-preserved
loop-count-preserved c =
    let pair = c.args.pair.now in
    let side = c.args.side in
    let queue = c.args.queue in
    let same : c.receiving_ring-ring.result.queue ≡ queue = ap (λ (l : Layout). l.queue) c.receiving_ring-ring.ensures in
    let all = entries_of (layout_to pair.plan side queue) in
    let now = c.loop-count.pair in
    let new = c.promise_header.new.pair in
    let n = c.loop-count.count - 1 in
    let count = c.up_to_nonzero-count-in-loop-count.result in
    let told = c.up_to_nonzero-count-in-loop-count.ensures in
    let so_far = c.loop-count.invariant.grown in
    let next = c.promise_header.ensures.grown in
    let pages = subst (λ (q : ℕ). PagesGrow (TouchesHeaderOf now.plan side q (bridge_bytes_of now side)) (pages_of now side) (pages_of new side)) same next.pages in
    let rest = pages_again pair now new side so_far.rest next.rest in
    record {
      count = omega (arith, told.fewer, c.loop-count.invariant.count);
      nonzero = told.nonzero;
      grown = record { rest = rest; pages = header_grows pair now side queue _ so_far.rest so_far.pages pages };
      done =
          ready_down pair now new side queue count c.loop-count.count all so_far.rest rest c.loop-count.invariant.done pages
          (subst (λ (q : ℕ). ArePromised (own_header now.plan side q n) (header_bytes now.plan) (pages_of new side)) same (rw c.in_ok-promise_header.was at c.promise_header.ensures.ok))
          (subst (λ (q : ℕ). AreSomeZeroed new.plan side q count n (bridge_bytes_of new side)) same told.zero);
    }

pub returns-clause-ok : goal.returns-clause-ok
returns-clause-ok c = λ n less. c.loop-count.invariant.done n (omega (arith, c.loop-count-test.false)) less
