use Rattle.std.proofs.Common.{◌≡◌, ◌∙◌, ℕ, ◌+◌, ◌-◌, ap, sym, subst, arith}
use Rattle.pair_model.specs.Addresses.{own_header}
use Rattle.host_memory.specs.Memory.{AreZero}
use Rattle.pair_model.specs.Sizes.{header_bytes}
use Rattle.bridge_pair.specs.Bridge.{bridge_bytes_of}
use Rattle.hand_shake.specs.Headers.{IsZeroed}
use Rattle.hand_shake.proofs.HeaderPages.{header_back}
use Rattle.hand_shake.proofs.SomeHeaders.{zeroed_both, zeroed_one}
use Rattle.hand_shake.proofs.headers.up_to_nonzero_from.Goals as goal

pub loop-n-init : goal.loop-n-init
loop-n-init c = record { least = omega (arith, c.requires.some); zero = λ n least below. absurd (omega (arith, least, below)) }

pub overflow_sub-at : goal.overflow_sub-at
overflow_sub-at c =
    let back =
    header_back c.args.pair.now.plan _ c.args.side c.args.ring.now (c.loop-n.n - 1) (c.args.to - 1) _ _ _ c.plan.ensures.value c.requires.ring.0 c.header_at-last.ensures.fits
    (omega (arith, c.loop-n-test.true, c.loop-n.auto.n)) (omega (arith, c.requires.some, c.requires.slots)) c.header_at-last.ensures.value (c.from-slot.ensures ∙ c.frame_size.ensures) c.from.ensures in
    back.0

pub is_zero-requires-clause-within : goal.is_zero-requires-clause-within
is_zero-requires-clause-within c =
    let within = rw c.plan.ensures.value at c.header_at-last.ensures.within in
    let size = c.plan.ensures.law.memories c.args.side in
    let len : c.header_bytes-len.result ≡ header_bytes c.args.pair.now.plan = c.header_bytes-len.ensures ∙ ap header_bytes c.plan-2.ensures.value in
    omega (arith, within, size, len)

pub returns-then-not-is_zero-clause-zero : goal.returns-then-not-is_zero-clause-zero
returns-then-not-is_zero-clause-zero c = λ n least below. c.loop-n.invariant.zero n (omega (arith, least, c.loop-n-test.true)) below

pub returns-then-not-is_zero-clause-nonzero : goal.returns-then-not-is_zero-clause-nonzero
returns-then-not-is_zero-clause-nonzero c =
    λ some zeroed.
    let back =
    header_back c.args.pair.now.plan _ c.args.side c.args.ring.now (c.loop-n.n - 1) (c.args.to - 1) _ _ _ c.plan.ensures.value c.requires.ring.0 c.header_at-last.ensures.fits
    (omega (arith, c.loop-n-test.true, c.loop-n.auto.n)) (omega (arith, c.requires.some, c.requires.slots)) c.header_at-last.ensures.value (c.from-slot.ensures ∙ c.frame_size.ensures) c.from.ensures in
    let len : c.header_bytes-len.result ≡ header_bytes c.args.pair.now.plan = c.header_bytes-len.ensures ∙ ap header_bytes c.plan-2.ensures.value in
    let same : c.loop-n.n - 1 + 1 - 1 ≡ c.loop-n.n - 1 = omega (arith, c.loop-n-test.true) in
    let here : AreZero (own_header c.args.pair.now.plan c.args.side c.args.ring.now.queue (c.loop-n.n - 1)) (header_bytes c.args.pair.now.plan) (bridge_bytes_of c.args.pair.now c.args.side) =
    subst (λ (n : ℕ). IsZeroed c.args.pair.now.plan c.args.side c.args.ring.now.queue n (bridge_bytes_of c.args.pair.now c.args.side)) same zeroed in
    let yes = c.is_zero.ensures.1
    (subst (λ (at : ℕ). AreZero at c.header_bytes-len.result (bridge_bytes_of c.args.pair.now c.args.side)) (sym back.1)
    (subst (λ (len : ℕ). AreZero (own_header c.args.pair.now.plan c.args.side c.args.ring.now.queue (c.loop-n.n - 1)) len (bridge_bytes_of c.args.pair.now c.args.side)) (sym len) here)) in
    cc (yes, c.if-not-is_zero.true)

pub loop-n-preserved : goal.loop-n-preserved
loop-n-preserved c =
    let back =
    header_back c.args.pair.now.plan _ c.args.side c.args.ring.now (c.loop-n.n - 1) (c.args.to - 1) _ _ _ c.plan.ensures.value c.requires.ring.0 c.header_at-last.ensures.fits
    (omega (arith, c.loop-n-test.true, c.loop-n.auto.n)) (omega (arith, c.requires.some, c.requires.slots)) c.header_at-last.ensures.value (c.from-slot.ensures ∙ c.frame_size.ensures) c.from.ensures in
    let len : c.header_bytes-len.result ≡ header_bytes c.args.pair.now.plan = c.header_bytes-len.ensures ∙ ap header_bytes c.plan-2.ensures.value in
    let n = c.loop-n.n - 1 in
    let plan = c.args.pair.now.plan in
    let bytes = bridge_bytes_of c.args.pair.now c.args.side in
    let zeroed : AreZero (own_header plan c.args.side c.args.ring.now.queue n) (header_bytes plan) bytes =
    subst (λ (len : ℕ). AreZero (own_header plan c.args.side c.args.ring.now.queue n) len bytes) len
    (subst (λ (at : ℕ). AreZero at c.header_bytes-len.result bytes) back.1 (c.is_zero.ensures.0 c.if-not-is_zero.false)) in
    record {
      least = omega (arith, c.loop-n-test.true);
      zero =
          zeroed_both plan c.args.side c.args.ring.now.queue n c.loop-n.n c.args.to bytes
          (zeroed_one plan c.args.side c.args.ring.now.queue n c.loop-n.n bytes (omega (arith, c.loop-n-test.true)) zeroed) c.loop-n.invariant.zero;
    }

pub returns-clause-zero : goal.returns-clause-zero
returns-clause-zero c = λ n least below. c.loop-n.invariant.zero n (omega (arith, least, c.loop-n-test.false)) below
