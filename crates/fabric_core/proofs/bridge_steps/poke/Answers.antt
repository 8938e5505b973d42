use Rattle.std.proofs.Common.{◌≡◌, ◌∙◌, ◌+◌, ◌*◌, ℕ, List, true, ap, length, sym, subst, rules}
use Rattle.step_kinds.specs.Sides.{other_side}
use Rattle.step_kinds.specs.declared.names.Side.{Side}
use Rattle.step_kinds.specs.declared.plan.PairPlan.{PairPlan}
use Rattle.step_kinds.specs.declared.steps.Label.TheVariants.{Raw}
use Rattle.bridge_pair.specs.Bridge.{Bridge, pages_of}
use Rattle.bridge_pair.specs.Calls.{HasPages}
use Rattle.bridge_pair.specs.Flights.{arrival_of}
use Rattle.bridge_pair.specs.Writes.{PostedWrite, memory_write}
use Rattle.pair_model.specs.Addresses.{peer_address}
use Rattle.host_memory.specs.Memory.{ArePromised}
use Rattle.pair_model.specs.Link.{is_up}
use Rattle.pair_model.specs.Plans.{side_plan}
use Rattle.fabric_core.specs.Promises.{HasMorePages}
use Rattle.fabric_core.proofs.MorePages.{more_pages, on_err, posted_more}
use Rattle.fabric_core.proofs.bridge_steps.poke.Goals as goal
use Rattle.fabric_rule.specs.Turns.{posted_aside}

promised_there : (plan seen : PairPlan) (side peer : Side) (window offset at len : ℕ) (bytes : List ℕ) (pages : List ℕ) → plan ≡ seen → peer ≡ other_side side
    → at ≡ window * (side_plan seen peer).cap + offset → len ≡ length bytes → ArePromised at len pages → ArePromised (peer_address plan side window offset) (length bytes) pages
promised_there plan seen side peer window offset at len bytes pages plans peers at_is len_is promised =
    let there : at ≡ peer_address plan side window offset =
    at_is ∙ ap (λ (peer : Side). window * (side_plan seen peer).cap + offset) peers ∙ ap (λ (plan : PairPlan). window * (side_plan plan (other_side side)).cap + offset) (sym plans) in
    subst (λ n. ArePromised (peer_address plan side window offset) n pages) len_is (subst (λ n. ArePromised n len pages) there promised)

pub post_aside-requires-clause-pages : goal.post_aside-requires-clause-pages
post_aside-requires-clause-pages c =
    let mid = c.promise_range.new.self in
    let pages = pages_of mid (other_side c.args.side) in
    let plans : mid.plan ≡ c.plan.result.now = ap (λ (bridge : Bridge). bridge.plan) c.promise_range.ensures.rest ∙ sym c.plan.ensures.value in
    let promised : ArePromised c.own_address-at.result c.len-len.result pages =
    subst (λ (side : Side). ArePromised c.own_address-at.result c.len-len.result (pages_of mid side)) c.other-peer.ensures
    (subst (λ n. ArePromised c.own_address-at.result n (pages_of mid c.other-peer.result)) c.from.ensures c.in_ok-promise_range.ensures.ok) in
    subst (λ (write : PostedWrite). HasPages pages (arrival_of mid.plan c.args.side write.target)) (sym c.memory.ensures)
    (promised_there mid.plan c.plan.result.now c.args.side c.other-peer.result c.args.window c.args.offset c.own_address-at.result c.len-len.result c.bytes.result.now pages plans c.other-peer.ensures
    c.own_address-at.ensures.value (c.len-len.ensures.value ∙ ap length (sym c.bytes.ensures.value)) promised)

pub returns-in_err-promise_range-clause-err : goal.returns-in_err-promise_range-clause-err
returns-in_err-promise_range-clause-err c =
    on_err _ (more_pages c.args.pair.now c.promise_range.new.self c.other-peer.result c.promise_range.ensures.rest c.promise_range.ensures.pages.stay)

pub returns-in_err-post_aside-clause-err : goal.returns-in_err-post_aside-clause-err
returns-in_err-post_aside-clause-err c =
    on_err _
    (subst (λ (bridge : Bridge). HasMorePages c.args.pair.now bridge) (sym c.in_err-post_aside.ensures.err)
    (more_pages c.args.pair.now c.promise_range.new.self c.other-peer.result c.promise_range.ensures.rest c.promise_range.ensures.pages.stay))

pub returns-clause-after : goal.returns-clause-after
returns-clause-after c =
    let pair = c.args.pair.now in
    let up : is_up pair.link.state ≡ true = search rules in
    let more = more_pages pair c.promise_range.new.self c.other-peer.result c.promise_range.ensures.rest c.promise_range.ensures.pages.stay in
    let write = c.memory.ensures ∙ ap (λ bytes. memory_write (Raw c.args.window c.args.offset c.len-len.result) c.args.window c.args.offset bytes) c.bytes.ensures.value
    ∙ ap (λ len. memory_write (Raw c.args.window c.args.offset len) c.args.window c.args.offset c.args.bytes.now) c.len-len.ensures.value in
    subst (λ (write : PostedWrite). HasMorePages (posted_aside pair c.args.side write) c.post_aside.new.pair) write
    (posted_more pair c.promise_range.new.self c.post_aside.new.pair c.args.side c.memory.result up more c.in_ok-post_aside.ensures.ok)
