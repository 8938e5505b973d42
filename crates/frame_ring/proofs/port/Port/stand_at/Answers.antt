use Rattle.std.proofs.Common.{◌≡◌, ◌∙◌, true, ℕ, ◌+◌, ◌-◌, ◌≤◌, List, OnOk, length, refl, ap, sym, subst, arith, rules}
use Rattle.std.proofs.lemmas.Grind.{common_steps}
use Rattle.pair_model.specs.Addresses.{own_header}
use Rattle.pair_model.specs.Headers.{flags_offset}
use Rattle.pair_model.specs.RingWrites.{index_write}
use Rattle.host_memory.specs.Memory.{ArePromised, Touches}
use Rattle.lane_model.specs.Tests.{is_idle}
use Rattle.lane_model.specs.declared.Phase.TheVariants.{Copying}
use Rattle.step_kinds.specs.Limits.{most_frame_bytes}
use Rattle.step_kinds.specs.Sides.{other_side}
use Rattle.step_kinds.specs.declared.names.Side.{Side}
use Rattle.bridge_pair.specs.Bridge.{Bridge, pages_of, with_pages}
use Rattle.bridge_pair.proofs.Facade.{grows_nothing}
use Rattle.pair_model.specs.DeclaredPlans.{SizesFit}
use Rattle.ring_geometry.specs.Geometry.{max_payload_of}
use Rattle.bridge_pair.specs.Pages.{PagesGrow}
use Rattle.pair_model.specs.Sizes.{layout_of, layout_to}
use Rattle.ring_geometry.specs.Geometry.{index_of}
use Rattle.frame_ring.specs.Port.{PortState, Receiving, unused_of, with_receiving}
use Rattle.frame_ring.specs.PortCalls.{IsGrownBoth}
use Rattle.frame_ring.specs.Ports.{port_seen}
use Rattle.frame_ring.specs.Promises.{TouchesRange}
use Rattle.frame_ring.specs.PortView.{HasPagesIn, TouchesWrite, with_room}
use Rattle.frame_ring.proofs.EntryPages.{ok_map}
use Rattle.frame_ring.proofs.PromisesOfLook.{either_pages, found_ready, peer_pages}
use Rattle.frame_ring.proofs.FoundEntries.{err_map, fits_found, found_grown, own_still, pages_grown, pages_same}
use Rattle.frame_ring.proofs.LookAnswers.{nothing_more}
use Rattle.frame_ring.proofs.port.Port.stand_at.Goals as goal
use Rattle.frame_ring.proofs.port.Port.stand_at.Goals.{After-find, After-promise_flags}

-- the pages that the index write and the flags of the entry at hand need
abbrev GrowsByIndex : PortState → List ℕ → List ℕ → Type 0
GrowsByIndex port old new = PagesGrow (TouchesWrite port.plan port.side (index_write port.plan port.side port.queue port.receiving.got)) old new

abbrev GrowsByFlags : PortState → List ℕ → List ℕ → Type 0
GrowsByFlags port old new = PagesGrow (Touches (own_header port.plan port.side port.queue port.receiving.got + flags_offset port.plan) 4) old new

-- with the receiver's room alone room was promised on the bridge, and no page more
room_is : (c : After-find) → OnOk c.find.result (c.find.new.pair ≡ with_room c.promise_flags.new.pair (port_seen c.self.inside).side 1)
room_is c = subst (λ (side : Side). OnOk c.find.result (c.find.new.pair ≡ with_room c.promise_flags.new.pair side 1)) c.side.ensures.value c.find.ensures.room

peer_is : (c : After-find) → pages_of c.find.new.pair (other_side (port_seen c.self.inside).side) ≡ pages_of c.promise_index_word.new.pair (other_side (port_seen c.self.inside).side)
peer_is c =
    let port = port_seen c.self.inside in
    either_pages c.find.result c.promise_flags.new.pair c.find.new.pair port.side (other_side port.side) (room_is c) c.find.ensures.same
    ∙ ap (λ (bridge : Bridge). pages_of bridge (other_side port.side)) c.promise_flags.ensures.rest ∙ peer_pages c.promise_index_word.new.pair port.side _

-- the side's own pages grew by the flags alone
flags_grown : (c : After-promise_flags) → GrowsByFlags (port_seen c.self.inside) (pages_of c.args.pair.now (port_seen c.self.inside).side) (pages_of c.promise_flags.new.pair (port_seen c.self.inside).side)
flags_grown c =
    let port = port_seen c.self.inside in
    let same = own_still c.args.pair.now c.promise_index_word.new.pair port.side c.promise_index_word.ensures.rest in
    subst (λ pages. GrowsByFlags port pages (pages_of c.promise_flags.new.pair port.side)) same
    (subst (λ (n : ℕ). PagesGrow (Touches (own_header port.plan port.side port.queue n + flags_offset port.plan) 4) (pages_of c.promise_index_word.new.pair port.side) (pages_of c.promise_flags.new.pair port.side)) c.got-got.ensures.value
    c.promise_flags.ensures.pages)

-- What was promised, if numbers or memory ran out, and where they didn't

pub returns-then-not-has_numbers-clause-promises : goal.returns-then-not-has_numbers-clause-promises
returns-then-not-has_numbers-clause-promises c =
    let port = c.args.self.now in
    let pair = c.args.pair.now in
    record {
      rest = nothing_more pair port.side (unused_of port - unused_of port) (omega arith);
      pages = grows_nothing _ (pages_of pair (other_side port.side));
      flags = grows_nothing _ (pages_of pair port.side);
      ready = tt;
    }

pub returns-in_err-promise_index_word-clause-promises : goal.returns-in_err-promise_index_word-clause-promises
returns-in_err-promise_index_word-clause-promises c =
    let port = port_seen c.self.inside in
    let pair = c.args.pair.now in
    let new = c.promise_index_word.new.pair in
    let same = own_still pair new port.side c.promise_index_word.ensures.rest in
    record {
      rest =
          subst (λ (seen : PortState). IsGrownBoth seen seen pair new) c.self.view_is
          (pages_grown pair new new port.side (unused_of port - unused_of port) c.promise_index_word.ensures.rest (pages_same new port.side) (omega arith));
      pages = subst (λ (seen : PortState). GrowsByIndex seen (pages_of pair (other_side seen.side)) (pages_of new (other_side seen.side))) c.self.view_is c.promise_index_word.ensures.pages;
      flags =
          subst (λ (seen : PortState). GrowsByFlags seen (pages_of pair seen.side) (pages_of new seen.side)) c.self.view_is
          (subst (λ pages. GrowsByFlags port (pages_of pair port.side) pages) (sym same) (grows_nothing _ (pages_of pair port.side)));
      ready = first_of (search rules, grind (arith, common_steps));
    }

pub returns-in_err-promise_flags-clause-promises : goal.returns-in_err-promise_flags-clause-promises
returns-in_err-promise_flags-clause-promises c =
    let port = port_seen c.self.inside in
    let pair = c.args.pair.now in
    let new = c.promise_flags.new.pair in
    let peer : pages_of new (other_side port.side) ≡ pages_of c.promise_index_word.new.pair (other_side port.side) =
    ap (λ (bridge : Bridge). pages_of bridge (other_side port.side)) c.promise_flags.ensures.rest ∙ peer_pages c.promise_index_word.new.pair port.side _ in
    record {
      rest =
          subst (λ (seen : PortState). IsGrownBoth seen seen pair new) c.self.view_is
          (pages_grown pair c.promise_index_word.new.pair new port.side (unused_of port - unused_of port) c.promise_index_word.ensures.rest c.promise_flags.ensures.rest (omega arith));
      pages =
          subst (λ (seen : PortState). GrowsByIndex seen (pages_of pair (other_side seen.side)) (pages_of new (other_side seen.side))) c.self.view_is
          (subst (λ pages. GrowsByIndex port (pages_of pair (other_side port.side)) pages) (sym peer) c.promise_index_word.ensures.pages);
      flags =
          subst (λ (seen : PortState). GrowsByFlags seen (pages_of pair seen.side) (pages_of new seen.side)) c.self.view_is
          (flags_grown (goal.at.returns-in_err-promise_flags-clause-promises c).After-promise_flags);
      ready = first_of (search rules, grind (arith, common_steps));
    }

pub returns-clause-promises : goal.returns-clause-promises
returns-clause-promises c =
    let port = port_seen c.self.inside in
    let pair = c.args.pair.now in
    let new = c.find.new.pair in
    let here = (goal.at.returns-clause-promises c).After-find in
    let peer = peer_is here in
    let own : pages_of new port.side ≡ pages_of c.promise_flags.new.pair port.side = either_pages c.find.result c.promise_flags.new.pair new port.side port.side (room_is here) c.find.ensures.same in
    let idle : is_idle port.receiving.phase ≡ true = ap (λ (port : PortState). is_idle port.receiving.phase) c.self.view_is ∙ c.requires.idle in
    let flags = subst (λ n. ArePromised (own_header port.plan port.side port.queue n + flags_offset port.plan) 4 (pages_of c.promise_flags.new.pair port.side)) c.got-got.ensures.value c.in_ok-promise_flags.ensures.ok in
    record {
      rest =
          subst (λ (seen : PortState). IsGrownBoth seen (with_receiving port c.find.new.self) pair new) c.self.view_is
          (found_grown c.find.result port (record port.receiving { phase = Copying; part = 0; len = c.args.len; left = c.args.left }) c.find.new.self pair c.promise_index_word.new.pair c.promise_flags.new.pair new idle refl
          c.promise_index_word.ensures.rest c.promise_flags.ensures.rest c.find.ensures.ok c.find.ensures.err (room_is here) c.find.ensures.same);
      pages =
          subst (λ (seen : PortState). GrowsByIndex seen (pages_of pair (other_side seen.side)) (pages_of new (other_side seen.side))) c.self.view_is
          (subst (λ pages. GrowsByIndex port (pages_of pair (other_side port.side)) pages) (sym peer) c.promise_index_word.ensures.pages);
      flags =
          subst (λ (seen : PortState). GrowsByFlags seen (pages_of pair seen.side) (pages_of new seen.side)) c.self.view_is
          (subst (λ pages. GrowsByFlags port (pages_of pair port.side) pages) (sym own) (flags_grown (goal.at.returns-clause-promises c).After-promise_flags));
      ready =
          ok_map (c.find.new.self ≡ record port.receiving { phase = Copying; part = 0; len = c.args.len; left = c.args.left }) (HasPagesIn c.args.self.now pair → HasPagesIn (with_receiving port c.find.new.self) new) c.find.result
          (λ found ready.
          (let before : HasPagesIn port pair = subst (λ (port : PortState). HasPagesIn port pair) (sym c.self.view_is) ready in
          subst (λ (receiving : Receiving). HasPagesIn (with_receiving port receiving) new) (sym found)
          (found_ready port c.args.len c.args.left (pages_of pair port.side) (pages_of pair (other_side port.side)) (pages_of new port.side) (pages_of new (other_side port.side))
          (TouchesRange c.self.inside.rings (index_of (layout_of port.plan port.side port.queue)) 4)
          (subst (λ pages. PagesGrow (TouchesRange c.self.inside.rings (index_of (layout_of port.plan port.side port.queue)) 4) (pages_of pair (other_side port.side)) pages) (sym peer) c.promise_index_word.ensures.pages)
          (subst (λ pages. ArePromised (own_header port.plan port.side port.queue port.receiving.got + flags_offset port.plan) 4 pages) (sym own) flags)
          (rw peer c.in_ok-promise_index_word.ensures.ok) before)))
          c.find.ensures.ok;
    }

pub returns-clause-after : goal.returns-clause-after
returns-clause-after c =
    let port = port_seen c.self.inside in
    ok_map (c.find.new.self ≡ record port.receiving { phase = Copying; part = 0; len = c.args.len; left = c.args.left })
    (with_receiving port c.find.new.self ≡ with_receiving c.args.self.now (record c.args.self.now.receiving { phase = Copying; part = 0; len = c.args.len; left = c.args.left })) c.find.result
    (λ found. ap (with_receiving port) found
    ∙ ap (λ (seen : PortState). with_receiving seen (record seen.receiving { phase = Copying; part = 0; len = c.args.len; left = c.args.left })) c.self.view_is)
    c.find.ensures.ok

pub returns-clause-err : goal.returns-clause-err
returns-clause-err c =
    let port = port_seen c.self.inside in
    err_map (c.find.new.self ≡ port.receiving) (with_receiving port c.find.new.self ≡ c.args.self.now) c.find.result (λ same. ap (with_receiving port) same ∙ c.self.view_is) c.find.ensures.err

pub find-requires-clause-fits : goal.find-requires-clause-fits
find-requires-clause-fits c = subst (λ (port : PortState). length port.receiving.gathered + c.args.len ≤ most_frame_bytes) (sym c.self.view_is) c.requires.fits

pub find-requires-clause-number : goal.find-requires-clause-number
find-requires-clause-number c =
    let left = c.has_numbers.ensures.0 c.if-not-has_numbers.false in
    omega (arith, left, c.got-got.ensures.value)

pub invariant_of-self : goal.invariant_of-self
invariant_of-self c =
    let port = port_seen c.self.inside in
    record {
      queue = c.self.invariant.queue;
      largest = c.self.invariant.largest;
      sends = c.self.invariant.sends;
      receives = λ _. subst (λ (seen : PortState). SizesFit seen.plan) (sym c.self.view_is) c.requires.fit;
      fits =
          fits_found c.find.result port.receiving (record port.receiving { phase = Copying; part = 0; len = c.args.len; left = c.args.left }) c.find.new.self (max_payload_of (layout_to port.plan port.side port.queue))
          c.find.ensures.ok c.find.ensures.err (subst (λ (seen : PortState). c.args.len ≤ max_payload_of (layout_to seen.plan seen.side seen.queue)) (sym c.self.view_is) c.requires.short) c.self.invariant.fits;
    }
