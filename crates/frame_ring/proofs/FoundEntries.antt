-- What is left of the port and of the pair where what an entry needs is promised, and the port then stands at it or
-- memory runs out.
use Rattle.std.proofs.Common.{◌≡◌, ◌∙◌, ◌+◌, ◌-◌, ◌≤◌, ℕ, true, false, List, Result, Ok, Err, OnErr, OnOk, length, refl, sym, ap, subst, arith}
use Rattle.step_kinds.specs.Sides.{other_side}
use Rattle.step_kinds.specs.declared.names.Side.{Side}
use Rattle.step_kinds.specs.declared.names.Side.TheVariants.{A, B}
use Rattle.lane_model.specs.Tests.{is_copying, is_idle}
use Rattle.bridge_pair.specs.Bridge.{Bridge, pages_of, with_pages}
use Rattle.frame_ring.specs.Port.{PortState, Receiving, unused_of, with_receiving, writes_left}
use Rattle.frame_ring.specs.PortView.{with_room}
use Rattle.frame_ring.proofs.PromisesOfBegin.{no_room}
use Rattle.frame_ring.proofs.PromisesOfLook.{peer_pages, side_pages}

-- What is known where a result is an error may be replaced by anything that follows from it.
pub err_map : {X E : Type 0} (P Q : Type 0) (result : Result X E) → (P → Q) → OnErr result P → OnErr result Q
err_map P Q (Ok x) f h = h
err_map P Q (Err e) f h = f h

-- A bridge with the pages that a side of it has is the same.
pub pages_same : (bridge : Bridge) (side : Side) → bridge ≡ with_pages bridge side (pages_of bridge side)
pages_same bridge A = refl
pages_same bridge B = refl

-- If pages of a side's peer alone were promised, the side's own are as they were.
pub own_still : (pair mid : Bridge) (side : Side) → mid ≡ with_pages pair (other_side side) (pages_of mid (other_side side)) → pages_of mid side ≡ pages_of pair side
own_still pair mid side grown = ap (λ (bridge : Bridge). pages_of bridge side) grown ∙ side_pages pair side (pages_of mid (other_side side))

both_grown : (pair mid new : Bridge) (side : Side) → mid ≡ with_pages pair (other_side side) (pages_of mid (other_side side)) → new ≡ with_pages mid side (pages_of new side)
    → new ≡ with_pages (with_pages pair (other_side side) (pages_of new (other_side side))) side (pages_of new side)
both_grown pair mid new side peer own =
    let same : pages_of mid (other_side side) ≡ pages_of new (other_side side) =
    sym (ap (λ (bridge : Bridge). pages_of bridge (other_side side)) own ∙ peer_pages mid side (pages_of new side)) in
    own
    ∙ ap (λ (bridge : Bridge). with_pages bridge side (pages_of new side)) peer
    ∙ ap (λ (pages : List ℕ). with_pages (with_pages pair (other_side side) pages) side (pages_of new side)) same

-- Pages of the peer, then pages of the side's own, and then room are all that was promised.
pub all_grown : (pair mid last new : Bridge) (side : Side) (count more : ℕ) → mid ≡ with_pages pair (other_side side) (pages_of mid (other_side side)) → last ≡ with_pages mid side (pages_of last side)
    → new ≡ with_room last side count → count ≡ more
    → new ≡ with_room (with_pages (with_pages pair (other_side side) (pages_of new (other_side side))) side (pages_of new side)) side more
all_grown pair mid last new side count more peer own room is_count =
    let there : pages_of last (other_side side) ≡ pages_of new (other_side side) = sym (ap (λ (bridge : Bridge). pages_of bridge (other_side side)) room) in
    let here : pages_of last side ≡ pages_of new side = sym (ap (λ (bridge : Bridge). pages_of bridge side) room) in
    room
    ∙ ap (λ (bridge : Bridge). with_room bridge side count) (both_grown pair mid last side peer own)
    ∙ ap (λ (pages : List ℕ). with_room (with_pages (with_pages pair (other_side side) pages) side (pages_of last side)) side count) there
    ∙ ap (λ (pages : List ℕ). with_room (with_pages (with_pages pair (other_side side) (pages_of new (other_side side))) side pages) side count) here
    ∙ ap (with_room (with_pages (with_pages pair (other_side side) (pages_of new (other_side side))) side (pages_of new side)) side) is_count

-- Pages alone were promised, and no room.
pub pages_grown : (pair mid new : Bridge) (side : Side) (more : ℕ) → mid ≡ with_pages pair (other_side side) (pages_of mid (other_side side)) → new ≡ with_pages mid side (pages_of new side) → more ≡ 0
    → new ≡ with_room (with_pages (with_pages pair (other_side side) (pages_of new (other_side side))) side (pages_of new side)) side more
pages_grown pair mid new side more peer own none = all_grown pair mid new new side 0 more peer own (sym (no_room new side)) (sym none)

one_more : (port : PortState) (receiving : Receiving) → is_idle port.receiving.phase ≡ true → is_idle receiving.phase ≡ false → 1 ≡ unused_of (with_receiving port receiving) - unused_of port
one_more port receiving idle busy = rw (idle, busy) (plain (length (writes_left port))) where
  plain : (left : ℕ) → 1 ≡ left + 1 - (left + 0)
  plain left = omega arith

no_more : (port : PortState) (receiving : Receiving) → receiving ≡ port.receiving → 0 ≡ unused_of (with_receiving port receiving) - unused_of port
no_more port receiving same =
    let none : 0 ≡ unused_of port - unused_of port = omega arith in
    none ∙ ap (λ (receiving : Receiving). unused_of (with_receiving port receiving) - unused_of port) (sym same)

-- If the port stands at the entry, its unused promises grow by the room for the entry's index write, and else by none.
pub found_grown : {X E : Type 0} (result : Result X E) (port : PortState) (found receiving : Receiving) (pair mid last new : Bridge) → is_idle port.receiving.phase ≡ true → is_idle found.phase ≡ false
    → mid ≡ with_pages pair (other_side port.side) (pages_of mid (other_side port.side)) → last ≡ with_pages mid port.side (pages_of last port.side)
    → OnOk result (receiving ≡ found) → OnErr result (receiving ≡ port.receiving) → OnOk result (new ≡ with_room last port.side 1) → OnErr result (new ≡ last)
    → new ≡ with_room (with_pages (with_pages pair (other_side port.side) (pages_of new (other_side port.side))) port.side (pages_of new port.side)) port.side (unused_of (with_receiving port receiving) - unused_of port)
found_grown (Ok x) port found receiving pair mid last new idle busy peer own ok err room same =
    all_grown pair mid last new port.side 1 (unused_of (with_receiving port receiving) - unused_of port) peer own room
    (one_more port receiving idle (ap (λ (receiving : Receiving). is_idle receiving.phase) ok ∙ busy))
found_grown (Err e) port found receiving pair mid last new idle busy peer own ok err room same =
    all_grown pair mid last new port.side 0 (unused_of (with_receiving port receiving) - unused_of port) peer own (same ∙ sym (no_room last port.side)) (no_more port receiving err)

-- The bytes of the entry that a receiver copies are few, if those of the entry that was found are.
pub fits_found : {X E : Type 0} (result : Result X E) (old found new : Receiving) (most : ℕ) → OnOk result (new ≡ found) → OnErr result (new ≡ old) → found.len ≤ most → (is_copying old.phase ≡ true → old.len ≤ most)
    → is_copying new.phase ≡ true → new.len ≤ most
fits_found (Ok x) old found new most ok err short before copying = subst (λ (receiving : Receiving). receiving.len ≤ most) (sym ok) short
fits_found (Err e) old found new most ok err short before copying =
    subst (λ (receiving : Receiving). receiving.len ≤ most) (sym err) (before (ap (λ (receiving : Receiving). is_copying receiving.phase) (sym err) ∙ copying))
