-- What a look answers and leaves, by what its header says.
use Rattle.std.proofs.Common.{◌≡◌, ◌∙◌, ◌+◌, ◌≤◌, ℕ, Bool, true, false, length, nat_lt, refl, sym, ap, subst, if◌then◌else◌}
use Rattle.std.proofs.lemmas.Bool.{ltb-false}
use Rattle.step_kinds.specs.Sides.{other_side}
use Rattle.step_kinds.specs.declared.names.Side.{Side}
use Rattle.step_kinds.specs.declared.names.Side.TheVariants.{A, B}
use Rattle.pair_model.specs.Headers.{Found, Header, NoEntry, ALinkDownEntry, AnotherVersion, TooManyBytes, AnEntry, header_in}
use Rattle.lane_model.specs.Lane.{version_of}
use Rattle.lane_model.specs.Tests.{is_idle}
use Rattle.lane_model.specs.declared.Phase.{Phase}
use Rattle.lane_model.specs.declared.Phase.TheVariants.{Idle, Copying, Copied, Cleared}
use Rattle.pair_model.specs.Sizes.{Sizes, layout_to, sizes_in}
use Rattle.ring_geometry.specs.Geometry.{max_payload_of}
use Rattle.bridge_pair.specs.Bridge.{Bridge, pages_of, with_pages}
use Rattle.frame_ring.specs.Calls.{port_after_look, entry_found, found_seen, port_look_answer, look_found}
use Rattle.frame_ring.specs.Port.{PortState, Receiving, with_receiving}
use Rattle.frame_ring.specs.PortView.{bytes_seen, with_room}
use Rattle.frame_ring.specs.declared.RingLook.{RingLook}
use Rattle.frame_ring.specs.declared.RingLook.TheVariants.{OutOfTurn, Ready}
use Rattle.frame_ring.proofs.PromisesOfBegin.{no_room}

-- A phase other than idle isn't idle by the test.
pub not_idle : (phase : Phase) → ¬ (phase ≡ Idle) → is_idle phase ≡ false
not_idle Idle other = absurd (other refl)
not_idle Copying other = refl
not_idle Copied other = refl
not_idle Cleared other = refl

-- If the receiver isn't idle, a look is out of turn and leaves the port as it was.
pub out_of_turn : (port : PortState) (bridge : Bridge) → is_idle port.receiving.phase ≡ false → (OutOfTurn ≡ port_look_answer port bridge) × (port ≡ port_after_look port bridge)
out_of_turn port bridge busy = (rw busy refl, rw busy refl)

-- An idle receiver's look answers what was found.
pub look_is : (port : PortState) (bridge : Bridge) (told : RingLook) → is_idle port.receiving.phase ≡ true → told ≡ look_found port.receiving (found_seen port bridge) → told ≡ port_look_answer port bridge
look_is port bridge told idle tells = rw idle tells

nothing_found : (receiving : Receiving) (found : Found) (told : RingLook) → told ≡ look_found receiving found → ((number len : ℕ) → ¬ (told ≡ Ready number len)) → receiving ≡ entry_found receiving found
nothing_found receiving NoEntry told tells unlike = refl
nothing_found receiving ALinkDownEntry told tells unlike = refl
nothing_found receiving (AnotherVersion seen own) told tells unlike = refl
nothing_found receiving (TooManyBytes many most) told tells unlike = refl
nothing_found receiving (AnEntry len left) told tells unlike = absurd (unlike receiving.got len tells)

-- A look that doesn't come to ready leaves the port as it was.
pub stays_at : (port : PortState) (bridge : Bridge) (told : RingLook) → is_idle port.receiving.phase ≡ true → told ≡ look_found port.receiving (found_seen port bridge)
    → ((number len : ℕ) → ¬ (told ≡ Ready number len)) → port ≡ port_after_look port bridge
stays_at port bridge told idle tells unlike = rw idle (ap (with_receiving port) (nothing_found port.receiving (found_seen port bridge) told tells unlike))

leaves_where : (sizes : Sizes) (header : Header) (receiving : Receiving) (gathered own number len : ℕ) (empty down other large longer : Bool)
    → Ready number len ≡ look_found receiving (if empty then NoEntry else if down then ALinkDownEntry else if other then AnotherVersion header.ver own
    else if large then TooManyBytes header.len sizes.largest else if longer then TooManyBytes (gathered + header.len) sizes.most else AnEntry header.len header.left)
    → record receiving { phase = Copying; part = 0; len = len; left = header.left } ≡ entry_found receiving (if empty then NoEntry else if down then ALinkDownEntry else if other then AnotherVersion header.ver own
    else if large then TooManyBytes header.len sizes.largest else if longer then TooManyBytes (gathered + header.len) sizes.most else AnEntry header.len header.left)
leaves_where sizes header receiving gathered own number len true down other large longer e = absurd (cc e)
leaves_where sizes header receiving gathered own number len false true other large longer e = absurd (cc e)
leaves_where sizes header receiving gathered own number len false false true large longer e = absurd (cc e)
leaves_where sizes header receiving gathered own number len false false false true longer e = absurd (cc e)
leaves_where sizes header receiving gathered own number len false false false false true e = absurd (cc e)
leaves_where sizes header receiving gathered own number len false false false false false e =
    let same : len ≡ header.len = cc e in
    ap (λ (size : ℕ). record receiving { phase = Copying; part = 0; len = size; left = header.left }) same

-- A look that is answered ready leaves the receiver at that entry, with as many entries after it as its header says.
pub stands_at : (port : PortState) (bridge : Bridge) (number len left : ℕ) → is_idle port.receiving.phase ≡ true → Ready number len ≡ look_found port.receiving (found_seen port bridge)
    → left ≡ (header_in port.plan (bytes_seen bridge) port.side port.queue port.receiving.got).left
    → with_receiving port (record port.receiving { phase = Copying; part = 0; len = len; left = left }) ≡ port_after_look port bridge
stands_at port bridge number len left idle tells is_left =
    let header = header_in port.plan (bytes_seen bridge) port.side port.queue port.receiving.got in
    let sizes = sizes_in port.plan (layout_to port.plan port.side port.queue) in
    rw idle
    (ap (λ (left : ℕ). with_receiving port (record port.receiving { phase = Copying; part = 0; len = len; left = left })) is_left
    ∙ ap (with_receiving port) (leaves_where sizes header port.receiving (length port.receiving.gathered) (version_of port.receiving.got) number len _ _ _ _ _ tells))

short_where : (sizes : Sizes) (header : Header) (receiving : Receiving) (gathered own number len : ℕ) (empty down other large longer : Bool) → nat_lt sizes.largest header.len ≡ large
    → Ready number len ≡ look_found receiving (if empty then NoEntry else if down then ALinkDownEntry else if other then AnotherVersion header.ver own
    else if large then TooManyBytes header.len sizes.largest else if longer then TooManyBytes (gathered + header.len) sizes.most else AnEntry header.len header.left)
    → len ≤ sizes.largest
short_where sizes header receiving gathered own number len true down other large longer is e = absurd (cc e)
short_where sizes header receiving gathered own number len false true other large longer is e = absurd (cc e)
short_where sizes header receiving gathered own number len false false true large longer is e = absurd (cc e)
short_where sizes header receiving gathered own number len false false false true longer is e = absurd (cc e)
short_where sizes header receiving gathered own number len false false false false true is e = absurd (cc e)
short_where sizes header receiving gathered own number len false false false false false is e =
    let same : header.len ≡ len = cc e in
    subst (λ (size : ℕ). size ≤ sizes.largest) same (ltb-false sizes.largest header.len is)

-- An entry that a look finds has no more bytes than an entry may have.
pub entry_short : (port : PortState) (bridge : Bridge) (number len : ℕ) → Ready number len ≡ look_found port.receiving (found_seen port bridge)
    → len ≤ max_payload_of (layout_to port.plan port.side port.queue)
entry_short port bridge number len tells =
    let header = header_in port.plan (bytes_seen bridge) port.side port.queue port.receiving.got in
    let sizes = sizes_in port.plan (layout_to port.plan port.side port.queue) in
    short_where sizes header port.receiving (length port.receiving.gathered) (version_of port.receiving.got) number len _ _ _ _ _ refl tells

-- A bridge with the pages that both sides have, and no more room, is the same.
pub nothing_more : (bridge : Bridge) (side : Side) (more : ℕ) → more ≡ 0
    → bridge ≡ with_room (with_pages (with_pages bridge (other_side side) (pages_of bridge (other_side side))) side (pages_of bridge side)) side more
nothing_more bridge A more none = sym (no_room bridge A) ∙ ap (with_room bridge A) (sym none)
nothing_more bridge B more none = sym (no_room bridge B) ∙ ap (with_room bridge B) (sym none)
