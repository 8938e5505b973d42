use Rattle.std.proofs.Common.{◌≡◌, ◌∙◌, ◌+◌, ◌≤◌, ℕ, Option, Some, ap, sym, subst, arith}
use Rattle.step_kinds.specs.Sides.{other_side}
use Rattle.step_kinds.specs.declared.steps.Label.{Label}
use Rattle.bridge_pair.specs.Bridge.{Bridge, flight_of, pages_of}
use Rattle.frame_ring.specs.Calls.{port_after_post, first_label, let_go, port_next_begun, port_post_answer, posted_by, rest_of}
use Rattle.frame_ring.specs.Outgoing.{Outgoing, with_progress}
use Rattle.frame_ring.specs.Port.{PortState, Sending, unused_of, with_sending}
use Rattle.frame_ring.specs.PortCalls.{KeepsSpare}
use Rattle.frame_ring.specs.Ports.{port_seen}
use Rattle.frame_ring.specs.PortView.{HasPortPages, IsLeftReady, ring_posted}
use Rattle.frame_ring.proofs.Ready.{first_posted_is, first_ready, none_posted_is, pages_posted, pages_seen, post_ready}
use Rattle.frame_ring.proofs.Spare.{spare_of_write, unused_posted, unused_same}
use Rattle.frame_ring.proofs.port.Port.post.Goals as goal
use Rattle.frame_ring.proofs.port.Port.post.Goals.{in-Some, in-None}

-- where the sender is after it moved on, the label that it then has, and where it is after that write
moved : (sender now : Outgoing) (queue : ℕ) → now ≡ with_progress sender (port_next_begun sender.queue sender.sending) → sender.queue ≡ queue → now.sending ≡ port_next_begun queue sender.sending
moved sender now queue is same = ap (λ (outgoing : Outgoing). outgoing.sending) is ∙ ap (λ q. port_next_begun q sender.sending) same

labelled : (sender now : Outgoing) (queue : ℕ) (label : Option Label) → now ≡ with_progress sender (port_next_begun sender.queue sender.sending) → sender.queue ≡ queue → label ≡ first_label now.sending.todo
    → label ≡ first_label (port_next_begun queue sender.sending).todo
labelled sender now queue label is same first = first ∙ ap (λ (sending : Sending). first_label sending.todo) (moved sender now queue is same)

posted : (sender now after : Outgoing) (queue : ℕ) → now ≡ with_progress sender (port_next_begun sender.queue sender.sending) → sender.queue ≡ queue
    → after ≡ with_progress now (let_go (record now.sending { todo = rest_of now.sending.todo }))
    → after.sending ≡ let_go (record (port_next_begun queue sender.sending) { todo = rest_of (port_next_begun queue sender.sending).todo })
posted sender now after queue is same goes = ap (λ (outgoing : Outgoing). outgoing.sending) goes ∙ ap (λ (sending : Sending). let_go (record sending { todo = rest_of sending.todo })) (moved sender now queue is same)

pub post_write-requires-clause-pages : goal.post_write-requires-clause-pages
post_write-requires-clause-pages c =
    let port = port_seen c.self.inside in
    let pair = c.args.pair.now in
    let peer = pages_of pair (other_side port.side) in
    let ready = pages_seen port c.args.self.now pair c.self.view_is c.requires.pages in
    let next : c.advance.new.self.sending ≡ port_next_begun port.queue port.sending = moved c.self.inside.sender c.advance.new.self port.queue c.advance.ensures c.self.invariant.queue in
    let is : Some c.in-Some.label ≡ first_label (port_next_begun port.queue port.sending).todo =
    sym c.in-Some.is ∙ labelled c.self.inside.sender c.advance.new.self port.queue _ c.advance.ensures c.self.invariant.queue c.label-label.ensures.value in
    subst (λ (sending : Sending). IsLeftReady port.plan port.side peer (record { entry = sending.entry; label = c.in-Some.label })) (sym next)
    (first_ready (IsLeftReady port.plan port.side peer) port.queue port.sending c.in-Some.label is ready.writes)

pub returns : goal.returns
returns c =
    let port = port_seen c.self.inside in
    let pair = c.args.pair.now in
    let next : c.advance.new.self.sending ≡ port_next_begun port.queue port.sending = moved c.self.inside.sender c.advance.new.self port.queue c.advance.ensures c.self.invariant.queue in
    let label : c.label-label.result ≡ port_post_answer port = labelled c.self.inside.sender c.advance.new.self port.queue _ c.advance.ensures c.self.invariant.queue c.label-label.ensures.value in
    let goes : c.posted.new.self.sending ≡ (port_after_post port).sending = posted c.self.inside.sender c.advance.new.self c.posted.new.self port.queue c.advance.ensures c.self.invariant.queue c.posted.ensures in
    let went : c.match-label.pair ≡ posted_by port pair = elim c.match-label.branch [
      | in-Some w ↦
          w.pair-is ∙ w.post_write.ensures
          ∙ ap (λ (sending : Sending). ring_posted pair port.side sending.entry w.in-Some.label) next
          ∙ sym (first_posted_is pair port.side (port_next_begun port.queue port.sending).entry (port_next_begun port.queue port.sending).todo w.in-Some.label (sym w.in-Some.is ∙ label))
      | in-None w ↦
          w.pair-is
          ∙ sym (none_posted_is pair port.side (port_next_begun port.queue port.sending).entry (port_next_begun port.queue port.sending).todo (sym w.in-None.is ∙ label))
    ] in
    let told : c.match-label.label ≡ port_post_answer port = elim c.match-label.branch [
      | in-Some w ↦ w.label-is ∙ sym w.in-Some.is ∙ label
      | in-None w ↦ w.label-is ∙ label
    ] in
    let unused : unused_of (with_sending port c.posted.new.self.sending) ≡ unused_of (port_after_post port) = ap (λ (sending : Sending). unused_of (with_sending port sending)) goes in
    let room : unused_of port ≤ (flight_of pair port.side).spare = subst (λ (port : PortState). unused_of port ≤ (flight_of pair port.side).spare) (sym c.self.view_is) c.requires.room in
    let spare : KeepsSpare port (with_sending port c.posted.new.self.sending) pair c.match-label.pair = elim c.match-label.branch [
      | in-Some w ↦ omega (
        arith,
        unused,
        room,
        unused_posted port w.in-Some.label (sym w.in-Some.is ∙ label),
        ap (λ (bridge : Bridge). (flight_of bridge port.side).spare) (w.pair-is ∙ w.post_write.ensures),
        spare_of_write pair port.side c.advance.new.self.queue c.advance.new.self.sending.entry w.in-Some.label w.in-Some.ensures.of_entry,
      )
      | in-None w ↦ omega (arith, unused, unused_same port (sym w.in-None.is ∙ label), ap (λ (bridge : Bridge). (flight_of bridge port.side).spare) w.pair-is)
    ] in
    let own = ap (λ (bridge : Bridge). pages_of bridge port.side) went ∙ pages_posted port pair port.side in
    let peer = ap (λ (bridge : Bridge). pages_of bridge (other_side port.side)) went ∙ pages_posted port pair (other_side port.side) in
    let ready = pages_seen port c.args.self.now pair c.self.view_is c.requires.pages in
    record {
      answer = told ∙ ap (λ (port : PortState). port_post_answer port) c.self.view_is;
      after = ap (with_sending port) goes ∙ ap (λ (port : PortState). port_after_post port) c.self.view_is;
      pair = went ∙ ap (λ (port : PortState). posted_by port pair) c.self.view_is;
      spare = subst (λ (old : PortState). KeepsSpare old (with_sending port c.posted.new.self.sending) pair c.match-label.pair) c.self.view_is spare;
      ready =
          subst (λ (sending : Sending). HasPortPages (with_sending port sending) (pages_of c.match-label.pair port.side) (pages_of c.match-label.pair (other_side port.side))) (sym goes)
          (rw (own, peer) (post_ready port (pages_of pair port.side) (pages_of pair (other_side port.side)) ready));
    }
