-- A session ends: what its two ends leave is what its lanes were given, and what came out of them.
use Rattle.std.proofs.Common.{◌≡◌, ℕ, ◌≤◌, Bool, List, ◌++◌, length, drop, sym, ◌∙◌, ap, subst, arith}
use Rattle.std.proofs.lemmas.List.{length-take, take-append-drop}
use Rattle.lane_workers.specs.Passes.{HaveBytes}
use Rattle.stream_laws.specs.Laws.{given_by}
use Rattle.stream_model.specs.Fronts.{Begins}
use Rattle.stream_model.specs.Sender.{Sender, frames_of, session_frames}
use Rattle.table_lane.specs.EndOfLane.{Shown}
use Rattle.cluster_run.specs.stream.Leaving.{LeavesSink, LeavesSource}
use Rattle.cluster_run.specs.stream.SessionFields.{IsStreamSession, stream_session_of}
use Rattle.cluster_run.specs.stream.Sessions.{StreamEndsWith}
use Rattle.cluster_run.specs.stream.Workers.{StreamSessionState}
use Rattle.cluster_run.specs.declared.stream.session.Session.TheInside.{Inside}
use Rattle.cluster_run.specs.declared.stream.session.SessionEnd.{SessionEnd}
use Rattle.cluster_run.specs.declared.stream.sink.SinkEnd.{SinkEnd}
use Rattle.cluster_run.specs.declared.stream.source.SourceEnd.{SourceEnd}

-- what was given begins the session, and is not more than was counted
given_begins : (sender : Sender) (items : List (List ℕ)) (start : ℕ) (sent : List (List ℕ)) → sender.items ≡ items → sender.start ≡ start → sent ≡ given_by sender → Begins sent (session_frames items start)
given_begins sender items start sent items_are start_is given = (
  drop sender.place.given (frames_of sender),
  ap (λ (s : ℕ). session_frames items s) (sym start_is) ∙ (ap (λ (l : List (List ℕ)). session_frames l sender.start) (sym items_are)
      ∙ (sym (take-append-drop sender.place.given (frames_of sender)) ∙ ap (λ (front : List (List ℕ)). front ++ drop sender.place.given (frames_of sender)) (sym given))),
)

given_few : (sender : Sender) → length (given_by sender) ≤ sender.place.given
given_few sender = let front = length-take sender.place.given (frames_of sender) in omega arith

-- what both lanes leave in their rings, and what their proofs show
pub record LanesEnd (source : SourceEnd) (sink : SinkEnd) (cut : Bool) (item_proof ack_proof : Shown) (left acks_left : List (List ℕ)) : Type 0 where
  pub items_shown : item_proof ≡ record { sent = source.send.part.sent; got = sink.recv.part.got; entries = source.send.part.entries; cut = cut }
  pub acks_shown : ack_proof ≡ record { sent = sink.send.part.sent; got = source.recv.part.got; entries = sink.send.part.entries; cut = cut }
  pub items_order : source.send.part.sent ≡ sink.recv.part.got ++ left
  pub acks_order : sink.send.part.sent ≡ source.recv.part.got ++ acks_left

-- what a proof shows, if another word says whether the link was cut
pub shown_with : {sent got : List (List ℕ)} {entries : ℕ} {cut cut' : Bool} {proof : Shown} → proof ≡ record { sent = sent; got = got; entries = entries; cut = cut } → cut ≡ cut' → proof ≡ record { sent = sent; got = got; entries = entries; cut = cut' }
shown_with {sent = sent} {got = got} {entries = entries} shown same = shown ∙ ap (λ (cut : Bool). record { sent = sent; got = got; entries = entries; cut = cut }) same

-- If source and sink leave their ends and both lanes end, the session ends with these ends and both proofs.
pub ends_with : (s : Inside) (session : StreamSessionState) (source : SourceEnd) (sink : SinkEnd) (item_proof ack_proof : Shown) (left acks_left : List (List ℕ)) → IsStreamSession s → stream_session_of s ≡ session
    → LeavesSource s.team.giver source → LeavesSink s.team.taker sink → LanesEnd source sink s.team.cutter.cut item_proof ack_proof left acks_left
    → StreamEndsWith session (record { sender = source.sender; receiver = sink.receiver; acks = source.acks; item_proof = item_proof; ack_proof = ack_proof })
ends_with s session source sink item_proof ack_proof left acks_left holds session_is leaves keeps ends =
    let end : SessionEnd = record { sender = source.sender; receiver = sink.receiver; acks = source.acks; item_proof = item_proof; ack_proof = ack_proof } in
    let entries : source.send.part.entries ≡ (stream_session_of s).key.entries = leaves.entries in
    let ack_entries : sink.send.part.entries ≡ (stream_session_of s).key.entries = keeps.entries ∙ (sym holds.ring.1 ∙ holds.ring.0) in
    let offered = leaves.offered in
    let many = ap length offered.given in
    let few = given_few source.sender in
    let reached = offered.reached in
    let within = offered.within in
    let start = leaves.start in
    let ever = leaves.ever in
    let all = ap length leaves.items in
    let most = offered.few in
    subst (λ (session : StreamSessionState). StreamEndsWith session end) session_is (record {
      exchange = record { sent = source.send.part.sent; got = sink.recv.part.got; acks_sent = sink.send.part.sent; acks_got = source.recv.part.got };
      items_shown = ends.items_shown ∙ ap (λ (n : ℕ). record { sent = source.send.part.sent; got = sink.recv.part.got; entries = n; cut = s.team.cutter.cut }) entries;
      acks_shown = ends.acks_shown ∙ ap (λ (n : ℕ). record { sent = sink.send.part.sent; got = source.recv.part.got; entries = n; cut = s.team.cutter.cut }) ack_entries;
      in_order = record { items = (left, ends.items_order); acks = (acks_left, ends.acks_order) };
      sent = given_begins source.sender s.team.giver.key.items s.team.giver.key.start source.send.part.sent leaves.items leaves.start offered.given;
      taken = keeps.taken;
      kept = keeps.kept;
      acks = keeps.acks;
      came = sym leaves.came;
      items = leaves.items;
      acked = leaves.acked;
      ever = leaves.ever;
      reached = omega arith;
      within = omega arith;
      bytes = subst HaveBytes leaves.items offered.items;
      few = omega arith;
    })
