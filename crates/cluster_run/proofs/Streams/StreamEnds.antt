-- A session of a stream ends: the sessions so far are those of a stream, and the next one goes on from there.
use Rattle.std.proofs.Common.{Global, Vec, ◌≡◌, ℕ, ◌+◌, ◌-◌, ◌≤◌, max, ◌==◌, ◌&&◌, not, Bool, true, false, List, [], ◌∷◌, ◌++◌, length, take, fold, refl, sym, ◌∙◌, ap, subst, arith, append_assoc, append-nil}
use Rattle.std.specs.Prelude.{unwrap_or}
use Rattle.std.specs.List.{All}
use Rattle.std.proofs.lemmas.Bool.{and_parts}
use Rattle.std.proofs.lemmas.Bool.Decides.{nat_tests}
use Rattle.std.proofs.lemmas.Grind.{flat_map-append}
use Rattle.std.proofs.lemmas.List.{length-append, length-take, length_push, nil_from_length}
use Rattle.std.proofs.Math.Seq.{take-append_seam}
use Rattle.std.proofs.lemmas.List.Elements.{All-nil, All-push, All-take, All-weaker}
use Rattle.std.proofs.lemmas.List.Sums.{fold-append}
use Rattle.step_kinds.specs.Limits.{most_traffic_frames}
use Rattle.lane_workers.specs.Passes.{HaveBytes}
use Rattle.step_kinds.specs.FrameLists.{Frames}
use Rattle.stream_laws.specs.Laws.{CanSend, FrontIsKept, KeepsFront, LargestCounts, SessionsGrow, SessionsKeepFront}
use Rattle.stream_model.specs.Fronts.{Begins}
use Rattle.stream_model.specs.Numbers.{SaysAtMost, largest_in, number_in}
use Rattle.stream_model.specs.Receiver.{Receiver, new_receiver, receiver_renewed, taken}
use Rattle.stream_model.specs.Resumed.{AreSessionsOf, Exchange, IsStreamInOrder, acked_by, after_session, kept_by}
use Rattle.stream_model.specs.Sender.{Sender, ack_answer, ack_taken, sender_after_ack, sender_renewed, session_frames}
use Rattle.stream_model.specs.declared.AckAnswer.{AckAnswer}
use Rattle.stream_model.specs.declared.AckAnswer.TheVariants.{Newer, Old, Bad}
use Rattle.stream_model.specs.declared.Session.TheVariants.{Fresh}
use Rattle.step_kinds.specs.declared.names.LaneName.{LaneName}
use Rattle.table_lane.specs.EndOfLane.{Shown}
use Rattle.cluster_run.specs.LaneKeys.{LaneKey}
use Rattle.cluster_run.specs.stream.Keys.{StreamComesTo}
use Rattle.cluster_run.specs.stream.LaneFields.{GoesFrom, IsStreamWork, stream_cut_proofs, stream_state_of}
use Rattle.cluster_run.specs.stream.Sessions.{CanStreamBegin, StreamEndsWith, new_stream_session}
use Rattle.cluster_run.specs.stream.Streams.{exchange_proofs, stream_proofs}
use Rattle.cluster_run.specs.stream.Workers.{SessionKey, StreamSessionState}
use Rattle.cluster_run.specs.declared.stream.lanes.StreamWork.TheInside.{Inside}
use Rattle.cluster_run.specs.declared.stream.session.SessionEnd.{SessionEnd}

-- the laws of streams that are used here
pub record StreamLaws : Type 0 where
  pub grow : SessionsGrow
  pub keep : SessionsKeepFront
  pub front : FrontIsKept
  pub largest : LargestCounts

-- Parts from the front

begins-trans : {X : Type 0} (one two three : List X) → Begins one two → Begins two three → Begins one three
begins-trans one two three first second =
    (first.0 ++ second.0, second.1 ∙ (ap (λ l. l ++ second.0) first.1 ∙ append_assoc one first.0 second.0))

begins-length : {X : Type 0} (one two : List X) → Begins one two → length one ≤ length two
begins-length one two begins = let all = ap length begins.1 in let parts = length-append one begins.0 in omega arith

begins-whole : {X : Type 0} (one two : List X) → Begins one two → length one ≡ length two → one ≡ two
begins-whole one two begins many =
    let all = ap length begins.1 in
    let parts = length-append one begins.0 in
    let none = nil_from_length begins.0 (omega arith) in
    sym (begins.1 ∙ (ap (λ rest. one ++ rest) none ∙ append-nil one))

begins-all : {X : Type 0} (P : X → Type 0) (one two : List X) → Begins one two → All P two → All P one
begins-all P one two begins all = subst (λ front. All P front) (ap (take (length one)) begins.1 ∙ take-append_seam one begins.0) (All-take P (length one) two all)

-- Acknowledgements

-- what a sender keeps when it takes acknowledgements
record KeepsItems (before after : Sender) : Type 0 where
  pub items : after.items ≡ before.items
  pub ever : after.place.ever ≡ before.place.ever

after_ack_keeps : (sender : Sender) (number : ℕ) (answer : AckAnswer) → KeepsItems sender (sender_after_ack sender number answer)
after_ack_keeps sender number Newer = record { items = refl; ever = refl }
after_ack_keeps sender number Old = record { items = refl; ever = refl }
after_ack_keeps sender number Bad = record { items = refl; ever = refl }

acks_keep : (sender : Sender) (frames : List (List ℕ)) → KeepsItems sender (fold ack_taken sender frames)
acks_keep sender [] = record { items = refl; ever = refl }
acks_keep sender (frame ∷ frames) =
    let first = after_ack_keeps sender (unwrap_or (number_in frame) 0) (ack_answer sender frame) in
    let rest = acks_keep (ack_taken sender frame) frames in
    record { items = rest.items ∙ first.items; ever = rest.ever ∙ first.ever }

acked_by-push : (sessions : List Exchange) (session : Exchange) → acked_by (sessions ++ session ∷ []) ≡ max (acked_by sessions) (largest_in session.acks_got)
acked_by-push [] session = omega arith
acked_by-push (x ∷ sessions) session = let rest = acked_by-push sessions session in omega arith

-- The sessions so far

-- what is true once a session ended
pub record HasGone (sessions : List Exchange) (session : StreamSessionState) (end : SessionEnd) (exchange : Exchange) : Type 0 where
  pub are : AreSessionsOf session.key.items (sessions ++ exchange ∷ [])
  pub in_order : All IsStreamInOrder (sessions ++ exchange ∷ [])
  pub kept : fold after_session new_receiver (sessions ++ exchange ∷ []) ≡ receiver_renewed end.receiver
  pub front : KeepsFront session.key.items (sessions ++ exchange ∷ [])
  pub few : length end.receiver.items ≤ session.ever

few_can_send : (items : List (List ℕ)) → length items ≤ most_traffic_frames → CanSend items
few_can_send items few = omega arith

-- no more items are kept than were ever given
kept_few : FrontIsKept → (items before got after : List (List ℕ)) (start ever : ℕ) → CanSend items → Begins before items → start ≤ length before → length before ≤ ever
    → Begins got (session_frames items start) → start + length got ≤ ever + 1 → after ≡ (fold taken (record { items = before; session = Fresh }) got).items → length after ≤ ever
kept_few front items before got after start ever can prefix starts kept begins reached is =
    let all = ap length (is ∙ front items (record { items = before; session = Fresh }) start got can prefix refl starts begins) in
    let most = length-take (max (length before) (start + length got - 1)) items in
    omega arith

-- A session that ended is one more of its stream's, in order: the kept items are a front, no more than ever given.
pub has_gone : StreamLaws → (sessions : List Exchange) (session : StreamSessionState) (end : SessionEnd) → GoesFrom sessions session.key session.ever → (ends : StreamEndsWith session end) → HasGone sessions session end ends.exchange
has_gone laws sessions session end goes ends =
    let items = session.key.items in
    let x = ends.exchange in
    let can = few_can_send items ends.few in
    let more : List Exchange = sessions ++ x ∷ [] in
    let before = laws.keep items sessions can goes.are goes.in_order in
    let here : kept_by sessions ≡ session.key.before = ap (λ (r : Receiver). r.items) goes.kept in
    let prefix : Begins session.key.before items = subst (λ kept. Begins kept items) here before.prefix in
    let starts : session.key.start ≤ length session.key.before = let a = goes.acked in let b = before.acked in let c = ap length here in omega arith in
    let got : Begins x.got (session_frames items session.key.start) = begins-trans x.got x.sent (session_frames items session.key.start) ends.in_order.items ends.sent in
    let no_more = begins-length x.got x.sent ends.in_order.items in
    let reached = ends.reached in
    let few : length end.receiver.items ≤ session.ever =
    kept_few laws.front items session.key.before x.got end.receiver.items session.key.start session.ever can prefix starts goes.ever got (omega arith) (ap (λ (r : Receiver). r.items) ends.taken) in
    let kept : fold after_session new_receiver more ≡ receiver_renewed end.receiver =
    fold-append after_session new_receiver sessions (x ∷ [])
    ∙ (ap (λ (r : Receiver). after_session r x) goes.kept ∙ ap receiver_renewed (sym ends.taken)) in
    let acks : All (SaysAtMost (length (kept_by more))) x.acks_sent =
    subst (λ (n : ℕ). All (SaysAtMost n) x.acks_sent) (ap (λ (r : Receiver). length r.items) (sym kept)) ends.acks in
    let are = laws.grow items sessions x goes.are (subst (λ (start : ℕ). Begins x.sent (session_frames items start)) goes.acked ends.sent) acks in
    let order = All-push IsStreamInOrder sessions x goes.in_order ends.in_order in
    record { are = are; in_order = order; kept = kept; front = laws.keep items more can are order; few = few }

-- The next session

-- the acknowledgements that came say at most what was ever given
acks_within : (n m : ℕ) (sent got : List (List ℕ)) → n ≤ m → Begins got sent → All (SaysAtMost n) sent → All (SaysAtMost m) got
acks_within n m sent got fits begins all =
    All-weaker (SaysAtMost n) (SaysAtMost m) (λ frame says. (says.0, (let a = says.1 in omega arith), says.2)) got (begins-all (SaysAtMost n) got sent begins all)

-- the number at which the next session starts
acked_now : StreamLaws → (sessions : List Exchange) (session : StreamSessionState) (end : SessionEnd) → GoesFrom sessions session.key session.ever → (ends : StreamEndsWith session end) → HasGone sessions session end ends.exchange
    → (fold ack_taken end.sender end.acks.frames).acked ≡ acked_by (sessions ++ ends.exchange ∷ [])
acked_now laws sessions session end goes ends gone =
    let x = ends.exchange in
    let ever = ends.ever in
    let within = ends.within in
    let few = ends.few in
    let frames : All (SaysAtMost end.sender.place.ever) end.acks.frames =
    subst (λ (frames : List (List ℕ)). All (SaysAtMost end.sender.place.ever) frames) (sym ends.came)
    (acks_within (length end.receiver.items) end.sender.place.ever x.acks_sent x.acks_got (let f = gone.few in omega arith) ends.in_order.acks ends.acks) in
    laws.largest end.sender end.acks.frames (omega arith) frames
    ∙ (ap (λ (n : ℕ). max n (largest_in end.acks.frames)) (ends.acked ∙ goes.acked)
    ∙ (ap (λ (frames : List (List ℕ)). max (acked_by sessions) (largest_in frames)) ends.came ∙ sym (acked_by-push sessions x)))

abbrev next_key : ℕ → Sender → Receiver → SessionKey
next_key entries sender receiver = record { entries = entries; items = sender.items; start = sender.start; before = receiver.items }

renewed_goes : StreamLaws → (sessions : List Exchange) (session : StreamSessionState) (end : SessionEnd) (entries : ℕ) → GoesFrom sessions session.key session.ever → (ends : StreamEndsWith session end) → HasGone sessions session end ends.exchange
    → (sender : Sender) → sender ≡ sender_renewed (fold ack_taken end.sender end.acks.frames)
    → GoesFrom (sessions ++ ends.exchange ∷ []) (next_key entries sender (receiver_renewed end.receiver)) sender.place.ever × CanStreamBegin sender (receiver_renewed end.receiver) × (sender.items ≡ session.key.items)
renewed_goes laws sessions session end entries goes ends gone sender is =
    let x = ends.exchange in
    let acked = acked_now laws sessions session end goes ends gone in
    let keeps = acks_keep end.sender end.acks.frames in
    let items : sender.items ≡ session.key.items = ap (λ (s : Sender). s.items) is ∙ (keeps.items ∙ ends.items) in
    let ever : sender.place.ever ≡ session.ever = ap (λ (s : Sender). s.place.ever) is ∙ (keeps.ever ∙ ends.ever) in
    let start : sender.start ≡ acked_by (sessions ++ x ∷ []) = ap (λ (s : Sender). s.start) is ∙ acked in
    let same : sender.acked ≡ sender.start = ap (λ (s : Sender). s.acked) is ∙ sym (ap (λ (s : Sender). s.start) is) in
    let many = ap length items in
    let kept : length (kept_by (sessions ++ x ∷ [])) ≡ length end.receiver.items = ap (λ (r : Receiver). length r.items) gone.kept in
    let few = gone.few in
    let front = gone.front.acked in
    let within = ends.within in
    let all = ends.few in (
      record {
        are = subst (λ (items : List (List ℕ)). AreSessionsOf items (sessions ++ x ∷ [])) (sym items) gone.are;
        in_order = gone.in_order;
        kept = gone.kept;
        acked = start;
        ever = omega arith;
      },
      record {
        given = ap (λ (s : Sender). s.place.given) is;
        acked = same;
        start = omega arith;
        within = omega arith;
        bytes = subst HaveBytes (sym items) ends.bytes;
        few = omega arith;
        fresh = refl;
        kept = omega arith;
      },
      items,
    )

-- The last session

-- the proofs, with one session more
stream_proofs-push : (N : ℕ) (xs : List Exchange) (x : Exchange) → stream_proofs N (xs ++ x ∷ []) ≡ stream_cut_proofs N xs ++ exchange_proofs N false x
stream_proofs-push N [] x = refl
stream_proofs-push N (y ∷ []) x = refl
stream_proofs-push N (y ∷ z ∷ zs) x = ap (λ (rest : List Shown). exchange_proofs N true y ++ rest) (stream_proofs-push N (z ∷ zs) x) ∙ sym (append_assoc (exchange_proofs N true y) (stream_cut_proofs N (z ∷ zs)) (exchange_proofs N false x))

-- The proofs of cut sessions with one session more are those before it and then the two of that one, cut too.
pub cut_proofs-push : (N : ℕ) (xs : List Exchange) (x : Exchange) → stream_cut_proofs N (xs ++ x ∷ []) ≡ stream_cut_proofs N xs ++ exchange_proofs N true x
cut_proofs-push N xs x = flat_map-append (exchange_proofs N true) xs (x ∷ []) ∙ ap (λ (rest : List Shown). stream_cut_proofs N xs ++ rest) (append-nil (exchange_proofs N true x))

-- two proofs more
pub two_more : (entries : ℕ) (cut : Bool) (session : StreamSessionState) (end : SessionEnd) (ends : StreamEndsWith session end) (before first all : List Shown) → first ≡ before ++ end.item_proof ∷ [] → all ≡ first ++ end.ack_proof ∷ []
    → entries ≡ session.key.entries → session.cut ≡ cut → all ≡ before ++ exchange_proofs entries cut ends.exchange
two_more entries cut session end ends before first all first_is all_is ring cut_is =
    let x = ends.exchange in
    let one : end.item_proof ≡ record { sent = x.sent; got = x.got; entries = entries; cut = cut } =
    ends.items_shown ∙ (ap (λ (n : ℕ). record { sent = x.sent; got = x.got; entries = n; cut = session.cut }) (sym ring) ∙ ap (λ (c : Bool). record { sent = x.sent; got = x.got; entries = entries; cut = c }) cut_is) in
    let two : end.ack_proof ≡ record { sent = x.acks_sent; got = x.acks_got; entries = entries; cut = cut } =
    ends.acks_shown ∙ (ap (λ (n : ℕ). record { sent = x.acks_sent; got = x.acks_got; entries = n; cut = session.cut }) (sym ring) ∙ ap (λ (c : Bool). record { sent = x.acks_sent; got = x.acks_got; entries = entries; cut = c }) cut_is) in
    all_is ∙ (ap (λ (first : List Shown). first ++ end.ack_proof ∷ []) first_is
    ∙ (append_assoc before (end.item_proof ∷ []) (end.ack_proof ∷ [])
    ∙ (ap (λ (p : Shown). before ++ p ∷ end.ack_proof ∷ []) one ∙ ap (λ (p : Shown). before ++ record { sent = x.sent; got = x.got; entries = entries; cut = cut } ∷ p ∷ []) two)))

-- the tests of a stream that is over
is_over : (ahead kept all : ℕ) (cut : Bool) → ((ahead == 0) && (kept == all) && not cut) ≡ true → (ahead ≡ 0) × (kept ≡ all) × (cut ≡ false)
is_over ahead kept all cut h =
    let tests = and_parts ((ahead == 0) && (kept == all)) (not cut) h in
    let counts = and_parts (ahead == 0) (kept == all) tests.0 in
    let none = counts.0 in
    let many = counts.1 in
    (grind (arith, nat_tests), grind (arith, nat_tests), not_cut cut tests.1) where
      not_cut : (b : Bool) → not b ≡ true → b ≡ false
      not_cut true h = sym h
      not_cut false _ = refl

-- the record and the proofs of a stream that is over
pub comes_to : StreamLaws → (w : Inside) (end : SessionEnd) (items : Frames) (first proofs : List Shown) (holds : IsStreamWork w) → (stream_state_of w).over ≡ true → (ends : StreamEndsWith w.session end)
    → items.frames ≡ end.receiver.items → first ≡ w.proofs.items ++ end.item_proof ∷ [] → proofs ≡ first ++ end.ack_proof ∷ []
    → StreamComesTo (stream_state_of w).key (record { name = w.name; items = items.frames; sessions = w.losses + 1 }) proofs
comes_to laws w end items first proofs holds over ends items_are first_is proofs_are =
    let tests = is_over w.ahead w.session.kept (length w.session.key.items) w.session.cut over in
    let x = ends.exchange in
    let more : List Exchange = holds.sessions ++ x ∷ [] in
    let gone = has_gone laws holds.sessions w.session end holds.goes ends in
    let many = length_push holds.sessions x in
    let losses = holds.losses in
    let none = tests.0 in
    let kept : end.receiver.items ≡ kept_by more = ap (λ (r : Receiver). r.items) (sym gone.kept) in
    let count = ap length kept in
    let whole : kept_by more ≡ w.session.key.items = begins-whole (kept_by more) w.session.key.items gone.front.prefix (let a = ends.kept in let b = tests.1 in omega arith) in
    record {
      name = refl;
      sessions = more;
      counted = omega arith;
      losses = omega arith;
      shown = two_more w.entries false w.session end ends w.proofs.items first proofs first_is proofs_are holds.ring.0 tests.2
          ∙ (ap (λ (before : List Shown). before ++ exchange_proofs w.entries false x) holds.shown ∙ sym (stream_proofs-push w.entries holds.sessions x));
      in_order = gone.in_order;
      resumed = record { each = gone.are; kept = items_are ∙ kept; whole = items_are ∙ (kept ∙ whole) };
    }

-- Work goes on

-- before the first session ended
pub new_goes : (key : SessionKey) (given : ℕ) → key.start ≡ 0 → key.before ≡ [] → GoesFrom [] key given
new_goes key given start before = record {
  are = record { sent = λ k below. absurd (omega (arith, below)); acks = λ k below. absurd (omega (arith, below)) };
  in_order = All-nil IsStreamInOrder;
  kept = ap (λ (items : List (List ℕ)). record { items = items; session = Fresh }) (sym before);
  acked = start;
  ever = let none = ap length before in omega arith;
}

abbrev key_with : LaneName → ℕ → ℕ → ℕ → List (List ℕ) → LaneKey
key_with name number entries losses traffic = record { name = name; number = number; entries = entries; losses = losses; traffic = traffic }

-- Two keys of lanes that have equal names, numbers, entries, losses and traffic are equal.
pub key_is : {name name' : LaneName} {number number' entries entries' losses losses' : ℕ} {traffic traffic' : List (List ℕ)} → name ≡ name' → number ≡ number' → entries ≡ entries' → losses ≡ losses' → traffic ≡ traffic'
    → key_with name number entries losses traffic ≡ key_with name' number' entries' losses' traffic'
key_is {name = name} {name' = name'} {number = number} {number' = number'} {entries = entries} {entries' = entries'} {losses = losses} {losses' = losses'} {traffic = traffic} {traffic' = traffic'} a m b c d =
    ap (λ (n : LaneName). key_with n number entries losses traffic) a ∙ (ap (λ (n : ℕ). key_with name' n entries losses traffic) m
    ∙ (ap (λ (n : ℕ). key_with name' number' n losses traffic) b ∙ (ap (λ (n : ℕ). key_with name' number' entries' n traffic) c ∙ ap (λ (t : List (List ℕ)). key_with name' number' entries' losses' t) d)))

-- after a round
pub work_on : (w : Inside) (session : StreamSessionState) → IsStreamWork w → session.first ≡ w.session.first → session.key ≡ w.session.key → w.session.ever ≤ session.ever → IsStreamWork (record w { session = session })
work_on w session holds first key ever = record {
  sessions = holds.sessions;
  numbers = holds.numbers;
  numbered = first ∙ holds.numbered;
  ring = (holds.ring.0 ∙ ap (λ (k : SessionKey). k.entries) (sym key), holds.ring.1, holds.ring.2);
  losses = holds.losses;
  few = holds.few;
  shown = holds.shown;
  goes = record {
    are = subst (λ (k : SessionKey). AreSessionsOf k.items holds.sessions) (sym key) holds.goes.are;
    in_order = holds.goes.in_order;
    kept = holds.goes.kept ∙ ap (λ (k : SessionKey). record { items = k.before; session = Fresh }) (sym key);
    acked = ap (λ (k : SessionKey). k.start) key ∙ holds.goes.acked;
    ever = let many = ap (λ (k : SessionKey). length k.before) key in let before = holds.goes.ever in omega arith;
  };
}

-- after a session that was cut
pub next_can_begin : StreamLaws → (w : Inside) (end : SessionEnd) (sender : Sender) (receiver : Receiver) → IsStreamWork w → StreamEndsWith w.session end → sender ≡ sender_renewed (fold ack_taken end.sender end.acks.frames) → receiver ≡ receiver_renewed end.receiver
    → CanStreamBegin sender receiver
next_can_begin laws w end sender receiver holds ends sender_is receiver_is =
    let gone = has_gone laws holds.sessions w.session end holds.goes ends in
    subst (λ (r : Receiver). CanStreamBegin sender r) (sym receiver_is) (renewed_goes laws holds.sessions w.session end w.entries holds.goes ends gone sender sender_is).1

-- The sender of the next session has the same items as the session that ended.
pub next_items : (w : Inside) (end : SessionEnd) (sender : Sender) → StreamEndsWith w.session end → sender ≡ sender_renewed (fold ack_taken end.sender end.acks.frames) → sender.items ≡ w.session.key.items
next_items w end sender ends sender_is = ap (λ (s : Sender). s.items) sender_is ∙ ((acks_keep end.sender end.acks.frames).items ∙ ends.items)

-- After a cut session, with its two proofs added, the stream's work is sound with the next session begun.
pub next_work : StreamLaws → (w : Inside) (end : SessionEnd) (sender : Sender) (receiver : Receiver) (session : StreamSessionState) (first : List Shown) (proofs : Vec Shown Global) (ahead : ℕ) (holds : IsStreamWork w) → ahead + 1 ≡ w.ahead → w.session.cut ≡ true → StreamEndsWith w.session end
    → sender ≡ sender_renewed (fold ack_taken end.sender end.acks.frames) → receiver ≡ receiver_renewed end.receiver → session ≡ new_stream_session w.numbers w.entries sender receiver
    → first ≡ w.proofs.items ++ end.item_proof ∷ [] → proofs.items ≡ first ++ end.ack_proof ∷ [] → IsStreamWork (record w { ahead = ahead; session = session; proofs = proofs })
next_work laws w end sender receiver session first proofs ahead holds less cut ends sender_is receiver_is session_is first_is proofs_are =
    let x = ends.exchange in
    let gone = has_gone laws holds.sessions w.session end holds.goes ends in
    let goes = (renewed_goes laws holds.sessions w.session end w.entries holds.goes ends gone sender sender_is).0 in
    let goes' : GoesFrom (holds.sessions ++ x ∷ []) (next_key w.entries sender receiver) sender.place.ever =
    subst (λ (r : Receiver). GoesFrom (holds.sessions ++ x ∷ []) (next_key w.entries sender r) sender.place.ever) (sym receiver_is) goes in
    let many = length_push holds.sessions x in
    let losses = holds.losses in
    record {
      sessions = holds.sessions ++ x ∷ [];
      numbers = holds.numbers;
      numbered = ap (λ (s : StreamSessionState). s.first) session_is;
      ring = (ap (λ (s : StreamSessionState). s.key.entries) (sym session_is), holds.ring.1, holds.ring.2);
      losses = omega arith;
      few = holds.few;
      shown = two_more w.entries true w.session end ends w.proofs.items first proofs.items first_is proofs_are holds.ring.0 cut
          ∙ (ap (λ (before : List Shown). before ++ exchange_proofs w.entries true x) holds.shown ∙ sym (cut_proofs-push w.entries holds.sessions x));
      goes = subst (λ (s : StreamSessionState). GoesFrom (holds.sessions ++ x ∷ []) s.key s.ever) (sym session_is) goes';
    }
