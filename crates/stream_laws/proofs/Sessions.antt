-- Streams over sessions.
use Rattle.std.proofs.Common.{◌≡◌, ℕ, zero, suc, ◌+◌, ◌-◌, ◌<◌, ◌≤◌, inl, inr, max, List, [], ◌∷◌, ◌++◌, length, take, drop, Option, unwrap_or, refl, sym, ap, ◌∙◌, subst, append_assoc, arith}
use Rattle.std.specs.List.{All, fold}
use Rattle.std.proofs.lemmas.Bool.{cases_lt}
use Rattle.std.proofs.lemmas.List.{append-nil, get_or_append_left, get_or_push, length-drop, length_push, take-append-drop, take-append-le, take_all, take_at, take_more}
use Rattle.std.proofs.lemmas.List.Elements.{All-get_or, All-head, All-tail, All-take}
use Rattle.std.proofs.lemmas.List.Sums.{fold-append}
use Rattle.stream_model.specs.Fronts.{Begins}
use Rattle.stream_model.specs.Numbers.{SaysAtMost, largest_in, number_in}
use Rattle.stream_model.specs.Sender.{most_items, session_frames}
use Rattle.stream_model.specs.Receiver.{Receiver, new_receiver, taken}
use Rattle.stream_model.specs.Resumed.{AreSessionsOf, Exchange, IsStreamInOrder, acked_by, after_session, kept_by, no_exchange, session_at}
use Rattle.stream_model.specs.declared.Session.TheVariants.{Fresh}
use Rattle.stream_laws.specs.Laws.{CanSend, KeepsFront}
use Rattle.stream_laws.proofs.Lists.{begins_short, begins_take}
use Rattle.stream_laws.proofs.Numbers.{number_in-number_frame}
use Rattle.stream_laws.proofs.Receivers.{StandsAt, take_all_of}

-- a receiver that gets the front of a session
pub got_front : (items : List (List ℕ)) (receiver : Receiver) (start : ℕ) (got : List (List ℕ))
    → CanSend items → Begins receiver.items items → receiver.session ≡ Fresh → start ≤ length receiver.items → Begins got (session_frames items start)
    → StandsAt items start (length got) (fold taken receiver got) × (length (fold taken receiver got).items ≡ max (length receiver.items) (start + length got - 1))
got_front items receiver start got few front fresh within b =
    let stands : StandsAt items start 0 receiver = record { kept = begins_take receiver.items items front; within = within; reached = omega arith; state = fresh } in
    let all = take_all_of items start got b.0 0 receiver few stands b.1 in
    let k : 0 + length got ≡ length got = omega arith in
    (subst (λ (n : ℕ). StandsAt items start n (fold taken receiver got)) k all.0, all.1 ∙ omega arith)

-- A receiver that gets the front of a session keeps the first items, no fewer than before, and each that it got.
pub front_is_kept : (items : List (List ℕ)) (receiver : Receiver) (start : ℕ) (got : List (List ℕ))
    → CanSend items → Begins receiver.items items → receiver.session ≡ Fresh → start ≤ length receiver.items → Begins got (session_frames items start)
    → (fold taken receiver got).items ≡ take (max (length receiver.items) (start + length got - 1)) items
front_is_kept items receiver start got few front fresh within b =
    let g = got_front items receiver start got few front fresh within b in
    g.0.kept ∙ ap (λ (n : ℕ). take n items) g.1

-- One session more

-- a place among the sessions, and the one more
pub sessions_grow : (items : List (List ℕ)) (sessions : List Exchange) (session : Exchange) → AreSessionsOf items sessions
    → Begins session.sent (session_frames items (acked_by sessions))
    → All (SaysAtMost (length (kept_by (sessions ++ session ∷ [])))) session.acks_sent
    → AreSessionsOf items (sessions ++ session ∷ [])
sessions_grow items sessions session are sent acks =
    let long = length_push sessions session in
    record {
      sent = λ k below. elim (cases_lt k (length sessions)) [
        | inl low ↦ subst (λ (e : Exchange). Begins e.sent (session_frames items (acked_by (take k (sessions ++ session ∷ []))))) (sym (there k low))
            (subst (λ (es : List Exchange). Begins (session_at sessions k).sent (session_frames items (acked_by es))) (sym (take-append-le k sessions (session ∷ []) (omega arith))) (are.sent k low))
        | inr high ↦ let last : k ≡ length sessions = omega (arith, long, below) in
            subst (λ (e : Exchange). Begins e.sent (session_frames items (acked_by (take k (sessions ++ session ∷ []))))) (sym (here k last))
            (subst (λ (es : List Exchange). Begins session.sent (session_frames items (acked_by es))) (sym (take_at sessions (session ∷ []) k (sym last))) sent)
      ];
      acks = λ k below. elim (cases_lt k (length sessions)) [
        | inl low ↦ subst (λ (e : Exchange). All (SaysAtMost (length (kept_by (take (k + 1) (sessions ++ session ∷ []))))) e.acks_sent) (sym (there k low))
            (subst (λ (es : List Exchange). All (SaysAtMost (length (kept_by es))) (session_at sessions k).acks_sent) (sym (take-append-le (k + 1) sessions (session ∷ []) (omega arith))) (are.acks k low))
        | inr high ↦ let last : k ≡ length sessions = omega (arith, long, below) in
            subst (λ (e : Exchange). All (SaysAtMost (length (kept_by (take (k + 1) (sessions ++ session ∷ []))))) e.acks_sent) (sym (here k last))
            (subst (λ (es : List Exchange). All (SaysAtMost (length (kept_by es))) session.acks_sent) (sym (take_all (k + 1) (sessions ++ session ∷ []) (omega (arith, long, last)))) acks)
      ];
    }
  where
    there : (k : ℕ) → k < length sessions → session_at (sessions ++ session ∷ []) k ≡ session_at sessions k
    there k low = get_or_append_left sessions (session ∷ []) no_exchange k low

    here : (k : ℕ) → k ≡ length sessions → session_at (sessions ++ session ∷ []) k ≡ session
    here k last = get_or_push sessions session no_exchange k (sym last)

-- What is kept, and what is acknowledged

-- a receiver between two sessions is at the start of one
fresh_between : (sessions : List Exchange) (receiver : Receiver) → receiver.session ≡ Fresh → (fold after_session receiver sessions).session ≡ Fresh
fresh_between [] receiver e = e
fresh_between (session ∷ sessions) receiver e = fresh_between sessions (after_session receiver session) refl

-- the largest number after one session more
acked_more : (sessions : List Exchange) (session : Exchange) → acked_by (sessions ++ session ∷ []) ≡ max (acked_by sessions) (largest_in session.acks_got)
acked_more [] session = omega arith
acked_more (first ∷ sessions) session = let h = acked_more sessions session in omega (arith, h)

-- frames that say at most a number have no larger one
largest_low : (most : ℕ) (frames : List (List ℕ)) → most < most_items → All (SaysAtMost most) frames → largest_in frames ≤ most
largest_low most [] few all = omega arith
largest_low most (frame ∷ frames) few all =
    let says = All-head (SaysAtMost most) frame frames all in
    let said : unwrap_or (number_in frame) 0 ≡ says.0 = ap (λ (o : Option ℕ). unwrap_or o 0) (ap number_in says.2 ∙ number_in-number_frame says.0 (omega (arith, says.1, few))) in
    let rest = largest_low most frames few (All-tail (SaysAtMost most) frame frames all) in
    omega (arith, says.1, said, rest)

all_front : (P : List ℕ → Type 0) (front whole : List (List ℕ)) → Begins front whole → All P whole → All P front
all_front P front whole b all = subst (All P) (sym (begins_take front whole b)) (All-take P (length front) whole all)

begins_in : (front middle whole : List (List ℕ)) → Begins front middle → Begins middle whole → Begins front whole
begins_in front middle whole b c = (b.0 ++ c.0, c.1 ∙ (ap (λ (xs : List (List ℕ)). xs ++ c.0) b.1 ∙ append_assoc front b.0 c.0))

-- a receiver at the start of a session gets the front of it, and then keeps the first items
record AfterSession (items : List (List ℕ)) (receiver : Receiver) (start : ℕ) (session : Exchange) : Type 0 where
  pub prefix : Begins (after_session receiver session).items items
  pub count : length (after_session receiver session).items ≡ max (length receiver.items) (start + length session.got - 1)
  pub kept : (after_session receiver session).items ≡ take (length (after_session receiver session).items) items

after_one : (items : List (List ℕ)) (receiver : Receiver) (start : ℕ) (session : Exchange) → CanSend items → Begins receiver.items items → receiver.session ≡ Fresh
    → start ≤ length receiver.items → Begins session.got (session_frames items start) → AfterSession items receiver start session
after_one items receiver start session few front fresh within got =
    let g = got_front items receiver start session.got few front fresh within got in
    let kept = g.0.kept in
    let count = length (after_session receiver session).items in
    record {
      prefix = (drop count items, sym (take-append-drop count items) ∙ ap (λ (xs : List (List ℕ)). xs ++ drop count items) (sym kept));
      count = g.1;
      kept = kept;
    }

grown : (items : List (List ℕ)) (sessions : List Exchange) (session : Exchange) → CanSend items → KeepsFront items sessions → IsStreamInOrder session
    → Begins session.sent (session_frames items (acked_by sessions)) → All (SaysAtMost (length (kept_by (sessions ++ session ∷ [])))) session.acks_sent
    → KeepsFront items (sessions ++ session ∷ [])
grown items sessions session few keeps order sent acks =
    let receiver = fold after_session new_receiver sessions in
    let after = after_one items receiver (acked_by sessions) session few keeps.prefix (fresh_between sessions new_receiver refl) keeps.acked
    (begins_in session.got session.sent (session_frames items (acked_by sessions)) order.items sent) in
    let joined : after_session receiver session ≡ fold after_session new_receiver (sessions ++ session ∷ []) = sym (fold-append after_session new_receiver sessions (session ∷ [])) in
    let prefix : Begins (kept_by (sessions ++ session ∷ [])) items = subst (λ (r : Receiver). Begins r.items items) joined after.prefix in
    let short = begins_short (kept_by (sessions ++ session ∷ [])) items prefix in
    let more : length (kept_by (sessions ++ session ∷ [])) ≡ max (length receiver.items) (acked_by sessions + length session.got - 1) =
    ap (λ (r : Receiver). length r.items) (sym joined) ∙ after.count in
    let low = largest_low (length (kept_by (sessions ++ session ∷ []))) session.acks_got (omega (arith, short, few))
    (all_front (SaysAtMost (length (kept_by (sessions ++ session ∷ [])))) session.acks_got session.acks_sent order.acks acks) in
    let before = keeps.acked in
    let acked = acked_more sessions session in
    record { prefix = prefix; acked = omega (arith, low, more, before, acked) }

keeps_first : (items : List (List ℕ)) (sessions : List Exchange) → CanSend items → AreSessionsOf items sessions → All IsStreamInOrder sessions → (k : ℕ) → k ≤ length sessions → KeepsFront items (take k sessions)
keeps_first items sessions few are order zero within = record { prefix = (items, refl); acked = omega arith }
keeps_first items sessions few are order (suc k) within =
    let below : k < length sessions = omega arith in
    let session = session_at sessions k in
    let keeps = keeps_first items sessions few are order k (omega arith) in
    let more : take (k + 1) sessions ≡ take k sessions ++ session ∷ [] = take_more sessions k no_exchange below in
    let next : k + 1 ≡ suc k = omega arith in
    let acks : All (SaysAtMost (length (kept_by (take k sessions ++ session ∷ [])))) session.acks_sent =
    subst (λ (es : List Exchange). All (SaysAtMost (length (kept_by es))) session.acks_sent) more (are.acks k below) in
    subst (KeepsFront items) (sym more ∙ ap (λ (n : ℕ). take n sessions) next)
    (grown items (take k sessions) session few keeps (All-get_or IsStreamInOrder sessions k no_exchange below order) (are.sent k below) acks)

-- Over a stream's sessions, the kept items are a prefix of all, and no more is acknowledged than is kept.
pub sessions_keep_front : (items : List (List ℕ)) (sessions : List Exchange) → CanSend items → AreSessionsOf items sessions → All IsStreamInOrder sessions → KeepsFront items sessions
sessions_keep_front items sessions few are order =
    subst (KeepsFront items) (take_all (length sessions) sessions (omega arith)) (keeps_first items sessions few are order (length sessions) (omega arith))

-- After a session that carried all its frames the receiver keeps all items of the stream.
pub whole_session_brings_all : (items : List (List ℕ)) (sessions : List Exchange) (session : Exchange) → CanSend items → AreSessionsOf items sessions → All IsStreamInOrder sessions
    → session.got ≡ session_frames items (acked_by sessions) → kept_by (sessions ++ session ∷ []) ≡ items
whole_session_brings_all items sessions session few are order whole =
    let keeps = sessions_keep_front items sessions few are order in
    let receiver = fold after_session new_receiver sessions in
    let start = acked_by sessions in
    let all : Begins session.got (session_frames items start) = ([], sym whole ∙ sym (append-nil session.got)) in
    let after = after_one items receiver start session few keeps.prefix (fresh_between sessions new_receiver refl) keeps.acked all in
    let long : length session.got ≡ 1 + (length items - start) = ap length whole ∙ (let h = length-drop start items in omega (arith, h)) in
    let short = begins_short receiver.items items keeps.prefix in
    let within = keeps.acked in
    let count = after.count in
    let enough : length items ≤ length (after_session receiver session).items = omega (arith, count, long, short, within) in
    let joined : after_session receiver session ≡ fold after_session new_receiver (sessions ++ session ∷ []) = sym (fold-append after_session new_receiver sessions (session ∷ [])) in
    ap (λ (r : Receiver). r.items) (sym joined) ∙ (after.kept ∙ take_all (length (after_session receiver session).items) items enough)
