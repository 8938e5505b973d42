-- The laws of every world of two ends.
use Rattle.std.proofs.Common.{◌≡◌, ◌≢◌, ℕ, zero, suc, ◌+◌, ◌-◌, ◌<◌, true, is_some, ltb, ◌≤◌, inl, inr, List, [], ◌∷◌, ◌++◌, length, take, drop, get_or, Option, Some, None, option_map, unwrap_or, refl, sym, ap, ◌∙◌, subst, arith}
use Rattle.std.specs.List.{All, Contains, fold, slice_get}
use Rattle.std.specs.Option.{option_and_then}
use Rattle.std.proofs.lemmas.Bool.{and_parts, false≢true}
use Rattle.stream_model.specs.declared.Place.{Place}
use Rattle.std.proofs.lemmas.List.{take-append-drop, take_all}
use Rattle.std.proofs.lemmas.List.Elements.{All-append, All-cons, All-head, All-nil, All-tail, Contains-append_cases}
use Rattle.std.proofs.lemmas.List.Sums.{fold-append}
use Rattle.std.proofs.lemmas.Option.{none-some, same_Some}
use Rattle.stream_model.specs.Numbers.{number_in}
use Rattle.stream_model.specs.Sender.{Sender, ack_answer, sender_after_ack as after_ack_of, frame_at, frames_of, last_given, next_frame, session_frames}
use Rattle.stream_model.specs.Receiver.{take_answer}
use Rattle.stream_model.specs.World.{StreamAnswered, EndAnswer, Gave, Took, TookAck, World, after_carry, after_carry_ack, after_event, after_next, answer_to, answered_at, answers_from, answers_to, can_give_back, first_waiting, last_frame, new_world, world_after}
use Rattle.stream_model.specs.declared.AckAnswer.{AckAnswer}
use Rattle.stream_model.specs.declared.AckAnswer.TheVariants.{Newer, Old as AckOld, Bad as AckBad}
use Rattle.stream_model.specs.declared.TakeAnswer.TheVariants.{Bad as TakeBad}
use Rattle.stream_model.specs.declared.StreamEvent.{StreamEvent}
use Rattle.stream_model.specs.declared.StreamEvent.TheVariants.{Next, GiveBack, Carry, Ack, CarryAck, Lose}
use Rattle.stream_laws.specs.Laws.{CanSend, CarriedAll, IsOrdered, NoneIsBad}
use Rattle.stream_laws.proofs.Lists.{get_front, none_past}
use Rattle.stream_laws.proofs.Worlds.{CanGoBack, CanGoBackTo, IsHeld, ack_good, carry_good, event_held, events_held, length-given, length-session, new_held}

-- After any events start, acknowledged, kept and ever given are in this order, and forward frames are those given.
pub held_after : (items : List (List ℕ)) (events : List StreamEvent) → CanSend items → IsHeld items (world_after items events)
held_after items events few = events_held items (new_world items) events few (new_held items)

-- what is kept begins all items
kept_begins : (items : List (List ℕ)) (w : World) → IsHeld items w → IsOrdered items w
kept_begins items w held =
    let count = length w.receiver.items in
    record {
      prefix = (drop count items, sym (take-append-drop count items) ∙ ap (λ (xs : List (List ℕ)). xs ++ drop count items) (sym held.stands.kept));
      acked = held.acked;
    }

-- After any events the kept items are a prefix of all, and no more is acknowledged than is kept.
pub every_world_is_ordered : (items : List (List ℕ)) (events : List StreamEvent) → CanSend items → IsOrdered items (world_after items events)
every_world_is_ordered items events few = kept_begins items (world_after items events) (held_after items events few)

-- No answer is bad

abbrev IsGood : StreamAnswered → Type 0
IsGood given = (given.answer ≢ Took TakeBad) × (given.answer ≢ TookAck AckBad)

good_of : (place : ℕ) (o : Option EndAnswer) → ((answer : EndAnswer) → o ≡ Some answer → (answer ≢ Took TakeBad) × (answer ≢ TookAck AckBad)) → All IsGood (answered_at place o)
good_of place None h = All-nil IsGood
good_of place (Some answer) h = All-cons IsGood (record { place = place; answer = answer }) [] (h answer refl) (All-nil IsGood)

took_good : (items : List (List ℕ)) (w : World) → CanSend items → IsHeld items w → (o : Option (List ℕ)) → first_waiting w.forward ≡ o
    → (answer : EndAnswer) → option_map (λ (frame : List ℕ). Took (take_answer w.receiver frame)) o ≡ Some answer → (answer ≢ Took TakeBad) × (answer ≢ TookAck AckBad)
took_good items w few held None e answer is = absurd (none-some answer is)
took_good items w few held (Some frame) e answer is =
    let same : Took (take_answer w.receiver frame) ≡ answer = same_Some (Took (take_answer w.receiver frame)) answer is in
    (λ bad. carry_good items w few held frame e cc, λ bad. cc)

took_ack_good : (items : List (List ℕ)) (w : World) → CanSend items → IsHeld items w → (o : Option (List ℕ)) → first_waiting w.back ≡ o
    → (answer : EndAnswer) → option_map (λ (frame : List ℕ). TookAck (ack_answer w.sender frame)) o ≡ Some answer → (answer ≢ Took TakeBad) × (answer ≢ TookAck AckBad)
took_ack_good items w few held None e answer is = absurd (none-some answer is)
took_ack_good items w few held (Some frame) e answer is =
    let same : TookAck (ack_answer w.sender frame) ≡ answer = same_Some (TookAck (ack_answer w.sender frame)) answer is in
    (λ bad. cc, λ bad. ack_good items w few held frame e cc)

gave_good : (o : Option (List ℕ)) (answer : EndAnswer) → Some (Gave o) ≡ Some answer → (answer ≢ Took TakeBad) × (answer ≢ TookAck AckBad)
gave_good o answer is = let same : Gave o ≡ answer = same_Some (Gave o) answer is in (λ bad. cc, λ bad. cc)

event_good : (items : List (List ℕ)) (w : World) (event : StreamEvent) → CanSend items → IsHeld items w
    → (answer : EndAnswer) → answer_to w event ≡ Some answer → (answer ≢ Took TakeBad) × (answer ≢ TookAck AckBad)
event_good items w Next few held answer is = gave_good (next_frame w.sender) answer is
event_good items w GiveBack few held answer is = absurd (none-some answer is)
event_good items w Carry few held answer is = took_good items w few held (first_waiting w.forward) refl answer is
event_good items w Ack few held answer is = absurd (none-some answer is)
event_good items w CarryAck few held answer is = took_ack_good items w few held (first_waiting w.back) refl answer is
event_good items w Lose few held answer is = absurd (none-some answer is)

all_good : (items : List (List ℕ)) (place : ℕ) (w : World) (events : List StreamEvent) → CanSend items → IsHeld items w → NoneIsBad (answers_from place w events)
all_good items place w [] few held = All-nil IsGood
all_good items place w (event ∷ events) few held =
    All-append IsGood (answered_at place (answer_to w event)) (answers_from (place + 1) (after_event w event) events)
    (good_of place (answer_to w event) (event_good items w event few held))
    (all_good items (place + 1) (after_event w event) events few (event_held items w event few held))

-- Whatever the events, no frame and no acknowledgement that is carried is answered bad.
pub no_answer_is_bad : (items : List (List ℕ)) (events : List StreamEvent) → CanSend items → NoneIsBad (answers_to items events)
no_answer_is_bad items events few = all_good items 0 (new_world items) events few (new_held items)

-- All is brought

-- a sender that gave all frames of its session
abbrev IsDone : World → Type 0
IsDone w = length (frames_of w.sender) ≤ w.sender.place.given

-- it stays so, if the session isn't lost and no frame given back
next_done : (w : World) (o : Option (List ℕ)) → IsDone w → IsDone (after_next w o)
next_done w None done = done
next_done w (Some frame) done = omega arith

carry_done : (w : World) (o : Option (List ℕ)) → IsDone w → IsDone (after_carry w o)
carry_done w None done = done
carry_done w (Some frame) done = done

ack_done : (sender : Sender) (number : ℕ) (answer : AckAnswer) → length (frames_of sender) ≤ sender.place.given
    → length (frames_of (after_ack_of sender number answer)) ≤ (after_ack_of sender number answer).place.given
ack_done sender number Newer done = done
ack_done sender number AckOld done = done
ack_done sender number AckBad done = done

carry_ack_done : (w : World) (o : Option (List ℕ)) → IsDone w → IsDone (after_carry_ack w o)
carry_ack_done w None done = done
carry_ack_done w (Some frame) done = ack_done w.sender (unwrap_or (number_in frame) 0) (ack_answer w.sender frame) done

event_done : (w : World) (event : StreamEvent) → (event ≢ Lose) × (event ≢ GiveBack) → IsDone w → IsDone (after_event w event)
event_done w Next keeps done = next_done w (next_frame w.sender) done
event_done w GiveBack keeps done = absurd (keeps.1 refl)
event_done w Carry keeps done = carry_done w (first_waiting w.forward) done
event_done w Ack keeps done = done
event_done w CarryAck keeps done = carry_ack_done w (first_waiting w.back) done
event_done w Lose keeps done = absurd (keeps.0 refl)

abbrev Keeps : StreamEvent → Type 0
Keeps event = (event ≢ Lose) × (event ≢ GiveBack)

events_done : (w : World) (events : List StreamEvent) → All Keeps events → IsDone w → IsDone (fold after_event w events)
events_done w [] keeps done = done
events_done w (event ∷ events) keeps done =
    events_done (after_event w event) events (All-tail Keeps event events keeps) (event_done w event (All-head Keeps event events keeps) done)

abbrev gave_none : ℕ → StreamAnswered
gave_none place = record { place = place; answer = Gave None }

abbrev answered : ℕ → EndAnswer → StreamAnswered
answered place answer = record { place = place; answer = answer }

-- where `next_frame` answered None at a place: the world there has a sender that gave all
record WasDone (w : World) (events : List StreamEvent) (from place : ℕ) : Type 0 where
  pub at : ℕ
  pub is : place ≡ from + at
  pub done : IsDone (fold after_event w (take at events))

none_given : (place from : ℕ) (w : World) (event : StreamEvent) → Contains (answered_at from (answer_to w event)) (gave_none place) → (place ≡ from) × IsDone w
none_given place from w event found = by (answer_to w event) refl found
  where
    gave : (event : StreamEvent) → answer_to w event ≡ Some (Gave None) → IsDone w
    gave Next e =
        let same : Gave (next_frame w.sender) ≡ Gave None = same_Some (Gave (next_frame w.sender)) (Gave None) e in
        let none : next_frame w.sender ≡ None = cc in
        none_past (frames_of w.sender) w.sender.place.given none
    gave GiveBack e = absurd (none-some (Gave None) e)
    gave Carry e = took (first_waiting w.forward) e
      where
        took : (o : Option (List ℕ)) → option_map (λ (frame : List ℕ). Took (take_answer w.receiver frame)) o ≡ Some (Gave None) → IsDone w
        took None e = absurd (none-some (Gave None) e)
        took (Some frame) e = let same : Took (take_answer w.receiver frame) ≡ Gave None = same_Some (Took (take_answer w.receiver frame)) (Gave None) e in cc
    gave Ack e = absurd (none-some (Gave None) e)
    gave CarryAck e = took (first_waiting w.back) e
      where
        took : (o : Option (List ℕ)) → option_map (λ (frame : List ℕ). TookAck (ack_answer w.sender frame)) o ≡ Some (Gave None) → IsDone w
        took None e = absurd (none-some (Gave None) e)
        took (Some frame) e = let same : TookAck (ack_answer w.sender frame) ≡ Gave None = same_Some (TookAck (ack_answer w.sender frame)) (Gave None) e in cc
    gave Lose e = absurd (none-some (Gave None) e)

    one : (answer : EndAnswer) (k : ℕ) → k < 1 → answer_to w event ≡ Some answer
        → get_or (answered from answer ∷ []) k (gave_none place) ≡ gave_none place
        → (place ≡ from) × IsDone w
    one answer zero below e is =
        let same_place : from ≡ place = ap (λ (given : StreamAnswered). given.place) is in
        let same_answer : answer ≡ Gave None = ap (λ (given : StreamAnswered). given.answer) is in
        (sym same_place, gave event (e ∙ ap (λ (a : EndAnswer). Some a) same_answer))
    one answer (suc k) below e is = absurd (omega arith)

    by : (o : Option EndAnswer) → answer_to w event ≡ o → Contains (answered_at from o) (gave_none place) → (place ≡ from) × IsDone w
    by None e found = absurd (omega (arith, found.1))
    by (Some answer) e found = one answer found.0 found.1 e found.2

was_done : (place from : ℕ) (w : World) (events : List StreamEvent) → Contains (answers_from from w events) (gave_none place) → WasDone w events from place
was_done place from w [] found = absurd (omega (arith, found.1))
was_done place from w (event ∷ events) found =
    elim (Contains-append_cases (answered_at from (answer_to w event)) (answers_from (from + 1) (after_event w event) events) (gave_none place) found) [
      | inl here ↦ let h = none_given place from w event here in record { at = 0; is = omega (arith, h.0); done = h.1 }
      | inr later ↦ let h = was_done place (from + 1) (after_event w event) events later in let is = h.is in record { at = suc h.at; is = omega (arith, is); done = h.done }
    ]

-- all was given and carried: all is kept
kept_all : (items : List (List ℕ)) (w : World) → CanSend items → IsHeld items w → IsDone w → w.forward.carried ≡ length w.forward.given → w.receiver.items ≡ items
kept_all items w few held done carried =
    let given = length-given items w held in
    let long = length-session items w.sender.start in
    let same : length (frames_of w.sender) ≡ length (session_frames items w.sender.start) = ap (λ (xs : List (List ℕ)). length (session_frames xs w.sender.start)) held.all in
    let reached = held.stands.reached in
    let whole : length items ≤ length w.receiver.items = omega (arith, given, long, same, reached, done, carried) in
    held.stands.kept ∙ take_all (length w.receiver.items) items whole

-- Once `next_frame` gave none, with no loss or give-back since, and all frames were carried, all items are kept.
pub all_is_brought : (items : List (List ℕ)) (events : List StreamEvent) → CanSend items → CarriedAll items events → (world_after items events).receiver.items ≡ items
all_is_brought items events few brought =
    let was = was_done brought.place 0 (new_world items) events brought.none in
    let place : brought.place ≡ was.at = let is = was.is in omega (arith, is) in
    let since : All Keeps (drop was.at events) = subst (λ (n : ℕ). All Keeps (drop n events)) place brought.since in
    let later : IsDone (fold after_event (fold after_event (new_world items) (take was.at events)) (drop was.at events)) =
    events_done (fold after_event (new_world items) (take was.at events)) (drop was.at events) since was.done in
    let joined : fold after_event (fold after_event (new_world items) (take was.at events)) (drop was.at events) ≡ world_after items events =
    sym (fold-append after_event (new_world items) (take was.at events) (drop was.at events)) ∙ ap (fold after_event (new_world items)) (take-append-drop was.at events) in
    kept_all items (world_after items events) few (held_after items events few) (subst IsDone joined later) brought.carried

-- what can be given back is the last frame that set out
last_of : (items : List (List ℕ)) (w : World) → IsHeld items w → (o : Option Place) → w.sender.before ≡ o → is_some o ≡ true → option_and_then (frame_at w.sender) o ≡ last_frame w.forward
last_of items w held None e some = absurd (false≢true some)
last_of items w held (Some place) e some =
    let back : CanGoBack items w.sender.start w.sender.place.given w.forward.carried (length w.receiver.items) place =
    subst (CanGoBackTo items w.sender.start w.sender.place.given w.forward.carried (length w.receiver.items)) e held.back_to in
    let long = length-given items w held in
    let one = back.one in
    let less : length w.forward.given - 1 ≡ place.given = omega (arith, long, one) in
    let frames = session_frames items w.sender.start in
    let last : last_frame w.forward ≡ slice_get frames place.given =
    ap (slice_get w.forward.given) less ∙ (ap (λ (xs : List (List ℕ)). slice_get xs place.given) held.given ∙ get_front w.sender.place.given frames place.given (omega (arith, one))) in
    ap (λ (xs : List (List ℕ)). slice_get (session_frames xs w.sender.start) place.given) held.all ∙ sym last

-- If a frame can be given back, it is the last one that was given to the forward direction.
pub last_after : (items : List (List ℕ)) (events : List StreamEvent) → CanSend items → can_give_back (world_after items events) ≡ true
    → last_given (world_after items events).sender ≡ last_frame (world_after items events).forward
last_after items events few can =
    let w = world_after items events in
    let both = and_parts (is_some w.sender.before) (ltb w.forward.carried (length w.forward.given)) can in
    last_of items w (held_after items events few) w.sender.before refl both.0
