-- What holds of every world of two ends.
use Rattle.std.proofs.Common.{◌≡◌, ◌≢◌, ℕ, ◌+◌, ◌-◌, ◌<◌, ◌≤◌, inl, inr, max, min, Bool, true, false, cond, ltb, List, [], ◌∷◌, ◌++◌, length, take, Option, Some, None, is_some, refl, sym, ap, ◌∙◌, subst, arith}
use Rattle.std.specs.List.{All, fold, slice_get}
use Rattle.std.proofs.lemmas.List.{length-take, length-drop, take-take}
use Rattle.std.proofs.lemmas.List.Elements.{All-nil, All-get_or, All-push, All-weaker}
use Rattle.std.proofs.lemmas.Option.{get_or_from_slice_get, slice_get_within}
use Rattle.std.proofs.lemmas.Bool.{and_parts, ltb-true, false≢true}
use Rattle.stream_model.specs.Numbers.{SaysAtMost, number_frame}
use Rattle.stream_model.specs.Sender.{ack_answer, ack_taken, back_at, next_frame, session_frames}
use Rattle.stream_model.specs.Receiver.{take_answer, taken}
use Rattle.stream_model.specs.World.{World, stream_after_ack, after_carry, after_carry_ack, after_event, after_give_back, after_loss, after_next, can_give_back, first_waiting, new_world}
use Rattle.stream_model.specs.declared.Place.{Place}
use Rattle.stream_model.specs.declared.AckAnswer.TheVariants.{Bad as AckBad}
use Rattle.stream_model.specs.declared.TakeAnswer.TheVariants.{Bad as TakeBad}
use Rattle.stream_model.specs.declared.StreamEvent.{StreamEvent}
use Rattle.stream_model.specs.declared.StreamEvent.TheVariants.{Next, GiveBack, Carry, Ack, CarryAck, Lose}
use Rattle.stream_laws.specs.Laws.{CanSend}
use Rattle.stream_laws.proofs.Lists.{get_taken, take_next}
use Rattle.stream_laws.proofs.Receivers.{StandsAt, take_one}
use Rattle.stream_laws.proofs.Senders.{took_ack}

-- a place of a session: no more was given than there is, and what was ever given covers what was given in the session
pub record Covers (items : List (List ℕ)) (start : ℕ) (place : Place) : Type 0 where
  pub covered : start + place.given ≤ place.ever + 1
  pub most : place.ever ≤ length items

-- the sender can go back to a place: it gave one frame since, and what is kept was given before, unless that frame was
-- carried
pub record CanGoBack (items : List (List ℕ)) (start given carried count : ℕ) (place : Place) : Type 0 where
  pub covers : Covers items start place
  pub one : given ≡ place.given + 1
  pub kept : carried ≤ place.given → count ≤ place.ever

abbrev pub CanGoBackTo : List (List ℕ) → ℕ → ℕ → ℕ → ℕ → Option Place → Type 0
CanGoBackTo items start given carried count None = Unit {0}
CanGoBackTo items start given carried count (Some place) = CanGoBack items start given carried count place

-- what holds between two events
pub record IsHeld (items : List (List ℕ)) (w : World) : Type 0 where
  pub all : w.sender.items ≡ items
  pub acked : w.sender.acked ≤ length w.receiver.items
  pub start : w.sender.start ≤ w.sender.acked
  pub covers : Covers items w.sender.start w.sender.place
  pub ever : length w.receiver.items ≤ w.sender.place.ever
  pub back_to : CanGoBackTo items w.sender.start w.sender.place.given w.forward.carried (length w.receiver.items) w.sender.before
  pub given : w.forward.given ≡ take w.sender.place.given (session_frames items w.sender.start)
  pub carried : w.forward.carried ≤ w.sender.place.given
  pub stands : StandsAt items w.sender.start w.forward.carried w.receiver
  pub acks : All (SaysAtMost (length w.receiver.items)) w.back.given

-- a session has its first frame and the items from its start on
pub length-session : (items : List (List ℕ)) (start : ℕ) → length (session_frames items start) ≡ 1 + (length items - start)
length-session items start = let h = length-drop start items in omega (arith, h)

-- as many frames are on the forward list as were given
pub length-given : (items : List (List ℕ)) (w : World) → IsHeld items w → length w.forward.given ≡ w.sender.place.given
length-given items w held =
    let long = length-session items w.sender.start in
    let h : length w.forward.given ≡ min w.sender.place.given (length (session_frames items w.sender.start)) = ap length held.given ∙ length-take w.sender.place.given (session_frames items w.sender.start) in
    let covered = held.covers.covered in
    let most = held.covers.most in
    let start = held.start in
    let acked = held.acked in
    let ever = held.ever in
    omega (arith, long, h)

-- the start
pub new_held : (items : List (List ℕ)) → IsHeld items (new_world items)
new_held items = record {
  all = refl;
  acked = omega arith;
  start = omega arith;
  covers = record { covered = omega arith; most = omega arith };
  ever = omega arith;
  back_to = tt;
  given = refl;
  carried = omega arith;
  stands = record { kept = refl; within = omega arith; reached = omega arith; state = refl };
  acks = All-nil (SaysAtMost 0);
}

-- Next
next_held : (items : List (List ℕ)) (w : World) → IsHeld items w → (o : Option (List ℕ)) → next_frame w.sender ≡ o → IsHeld items (after_next w o)
next_held items w held None e = held
next_held items w held (Some frame) e =
    let frames = session_frames items w.sender.start in
    let place = w.sender.place in
    let here : slice_get frames place.given ≡ Some frame = subst (λ (xs : List (List ℕ)). slice_get (session_frames xs w.sender.start) place.given ≡ Some frame) held.all e in
    let within = slice_get_within frames place.given frame here in
    let long = length-session items w.sender.start in
    let covered = held.covers.covered in
    let most = held.covers.most in
    let start = held.start in
    let acked = held.acked in
    let ever = held.ever in
    record {
      all = held.all;
      acked = held.acked;
      start = held.start;
      covers = record { covered = omega arith; most = omega (arith, within, long) };
      ever = omega arith;
      back_to = record { covers = held.covers; one = refl; kept = λ _. held.ever };
      given = ap (λ (xs : List (List ℕ)). xs ++ frame ∷ []) held.given ∙ sym (take_next frames place.given frame here);
      carried = let h = held.carried in omega arith;
      stands = held.stands;
      acks = held.acks;
    }

-- GiveBack, if it can be made
back_held : (items : List (List ℕ)) (w : World) → IsHeld items w → (o : Option Place) → w.sender.before ≡ o → is_some o ≡ true → w.forward.carried < length w.forward.given
    → IsHeld items (record w { sender = back_at w.sender o; forward = record w.forward { given = take (length w.forward.given - 1) w.forward.given } })
back_held items w held None e some waits = absurd (false≢true some)
back_held items w held (Some place) e some waits =
    let frames = session_frames items w.sender.start in
    let back : CanGoBack items w.sender.start w.sender.place.given w.forward.carried (length w.receiver.items) place =
    subst (CanGoBackTo items w.sender.start w.sender.place.given w.forward.carried (length w.receiver.items)) e held.back_to in
    let long = length-given items w held in
    let one = back.one in
    let less : length w.forward.given - 1 ≡ place.given = omega (arith, long, one) in
    let before : w.forward.carried ≤ place.given = omega (arith, long, one, waits) in
    record {
      all = held.all;
      acked = held.acked;
      start = held.start;
      covers = back.covers;
      ever = back.kept before;
      back_to = tt;
      given = ap (λ (n : ℕ). take n w.forward.given) less ∙ (ap (take place.given) held.given ∙ take-take place.given w.sender.place.given frames (omega (arith, one)));
      carried = before;
      stands = held.stands;
      acks = held.acks;
    }

give_back_held : (items : List (List ℕ)) (w : World) → IsHeld items w → (b : Bool) → can_give_back w ≡ b → IsHeld items (cond b (after_give_back w) w)
give_back_held items w held false e = held
give_back_held items w held true e =
    let both = and_parts (is_some w.sender.before) (ltb w.forward.carried (length w.forward.given)) e in
    back_held items w held w.sender.before refl both.0 (ltb-true w.forward.carried (length w.forward.given) both.1)

-- Carry
more_counts : (least most : ℕ) → least ≤ most → (frame : List ℕ) → SaysAtMost least frame → SaysAtMost most frame
more_counts least most h frame says = (says.0, omega (arith, says.1), says.2)

go_back_on : (items : List (List ℕ)) (start given carried count : ℕ) (o : Option Place) → CanGoBackTo items start given carried count o
    → CanGoBackTo items start given (carried + 1) (max count (start + carried)) o
go_back_on items start given carried count None back = tt
go_back_on items start given carried count (Some place) back =
    let covered = back.covers.covered in
    record { covers = back.covers; one = back.one; kept = λ before. let h : count ≤ place.ever = back.kept (omega arith) in omega (arith, h, before, covered) }

-- the receiver after a carried frame, and that its answer isn't Bad
carry_held : (items : List (List ℕ)) (w : World) → CanSend items → IsHeld items w → (o : Option (List ℕ)) → first_waiting w.forward ≡ o → IsHeld items (after_carry w o)
carry_held items w few held None e = held
carry_held items w few held (Some frame) e =
    let place = w.sender.place in
    let frames = session_frames items w.sender.start in
    let taken_front : slice_get (take place.given frames) w.forward.carried ≡ Some frame = subst (λ (xs : List (List ℕ)). slice_get xs w.forward.carried ≡ Some frame) held.given e in
    let one = take_one items w.sender.start w.forward.carried w.receiver frame few held.stands (get_taken place.given frames w.forward.carried frame taken_front) in
    let within : w.forward.carried < length w.forward.given = slice_get_within w.forward.given w.forward.carried frame e in
    let long = length-given items w held in
    let count = one.count_after in
    let covered = held.covers.covered in
    let ever = held.ever in
    let acked = held.acked in
    record {
      all = held.all;
      acked = omega (arith, count);
      start = held.start;
      covers = held.covers;
      ever = omega (arith, count, within, long);
      back_to = subst (λ (n : ℕ). CanGoBackTo items w.sender.start place.given (w.forward.carried + 1) n w.sender.before) (sym count)
          (go_back_on items w.sender.start place.given w.forward.carried (length w.receiver.items) w.sender.before held.back_to);
      given = held.given;
      carried = omega (arith, within, long);
      stands = one.stands;
      acks = All-weaker (SaysAtMost (length w.receiver.items)) (SaysAtMost (length (taken w.receiver frame).items))
          (more_counts (length w.receiver.items) (length (taken w.receiver frame).items) (omega (arith, count))) w.back.given held.acks;
    }

-- The frame that is carried to the receiver next isn't answered bad.
pub carry_good : (items : List (List ℕ)) (w : World) → CanSend items → IsHeld items w → (frame : List ℕ) → first_waiting w.forward ≡ Some frame → take_answer w.receiver frame ≢ TakeBad
carry_good items w few held frame e =
    let place = w.sender.place in
    let frames = session_frames items w.sender.start in
    let taken_front : slice_get (take place.given frames) w.forward.carried ≡ Some frame = subst (λ (xs : List (List ℕ)). slice_get xs w.forward.carried ≡ Some frame) held.given e in
    let one = take_one items w.sender.start w.forward.carried w.receiver frame few held.stands (get_taken place.given frames w.forward.carried frame taken_front) in
    one.good

-- Ack
ack_held : (items : List (List ℕ)) (w : World) → IsHeld items w → IsHeld items (stream_after_ack w)
ack_held items w held = record {
  all = held.all;
  acked = held.acked;
  start = held.start;
  covers = held.covers;
  ever = held.ever;
  back_to = held.back_to;
  given = held.given;
  carried = held.carried;
  stands = held.stands;
  acks = All-push (SaysAtMost (length w.receiver.items)) w.back.given (number_frame (length w.receiver.items)) held.acks (length w.receiver.items, omega arith, refl);
}

-- CarryAck: the number that reaches the sender
pub ack_says : (items : List (List ℕ)) (w : World) → IsHeld items w → (frame : List ℕ) → first_waiting w.back ≡ Some frame → SaysAtMost (length w.receiver.items) frame
ack_says items w held frame e =
    let within = slice_get_within w.back.given w.back.carried frame e in
    let P : List ℕ → Type 0 = SaysAtMost (length w.receiver.items) in
    subst P (get_or_from_slice_get w.back.given w.back.carried frame frame e) (All-get_or P w.back.given w.back.carried frame within held.acks)

carry_ack_held : (items : List (List ℕ)) (w : World) → CanSend items → IsHeld items w → (o : Option (List ℕ)) → first_waiting w.back ≡ o → IsHeld items (after_carry_ack w o)
carry_ack_held items w few held None e = held
carry_ack_held items w few held (Some frame) e =
    let says = ack_says items w held frame e in
    let ever = held.ever in
    let most = held.covers.most in
    let one = took_ack w.sender says.0 frame (omega (arith, says.1, ever, most, few)) (omega (arith, says.1, ever)) says.2 in
    let after = ack_taken w.sender frame in
    let acked = held.acked in
    let start = held.start in
    let now = one.acked in
    let same_start : after.start ≡ w.sender.start = one.start in
    let count = length w.receiver.items in
    record {
      all = one.items ∙ held.all;
      acked = omega (arith, now, says.1);
      start = omega (arith, now, same_start);
      covers = subst (λ (n : ℕ). Covers items n after.place) (sym same_start) (subst (Covers items w.sender.start) (sym one.place) held.covers);
      ever = subst (λ (place : Place). count ≤ place.ever) (sym one.place) held.ever;
      back_to = subst (λ (n : ℕ). CanGoBackTo items n after.place.given w.forward.carried count after.before) (sym same_start)
          (subst (λ (place : Place). CanGoBackTo items w.sender.start place.given w.forward.carried count after.before) (sym one.place)
          (elim one.before [
            | inl same ↦ subst (CanGoBackTo items w.sender.start w.sender.place.given w.forward.carried count) (sym same) held.back_to
            | inr none ↦ subst (CanGoBackTo items w.sender.start w.sender.place.given w.forward.carried count) (sym none) tt
          ]));
      given = held.given ∙ (ap (λ (n : ℕ). take w.sender.place.given (session_frames items n)) (sym same_start) ∙ ap (λ (place : Place). take place.given (session_frames items after.start)) (sym one.place));
      carried = subst (λ (place : Place). w.forward.carried ≤ place.given) (sym one.place) held.carried;
      stands = subst (λ (n : ℕ). StandsAt items n w.forward.carried w.receiver) (sym same_start) held.stands;
      acks = held.acks;
    }

-- The acknowledgement that is carried to the sender next isn't answered bad.
pub ack_good : (items : List (List ℕ)) (w : World) → CanSend items → IsHeld items w → (frame : List ℕ) → first_waiting w.back ≡ Some frame → ack_answer w.sender frame ≢ AckBad
ack_good items w few held frame e =
    let says = ack_says items w held frame e in
    let ever = held.ever in
    let most = held.covers.most in
    let one = took_ack w.sender says.0 frame (omega (arith, says.1, ever, most, few)) (omega (arith, says.1, ever)) says.2 in
    one.good

-- Lose
loss_held : (items : List (List ℕ)) (w : World) → IsHeld items w → IsHeld items (after_loss w)
loss_held items w held =
    let acked = held.acked in
    let ever = held.ever in
    record {
      all = held.all;
      acked = held.acked;
      start = omega arith;
      covers = record { covered = omega arith; most = held.covers.most };
      ever = held.ever;
      back_to = tt;
      given = refl;
      carried = omega arith;
      stands = record { kept = held.stands.kept; within = held.acked; reached = omega arith; state = refl };
      acks = All-nil (SaysAtMost (length w.receiver.items));
    }

-- each event
pub event_held : (items : List (List ℕ)) (w : World) (event : StreamEvent) → CanSend items → IsHeld items w → IsHeld items (after_event w event)
event_held items w Next few held = next_held items w held (next_frame w.sender) refl
event_held items w GiveBack few held = give_back_held items w held (can_give_back w) refl
event_held items w Carry few held = carry_held items w few held (first_waiting w.forward) refl
event_held items w Ack few held = ack_held items w held
event_held items w CarryAck few held = carry_ack_held items w few held (first_waiting w.back) refl
event_held items w Lose few held = loss_held items w held

-- all events
pub events_held : (items : List (List ℕ)) (w : World) (events : List StreamEvent) → CanSend items → IsHeld items w → IsHeld items (fold after_event w events)
events_held items w [] few held = held
events_held items w (event ∷ events) few held = events_held items (after_event w event) events few (event_held items w event few held)
