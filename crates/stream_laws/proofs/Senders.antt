-- A sender's frames, and the acknowledgements that it takes.
use Rattle.std.proofs.Common.{◌≡◌, ◌≢◌, ℕ, ◌^◌, ◌<◌, ◌≤◌, ◌⊎◌, inl, inr, max, Bool, cond, ltb, List, [], ◌∷◌, ◌++◌, Option, Some, None, unwrap_or, refl, sym, ap, ◌∙◌, subst, arith}
use Rattle.std.specs.List.{All, fold}
use Rattle.std.proofs.lemmas.List.Elements.{All-head, All-tail}
use Rattle.std.proofs.lemmas.Bool.{cases_lt, le-ltb, lt-ltb}
use Rattle.stream_model.specs.Numbers.{SaysAtMost, largest_in, number_frame, number_in}
use Rattle.stream_model.specs.Sender.{Sender, ack_answer, ack_taken, sender_after_ack, frames_of, most_items, next_frame, number_answer, one_given}
use Rattle.stream_model.specs.declared.AckAnswer.{AckAnswer}
use Rattle.stream_model.specs.declared.AckAnswer.TheVariants.{Newer, Old, Bad}
use Rattle.stream_laws.specs.Laws.{given_by}
use Rattle.stream_laws.proofs.Lists.{take_next}
use Rattle.stream_laws.proofs.Numbers.{number_in-number_frame}

-- The frame that a sender gives next stands after all that it gave in the session before.
pub next_follows : (sender : Sender) (frame : List ℕ) → next_frame sender ≡ Some frame → given_by (one_given sender) ≡ given_by sender ++ frame ∷ []
next_follows sender frame e = take_next (frames_of sender) sender.place.given frame e

-- an acknowledgement of a number that is at most what was ever given: its number counts where it is above the last
pub record TookAckOf (sender : Sender) (number : ℕ) (after : Sender) (answer : AckAnswer) : Type 0 where
  pub acked : after.acked ≡ max sender.acked number
  pub items : after.items ≡ sender.items
  pub start : after.start ≡ sender.start
  pub place : after.place ≡ sender.place
  pub before : (after.before ≡ sender.before) ⊎ (after.before ≡ None)
  pub good : answer ≢ Bad

newer : (sender : Sender) (number : ℕ) → number ≤ sender.place.ever → sender.acked < number → number_answer sender (Some number) ≡ Newer
newer sender number most above =
    ap (λ (b : Bool). cond b Bad (cond (ltb sender.acked number) Newer Old)) (le-ltb sender.place.ever number most) ∙ ap (λ (b : Bool). cond b Newer Old) (lt-ltb sender.acked number above)

old : (sender : Sender) (number : ℕ) → number ≤ sender.place.ever → number ≤ sender.acked → number_answer sender (Some number) ≡ Old
old sender number most below =
    ap (λ (b : Bool). cond b Bad (cond (ltb sender.acked number) Newer Old)) (le-ltb sender.place.ever number most) ∙ ap (λ (b : Bool). cond b Newer Old) (le-ltb sender.acked number below)

took_number : (sender : Sender) (number : ℕ) → number ≤ sender.place.ever → TookAckOf sender number (sender_after_ack sender number (number_answer sender (Some number))) (number_answer sender (Some number))
took_number sender number most =
    let P : AckAnswer → Type 0 = λ answer. TookAckOf sender number (sender_after_ack sender number answer) answer in
    elim (cases_lt sender.acked number) [
      | inl above ↦ subst P (sym (newer sender number most above)) (record { acked = omega arith; items = refl; start = refl; place = refl; before = inr refl; good = λ bad. cc })
      | inr below ↦ subst P (sym (old sender number most below)) (record { acked = omega arith; items = refl; start = refl; place = refl; before = inl refl; good = λ bad. cc })
    ]

-- An acknowledgement of no more than was ever given counts if it is above the last one, and is never bad.
pub took_ack : (sender : Sender) (number : ℕ) (frame : List ℕ) → number < 2 ^ 32 → number ≤ sender.place.ever → frame ≡ number_frame number
    → TookAckOf sender number (ack_taken sender frame) (ack_answer sender frame)
took_ack sender number frame small most e =
    let said : number_in frame ≡ Some number = ap number_in e ∙ number_in-number_frame number small in
    let P : Option ℕ → Type 0 = λ o. TookAckOf sender number (sender_after_ack sender (unwrap_or o 0) (number_answer sender o)) (number_answer sender o) in
    subst P (sym said) (took_number sender number most)

-- Of acknowledgements that say no more than was ever given, the largest counts, if it is above the last one.
pub largest_counts : (sender : Sender) (frames : List (List ℕ)) → sender.place.ever < most_items → All (SaysAtMost sender.place.ever) frames
    → (fold ack_taken sender frames).acked ≡ max sender.acked (largest_in frames)
largest_counts sender [] few all = omega arith
largest_counts sender (frame ∷ frames) few all =
    let h = All-head (SaysAtMost sender.place.ever) frame frames all in
    let one = took_ack sender h.0 frame (omega (arith, h.1, few)) h.1 h.2 in
    let ever : sender.place.ever ≡ (ack_taken sender frame).place.ever = ap (λ place. place.ever) (sym one.place) in
    let rest : All (SaysAtMost (ack_taken sender frame).place.ever) frames =
    subst (λ (n : ℕ). All (SaysAtMost n) frames) ever (All-tail (SaysAtMost sender.place.ever) frame frames all) in
    let more = largest_counts (ack_taken sender frame) frames (subst (λ (n : ℕ). n < most_items) ever few) rest in
    let said : unwrap_or (number_in frame) 0 ≡ h.0 = ap (λ (o : Option ℕ). unwrap_or o 0) (ap number_in h.2 ∙ number_in-number_frame h.0 (omega (arith, h.1, few))) in
    let acked = one.acked in
    more ∙ omega (arith, acked, said)
