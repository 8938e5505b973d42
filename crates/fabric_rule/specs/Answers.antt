-- The answers of a pair's parts in the words of a script.
use Rattle.std.specs.Prelude.{ℕ, Bool, true, false, Option, Some, None}
use Rattle.step_kinds.specs.declared.lanes.LaneCopy.{LaneCopy}
use Rattle.step_kinds.specs.declared.lanes.LaneCopy.TheVariants.{Part, Whole, OutOfTurn as NotCopying}
use Rattle.step_kinds.specs.declared.steps.Answer.{Answer}
use Rattle.step_kinds.specs.declared.steps.Answer.TheVariants as answer
use Rattle.step_kinds.specs.declared.steps.Label.{Label}
use Rattle.pair_model.specs.declared.LinkRefusal.{LinkRefusal}
use Rattle.pair_model.specs.declared.LinkRefusal.TheVariants.{NotDown, Dirty, NotEnabled, NotUp, NotClosing, SessionsSpent}
use Rattle.pair_model.specs.Refusals.{Test, OfLink, OfJoined, OfClosed, OfLength, OfBusy, OfDevice, in_begin_order}
use Rattle.posted_queue.specs.declared.LandAnswer.{LandAnswer}
use Rattle.posted_queue.specs.declared.LandAnswer.TheVariants.{Landed, Blocked, Nothing}
use Rattle.hand_shake.specs.declared.OfferAnswer.{OfferAnswer}
use Rattle.hand_shake.specs.declared.OfferAnswer.TheVariants as offer
use Rattle.hand_shake.specs.declared.CheckAnswer.{CheckAnswer}
use Rattle.hand_shake.specs.declared.CheckAnswer.TheVariants as check
use Rattle.hand_shake.specs.declared.ReadyAnswer.{ReadyAnswer}
use Rattle.hand_shake.specs.declared.ReadyAnswer.TheVariants as ready
use Rattle.hand_shake.specs.declared.JoinAnswer.{JoinAnswer}
use Rattle.hand_shake.specs.declared.JoinAnswer.TheVariants as join
use Rattle.queue_pair.specs.declared.BeginAnswer.{BeginAnswer}
use Rattle.queue_pair.specs.declared.BeginAnswer.TheVariants as begin
use Rattle.queue_pair.specs.declared.LookAnswer.{LookAnswer}
use Rattle.queue_pair.specs.declared.LookAnswer.TheVariants as look

abbrev pub of_refusal : LinkRefusal → Answer
of_refusal NotDown = answer.NotDown
of_refusal Dirty = answer.Dirty
of_refusal NotEnabled = answer.NotEnabled
of_refusal NotUp = answer.NotUp
of_refusal NotClosing = answer.NotClosing
of_refusal SessionsSpent = answer.Spent

-- the refusal, if there is one
abbrev pub of_link : Option LinkRefusal → Answer → Answer
of_link None done = done
of_link (Some refusal) done = of_refusal refusal

-- The handshake's answers, in the order of its tests

abbrev pub of_offer : OfferAnswer → Answer
of_offer offer.LinkDown = answer.LinkDown
of_offer offer.Already = answer.Already
of_offer (offer.Offered index) = answer.Offered index

abbrev pub of_check : CheckAnswer → Answer
of_check check.LinkDown = answer.LinkDown
of_check check.Already = answer.Already
of_check check.NotYet = answer.NotYet
of_check (check.Version seen own) = answer.Version seen own
of_check (check.Queues seen own) = answer.Queues seen own
of_check (check.Windows seen own) = answer.Windows seen own
of_check (check.Size seen cap) = answer.Size seen cap
of_check check.Up = answer.Up

abbrev pub of_ready : ReadyAnswer → Answer
of_ready ready.LinkDown = answer.LinkDown
of_ready ready.NotChecked = answer.NotChecked
of_ready ready.Already = answer.Already
of_ready ready.Ok = answer.Ok

abbrev pub of_join : JoinAnswer → Answer
of_join join.LinkDown = answer.LinkDown
of_join join.NotReady = answer.NotReady
of_join join.Already = answer.Already
of_join join.NotYet = answer.NotYet
of_join join.Joined = answer.Joined

abbrev pub of_begin : BeginAnswer → Answer
of_begin (begin.Ok number) = answer.OkNumber number
of_begin begin.LinkDown = answer.LinkDown
of_begin begin.NotReady = answer.NotReady
of_begin begin.Closed = answer.Closed
of_begin (begin.TooLong len most) = answer.TooLong len most
of_begin begin.Busy = answer.Busy
of_begin (begin.NoRoom head tail) = answer.Again head tail

-- how each test refuses a stopped device's frame, of a begin that is answered so on the queue
abbrev pub refuses_stopped : BeginAnswer → Test → Answer → Answer
refuses_stopped begin.LinkDown OfLink otherwise = answer.LinkDown
refuses_stopped begin.NotReady OfJoined otherwise = answer.NotReady
refuses_stopped begin.Closed OfClosed otherwise = answer.Closed
refuses_stopped (begin.TooLong len most) OfLength otherwise = answer.TooLong len most
refuses_stopped begin.Busy OfBusy otherwise = answer.Busy
refuses_stopped begun OfDevice otherwise = answer.Stopped
refuses_stopped begun test otherwise = otherwise

-- the first of them that refuses, case by case, so that it is one answer for each
abbrev pub of_stopped : BeginAnswer → Answer
of_stopped (begin.Ok number) = in_begin_order (refuses_stopped (begin.Ok number)) (answer.OkNumber number)
of_stopped begin.LinkDown = in_begin_order (refuses_stopped begin.LinkDown) answer.LinkDown
of_stopped begin.NotReady = in_begin_order (refuses_stopped begin.NotReady) answer.NotReady
of_stopped begin.Closed = in_begin_order (refuses_stopped begin.Closed) answer.Closed
of_stopped (begin.TooLong len most) = in_begin_order (refuses_stopped (begin.TooLong len most)) (answer.TooLong len most)
of_stopped begin.Busy = in_begin_order (refuses_stopped begin.Busy) answer.Busy
of_stopped (begin.NoRoom head tail) = in_begin_order (refuses_stopped (begin.NoRoom head tail)) (answer.Again head tail)

-- of a device's frame
abbrev pub of_xbegin : Bool → BeginAnswer → Answer
of_xbegin true begun = of_stopped begun
of_xbegin false begun = of_begin begun

abbrev pub of_post : Option Label → Answer
of_post None = answer.Idle
of_post (Some label) = answer.Posted label

abbrev pub of_land : LandAnswer Label → Answer
of_land (Landed label) = answer.Landed label
of_land Blocked = answer.Blocked
of_land Nothing = answer.Nothing

abbrev pub of_look : LookAnswer → Answer
of_look (look.Ready number len) = answer.ReadyFrame number len
of_look look.Empty = answer.Empty
of_look look.PeerDown = answer.PeerDown
of_look (look.VerDiffers seen own) = answer.VerDiffers seen own
of_look (look.Long len most) = answer.Long len most
of_look look.OutOfTurn = answer.OutOfTurn
of_look look.NotReady = answer.NotReady
of_look look.Closed = answer.Closed

abbrev pub of_copy : LaneCopy → Answer
of_copy (Part number part) = answer.Copied number part
of_copy (Whole number frame) = answer.Delivered number frame
of_copy NotCopying = answer.OutOfTurn

abbrev pub of_clear : Option ℕ → Answer
of_clear None = answer.OutOfTurn
of_clear (Some number) = answer.Cleared number

abbrev pub of_ack : Option ℕ → Answer
of_ack None = answer.OutOfTurn
of_ack (Some number) = answer.Acked number
