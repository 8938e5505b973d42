-- The law of the ring is kept by each step, whatever was lost: one lemma for each law of this crate.
use Rattle.std.proofs.Common.{◌≡◌, ℕ, ◌≤◌, [], ◌∷◌, ◌++◌, length, ◌∙◌, ap, inl, inr, arith, le-ltb}
use Rattle.std.proofs.lemmas.Bool.{cond-false, cases_lt, cases_Bool}
use Rattle.lane_model.specs.Lane.{Lane}
use Rattle.lane_model.specs.Law.{Sender, owner_of, lane_entry_at}
use Rattle.lane_laws.specs.Laws.{LookSees, CopySees, FreshHolds, BeginKeeps, PostKeeps, LandDataKeeps, LandFlagKeeps, LandBellKeeps, FlagIsNext, DataIsAhead, NothingLeft, LookKeeps, CopyKeeps, ClearKeeps, AckKeeps, IndexKeeps, CutKeeps, DropKeeps, ForgetKeeps, LaneFreeIsRoom, IndexIsNext, EachHasOneOwner}
use Rattle.lane_laws.proofs.Numbers as numbers
use Rattle.lane_laws.proofs.Receiver as receiver
use Rattle.lane_laws.proofs.Sender as sender
use Rattle.lane_laws.proofs.LandedWrites as landing

-- The law of the ring holds of a lane at the start of its session, whatever payloads stand in its slots.
pub fresh_holds : FreshHolds
fresh_holds lane fresh = ([], [], sender.fresh_holds lane fresh)

-- Under the law of the ring, head and index word show as many free entries as the counts of begun and freed do.
pub free_is_room : LaneFreeIsRoom
free_is_room lane law = sender.free_is_room law.0 law.1 lane law.2

-- Beginning an entry that fits keeps the law of the ring where there is room, nothing to post and no link-down entry.
pub begin_keeps : BeginKeeps
begin_keeps lane entry no_todo free fits open_yet law = (law.0, law.1, sender.begin_keeps law.0 law.1 lane entry no_todo free fits open_yet law.2)

-- The law of the ring is kept when the sender posts its next write, whether the link is up or lost.
pub post_keeps : PostKeeps
post_keeps lane write rest front law = elim (cases_Bool lane.up) [
  | inl up ↦ (law.0, law.1, sender.post_keeps law.0 law.1 lane write rest front up law.2)
  | inr down ↦ (law.0 ++ write ∷ [], law.1, sender.post_keeps_lost law.0 law.1 lane write rest front down law.2)
]

-- The law of the ring is kept when a field of an entry lands, whatever writes it passes in flight.
pub land_data_keeps : LandDataKeeps
land_data_keeps lane n field before behind middle law = (law.0, law.1, landing.land_data_keeps law.0 law.1 lane n field before behind middle law.2)

-- The law of the ring is kept when an entry's flags land that are first in flight.
pub land_flag_keeps : LandFlagKeeps
land_flag_keeps lane n rest front law = (law.0, law.1, landing.land_flag_keeps law.0 law.1 lane n rest front law.2)

-- The law of the ring is kept when a doorbell lands that is first in flight.
pub land_bell_keeps : LandBellKeeps
land_bell_keeps lane rest front law = (law.0, law.1, landing.land_bell_keeps law.0 law.1 lane rest front law.2)

-- The law of the ring is kept when an idle receiver finds an entry whose flags have landed.
pub look_keeps : LookKeeps
look_keeps lane idle more law = (law.0, law.1, receiver.look_keeps law.0 law.1 lane idle more law.2)

-- The law of the ring is kept when a copying receiver copies the next part of its entry.
pub copy_keeps : CopyKeeps
copy_keeps lane copying law = (law.0, law.1, receiver.copy_keeps law.0 law.1 lane copying law.2)

-- The law of the ring is kept when the receiver clears the flags of the entry that it has copied.
pub clear_keeps : ClearKeeps
clear_keeps lane copied law = (law.0, law.1, receiver.clear_keeps law.0 law.1 lane copied law.2)

-- The law of the ring is kept when the receiver posts a cleared entry's index write, with the link up or lost.
pub ack_keeps : AckKeeps
ack_keeps lane cleared law = elim (cases_Bool lane.up) [
  | inl up ↦ (law.0, law.1, receiver.ack_keeps law.0 law.1 lane cleared up law.2)
  | inr down ↦ (law.0, law.1 ++ lane.acked ∷ [], receiver.ack_keeps_lost law.0 law.1 lane cleared down law.2)
]

-- The law of the ring is kept when the first index write in flight lands.
pub index_keeps : IndexKeeps
index_keeps lane n rest front law = (law.0, law.1, receiver.index_keeps law.0 law.1 lane n rest front law.2)

-- The law of the ring is kept when the link is lost.
pub cut_keeps : CutKeeps
cut_keeps lane law = (law.0, law.1, receiver.cut_keeps law.0 law.1 lane law.2)

-- The law of the ring is kept when all that is in flight on a lost link is dropped.
pub drop_keeps : DropKeeps
drop_keeps lane down law = (lane.flight ++ law.0, lane.returning ++ law.1, receiver.drop_keeps law.0 law.1 lane down law.2)

-- The law of the ring is kept when the sender of a lost session forgets what it had left to post.
pub forget_keeps : ForgetKeeps
forget_keeps lane down law = (law.0 ++ lane.todo, law.1, sender.forget_keeps law.0 law.1 lane down law.2)

-- Under the law of the ring, an idle receiver reads no flags where no further entry landed, and else the entry whole.
pub look_sees : LookSees
look_sees lane idle law = receiver.look_sees law.0 law.1 lane idle law.2

-- Under the law of the ring, a copying receiver has its entry whole in the slot, and a part of it left to copy.
pub copy_sees : CopySees
copy_sees lane copying law = receiver.copy_sees law.0 law.1 lane copying law.2

-- Under the law of the ring, the first index write in flight is that of the first entry not given back.
pub index_is_next : IndexIsNext
index_is_next lane n rest front law =
    let next = receiver.index_is_next law.0 law.1 lane n rest front law.2 in (next.0, next.1)

-- Under the law of the ring, flags that are first in flight are those of the first begun entry without flags.
pub flag_is_next : FlagIsNext
flag_is_next lane n rest front law =
    let next = landing.flag_is_next law.0 law.1 lane n rest front law.2 in (next.0, next.1)

-- Under the law of the ring, a field in flight is one of a begun entry whose flags haven't landed.
pub data_is_ahead : DataIsAhead
data_is_ahead lane n field among law = landing.data_is_ahead law.0 law.1 lane n field among law.2

-- With the link up and nothing in flight or left to post, the flags of every begun entry have landed.
pub nothing_left : NothingLeft
nothing_left lane up no_flight no_todo law = landing.nothing_left law.0 law.1 lane up no_flight no_todo law.2

-- an entry that was not begun is the sender's
not_begun : (lane : Lane) (n : ℕ) → lane.freed ≤ n → lane.acked ≤ n → lane.got ≤ n → lane.flagged ≤ n → length lane.sent ≤ n → owner_of lane n ≡ Sender
not_begun lane n a b c d e =
    cond-false _ _ _ (le-ltb n lane.freed a)
    ∙ cond-false _ _ _ (le-ltb n lane.acked b)
    ∙ cond-false _ _ _ (le-ltb n lane.got c)
    ∙ cond-false _ _ _ (le-ltb n lane.flagged d)
    ∙ cond-false _ _ _ (le-ltb n (length lane.sent) e)

-- Under the law of the ring, each slot has one owner: that of its entry not given back, or else the sender.
pub each_has_one_owner : EachHasOneOwner
each_has_one_owner lane law =
    let h = law.2 in record {
      of_entry = λ n low high. ap (owner_of lane) (numbers.number_at lane.entries lane.freed n low (omega arith));
      of_none = λ slot below none.
          let at = numbers.number_from lane.entries lane.freed slot below in
          elim (cases_lt (lane_entry_at lane slot) (length lane.sent)) [
            | inl begun ↦ absurd (none (lane_entry_at lane slot) at.0 begun at.2)
            | inr free ↦ not_begun lane (lane_entry_at lane slot) (omega arith) (omega arith) (omega arith) (omega arith) free
          ];
    }
