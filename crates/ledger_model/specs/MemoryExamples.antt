-- Worked examples of what memories show, and of the steps that read bytes or write more than one version of a header.
use Rattle.std.specs.Prelude.{◌≡◌, ℕ, List, [], ◌∷◌, ◌++◌, map, drop, take, replicate, true, false, Some}
use Rattle.step_kinds.specs.declared.names.Side.TheVariants.{A, B}
use Rattle.step_kinds.specs.declared.plan.PairPlan.{PairPlan}
use Rattle.step_kinds.specs.declared.steps.Label.TheVariants.{Chunk, Len, Ver, Flag, Bell, Index, Pad, Raw}
use Rattle.step_kinds.specs.declared.steps.Answer.{Answer}
use Rattle.step_kinds.specs.declared.steps.Answer.TheVariants.{Ok as Done, OkSession, OkNumber, Up, Joined, Closed, TooLong, Busy, Again, Idle, Posted, Blocked, Landed, PeerDown, VerDiffers, Long, ReadyFrame, Copied, Delivered, Cleared, Acked, Mem, QueueShown}
use Rattle.step_kinds.specs.declared.steps.Step.{Step}
use Rattle.step_kinds.specs.declared.steps.Step.TheVariants.{Enable, Train, Break, DropDone, Clean, Check, Ready, Join, Begin, Land, Look, Copy, Spad, Poke, ShowMem, ShowQueue}
use Rattle.ledger_model.specs.Examples.{small_side, small_pair, relaxed_pair, plan_of, letter, landed_answers, received_answers}
use Rattle.ledger_model.specs.Log.{log_of}
use Rattle.ledger_model.specs.Memory.{memory_of}
use Rattle.pair_model.specs.Macros.{send, land_all, receive, offer_all}

-- the answers to these steps on one pair
abbrev pub answers : PairPlan → List Step → List Answer
answers pair steps = map (λ made. made.answer) (log_of (plan_of pair []) (memory_of (plan_of pair [])) steps)

-- a header of version 4, and one of version 5, with one-byte numbers
abbrev pub header : ℕ → ℕ → ℕ → List ℕ
header ver len flags = ver ∷ 0 ∷ 0 ∷ 0 ∷ len ∷ 0 ∷ 0 ∷ 0 ∷ flags ∷ 0 ∷ 0 ∷ 0 ∷ []

abbrev pub word : ℕ → List ℕ
word value = value ∷ 0 ∷ 0 ∷ 0 ∷ []

-- Bytes shown

-- a frame's header ends its slot, the payload begins it, and the sender's index word says that no entry is taken
abbrev pub FrameInMemory : Type 0
FrameInMemory =
    drop 10 (answers small_pair (send small_pair 0 A 0 (1 ∷ 2 ∷ 3 ∷ 4 ∷ 5 ∷ []) ++ land_all 0 A 4 ++ ShowMem 0 B 1011 12 ∷ ShowMem 0 A 4092 4 ∷ ShowMem 0 B 0 5 ∷ []))
    ≡ Mem (header 0 5 1) ∷ Mem (word 3) ∷ Mem (1 ∷ 2 ∷ 3 ∷ 4 ∷ 5 ∷ []) ∷ []

-- two queues share a window: each ring has half of it
abbrev pub SecondQueueInMemory : Type 0
SecondQueueInMemory =
    drop 10
    (answers (record small_pair { a = record small_side { queues = 2 }; b = record small_side { queues = 2 } })
    (send small_pair 0 A 1 letter ++ land_all 0 A 4 ++ ShowMem 0 B 3058 12 ∷ ShowMem 0 A 4092 4 ∷ ShowMem 0 A 2044 4 ∷ []))
    ≡ Mem (header 0 1 1) ∷ Mem (word 1) ∷ Mem (word 1) ∷ []

-- frames both ways at once, each on a queue of its own
abbrev pub BothWays : Type 0
BothWays =
    drop 20
    (answers (record small_pair { a = record small_side { queues = 2 }; b = record small_side { queues = 2 } })
    (send small_pair 0 A 1 letter ++ send small_pair 0 B 0 (98 ∷ []) ++ land_all 0 A 4 ++ land_all 0 B 4
    ++ ShowMem 0 A 1010 12 ∷ receive 0 B 1 1 ++ receive 0 A 0 1 ++ Land 0 B 0 ∷ Land 0 B 0 ∷ ShowMem 0 A 4092 4 ∷ ShowMem 0 B 3066 4 ∷ []))
    ≡ Mem (header 0 1 1) ∷ received_answers 0 letter ++ received_answers 0 (98 ∷ [])
    ++ Landed (Bell 0) ∷ Landed (Index 1 0) ∷ Mem (word 0) ∷ Mem (word 0) ∷ []

-- Windows of unequal sizes: an index write goes where the writer's own window ends, and says a slot of the ring that it
-- received in.
abbrev pub UnequalSizes : Type 0
UnequalSizes =
    drop 12
    (answers (record small_pair { a = record small_side { cap = 8192 }; b = record small_side { size = 8192 } })
    (send small_pair 0 A 0 letter ++ send small_pair 0 A 0 letter
    ++ ShowMem 0 A 8188 4 ∷ ShowMem 0 B 4092 4 ∷ land_all 0 A 9 ++ receive 0 B 0 1 ++ receive 0 B 0 1
    ++ Land 0 B 0 ∷ ShowMem 0 A 8188 4 ∷ Land 0 B 0 ∷ ShowMem 0 A 8188 4 ∷ []))
    ≡ Mem (word 3) ∷ Mem (word 7) ∷ landed_answers 0 ++ take 4 (landed_answers 1) ++ received_answers 0 letter ++ received_answers 1 letter
    ++ Landed (Index 0 0) ∷ Mem (word 0) ∷ Landed (Index 0 1) ∷ Mem (word 1) ∷ []

-- with an mtu of 65,536 the largest windows have 4,095 entries
abbrev pub LargestWindow : Type 0
LargestWindow =
    drop 10
    (answers
    (record small_pair { a = record small_side { size = 268435456; cap = 268435456 }; b = record small_side { size = 268435456; cap = 268435456 }; mtu = 65536 })
    (send small_pair 0 A 0 letter ++ land_all 0 A 4 ++ ShowMem 0 B 65524 12 ∷ ShowMem 0 A 268435452 4 ∷ []))
    ≡ Mem (header 0 1 1) ∷ Mem (254 ∷ 15 ∷ 0 ∷ 0 ∷ []) ∷ []

-- after a drop and the sender's clean the receiver, which has not forgotten the session, still takes what landed
abbrev pub LookAfterTheSendersClean : Type 0
LookAfterTheSendersClean =
    drop 11 (answers small_pair (send small_pair 0 A 0 letter ++ land_all 0 A 5 ++ Break 0 ∷ DropDone 0 ∷ Clean 0 A ∷ receive 0 B 0 1 ++ Clean 0 B ∷ ShowMem 0 B 0 1 ∷ []))
    ≡ Done ∷ Done ∷ Done ∷ received_answers 0 letter ++ Done ∷ Mem letter ∷ []

-- a check that is answered up zeroes the headers and sets the index words
abbrev pub OldFlagsAreZeroed : Type 0
OldFlagsAreZeroed =
    drop 35
    (answers small_pair
    (send small_pair 0 A 0 letter ++ land_all 0 A 5 ++ Break 0 ∷ DropDone 0 ∷ Clean 0 A ∷ Clean 0 B ∷ Enable 0 A ∷ Enable 0 B ∷ Train 0
    ∷ offer_all 0 A 1 ++ offer_all 0 B 1 ++ land_all 0 A 5 ++ land_all 0 B 5
    ++ ShowMem 0 B 1011 12 ∷ Check 0 B ∷ ShowMem 0 B 1011 12 ∷ ShowMem 0 B 4092 4 ∷ ShowMem 0 B 0 1 ∷ []))
    ≡ take 3 (drop 2 landed) ++ Mem (header 0 1 1) ∷ Up ∷ Mem (header 0 0 0) ∷ Mem (word 3) ∷ Mem letter ∷ []
  where
    landed : List Answer
    landed = Landed (Pad 4 0) ∷ Landed (Pad 5 4096) ∷ Landed (Pad 3 1) ∷ Landed (Pad 2 1) ∷ Landed (Pad 0 4) ∷ []

-- Raw pairs

abbrev pub raw_pair : PairPlan
raw_pair = record relaxed_pair { raw = true }

-- a header past the transport: another version, a length that is too large, and then a frame that nobody sent
abbrev pub ForgedHeader : Type 0
ForgedHeader =
    answers raw_pair
    (Poke 0 A 0 1011 (header 7 1 1) ∷ Land 0 A 0 ∷ Look 0 B 0
    ∷ Poke 0 A 0 1011 (0 ∷ 0 ∷ 0 ∷ 0 ∷ 244 ∷ 3 ∷ 0 ∷ 0 ∷ 1 ∷ 0 ∷ 0 ∷ 0 ∷ []) ∷ Land 0 A 0 ∷ Look 0 B 0
    ∷ Poke 0 A 0 1011 (header 0 2 1) ∷ Land 0 A 0 ∷ receive 0 B 0 1)
    ≡ Done ∷ Landed (Raw 0 1011 12) ∷ VerDiffers 7 0 ∷ Done ∷ Landed (Raw 0 1011 12) ∷ Long 1012 1011
    ∷ Done ∷ Landed (Raw 0 1011 12) ∷ received_answers 0 (0 ∷ 0 ∷ [])

-- an index word that names no slot counts as no room
abbrev pub ForgedIndexWord : Type 0
ForgedIndexWord = answers raw_pair (Poke 0 B 0 4092 (word 9) ∷ Land 0 B 0 ∷ Begin 0 A 0 letter ∷ [])
    ≡ Done ∷ Landed (Raw 0 4092 4) ∷ Again 0 9 ∷ []

-- flags alone: a frame without bytes takes one copy
abbrev pub EmptyFrame : Type 0
EmptyFrame = answers raw_pair (Poke 0 A 0 1019 (word 1) ∷ Land 0 A 0 ∷ receive 0 B 0 1)
    ≡ Done ∷ Landed (Raw 0 1019 4) ∷ received_answers 0 []

-- flags of a link-down entry that nobody sent
abbrev pub ForgedLinkDown : Type 0
ForgedLinkDown = answers raw_pair (Poke 0 A 0 1019 (word 3) ∷ Land 0 A 0 ∷ Look 0 B 0 ∷ Look 0 B 0 ∷ [])
    ≡ Done ∷ Landed (Raw 0 1019 4) ∷ PeerDown ∷ Closed ∷ []

-- scratchpads that a script writes agree as well as those of an offer; sizes of 0 fit
abbrev pub ForgedOffer : Type 0
ForgedOffer =
    answers (record raw_pair { up = false }) (Enable 0 A ∷ Enable 0 B ∷ Train 0 ∷ Spad 0 B 0 4 ∷ Spad 0 B 2 1 ∷ Spad 0 B 3 1 ∷ land_all 0 B 3 ++ Check 0 A ∷ [])
    ≡ Done ∷ Done ∷ OkSession 1 ∷ Done ∷ Done ∷ Done ∷ Landed (Pad 0 4) ∷ Landed (Pad 2 1) ∷ Landed (Pad 3 1) ∷ Up ∷ []

-- a frame that is overwritten between two copies comes as it is at each
abbrev pub OverwrittenWhileCopied : Type 0
OverwrittenWhileCopied =
    drop 11
    (answers raw_pair
    (send raw_pair 0 A 0 (replicate 129 7) ++ land_all 0 A 5 ++ Look 0 B 0 ∷ Copy 0 B 0 ∷ Poke 0 A 0 127 (8 ∷ 8 ∷ []) ∷ Land 0 A 1 ∷ Copy 0 B 0 ∷ []))
    ≡ Landed (Flag 0 0) ∷ ReadyFrame 0 129 ∷ Copied 0 0 ∷ Done ∷ Landed (Raw 0 127 2) ∷ Delivered 0 (replicate 128 7 ++ 8 ∷ []) ∷ []

-- what goes through a window that the peer lacks is posted and lost; the doorbell goes through none
abbrev pub WindowThatThePeerLacks : Type 0
WindowThatThePeerLacks =
    drop 13
    (answers (record raw_pair { up = false; a = record small_side { windows = 2; queues = 2 }; b = record small_side { queues = 2 } })
    (Enable 0 A ∷ Enable 0 B ∷ Train 0 ∷ Spad 0 B 0 4 ∷ Spad 0 B 2 2 ∷ Spad 0 B 3 2 ∷ Spad 0 B 1 2 ∷ land_all 0 B 4
    ++ Check 0 A ∷ Ready 0 A 1 ∷ Join 0 A 1 ∷ send raw_pair 0 A 1 letter ++ ShowQueue 0 A 1 ∷ []))
    ≡ Joined ∷ OkNumber 0 ∷ Posted (Chunk 1 0 0) ∷ Posted (Len 1 0) ∷ Posted (Ver 1 0) ∷ Posted (Flag 1 0) ∷ Posted (Bell 1) ∷ QueueShown 2 (Some (Bell 1)) ∷ []

-- Version 5

abbrev pub pieces_pair : PairPlan
pieces_pair = record small_pair { a = record small_side { version = 5 }; b = record small_side { version = 5 } }

-- a frame may take all entries that a ring can have free, and no byte more
abbrev pub LongestFrame : Type 0
LongestFrame = answers pieces_pair (Begin 0 A 0 (replicate 3022 7) ∷ Begin 0 A 0 (replicate 3021 7) ∷ Begin 0 A 0 letter ∷ [])
    ≡ TooLong 3022 3021 ∷ OkNumber 0 ∷ Busy ∷ []

-- the writes of a frame of two pieces: eight chunks and one
abbrev pub posted_pieces : List Answer
posted_pieces =
    OkNumber 0 ∷ map (λ part. Posted (Chunk 0 0 part)) (0 ∷ 1 ∷ 2 ∷ 3 ∷ 4 ∷ 5 ∷ 6 ∷ 7 ∷ [])
    ++ Posted (Len 0 0) ∷ Posted (Ver 0 0) ∷ Posted (Flag 0 0) ∷ Posted (Bell 0)
    ∷ Posted (Chunk 0 1 0) ∷ Posted (Len 0 1) ∷ Posted (Ver 0 1) ∷ Posted (Flag 0 1) ∷ Posted (Bell 0) ∷ []

-- each entry says in its header how many follow it, and the last copy of the last entry delivers the whole frame
abbrev pub FrameInPieces : Type 0
FrameInPieces =
    drop 34
    (answers pieces_pair
    (send pieces_pair 0 A 0 (replicate 1008 7) ++ land_all 0 A 16 ++ ShowMem 0 B 1007 16 ∷ ShowMem 0 B 2030 16 ∷ receive 0 B 0 8 ++ receive 0 B 0 1))
    ≡ Mem (word 1 ++ word 0 ++ 239 ∷ 3 ∷ 0 ∷ 0 ∷ word 1) ∷ Mem (word 0 ++ word 1 ++ word 1 ++ word 1)
    ∷ ReadyFrame 0 1007 ∷ map (Copied 0) (0 ∷ 1 ∷ 2 ∷ 3 ∷ 4 ∷ 5 ∷ 6 ∷ 7 ∷ []) ++ Cleared 0 ∷ Acked 0
    ∷ ReadyFrame 1 1 ∷ Delivered 0 (replicate 1008 7) ∷ Cleared 1 ∷ Acked 1 ∷ []

-- a second frame of two pieces needs two entries, and one is free
abbrev pub NoRoomForTwoPieces : Type 0
NoRoomForTwoPieces =
    answers pieces_pair (send pieces_pair 0 A 0 (replicate 1008 7) ++ send pieces_pair 0 A 0 (replicate 1008 7))
    ≡ posted_pieces ++ Again 2 3 ∷ replicate 17 Idle

-- a side of version 4 comes up with a peer whose scratchpads say version 5
abbrev pub OlderVersionIsSpoken : Type 0
OlderVersionIsSpoken =
    drop 12
    (answers (record small_pair { up = false; b = record small_side { version = 5 } })
    (Enable 0 A ∷ Enable 0 B ∷ Train 0 ∷ offer_all 0 B 1 ++ land_all 0 B 5 ++ Check 0 A ∷ []))
    ≡ Landed (Pad 0 5) ∷ Up ∷ []

-- Traffic classes

abbrev pub two_queues : List ℕ → PairPlan
two_queues classes = record small_pair { a = record small_side { queues = 2 }; b = record small_side { queues = 2 }; class_a = classes }

abbrev pub one_of_class_3 : List ℕ
one_of_class_3 = 0 ∷ 3 ∷ replicate 14 0

-- a strict write passes those of another class, and none of its own
abbrev pub ClassesPass : Type 0
ClassesPass =
    drop 12
    (answers (two_queues one_of_class_3)
    (send small_pair 0 A 0 letter ++ send small_pair 0 A 1 (98 ∷ []) ++ Land 0 A 5 ∷ Land 0 A 6 ∷ Land 0 A 5 ∷ Land 0 A 5 ∷ Land 0 A 5 ∷ receive 0 B 1 1))
    ≡ Landed (Chunk 1 0 0) ∷ Blocked ∷ Landed (Len 1 0) ∷ Landed (Ver 1 0) ∷ Landed (Flag 1 0) ∷ received_answers 0 (98 ∷ [])

abbrev pub OneClassWaits : Type 0
OneClassWaits = drop 12 (answers (two_queues (replicate 16 0)) (send small_pair 0 A 0 letter ++ send small_pair 0 A 1 (98 ∷ []) ++ Land 0 A 5 ∷ [])) ≡ Blocked ∷ []

pub record MemoryExamplesHold : Type 0 where
  pub frame_in_memory : FrameInMemory
  pub second_queue_in_memory : SecondQueueInMemory
  pub both_ways : BothWays
  pub unequal_sizes : UnequalSizes
  pub largest_window : LargestWindow
  pub look_after_the_senders_clean : LookAfterTheSendersClean
  pub old_flags_are_zeroed : OldFlagsAreZeroed
  pub forged_header : ForgedHeader
  pub forged_index_word : ForgedIndexWord
  pub empty_frame : EmptyFrame
  pub forged_link_down : ForgedLinkDown
  pub forged_offer : ForgedOffer
  pub overwritten_while_copied : OverwrittenWhileCopied
  pub window_that_the_peer_lacks : WindowThatThePeerLacks
  pub longest_frame : LongestFrame
  pub frame_in_pieces : FrameInPieces
  pub no_room_for_two_pieces : NoRoomForTwoPieces
  pub older_version_is_spoken : OlderVersionIsSpoken
  pub classes_pass : ClassesPass
  pub one_class_waits : OneClassWaits
