-- Worked examples of the numbers of a pair's rings, of macros and of orders.
use Rattle.std.specs.Prelude.{◌≡◌, ℕ, [], ◌∷◌, length, replicate, true, false}
use Rattle.step_kinds.specs.declared.names.Side.TheVariants.{A, B}
use Rattle.step_kinds.specs.declared.plan.SidePlan.{SidePlan}
use Rattle.step_kinds.specs.declared.plan.PairPlan.{PairPlan}
use Rattle.step_kinds.specs.declared.steps.Label.TheVariants.{Chunk, Len, Ver, Flag, Down, Bell, Index, Pad, Raw}
use Rattle.step_kinds.specs.declared.steps.Step.TheVariants.{Begin, Post, Look, Copy, Clear, Ack}
use Rattle.lane_model.specs.Lane.{Carries}
use Rattle.order_rules.specs.Order.{Order}
use Rattle.pair_model.specs.Ethernet.{ethernet_frame}
use Rattle.pair_model.specs.Macros.{send, receive, posts_in, xmit}
use Rattle.pair_model.specs.Orders.{order_of}
use Rattle.pair_model.specs.Pieces.{pieces_of}
use Rattle.pair_model.specs.Sizes.{sizes_of, pieces_in}

-- a side of one window and one queue with 4,096 bytes
abbrev pub small_side : SidePlan
small_side = record { version = 4; queues = 1; windows = 1; size = 4096; cap = 4096 }

-- one pair of such sides with an mtu of 1,023
abbrev pub small_pair : PairPlan
small_pair =
    record {
      name = 112 ∷ [];
      a = small_side;
      b = small_side;
      mtu = 1023;
      up = true;
      strict = true;
      raw = false;
      class_a = replicate 16 0;
      class_b = replicate 16 0;
    }

abbrev pub pieces_pair : PairPlan
pieces_pair = record small_pair { a = record small_side { version = 5 }; b = record small_side { version = 5 } }

abbrev pub two_queues : PairPlan
two_queues = record small_pair { a = record small_side { queues = 2 }; b = record small_side { queues = 2 } }

-- a ring of four entries; on version 5 each has four bytes less, and a frame may take three of them
abbrev pub RingSizes : Type 0
RingSizes =
    (sizes_of small_pair A 0 ≡ record { entries = 4; largest = 1011; most = 1011 })
    × (sizes_of pieces_pair A 0 ≡ record { entries = 4; largest = 1007; most = 3021 })
    × (sizes_of two_queues B 1 ≡ record { entries = 2; largest = 1010; most = 1010 })
    × (sizes_of (record small_pair { mtu = 65536 }) A 0 ≡ record { entries = 2; largest = 2034; most = 2034 })

-- of a side that speaks 4 and one that speaks 5, both have headers of version 4; each side's ring has the sender's size
abbrev pub MixedSides : Type 0
MixedSides =
    (sizes_of (record small_pair { b = record small_side { version = 5 } }) B 0 ≡ record { entries = 4; largest = 1011; most = 1011 })
    × (sizes_of (record small_pair { b = record small_side { size = 8192 } }) A 0 ≡ record { entries = 4; largest = 1011; most = 1011 })
    × (sizes_of (record small_pair { b = record small_side { size = 8192 } }) B 0 ≡ record { entries = 8; largest = 1011; most = 1011 })

-- a frame takes as many pieces as its bytes fill
abbrev pub Pieces : Type 0
Pieces = (pieces_in 1007 1 ≡ 1) × (pieces_in 1007 1007 ≡ 1) × (pieces_in 1007 1008 ≡ 2) × (pieces_in 1007 3021 ≡ 3)

-- each piece says how many follow it, and the last one may be shorter
abbrev pub CutInPieces : Type 0
CutInPieces = (pieces_of 2 (1 ∷ 2 ∷ 3 ∷ []) ≡ Carries (1 ∷ 2 ∷ []) 1 ∷ Carries (3 ∷ []) 0 ∷ []) × (pieces_of 2 (1 ∷ 2 ∷ []) ≡ Carries (1 ∷ 2 ∷ []) 0 ∷ [])

-- as many posts as writes: chunks and four more, for each piece; a frame that is too long for version 4 counts as one
-- entry
abbrev pub Posts : Type 0
Posts =
    (posts_in small_pair A 0 1 ≡ 5) × (posts_in small_pair A 0 129 ≡ 6) × (posts_in small_pair A 0 1012 ≡ 12) × (posts_in pieces_pair A 0 1008 ≡ 17)
    × (send small_pair 0 A 0 (97 ∷ []) ≡ Begin 0 A 0 (97 ∷ []) ∷ Post 0 A 0 ∷ Post 0 A 0 ∷ Post 0 A 0 ∷ Post 0 A 0 ∷ Post 0 A 0 ∷ [])
    × (receive 0 B 0 2 ≡ Look 0 B 0 ∷ Copy 0 B 0 ∷ Copy 0 B 0 ∷ Clear 0 B 0 ∷ Ack 0 B 0 ∷ [])
    × (length (xmit small_pair 0 A 0 0 [] 2048 (replicate 115 0)) ≡ 7)

-- an Ethernet frame: destination, source, kind, payload
abbrev pub EthernetFrame : Type 0
EthernetFrame =
    ethernet_frame (2 ∷ 0 ∷ 0 ∷ 0 ∷ 0 ∷ 2 ∷ []) (2 ∷ 0 ∷ 0 ∷ 0 ∷ 0 ∷ 1 ∷ []) 2048 (97 ∷ [])
    ≡ 2 ∷ 0 ∷ 0 ∷ 0 ∷ 0 ∷ 2 ∷ 2 ∷ 0 ∷ 0 ∷ 0 ∷ 0 ∷ 1 ∷ 8 ∷ 0 ∷ 97 ∷ []

abbrev pub order : ℕ → ℕ → Order
order kind class = record { kind = kind; class = class }

abbrev pub classed_pair : PairPlan
classed_pair = record two_queues { strict = false; class_a = 0 ∷ 3 ∷ replicate 14 0 }

-- fields of entries and raw bytes are relaxed; a side's writes for a queue have that queue's class, index writes too
abbrev pub OrdersOfWrites : Type 0
OrdersOfWrites =
    (order_of classed_pair A (Chunk 1 0 0) ≡ order 0 3) × (order_of classed_pair A (Len 1 0) ≡ order 0 3) × (order_of classed_pair A (Ver 0 0) ≡ order 0 0)
    × (order_of classed_pair A (Flag 1 0) ≡ order 1 3) × (order_of classed_pair A (Down 1 0) ≡ order 1 3) × (order_of classed_pair A (Bell 1) ≡ order 1 3)
    × (order_of classed_pair A (Index 1 0) ≡ order 1 3) × (order_of classed_pair B (Index 1 0) ≡ order 1 0)
    × (order_of classed_pair A (Pad 1 2) ≡ order 1 0) × (order_of classed_pair A (Raw 1 0 4) ≡ order 0 0)
    × (order_of small_pair A (Chunk 0 0 0) ≡ order 1 0) × (order_of small_pair A (Raw 0 0 4) ≡ order 1 0)

pub record PlanExamplesHold : Type 0 where
  pub ring_sizes : RingSizes
  pub mixed_sides : MixedSides
  pub pieces : Pieces
  pub cut_in_pieces : CutInPieces
  pub posts : Posts
  pub frame_of_a_device : EthernetFrame
  pub orders_of_writes : OrdersOfWrites
