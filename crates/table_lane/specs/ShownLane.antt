-- The lane that a table shows: words, slots and parts on one side, a lane of the model on the other.
use Rattle.std.specs.Prelude.{◌≡◌, ℕ, suc, ◌+◌, ◌-◌, ◌%◌, ◌^◌, ◌<◌, ◌≤◌, Bool, true, false, List, [], ◌∷◌, ◌++◌, length, map, take, drop, slice_index, slice_index_or, if◌then◌else◌, nat_lt, ◌⊎◌}
use Rattle.step_kinds.specs.Limits.{most_count, most_frame_bytes, most_traffic_entries}
use Rattle.table_lane.specs.LaneNames.{tail_of, Entry, entry_of_frame, Write, Flag, Bell, data_of, Slot, Lane, HoldsRingLaw, Phase, Idle, Copying, Copied, Cleared}
use Rattle.table_lane.specs.Words.{Words, table_header_of, cut_word}
use Rattle.table_lane.specs.Views.{TableBytes}
use Rattle.table_lane.specs.Borders.{Borders, Slots, TableSlotsStand}

-- What is on its way of the entries from number n on: all writes of each, without its fields where its header is
-- stored.
abbrev pub table_in_flight : ℕ → List Bool → List Entry → List Write
table_in_flight n stored [] = []
table_in_flight n stored (entry ∷ entries) = (if slice_index_or stored 0 false then [] else data_of n entry) ++ Flag n ∷ Bell ∷ table_in_flight (suc n) (drop 1 stored) entries

-- a ring of N entries that is never cut: a cut word refuses frames, and all else goes on
pub record IsTableLane (N : ℕ) (lane : Lane) : Type 0 where
  pub entries : lane.entries ≡ N
  pub largest : lane.largest ≡ most_frame_bytes
  pub up : lane.up ≡ true
  pub todo : lane.todo ≡ []
  pub small : N ≤ most_traffic_entries

-- the counts, the frames and the list in flight of the lane are those of the parts
pub record PartsSay (lane : Lane) (sent : List TableBytes) (flagged : ℕ) (stored : List Bool) (got : ℕ) (phase : Phase) (freed : ℕ) : Type 0 where
  pub entries : lane.sent ≡ map entry_of_frame sent
  pub whole : lane.flagged ≡ flagged
  pub flight : lane.flight ≡ table_in_flight flagged stored (drop flagged lane.sent)
  pub copied : lane.got ≡ got
  pub stage : lane.phase ≡ phase
  pub given_back : lane.freed ≡ freed

-- posted headers: of the newest entry at each position
pub record PostedStand (N : ℕ) (posted : List ℕ) (sent : ℕ) : Type 0 where
  pub newest : (n : ℕ) → n < sent → sent ≤ n + N → slice_index posted (n % N) ≡ table_header_of n
  pub never : (position : ℕ) → sent ≤ position → position < N → slice_index posted position ≡ 0

-- whether the header of an entry is stored: its flag is stored, or the mover holds it with that mark
abbrev pub header_stands : ℕ → List Bool → ℕ → Bool
header_stands flagged stored n = if nat_lt n flagged then true else slice_index_or stored (n - flagged) false

-- headers: of the newest stored entry at each position
pub record HeadersStand (N : ℕ) (headers : List ℕ) (flagged : ℕ) (stored : List Bool) : Type 0 where
  pub newest : (n : ℕ) → header_stands flagged stored n ≡ true → header_stands flagged stored (n + N) ≡ false → slice_index headers (n % N) ≡ table_header_of n
  pub never : (position : ℕ) → position < N → header_stands flagged stored position ≡ false → slice_index headers position ≡ 0

-- the ring of the lane has the low 32 bits of the headers for versions, and the flags; its payloads are in the slots
pub record RingStands (ring : List Slot) (headers flags : List ℕ) : Type 0 where
  pub versions : map (λ slot. slot.ver) ring ≡ map (λ header. header % 2 ^ 32) headers
  pub raised : map (λ slot. slot.flags) ring ≡ flags

-- the number of the entry from `freed` on whose position an index names
abbrev pub number_at : ℕ → ℕ → ℕ → ℕ
number_at N freed index = freed + (index + N - freed % N) % N

-- index words, and what the way back loaded last: the index that it stored, or that of an entry which was
-- acknowledged since
pub record IndexStands (N : ℕ) (index_out index : ℕ) (acked freed loaded : ℕ) : Type 0 where
  pub outward : index_out ≡ tail_of N acked
  pub homeward : index ≡ tail_of N freed
  pub position : loaded < N
  pub last_load : (loaded ≡ tail_of N freed) ⊎ (number_at N freed loaded < acked)

-- the mover holds the next frames, each with its mark
pub record HeldStand (sent : List TableBytes) (flagged : ℕ) (held : List TableBytes) (stored : List Bool) : Type 0 where
  pub frames : (k : ℕ) → k < length held → slice_index_or held k [] ≡ slice_index_or sent (flagged + k) []
  pub within : flagged + length held ≤ length sent
  pub marks : length stored ≡ length held

-- a copying receiver has one frame in hand, else none
abbrev pub hand_in : Phase → ℕ
hand_in Idle = 0
hand_in Copying = 1
hand_in Copied = 0
hand_in Cleared = 0

-- what was received, and what is in hand, are the first frames that were sent
pub record GotStands (sent got hand : List TableBytes) (phase : Phase) : Type 0 where
  pub prefix : got ++ hand ≡ take (length got + length hand) sent
  pub in_hand : length hand ≡ hand_in phase

-- one more where the sender has the next slot
abbrev pub claimed_by : ℕ → Bool → ℕ
claimed_by sent claims = sent + (if claims then 1 else 0)

-- no count of the frames of a lane is more than this
abbrev pub most_lane_frames : ℕ
most_lane_frames = most_count

-- one entry stays free
pub record RoomStands (N : ℕ) (sent : ℕ) (claims : Bool) (freed : ℕ) : Type 0 where
  pub one_free : claimed_by sent claims + 1 ≤ freed + N
  pub counted : sent ≤ most_lane_frames

abbrev pub borders_of : ℕ → ℕ → ℕ → ℕ → ℕ → ℕ → Bool → Borders
borders_of freed cleared looked flagged taken sent claims =
    record { freed = freed; cleared = cleared; looked = looked; flagged = flagged; taken = taken; sent = sent; claimed = claimed_by sent claims }

-- All of it. The law of the ring holds of the lane.
pub record Shows (N : ℕ) (words : Words) (lane : Lane) (sent : List TableBytes) (claims : Bool) (flagged : ℕ) (held : List TableBytes) (stored : List Bool)
    (got hand : List TableBytes) (phase : Phase) (freed loaded seen : ℕ) (cut : Bool) (slots : Slots) : Type 0 where
  pub law : HoldsRingLaw lane
  pub of : IsTableLane N lane
  pub parts : PartsSay lane sent flagged stored (length got) phase freed
  pub posted : PostedStand N words.posted (length sent)
  pub headers : HeadersStand N words.headers flagged stored
  pub ring : RingStands lane.ring words.headers words.flags
  pub index : IndexStands N words.index_out words.index lane.acked freed loaded
  pub link : words.link ≡ (if cut then cut_word else 0)
  -- the sender has seen a cut only if one was made
  pub seen_cut : seen ≡ cut_word → cut ≡ true
  pub holding : HeldStand sent flagged held stored
  pub receiving : GotStands sent got hand phase
  pub room : RoomStands N (length sent) claims freed
  pub places : TableSlotsStand N (borders_of freed lane.cleared (length got + length hand) flagged (flagged + length held) (length sent) claims) sent slots
