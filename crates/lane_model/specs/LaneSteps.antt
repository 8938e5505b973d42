-- The steps of a lane, when each may be made, and what it leads to.
use Rattle.std.specs.Prelude.{◌≡◌, ◌≢◌, ℕ, ◌<◌, ◌≤◌, true, false, List, [], ◌∷◌, ◌++◌, length}
use Rattle.lane_model.specs.Lane.{Entry, GoesDown, Write, Data, Flag, Bell, Lane, bytes_of, entry_of, free_in}
use Rattle.lane_model.specs.Steps.{after_begin, after_post, after_landing, after_look, after_copy, after_clear, after_ack, after_index, after_cut, after_drop}
use Rattle.lane_model.specs.declared.Phase.TheVariants.{Idle, Copying, Copied, Cleared}

pub data LaneStep : Type 0 where
  -- the sender begins an entry, and posts the next write
  Begin : (entry : Entry) → LaneStep
  Post : LaneStep
  -- a write lands
  Land : (write : Write) → LaneStep
  -- the receiver finds an entry, copies the next part, clears the flags, posts the index write
  Look : LaneStep
  Copy : LaneStep
  Clear : LaneStep
  Acknowledge : LaneStep
  -- the index write of an entry lands
  GiveBack : (n : ℕ) → LaneStep
  -- the link is lost, and what was in flight on it is dropped
  Cut : LaneStep
  Drop : LaneStep

-- the step may be made, and leads from one lane to the other; a write that is posted on a link that isn't up is lost
abbrev pub Leads : LaneStep → Lane → Lane → Type 0
Leads (Begin entry) before after =
    (before.todo ≡ []) × (0 < free_in before) × (length (bytes_of entry) ≤ before.largest) × ((n : ℕ) → n < length before.sent → entry_of before n ≢ GoesDown) × (after ≡ after_begin before entry)
Leads Post before after = (write : Write) × (rest : List Write) × (before.todo ≡ write ∷ rest) × (after ≡ after_post before write rest)
-- a field may pass any write before it, flags and doorbells pass none
Leads (Land (Data n field)) before after =
    (ahead : List Write) × (behind : List Write) × (before.flight ≡ ahead ++ Data n field ∷ behind) × (after ≡ after_landing before (Data n field) (ahead ++ behind))
Leads (Land (Flag n)) before after = (rest : List Write) × (before.flight ≡ Flag n ∷ rest) × (after ≡ after_landing before (Flag n) rest)
Leads (Land Bell) before after = (rest : List Write) × (before.flight ≡ Bell ∷ rest) × (after ≡ after_landing before Bell rest)
Leads Look before after = (before.phase ≡ Idle) × (before.got < before.flagged) × (after ≡ after_look before)
Leads Copy before after = (before.phase ≡ Copying) × (after ≡ after_copy before)
Leads Clear before after = (before.phase ≡ Copied) × (after ≡ after_clear before)
Leads Acknowledge before after = (before.phase ≡ Cleared) × (after ≡ after_ack before)
Leads (GiveBack n) before after = (rest : List ℕ) × (before.returning ≡ n ∷ rest) × (after ≡ after_index before n rest)
Leads Cut before after = (before.up ≡ true) × (after ≡ after_cut before)
Leads Drop before after = (before.up ≡ false) × (after ≡ after_drop before)

-- steps, one after another
abbrev pub LaneRuns : List LaneStep → Lane → Lane → Type 0
LaneRuns [] before after = after ≡ before
LaneRuns (step ∷ steps) before after = (between : Lane) × Leads step before between × LaneRuns steps between after
