-- The frames of each session, counted one session at one place.
use Rattle.std.specs.Prelude.{◌≡◌, ◌≢◌, ℕ, ◌<◌, ◌≤◌, Bool, false, List, [], length, slice_index_or}
use Rattle.fabric_rule.specs.Parts.{SessionCount}
use Rattle.fabric_core.specs.declared.counts.OfSession.{OfSession}

pub record Tallied : Type 0 where
  pub counts : List SessionCount
  -- room for one more frame, in whichever session
  pub has_room : Bool

abbrev pub nothing_tallied : Tallied
nothing_tallied = record { counts = []; has_room = false }

abbrev pub count_seen : OfSession → SessionCount
count_seen one = record { session = one.session; count = one.count }

-- stands where there is no place
abbrev pub no_count : SessionCount
no_count = record { session = 0; count = 0 }

-- each session is counted at one place
abbrev pub AreApart : List SessionCount → Type 0
AreApart counts = (j k : ℕ) → j < k → k < length counts → (slice_index_or counts j no_count).session ≢ (slice_index_or counts k no_count).session

-- no session is above this one, and none has more frames than this many
abbrev pub AreUpTo : List SessionCount → ℕ → Type 0
AreUpTo counts most = (k : ℕ) → k < length counts → (slice_index_or counts k no_count).session ≤ most

abbrev pub AreFew : List SessionCount → ℕ → Type 0
AreFew counts made = (k : ℕ) → k < length counts → (slice_index_or counts k no_count).count ≤ made

-- no place before this one counts the session
abbrev pub IsNowhere : List SessionCount → ℕ → ℕ → Type 0
IsNowhere counts session before = (k : ℕ) → k < before → (slice_index_or counts k no_count).session ≢ session

-- the first place that counts it
pub record IsPlaceOf (counts : List SessionCount) (session place : ℕ) : Type 0 where
  pub within : place < length counts
  pub there : (slice_index_or counts place no_count).session ≡ session
  pub first : IsNowhere counts session place
