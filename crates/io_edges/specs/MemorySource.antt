-- What a source in memory does at a read.
use Rattle.std.specs.Prelude.{◌≡◌, ℕ, min, List, ◌++◌, length, take, drop, if◌then◌else◌, Result, Ok, Err}
use Rattle.io_edges.specs.Plan.{Plan, is_due, after_call, after_fault}
use Rattle.io_edges.specs.declared.streams.Failed.{Failed}

-- the bytes that are left, the most that a read gives, and which calls fail
pub record SourceState : Type 0 where
  pub left : List ℕ
  pub piece : ℕ
  pub plan : Plan

-- how many bytes a read gives into a buffer of this length
abbrev pub read_count : SourceState → ℕ → ℕ
read_count source room = min room (min source.piece (length source.left))

-- what a read answers
abbrev pub read_gives : SourceState → ℕ → Result ℕ Failed
read_gives source room = if is_due source.plan then Err record {} else Ok (read_count source room)

-- the source after a read
abbrev pub after_read : SourceState → ℕ → SourceState
after_read source room =
    if is_due source.plan then record source { plan = after_fault source.plan }
    else record source { left = drop (read_count source room) source.left; plan = after_call source.plan }

-- the buffer after a read: what it had stays after the bytes that were given
abbrev pub read_into : SourceState → List ℕ → List ℕ
read_into source buffer =
    if is_due source.plan then buffer
    else take (read_count source (length buffer)) source.left ++ drop (read_count source (length buffer)) buffer

-- the answer, the source and the buffer after a read
pub record ReadsExactly (old new : SourceState) (before after : List ℕ) (result : Result ℕ Failed) : Type 0 where
  pub answer : result ≡ read_gives old (length before)
  pub source : new ≡ after_read old (length before)
  pub buffer : after ≡ read_into old before
