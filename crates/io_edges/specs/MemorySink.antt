-- What a sink in memory does at a write.
use Rattle.std.specs.Prelude.{◌≡◌, ℕ, ◌-◌, min, Bool, ◌==◌, ◌&&◌, ◌||◌, nat_lt, List, ◌++◌, length, take, if◌then◌else◌, Result, Ok, Err}
use Rattle.io_edges.specs.Plan.{Plan, is_due, after_call, after_fault}
use Rattle.io_edges.specs.declared.streams.Failed.{Failed}

-- the bytes that are held, the most that it holds, the most that a write takes, and which calls fail
pub record SinkState : Type 0 where
  pub held : List ℕ
  pub room : ℕ
  pub piece : ℕ
  pub plan : Plan

-- how many bytes of a piece of this length a write takes
abbrev pub write_count : SinkState → ℕ → ℕ
write_count sink wanted = min wanted (min sink.piece (sink.room - length sink.held))

-- whether a write fails: its number is one of those that fail, or it can take nothing of a piece that isn't empty
abbrev pub write_fails : SinkState → ℕ → Bool
write_fails sink wanted = is_due sink.plan || nat_lt 0 wanted && write_count sink wanted == 0

-- what a write answers
abbrev pub write_gives : SinkState → ℕ → Result ℕ Failed
write_gives sink wanted = if write_fails sink wanted then Err record {} else Ok (write_count sink wanted)

-- the sink after a write
abbrev pub after_write : SinkState → List ℕ → SinkState
after_write sink bytes =
    if write_fails sink (length bytes) then record sink { plan = after_fault sink.plan }
    else record sink { held = sink.held ++ take (write_count sink (length bytes)) bytes; plan = after_call sink.plan }

-- the answer and the sink after a write
pub record WritesExactly (old new : SinkState) (bytes : List ℕ) (result : Result ℕ Failed) : Type 0 where
  pub answer : result ≡ write_gives old (length bytes)
  pub sink : new ≡ after_write old bytes
