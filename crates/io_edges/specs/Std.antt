-- What the adapters of the standard library's readers and writers hold.
use Rattle.std.specs.Prelude.{◌≡◌, ℕ, Result, MatchResult}
use Rattle.io_edges.specs.Plan.{fault_one_more}
use Rattle.io_edges.specs.declared.std_streams.StdStream.{StdStream}

-- the reader or writer
abbrev pub inner_of : {T : Type 0} → StdStream T → T
inner_of stream = stream.inner

-- the faults that were counted
abbrev pub faults_of : {T : Type 0} → StdStream T → ℕ
faults_of stream = stream.faults

-- An error is counted, up to the last value of a u64, and nothing else is.
abbrev pub CountsErrors : {T E : Type 0} → ℕ → ℕ → Result T E → Type 0
CountsErrors before now result = MatchResult result (λ _. now ≡ before) (λ _. now ≡ fault_one_more before)
