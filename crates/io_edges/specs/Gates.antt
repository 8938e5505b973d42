-- Which turns of which workers a gate lets pass, by what it says of itself.
use Rattle.std.specs.Prelude.{ℕ, ◌<◌, ◌^◌}

-- the worker with this number passes before each of its turns
abbrev pub LetsWorker : (ℕ → ℕ → Type 0) → ℕ → Type 0
LetsWorker lets worker = (turn : ℕ) → turn < 2 ^ 64 → lets worker turn

-- so do all workers whose numbers are below this one
abbrev pub LetsWorkers : (ℕ → ℕ → Type 0) → ℕ → Type 0
LetsWorkers lets bound = (worker : ℕ) → worker < bound → LetsWorker lets worker
