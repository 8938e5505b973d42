-- The flow of a device between stopped and going on.
use Rattle.std.specs.Prelude.{ℕ, Bool, false}
use Rattle.pair_model.specs.Device.{Flow as DeviceFlow}

-- a device that goes on, with these limits in free entries
abbrev pub going_on : ℕ → ℕ → DeviceFlow
going_on stop start = record { stop = stop; start = start; stopped = false }

-- the same limits, stopped or not
abbrev pub with_stopped : DeviceFlow → Bool → DeviceFlow
with_stopped flow stopped = record { stop = flow.stop; start = flow.start; stopped = stopped }
