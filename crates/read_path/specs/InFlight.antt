-- What travels from a side to its peer, the oldest first, and which of it may land.
use Rattle.std.specs.Prelude.{ℕ, zero, suc, ◌+◌, ◌-◌, ◌/◌, Bool, false, List, [], ◌∷◌, ◌++◌, length, take, Option, Some, None, slice_get, if◌then◌else◌}
use Rattle.std.specs.List.{list_all}
use Rattle.order_rules.specs.Order.{relaxed as relaxed_kind, strict as strict_kind}
use Rattle.order_rules.specs.Transactions.{read_request, completion, may_overtake}

-- what a bridge carries from a side to its peer: the side's writes and read requests, and the completions of the peer's
-- reads
pub data PathFlying : Type 0 where
  -- a posted write of these bytes to this address
  Write : (at : ℕ) (bytes : List ℕ) (relaxed : Bool) → PathFlying
  -- the request of the side's read of this number: this many bytes from this address on
  Request : (number : ℕ) (at : ℕ) (len : ℕ) → PathFlying
  -- a completion of the peer's read of this number that isn't the last one
  Part : (number : ℕ) (part : ℕ) → PathFlying
  -- the last completion of the peer's read of this number; all bytes of the read stand with it, since with it they are
  -- handed over
  Last : (number : ℕ) (bytes : List ℕ) → PathFlying

-- the kind by which the table orders it
abbrev pub path_kind_of : PathFlying → ℕ
path_kind_of (Write at bytes relaxed) = if relaxed then relaxed_kind else strict_kind
path_kind_of (Request number at len) = read_request
path_kind_of (Part number part) = completion
path_kind_of (Last number bytes) = completion

-- whether it may land after these: it may pass each of them
abbrev pub may_pass_all : PathFlying → List PathFlying → Bool
may_pass_all flying before = list_all (λ earlier. may_overtake (path_kind_of flying) (path_kind_of earlier)) before

-- whether what stands here may land, if anything does
abbrev pub lands_after : Option PathFlying → List PathFlying → Bool
lands_after None before = false
lands_after (Some flying) before = may_pass_all flying before

-- whether what stands at this place may land
abbrev pub path_may_land : List PathFlying → ℕ → Bool
path_may_land flight place = lands_after (slice_get flight place) (take place flight)

-- how many bytes a completion brings; the last one of a read brings the rest
abbrev pub completion_bytes : ℕ
completion_bytes = 128

-- this many completions before the last one, from a part on
abbrev pub parts_from : ℕ → ℕ → ℕ → List PathFlying
parts_from number part zero = []
parts_from number part (suc more) = Part number part ∷ parts_from number (part + 1) more

-- the completions of a read of these bytes, of which there is one at least
abbrev pub completions : ℕ → List ℕ → List PathFlying
completions number bytes = parts_from number 0 ((length bytes - 1) / completion_bytes) ++ Last number bytes ∷ []
