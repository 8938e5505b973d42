-- Two sides that one bridge joins, by lists: the link, each side's memory, what it has in flight, and how many reads it
-- made. Of each call: what it answers, and what it leaves.
use Rattle.std.specs.Prelude.{ℕ, ◌+◌, ◌==◌, Bool, true, false, not, List, [], ◌∷◌, ◌++◌, length, replicate, remove, Option, Some, None, slice_get, if◌then◌else◌}
use Rattle.host_memory.specs.Memory.{written, bytes_at}
use Rattle.step_kinds.specs.Sides.{other_side}
use Rattle.step_kinds.specs.declared.names.Side.{Side}
use Rattle.pair_model.specs.Both.{Both, at_side, with_side, both_of}
use Rattle.step_kinds.specs.Limits.{most_sessions}
use Rattle.pair_model.specs.Link.{is_up, is_down, is_closing, refused_where}
use Rattle.pair_model.specs.declared.LinkState.{LinkState}
use Rattle.pair_model.specs.declared.LinkState.TheVariants.{Down, Up, Closing}
use Rattle.pair_model.specs.declared.LinkRefusal.{LinkRefusal}
use Rattle.pair_model.specs.declared.LinkRefusal.TheVariants.{NotDown, NotUp, NotClosing, SessionsSpent}
use Rattle.read_path.specs.InFlight.{PathFlying, Write, Request, Part, Last, path_may_land, completions}
use Rattle.read_path.specs.declared.steps.PostAnswer.{PostAnswer}
use Rattle.read_path.specs.declared.steps.PostAnswer.TheVariants.{Ok as PostOk, LinkDown as PostLinkDown}
use Rattle.read_path.specs.declared.steps.ReadAnswer.{ReadAnswer}
use Rattle.read_path.specs.declared.steps.ReadAnswer.TheVariants.{Posted, LinkDown as ReadLinkDown}
use Rattle.read_path.specs.declared.steps.PathLand.{PathLand}
use Rattle.read_path.specs.declared.steps.PathLand.TheVariants.{Nothing, Blocked, Write as LandedWrite, Request as LandedRequest, Part as LandedPart, Whole}

-- one side: the bytes of its memory, what it has in flight, and how many reads it made
pub record SideState : Type 0 where
  pub memory : List ℕ
  pub flight : List PathFlying
  pub reads : ℕ

pub record PathState : Type 0 where
  pub link : LinkState
  pub session : ℕ
  pub sides : Both SideState

-- the bytes of a side's memory, and of the largest read
abbrev pub memory_bytes : ℕ
memory_bytes = 4096

abbrev pub most_read_bytes : ℕ
most_read_bytes = 512

-- up in session 1, each byte 0, nothing in flight, no read made
abbrev pub fresh_path : PathState
fresh_path = record { link = Up; session = 1; sides = both_of (record { memory = replicate memory_bytes 0; flight = []; reads = 0 }) }

abbrev pub path_with_flight : SideState → List PathFlying → SideState
path_with_flight state flight = record { memory = state.memory; flight = flight; reads = state.reads }

abbrev pub path_with_memory : SideState → List ℕ → SideState
path_with_memory state memory = record { memory = memory; flight = state.flight; reads = state.reads }

-- the path with another state of a side
abbrev pub with_state : PathState → Side → SideState → PathState
with_state path side state = record { link = path.link; session = path.session; sides = with_side path.sides side state }

-- the path with these in flight from a side, after what it has in flight
abbrev pub with_sent : PathState → Side → List PathFlying → PathState
with_sent path side more = let state = at_side path.sides side in with_state path side (path_with_flight state (state.flight ++ more))

-- Posted writes and reads: lost where the link isn't up

abbrev pub path_post_answer : PathState → PostAnswer
path_post_answer path = if is_up path.link then PostOk else PostLinkDown

abbrev pub path_after_post : PathState → Side → ℕ → List ℕ → Bool → PathState
path_after_post path side at bytes relaxed = if is_up path.link then with_sent path side (Write at bytes relaxed ∷ []) else path

-- the number of the side's next read is how many it made
abbrev pub read_answer : PathState → Side → ReadAnswer
read_answer path side = if is_up path.link then Posted (at_side path.sides side).reads else ReadLinkDown

-- the side with one more read, whose request is in flight after all else
abbrev pub asked : SideState → ℕ → ℕ → SideState
asked state at len = record { memory = state.memory; flight = state.flight ++ Request state.reads at len ∷ []; reads = state.reads + 1 }

abbrev pub path_after_read : PathState → Side → ℕ → ℕ → PathState
path_after_read path side at len = if is_up path.link then with_state path side (asked (at_side path.sides side) at len) else path

-- Landings

-- what is said of what landed
abbrev pub landing_of : PathFlying → PathLand
landing_of (Write at bytes relaxed) = LandedWrite at (length bytes)
landing_of (Request number at len) = LandedRequest number
landing_of (Part number part) = LandedPart number part
landing_of (Last number bytes) = Whole number bytes

abbrev pub path_answer_for : Option PathFlying → Bool → PathLand
path_answer_for None lands = Nothing
path_answer_for (Some flying) true = landing_of flying
path_answer_for (Some flying) false = Blocked

-- nothing where none stands at the place, blocked where it may not land, else what landed
abbrev pub path_land_answer : PathState → Side → ℕ → PathLand
path_land_answer path side place = let flight = (at_side path.sides side).flight in path_answer_for (slice_get flight place) (path_may_land flight place)

-- What reaches a side. A write is stored. A request's bytes are all read, and its completions are posted after what the
-- side has in flight; they are lost where the link isn't up.
abbrev pub path_arrived : PathState → Side → PathFlying → PathState
path_arrived path side (Write at bytes relaxed) = let state = at_side path.sides side in with_state path side (path_with_memory state (written at bytes state.memory))
path_arrived path side (Request number at len) =
    if is_up path.link then with_sent path side (completions number (bytes_at at len (at_side path.sides side).memory)) else path
path_arrived path side (Part number part) = path
path_arrived path side (Last number bytes) = path

-- what stands at a place of a side's list is taken out, and reaches the peer
abbrev pub path_taken : PathState → Side → ℕ → Option PathFlying → PathState
path_taken path side place None = path
path_taken path side place (Some flying) =
    let state = at_side path.sides side in path_arrived (with_state path side (path_with_flight state (remove state.flight place))) (other_side side) flying

abbrev pub path_after_land : PathState → Side → ℕ → PathState
path_after_land path side place =
    let flight = (at_side path.sides side).flight in if path_may_land flight place then path_taken path side place (slice_get flight place) else path

-- Memory as it is

abbrev pub shown : PathState → Side → ℕ → ℕ → List ℕ
shown path side at len = bytes_at at len (at_side path.sides side).memory

-- The link. A refused step changes nothing.

abbrev pub unless : Option LinkRefusal → PathState → PathState → PathState
unless None old new = new
unless (Some refusal) old new = old

abbrev pub path_cut_refusal : PathState → Option LinkRefusal
path_cut_refusal path = refused_where (not (is_up path.link)) NotUp None

abbrev pub path_after_cut : PathState → PathState
path_after_cut path = unless (path_cut_refusal path) path (record { link = Closing; session = path.session; sides = path.sides })

abbrev pub path_drop_refusal : PathState → Option LinkRefusal
path_drop_refusal path = refused_where (not (is_closing path.link)) NotClosing None

-- nothing of the session is in flight any more
abbrev pub emptied : Both SideState → Both SideState
emptied sides = record { a = path_with_flight sides.a []; b = path_with_flight sides.b [] }

abbrev pub path_after_drop : PathState → PathState
path_after_drop path = unless (path_drop_refusal path) path (record { link = Down; session = path.session; sides = emptied path.sides })

abbrev pub relink_refusal : PathState → Option LinkRefusal
relink_refusal path = refused_where (not (is_down path.link)) NotDown (refused_where (path.session == most_sessions) SessionsSpent None)

abbrev pub after_relink : PathState → PathState
after_relink path = unless (relink_refusal path) path (record { link = Up; session = path.session + 1; sides = path.sides })
