-- An entry is followed by no more entries of its frame than a frame of a length that the lane takes has pieces beside
-- it.
use Rattle.std.proofs.Common.{◌≡◌, ℕ, zero, suc, ◌<◌, ◌≤◌, false, List, [], ◌∷◌, length, map, sym, subst, arith}
use Rattle.std.specs.List.{AllByRecursion}
use Rattle.std.proofs.lemmas.Bool.{both_ways}
use Rattle.step_kinds.specs.declared.names.LaneName.{LaneName}
use Rattle.step_kinds.specs.declared.plan.Plan.{Plan}
use Rattle.step_kinds.specs.declared.steps.Step.{Step}
use Rattle.lane_model.specs.Lane.{Entry, GoesDown, left_of, count_from}
use Rattle.lane_model.specs.Law.{entry_among}
use Rattle.ledger_model.specs.Ledger.{LanePart, lane_of}
use Rattle.ledger_model.specs.Log.{Answered, Memories, ledger_of}
use Rattle.ledger_model.specs.Pieces.{piece_of}
use Rattle.pair_model.specs.Plans.{pair_plan}
use Rattle.pair_model.specs.Sizes.{Sizes, pieces_in}
use Rattle.ledger_laws.specs.Laws.{IsOrdinaryPair}
use Rattle.ledger_laws.proofs.AtStart.{fresh-lane}
use Rattle.ledger_laws.proofs.EntriesFit.{all_push}
use Rattle.ledger_laws.proofs.walk.Logs.{HoldsAlways, always_after}
use Rattle.ledger_laws.proofs.walk.News.{News}
use Rattle.ledger_laws.proofs.walk.Sight.{Sight, Sender}
use Rattle.ledger_laws.proofs.walk.Turn.{Turn, Trains, Forgets, Begins, Closes, PostsNext, Strays, IsRaw, SizesOf}

-- the entry is one of those that a frame of this many bytes takes
pub record IsOfFrame (sizes : Sizes) (entry : Entry) : Type 0 where
  pub len : ℕ
  pub fits : len ≤ sizes.most
  pub few : left_of entry < pieces_in sizes.largest len

goes_down : (sizes : Sizes) → IsOfFrame sizes GoesDown
goes_down sizes = record { len = 0; fits = omega arith; few = omega arith }

cut_few : (sizes : Sizes) (bytes : List ℕ) (from more : ℕ) → length bytes ≤ sizes.most → AllByRecursion (IsOfFrame sizes) (map (piece_of sizes.largest bytes) (count_from from more))
cut_few sizes bytes from zero fits = tt
cut_few sizes bytes from (suc more) fits = (record { len = length bytes; fits = fits; few = omega arith }, cut_few sizes bytes (suc from) more fits)

-- the entries of a lane
record AreOfFrames (sizes : Sizes) (sent waiting : List Entry) : Type 0 where
  begun : AllByRecursion (IsOfFrame sizes) sent
  waits : AllByRecursion (IsOfFrame sizes) waiting

abbrev FramesOf : Sizes → Sight → Type 0
FramesOf sizes s = AreOfFrames sizes s.lane.sent s.lane.waiting

frames_kept : (plan : Plan) (lane : LaneName) (s : Sight) (made : Answered) (news : News) (t : Sight) → IsRaw plan lane ≡ false → Turn plan lane s made news t → FramesOf (SizesOf plan lane) s
    → FramesOf (SizesOf plan lane) t
frames_kept plan lane s made news t no_raw (Trains may) h = record { begun = tt; waits = tt }
frames_kept plan lane s made news t no_raw (Forgets Sender may) h = record { begun = h.begun; waits = tt }
frames_kept plan lane s made news t no_raw (Begins bytes first others may cut) h =
    let all = subst (AllByRecursion (IsOfFrame (SizesOf plan lane))) cut (cut_few (SizesOf plan lane) bytes 0 (pieces_in (SizesOf plan lane).largest (length bytes)) may.fits) in
    record { begun = all_push (IsOfFrame (SizesOf plan lane)) s.lane.sent first h.begun all.0; waits = all.1 }
frames_kept plan lane s made news t no_raw (Closes may) h = record { begun = all_push (IsOfFrame (SizesOf plan lane)) s.lane.sent GoesDown h.begun (goes_down (SizesOf plan lane)); waits = tt }
frames_kept plan lane s made news t no_raw (PostsNext entry others label rest may) h =
    let all = subst (AllByRecursion (IsOfFrame (SizesOf plan lane))) may.waits h.waits in
    record { begun = all_push (IsOfFrame (SizesOf plan lane)) s.lane.sent entry h.begun all.0; waits = all.1 }
frames_kept plan lane s made news t no_raw (Strays after may) h = absurd (both_ways (IsRaw plan lane) no_raw may.raw_pair)
frames_kept plan lane s made news t no_raw turn h = h

frames_run : (plan : Plan) (lane : LaneName) → IsRaw plan lane ≡ false → HoldsAlways plan lane (λ log s. FramesOf (SizesOf plan lane) s)
frames_run plan lane no_raw = record {
  fresh = subst (λ (l : LanePart). AreOfFrames (SizesOf plan lane) l.sent l.waiting) (sym (fresh-lane (pair_plan plan lane.pair) lane.from lane.queue)) (record { begun = tt; waits = tt });
  turns = λ log s made news t tells turn h. frames_kept plan lane s made news t no_raw turn h;
}

each_of_frame : (sizes : Sizes) (sent : List Entry) (n : ℕ) → AllByRecursion (IsOfFrame sizes) sent → IsOfFrame sizes (entry_among sent n)
each_of_frame sizes [] n all = goes_down sizes
each_of_frame sizes (entry ∷ sent) zero all = all.0
each_of_frame sizes (entry ∷ sent) (suc n) all = each_of_frame sizes sent n all.1

-- each entry of a lane of an ordinary pair, after every log
pub entries_are_of_frames : (plan : Plan) (memories : Memories) (steps : List Step) (name : LaneName) (n : ℕ) → IsOrdinaryPair plan name.pair
    → IsOfFrame (SizesOf plan name) (entry_among (lane_of (ledger_of plan memories steps name.pair) name.from name.queue).sent n)
entries_are_of_frames plan memories steps name n no_raw =
    each_of_frame (SizesOf plan name) _ n (always_after plan name (λ log s. FramesOf (SizesOf plan name) s) (frames_run plan name no_raw) memories steps).begun
