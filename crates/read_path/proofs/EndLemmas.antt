-- What is kept of both sides of a path by each call.
use Rattle.std.proofs.Common.{◌≡◌, ℕ, zero, suc, ◌+◌, ◌-◌, ◌/◌, ◌≤◌, Bool, true, false, Some, List, [], ◌∷◌, ◌++◌, length, remove, replicate, slice_get, refl, ap, ◌∙◌, All, arith}
use Rattle.std.proofs.lemmas.Grind.{common_steps}
use Rattle.std.proofs.lemmas.List.Sums.{sum_by-append}
use Rattle.std.proofs.lemmas.List.Elements.{All-append}
use Rattle.host_memory.specs.Memory.{written, bytes_at}
use Rattle.read_path.specs.InFlight.{PathFlying, Write, Request, Part, Last, parts_from, completions}
use Rattle.read_path.specs.Ends.{AreEnds, IsPathInRange, all_due, completions_due, completions_of, asks, path_end_seen, path_fresh_end, path_posts, promises, reached, without_place}
use Rattle.read_path.specs.Flights.{FlightState, nothing_flying}
use Rattle.read_path.specs.declared.end.End.{End}
use Rattle.read_path.proofs.FlightLemmas.{All-one, All-remove, All-there, sum_by-remove}

-- What is kept of both sides of a path is kept with the two sides exchanged.
pub swapped : (a b : End) → AreEnds a b → AreEnds b a
swapped a b ends = record { end_whole = ends.peer_whole; peer_whole = ends.end_whole; end_room = ends.peer_room; peer_room = ends.end_room }

-- A side with a memory of 4,096 zeros, nothing in flight and no read made is seen as a fresh one.
pub fresh_seen : (bytes : List ℕ) (flight : FlightState) → bytes ≡ replicate 4096 0 → flight ≡ nothing_flying
    → path_end_seen (record { memory = record { bytes = bytes; promised = [] }; flight = flight; reads = 0 }) ≡ path_fresh_end
fresh_seen bytes flight zeros nothing =
    ap (λ (b : List ℕ). path_end_seen (record { memory = record { bytes = b; promised = [] }; flight = flight; reads = 0 })) zeros
    ∙ ap (λ (f : FlightState). path_end_seen (record { memory = record { bytes = replicate 4096 0; promised = [] }; flight = f; reads = 0 })) nothing

-- one more in flight is due as many completions as it brings
due_more : (flight : List PathFlying) (what : PathFlying) → all_due (flight ++ what ∷ []) ≡ all_due flight + completions_due what
due_more flight what = let both = sum_by-append completions_due flight (what ∷ []) in omega (arith, both)

-- A posted write whose bytes lie within the memory of 4,096 bytes keeps what is kept of both sides of a path.
pub posts_kept : (a b : End) (at : ℕ) (bytes : List ℕ) (relaxed : Bool) → AreEnds a b → at + length bytes ≤ 4096 → AreEnds (path_posts a at bytes relaxed) b
posts_kept a b at bytes relaxed ends within =
    let due : all_due (a.flight.flying ++ Write at bytes relaxed ∷ []) ≡ all_due a.flight.flying + 0 = due_more a.flight.flying (Write at bytes relaxed) in
    record {
      end_whole = record {
        size = ends.end_whole.size;
        writable = ends.end_whole.writable;
        in_range = All-append IsPathInRange a.flight.flying (Write at bytes relaxed ∷ []) ends.end_whole.in_range (All-one IsPathInRange (Write at bytes relaxed) within);
      };
      peer_whole = ends.peer_whole;
      end_room = ends.end_room;
      peer_room = let room = ends.peer_room in omega (arith, due, room);
    }

-- A read of 1 to 512 bytes in range keeps what is kept of both sides, with room promised for its completions.
pub asks_kept : (from to : End) (at len : ℕ) → AreEnds from to → 1 ≤ len → len ≤ 512 → at + len ≤ 4096 → AreEnds (asks from at len) (promises to len)
asks_kept from to at len ends some few within =
    let due : all_due (from.flight.flying ++ Request from.reads at len ∷ []) ≡ all_due from.flight.flying + completions_of len = due_more from.flight.flying (Request from.reads at len) in
    record {
      end_whole = record {
        size = ends.end_whole.size;
        writable = ends.end_whole.writable;
        in_range = All-append IsPathInRange from.flight.flying (Request from.reads at len ∷ []) ends.end_whole.in_range (All-one IsPathInRange (Request from.reads at len) (some, few, within));
      };
      peer_whole = record { size = ends.peer_whole.size; writable = ends.peer_whole.writable; in_range = ends.peer_whole.in_range };
      end_room = ends.end_room;
      peer_room = let room = ends.peer_room in omega (arith, due, room);
    }

-- Landings

-- what stands in flight brings no more completions than are due
pub due_there : (flight : List PathFlying) (place : ℕ) (what : PathFlying) → slice_get flight place ≡ Some what → all_due (remove flight place) + completions_due what ≡ all_due flight
due_there flight place what there = sum_by-remove completions_due flight place what there

-- completions bring none
no_more_due : (number part count : ℕ) → all_due (parts_from number part count) ≡ 0
no_more_due number part zero = refl
no_more_due number part (suc count) =
    let both = sum_by-append completions_due (Part number part ∷ []) (parts_from number (part + 1) count) in
    let rest = no_more_due number (part + 1) count in
    omega (arith, both, rest)

due_completions : (flight : List PathFlying) (number : ℕ) (bytes : List ℕ) → all_due (flight ++ completions number bytes) ≡ all_due flight
due_completions flight number bytes =
    let parts = parts_from number 0 ((length bytes - 1) / 128) in
    let both = sum_by-append completions_due flight (parts ++ Last number bytes ∷ []) in
    let each = due_more parts (Last number bytes) in
    let none = no_more_due number 0 ((length bytes - 1) / 128) in
    omega (arith, both, each, none)

parts_in_range : (number part count : ℕ) → All IsPathInRange (parts_from number part count)
parts_in_range number part zero = λ k d within. absurd (omega (arith, within))
parts_in_range number part (suc count) =
    All-append IsPathInRange (Part number part ∷ []) (parts_from number (part + 1) count) (All-one IsPathInRange (Part number part) tt) (parts_in_range number (part + 1) count)

completions_in_range : (number : ℕ) (bytes : List ℕ) → All IsPathInRange (completions number bytes)
completions_in_range number bytes =
    let parts = parts_from number 0 ((length bytes - 1) / 128) in
    All-append IsPathInRange parts (Last number bytes ∷ []) (parts_in_range number 0 ((length bytes - 1) / 128)) (All-one IsPathInRange (Last number bytes) tt)

length_written : (at : ℕ) (bytes mem : List ℕ) → at + length bytes ≤ length mem → length (written at bytes mem) ≡ length mem
length_written at bytes mem within = grind (arith, common_steps)

-- without what stood at a place, nothing else changes
without_kept : (from to : End) (place : ℕ) (what : PathFlying) → slice_get from.flight.flying place ≡ Some what → AreEnds from to
    → completions_due what ≡ 0 → AreEnds (without_place from place) to
without_kept from to place what there ends none =
    let due = due_there from.flight.flying place what there in
    record {
      end_whole = record { size = ends.end_whole.size; writable = ends.end_whole.writable; in_range = All-remove IsPathInRange from.flight.flying place ends.end_whole.in_range };
      peer_whole = ends.peer_whole;
      end_room = ends.end_room;
      peer_room = let room = ends.peer_room in omega (arith, due, room);
    }

-- what may be in flight keeps both sides whole where it lands
pub lands_kept : (up : Bool) (from to : End) (place : ℕ) (what : PathFlying) → slice_get from.flight.flying place ≡ Some what → AreEnds from to → AreEnds (without_place from place) (reached up to what)
lands_kept up from to place (Part number part) there ends = without_kept from to place (Part number part) there ends refl
lands_kept up from to place (Last number bytes) there ends = without_kept from to place (Last number bytes) there ends refl
lands_kept up from to place (Write at bytes relaxed) there ends =
    let kept = without_kept from to place (Write at bytes relaxed) there ends refl in
    let within : at + length bytes ≤ 4096 = All-there IsPathInRange from.flight.flying place (Write at bytes relaxed) ends.end_whole.in_range there in
    let size = ends.peer_whole.size in
    record {
      end_whole = kept.end_whole;
      peer_whole = record {
        size = length_written at bytes to.memory.bytes (omega (arith, within, size)) ∙ size;
        writable = ends.peer_whole.writable;
        in_range = ends.peer_whole.in_range;
      };
      end_room = kept.end_room;
      peer_room = kept.peer_room;
    }
lands_kept true from to place (Request number at len) there ends =
    let due = due_there from.flight.flying place (Request number at len) there in
    let bytes = bytes_at at len to.memory.bytes in
    let none = due_completions to.flight.flying number bytes in
    record {
      end_whole = record { size = ends.end_whole.size; writable = ends.end_whole.writable; in_range = All-remove IsPathInRange from.flight.flying place ends.end_whole.in_range };
      peer_whole = record {
        size = ends.peer_whole.size;
        writable = ends.peer_whole.writable;
        in_range = All-append IsPathInRange to.flight.flying (completions number bytes) ends.peer_whole.in_range (completions_in_range number bytes);
      };
      end_room = let room = ends.end_room in omega (arith, none, room);
      peer_room = let room = ends.peer_room in omega (arith, due, room);
    }
lands_kept false from to place (Request number at len) there ends =
    let due = due_there from.flight.flying place (Request number at len) there in
    record {
      end_whole = record { size = ends.end_whole.size; writable = ends.end_whole.writable; in_range = All-remove IsPathInRange from.flight.flying place ends.end_whole.in_range };
      peer_whole = record { size = ends.peer_whole.size; writable = ends.peer_whole.writable; in_range = ends.peer_whole.in_range };
      end_room = ends.end_room;
      peer_room = let room = ends.peer_room in omega (arith, due, room);
    }
