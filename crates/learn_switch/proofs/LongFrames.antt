-- No frame without an Ethernet header waits.
use Rattle.std.proofs.Common.{◌≡◌, ℕ, zero, suc, ◌<◌, ◌≤◌, Option, Some, None, List, [], ◌∷◌, ◌++◌, map, drop, length, IfSome, get_or, replicate, set, slice_get}
use Rattle.std.specs.List.{AllByRecursion}
use Rattle.pair_model.specs.Switch.{flooded, forwarded, joined, list_of, without_first}
use Rattle.pair_model.specs.declared.RelayAnswer.{RelayAnswer}
use Rattle.pair_model.specs.declared.RelayAnswer.TheVariants.{Nothing, Short, Filtered, To, Flood}
use Rattle.learn_switch.specs.Frames.{HasHeader, AllHaveHeaders}

-- the frames of one list
abbrev Headers : List (List ℕ) → Type 0
Headers frames = AllByRecursion HasHeader frames

one_more : (frames : List (List ℕ)) (frame : List ℕ) → Headers frames → HasHeader frame → Headers (frames ++ frame ∷ [])
one_more [] frame all long = (long, tt)
one_more (first ∷ frames) frame all long = (all.0, one_more frames frame all.1 long)

one_less : (frames : List (List ℕ)) → Headers frames → Headers (drop 1 frames)
one_less [] all = tt
one_less (first ∷ frames) all = all.1

at_port : (lists : List (List (List ℕ))) (port : ℕ) → AllHaveHeaders lists → Headers (list_of lists port)
at_port [] port all = tt
at_port (list ∷ lists) zero all = all.0
at_port (list ∷ lists) (suc port) all = at_port lists port all.1

with_list : (lists : List (List (List ℕ))) (port : ℕ) (new : List (List ℕ)) → AllHaveHeaders lists → Headers new → AllHaveHeaders (set lists port new)
with_list [] port new all own = tt
with_list (list ∷ lists) zero new all own = (own, all.1)
with_list (list ∷ lists) (suc port) new all own = (all.0, with_list lists port new all.1 own)

all_more : (lists : List (List (List ℕ))) (frame : List ℕ) → AllHaveHeaders lists → HasHeader frame → AllHaveHeaders (map (λ other. other ++ frame ∷ []) lists)
all_more [] frame all long = tt
all_more (list ∷ lists) frame all long = (one_more list frame all.0 long, all_more lists frame all.1 long)

flood_more : (lists : List (List (List ℕ))) (port : ℕ) (frame : List ℕ) → AllHaveHeaders lists → HasHeader frame → AllHaveHeaders (flooded lists port frame)
flood_more [] port frame all long = tt
flood_more (list ∷ lists) zero frame all long = (all.0, all_more lists frame all.1 long)
flood_more (list ∷ lists) (suc port) frame all long = (one_more list frame all.0 long, flood_more lists port frame all.1 long)

-- where a frame has a header, those that wait have one wherever it joins
pub headers-forwarded : (lists : List (List (List ℕ))) (port : ℕ) (frame : List ℕ) (answer : RelayAnswer) → AllHaveHeaders lists → HasHeader frame → AllHaveHeaders (forwarded lists port frame answer)
headers-forwarded lists port frame Nothing all long = all
headers-forwarded lists port frame (Short len) all long = all
headers-forwarded lists port frame Filtered all long = all
headers-forwarded lists port frame (To target) all long = with_list lists target _ all (one_more (list_of lists target) frame (at_port lists target all) long)
headers-forwarded lists port frame (Flood count) all long = flood_more lists port frame all long

-- and so where one is sent
pub headers-sent : (lists : List (List (List ℕ))) (port : ℕ) → AllHaveHeaders lists → AllHaveHeaders (without_first lists port)
headers-sent lists port all = with_list lists port _ all (one_less (list_of lists port) (at_port lists port all))

first_one : (frames : List (List ℕ)) → Headers frames → IfSome (slice_get frames 0) HasHeader
first_one [] all = tt
first_one (first ∷ frames) all = all.0

-- the first frame that waits on a port has one
pub header-first : (lists : List (List (List ℕ))) (port : ℕ) → AllHaveHeaders lists → IfSome (slice_get (list_of lists port) 0) HasHeader
header-first lists port all = first_one (list_of lists port) (at_port lists port all)

-- no list has a frame
pub headers-none : (count : ℕ) → AllHaveHeaders (replicate count [])
headers-none zero = tt
headers-none (suc count) = (tt, headers-none count)
