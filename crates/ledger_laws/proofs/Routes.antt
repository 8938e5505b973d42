-- What a network keeps of the frames delivered on the first of two lanes: those that passed to the second, then those
-- that wait there, then those that arrived. They are a part of the deliveries, in their order.
use Rattle.std.proofs.Common.{◌≡◌, Bool, true, false, List, [], ◌∷◌, ◌++◌, Option, Some, None, map, sym, ap, ◌∙◌, subst, inl, inr, append_assoc}
use Rattle.std.specs.Prelude.{◌&&◌, if◌then◌else◌}
use Rattle.std.specs.List.{filter}
use Rattle.std.proofs.lemmas.List.{append-nil}
use Rattle.std.proofs.lemmas.List.Elements.{filter-append}
use Rattle.step_kinds.specs.Sides.{same_lane}
use Rattle.step_kinds.specs.declared.names.LaneName.{LaneName}
use Rattle.step_kinds.specs.declared.plan.Plan.{Plan}
use Rattle.ledger_model.specs.Log.{Answered, accepts, first_session}
use Rattle.pair_model.specs.Switch.{Switch}
use Rattle.ledger_model.specs.Origins.{Carried, Passage}
use Rattle.ledger_model.specs.Paths.{placed_from}
use Rattle.ledger_model.specs.Ports.{Port}
use Rattle.ledger_laws.proofs.PortLists.{MayJoin, lists_at}
use Rattle.ledger_laws.proofs.Subsequences.{IsPartOf, Ends, Drops, Takes, part-append, part-filter, part-none, part-whole}

abbrev pub inbox : List (Switch Carried) → Port → List Carried
inbox switches port = lists_at (λ s. s.inboxes) switches port

abbrev pub queue : List (Switch Carried) → Port → List Carried
queue switches port = lists_at (λ s. s.waiting) switches port

-- the list of a port, if there is one
abbrev pub where_port : (Port → List Carried) → Option Port → List Carried
where_port list None = []
where_port list (Some port) = list port

-- the frames from a lane
abbrev pub from_lane : LaneName → List Carried → List Carried
from_lane lane frames = filter (λ f. same_lane f.origin.lane lane) frames

-- the passages from one lane to another, and their frames
abbrev pub goes : LaneName → LaneName → Passage Carried → Bool
goes one other passage = same_lane passage.frame.origin.lane one && same_lane passage.begun.lane other

abbrev pub gone : LaneName → LaneName → List (Passage Carried) → List Carried
gone one other passages = map (λ p. p.frame) (filter (goes one other) passages)

-- what was begun on a lane by passages
abbrev pub begun_as : Passage Carried → Carried
begun_as passage = record { bytes = passage.frame.bytes; origin = passage.begun }

abbrev pub begun_on : LaneName → List (Passage Carried) → List Carried
begun_on lane passages = map begun_as (filter (λ p. same_lane p.begun.lane lane) passages)

-- what was accepted on a lane
abbrev pub acceptances : Plan → List Answered → LaneName → List Carried
acceptances plan log lane = placed_from (accepts plan lane) lane (first_session plan lane.pair) log

-- A subsequence of a list is a subsequence of that list with more items after it.
pub part-more : {A : Type 0} {xs ys : List A} (zs : List A) → IsPartOf xs ys → IsPartOf xs (ys ++ zs)
part-more zs Ends = part-none zs
part-more zs (Drops y part) = Drops y (part-more zs part)
part-more zs (Takes x part) = Takes x (part-more zs part)

from-append : (lane : LaneName) (xs ys : List Carried) → from_lane lane (xs ++ ys) ≡ from_lane lane xs ++ from_lane lane ys
from-append lane xs ys = filter-append (λ (f : Carried). same_lane f.origin.lane lane) xs ys

from-one : (lane : LaneName) (frame : Carried) → same_lane frame.origin.lane lane ≡ false → from_lane lane (frame ∷ []) ≡ []
from-one lane frame e = ap (λ b. if b then frame ∷ [] else []) e

-- Three lists: frames that passed, that wait and that arrived

module _ (lane : LaneName) (past waits came : List Carried) where
  -- the first that came waits now, or is dropped
  pub moved : (waits' : List Carried) (frame : Carried) (rest : List Carried) → came ≡ frame ∷ rest → MayJoin frame waits waits'
      → IsPartOf (past ++ (from_lane lane waits' ++ from_lane lane rest)) (past ++ (from_lane lane waits ++ from_lane lane came))
  moved waits' frame rest e (inl same) =
      subst (λ xs. IsPartOf (past ++ (from_lane lane waits' ++ from_lane lane rest)) (past ++ (from_lane lane waits ++ from_lane lane xs))) (sym e)
      (subst (λ xs. IsPartOf (past ++ (from_lane lane xs ++ from_lane lane rest)) (past ++ (from_lane lane waits ++ from_lane lane (frame ∷ rest)))) (sym same)
      (part-append (part-whole past) (part-append (part-whole (from_lane lane waits)) (part-filter (λ f. same_lane f.origin.lane lane) (Drops frame (part-whole rest))))))
  moved waits' frame rest e (inr joins) =
      subst (λ xs. IsPartOf (past ++ (from_lane lane waits' ++ from_lane lane rest)) (past ++ xs))
      (ap (λ xs. from_lane lane xs ++ from_lane lane rest) joins
      ∙ ap (λ xs. xs ++ from_lane lane rest) (from-append lane waits (frame ∷ []))
      ∙ append_assoc (from_lane lane waits) (from_lane lane (frame ∷ [])) (from_lane lane rest)
      ∙ ap (λ xs. from_lane lane waits ++ xs) (sym (from-append lane (frame ∷ []) rest))
      ∙ ap (λ xs. from_lane lane waits ++ from_lane lane xs) (sym e))
      (part-whole (past ++ (from_lane lane waits' ++ from_lane lane rest)))

  -- a frame from elsewhere moves
  pub moved_other : (waits' came' : List Carried) (frame : Carried) → same_lane frame.origin.lane lane ≡ false → MayJoin frame waits waits' → IsPartOf came' came
      → IsPartOf (past ++ (from_lane lane waits' ++ from_lane lane came')) (past ++ (from_lane lane waits ++ from_lane lane came))
  moved_other waits' came' frame other joins part =
      subst (λ xs. IsPartOf (past ++ (xs ++ from_lane lane came')) (past ++ (from_lane lane waits ++ from_lane lane came))) (sym (same joins))
      (part-append (part-whole past) (part-append (part-whole (from_lane lane waits)) (part-filter (λ f. same_lane f.origin.lane lane) part)))
    where
      same : MayJoin frame waits waits' → from_lane lane waits' ≡ from_lane lane waits
      same (inl e) = ap (from_lane lane) e
      same (inr e) = ap (from_lane lane) e ∙ from-append lane waits (frame ∷ []) ∙ ap (λ xs. from_lane lane waits ++ xs) (from-one lane frame other) ∙ append-nil (from_lane lane waits)

  -- the first that waits passes
  pub passes_on : (frame : Carried) (rest : List Carried) → waits ≡ frame ∷ rest → same_lane frame.origin.lane lane ≡ true
      → (past ++ frame ∷ []) ++ (from_lane lane rest ++ from_lane lane came) ≡ past ++ (from_lane lane waits ++ from_lane lane came)
  passes_on frame rest e is =
      append_assoc past (frame ∷ []) (from_lane lane rest ++ from_lane lane came)
      ∙ ap (λ b. past ++ ((if b then frame ∷ from_lane lane rest else from_lane lane rest) ++ from_lane lane came)) (sym is)
      ∙ ap (λ xs. past ++ (from_lane lane xs ++ from_lane lane came)) (sym e)

  -- frames are gone from those that wait
  pub fewer_wait : (waits' : List Carried) → IsPartOf waits' waits → IsPartOf (past ++ (from_lane lane waits' ++ from_lane lane came)) (past ++ (from_lane lane waits ++ from_lane lane came))
  fewer_wait waits' part =
      part-append (part-whole past) (part-append (part-filter (λ f. same_lane f.origin.lane lane) part) (part-whole (from_lane lane came)))

  -- a frame more comes
  pub one_came : (frame : Carried) (all more : List Carried) → IsPartOf (past ++ (from_lane lane waits ++ from_lane lane came)) all → IsPartOf (from_lane lane (frame ∷ [])) more
      → IsPartOf (past ++ (from_lane lane waits ++ from_lane lane (came ++ frame ∷ []))) (all ++ more)
  one_came frame all more part new =
      subst (λ xs. IsPartOf xs (all ++ more))
      (append_assoc past (from_lane lane waits ++ from_lane lane came) (from_lane lane (frame ∷ []))
      ∙ ap (λ xs. past ++ xs) (append_assoc (from_lane lane waits) (from_lane lane came) (from_lane lane (frame ∷ [])) ∙ ap (λ xs. from_lane lane waits ++ xs) (sym (from-append lane came (frame ∷ [])))))
      (part-append part new)
