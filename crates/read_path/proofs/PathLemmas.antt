-- A landing on a path, made of what it does to both sides.
use Rattle.std.proofs.Common.{◌≡◌, ℕ, Bool, true, false, Option, Some, None, List, slice_get, take, refl, sym, ap, ◌∙◌, if◌then◌else◌}
use Rattle.step_kinds.specs.declared.names.Side.{Side}
use Rattle.step_kinds.specs.declared.names.Side.TheVariants.{A, B}
use Rattle.pair_model.specs.Link.{is_up}
use Rattle.pair_model.specs.declared.LinkState.{LinkState}
use Rattle.pair_model.specs.declared.LinkState.TheVariants.{Down, Up, Closing}
use Rattle.read_path.specs.InFlight.{PathFlying, Write, Request, Part, Last, lands_after, may_pass_all}
use Rattle.read_path.specs.Path.{PathState, path_after_land, path_taken}
use Rattle.read_path.specs.Ends.{path_end_seen, from_after, reached, reached_by, to_after, without_place}
use Rattle.read_path.specs.declared.end.End.{End}

-- the path that two sides make
abbrev pub path_of : LinkState → ℕ → End → End → PathState
path_of link session a b = record { link = link; session = session; sides = record { a = path_end_seen a; b = path_end_seen b } }

-- a landing of what side A has in flight
a_may_land : (link : LinkState) (session : ℕ) (a b : End) (place : ℕ) (flying : PathFlying) (lands : Bool)
    → path_of link session (if lands then without_place a place else a) (if lands then reached (is_up link) b flying else b) ≡ (if lands then path_taken (path_of link session a b) A place (Some flying) else path_of link session a b)
a_may_land link session a b place flying false = refl
a_may_land link session a b place (Write at bytes relaxed) true = refl
a_may_land Down session a b place (Request number at len) true = refl
a_may_land Closing session a b place (Request number at len) true = refl
a_may_land Up session a b place (Request number at len) true = refl
a_may_land link session a b place (Part number part) true = refl
a_may_land link session a b place (Last number bytes) true = refl

a_lands : (link : LinkState) (session : ℕ) (a b : End) (place : ℕ) (what : Option PathFlying) (before : List PathFlying)
    → path_of link session (if lands_after what before then without_place a place else a) (if lands_after what before then reached_by (is_up link) b what else b) ≡ (if lands_after what before then path_taken (path_of link session a b) A place what else path_of link session a b)
a_lands link session a b place None before = refl
a_lands link session a b place (Some flying) before = a_may_land link session a b place flying (may_pass_all flying before)

-- What a landing of side A's flight does to each of the two sides makes up the path after that landing.
pub a_landing : (link : LinkState) (session : ℕ) (a b : End) (place : ℕ) → path_of link session (from_after a place) (to_after (is_up link) a b place) ≡ path_after_land (path_of link session a b) A place
a_landing link session a b place = a_lands link session a b place (slice_get a.flight.flying place) (take place a.flight.flying)

-- a landing of what side B has in flight
b_may_land : (link : LinkState) (session : ℕ) (a b : End) (place : ℕ) (flying : PathFlying) (lands : Bool)
    → path_of link session (if lands then reached (is_up link) a flying else a) (if lands then without_place b place else b) ≡ (if lands then path_taken (path_of link session a b) B place (Some flying) else path_of link session a b)
b_may_land link session a b place flying false = refl
b_may_land link session a b place (Write at bytes relaxed) true = refl
b_may_land Down session a b place (Request number at len) true = refl
b_may_land Closing session a b place (Request number at len) true = refl
b_may_land Up session a b place (Request number at len) true = refl
b_may_land link session a b place (Part number part) true = refl
b_may_land link session a b place (Last number bytes) true = refl

b_lands : (link : LinkState) (session : ℕ) (a b : End) (place : ℕ) (what : Option PathFlying) (before : List PathFlying)
    → path_of link session (if lands_after what before then reached_by (is_up link) a what else a) (if lands_after what before then without_place b place else b) ≡ (if lands_after what before then path_taken (path_of link session a b) B place what else path_of link session a b)
b_lands link session a b place None before = refl
b_lands link session a b place (Some flying) before = b_may_land link session a b place flying (may_pass_all flying before)

-- What a landing of side B's flight does to each of the two sides makes up the path after that landing.
pub b_landing : (link : LinkState) (session : ℕ) (a b : End) (place : ℕ) → path_of link session (to_after (is_up link) b a place) (from_after b place) ≡ path_after_land (path_of link session a b) B place
b_landing link session a b place = b_lands link session a b place (slice_get b.flight.flying place) (take place b.flight.flying)

-- A path whose sides are as after a landing is the path after it

-- Two sides as a landing of side A's flight leaves them make up the path after it, if they made up the path before.
pub a_seen : (link : LinkState) (session : ℕ) (a b new_a new_b : End) (path : PathState) (side : Side) (place : ℕ) (up : Bool) → path_of link session a b ≡ path → side ≡ A → up ≡ is_up path.link
    → new_a ≡ from_after a place → new_b ≡ to_after up a b place → path_of link session new_a new_b ≡ path_after_land path side place
a_seen link session a b new_a new_b path side place up seen side_is up_is from to =
    ap (λ (e : End). path_of link session e new_b) from
    ∙ (ap (λ (e : End). path_of link session (from_after a place) e) (to ∙ ap (λ (u : Bool). to_after u a b place) (up_is ∙ ap (λ (p : PathState). is_up p.link) (sym seen)))
    ∙ (a_landing link session a b place ∙ (ap (λ (p : PathState). path_after_land p A place) seen ∙ ap (λ (s : Side). path_after_land path s place) (sym side_is))))

-- Two sides as a landing of side B's flight leaves them make up the path after it, if they made up the path before.
pub b_seen : (link : LinkState) (session : ℕ) (a b new_a new_b : End) (path : PathState) (side : Side) (place : ℕ) (up : Bool) → path_of link session a b ≡ path → side ≡ B → up ≡ is_up path.link
    → new_b ≡ from_after b place → new_a ≡ to_after up b a place → path_of link session new_a new_b ≡ path_after_land path side place
b_seen link session a b new_a new_b path side place up seen side_is up_is from to =
    ap (λ (e : End). path_of link session new_a e) from
    ∙ (ap (λ (e : End). path_of link session e (from_after b place)) (to ∙ ap (λ (u : Bool). to_after u b a place) (up_is ∙ ap (λ (p : PathState). is_up p.link) (sym seen)))
    ∙ (b_landing link session a b place ∙ (ap (λ (p : PathState). path_after_land p B place) seen ∙ ap (λ (s : Side). path_after_land path s place) (sym side_is))))
