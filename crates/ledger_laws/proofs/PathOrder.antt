-- The frames of a path have the bytes of their origins, in no origin twice, and the origins rise.
use Rattle.std.proofs.Common.{◌≡◌, Bool, true, false, List, [], ◌∷◌, Option, Some, None, map, refl, sym, ap, ◌∙◌, subst, inl, inr}
use Rattle.std.specs.Prelude.{◌&&◌, if◌then◌else◌, option_map}
use Rattle.std.specs.List.{AllByRecursion, IsDistinct, filter, find}
use Rattle.std.proofs.lemmas.Bool.{and_from, and_parts}
use Rattle.step_kinds.specs.Sides.{same_lane}
use Rattle.step_kinds.specs.declared.names.LaneName.{LaneName}
use Rattle.step_kinds.specs.declared.plan.Plan.{Plan}
use Rattle.step_kinds.specs.declared.steps.Step.{Step}
use Rattle.ledger_model.specs.Log.{Answered, Memories, Numbered, accepted, accepts, delivered, delivers, first_session, log_of}
use Rattle.ledger_laws.specs.Laws.{LogBegins, IsOrdinaryPair}
use Rattle.ledger_laws.proofs.FramesInOrder.{every_log_is_in_order}
use Rattle.ledger_model.specs.NetworkLog.{traced_network}
use Rattle.ledger_model.specs.Origins.{Carried, Origin, Passage}
use Rattle.ledger_model.specs.Paths.{deliveries, gone_back, leads, path_back, same_origin}
use Rattle.ledger_laws.specs.Paths.{AreOrdinary, IsBefore, IsFrom, KeepsOrder, Rises, StandsIn, numbered}
use Rattle.ledger_laws.proofs.PassageRuns.{passages_kept}
use Rattle.ledger_laws.proofs.PlacedFrames.{all_on_lane, number_tells, placed_rise, placed_stands}
use Rattle.ledger_laws.proofs.Places.{before-another, before-differs, before-one_way, lane_itself, same_origin-true}
use Rattle.ledger_laws.proofs.Routes.{acceptances, begun_as, begun_on, goes, gone, part-more}
use Rattle.ledger_laws.proofs.Subsequences.{IsPartOf, Ends, Drops, Takes, all-at, all-filter_map, all-weaker, compare-rises, found-stands, part-map, part-of_part, part-whole, rises-both, rises-filter_map, rises-mapped, rises-part, rises-unmapped, stands-append, stands-filter, stands-map, stands-part}

-- those that pass two tests are a part of those that pass one
part-stricter : {A : Type 0} (p q : A → Bool) (xs : List A) → IsPartOf (filter (λ x. p x && q x) xs) (filter q xs)
part-stricter p q [] = Ends
part-stricter p q (x ∷ xs) = by (p x) (q x) (part-stricter p q xs)
  where
    by : (a b : Bool) → IsPartOf (filter (λ x. p x && q x) xs) (filter q xs)
        → IsPartOf (if a && b then x ∷ filter (λ x. p x && q x) xs else filter (λ x. p x && q x) xs) (if b then x ∷ filter q xs else filter q xs)
    by true true h = Takes x h
    by true false h = h
    by false true h = Drops x h
    by false false h = h

stands-prefix : (f : Numbered) (xs ys : List Numbered) → LogBegins xs ys → StandsIn f xs → StandsIn f ys
stands-prefix f xs ys begins s = subst (StandsIn f) (sym begins.1) (stands-append f xs begins.0 s)

each_stands : {A : Type 0} (xs ys : List A) → IsPartOf xs ys → AllByRecursion (λ x. StandsIn x ys) xs
each_stands [] ys part = tt
each_stands (x ∷ xs) ys part = (stands-part x part (inl refl), each_stands xs ys (part-of_part part xs (Drops x (part-whole xs))))

abbrev Before : Carried → Carried → Type 0
Before c d = IsBefore c.origin d.origin

module _ (plan : Plan) (memories : Memories) (made : List Step) (passages : List (Passage Carried)) where
  abbrev log : List Answered
  log = log_of plan memories made

  deliveries_rise : (lane : LaneName) → IsOrdinaryPair plan lane.pair → Rises Before (deliveries plan log lane)
  deliveries_rise lane ordinary =
      placed_rise (delivers lane) lane (first_session plan lane.pair) log (λ session. (every_log_is_in_order plan memories made lane session ordinary).delivered_numbers)

  acceptances_rise : (lane : LaneName) → IsOrdinaryPair plan lane.pair → Rises Before (acceptances plan log lane)
  acceptances_rise lane ordinary =
      placed_rise (accepts plan lane) lane (first_session plan lane.pair) log (λ session. (every_log_is_in_order plan memories made lane session ordinary).accepted_numbers)

  delivery_on : (lane : LaneName) (c : Carried) → StandsIn c (deliveries plan log lane) → c.origin.lane ≡ lane
  delivery_on lane c s = all-at (λ (d : Carried). d.origin.lane ≡ lane) c (deliveries plan log lane) (all_on_lane (delivers lane) lane (first_session plan lane.pair) log) s

  -- what was delivered was accepted
  delivery_accepted : (lane : LaneName) → IsOrdinaryPair plan lane.pair → (c : Carried) → StandsIn c (deliveries plan log lane) → StandsIn (numbered c) (accepted plan log lane c.origin.session)
  delivery_accepted lane ordinary c s =
      stands-prefix (numbered c) (delivered plan log lane c.origin.session) (accepted plan log lane c.origin.session)
      (every_log_is_in_order plan memories made lane c.origin.session ordinary).prefix
      (placed_stands (delivers lane) lane (first_session plan lane.pair) log c s)

  -- From one lane to another

  module _ (one other : LaneName) (ordinary : IsOrdinaryPair plan one.pair) (other_ordinary : IsOrdinaryPair plan other.pair)
      (frames : IsPartOf (gone one other passages) (deliveries plan log one)) (begun : IsPartOf (begun_on other passages) (acceptances plan log other)) where
    abbrev between : List (Passage Carried)
    between = filter (goes one other) passages

    begun_between : IsPartOf (map begun_as between) (acceptances plan log other)
    begun_between =
        part-of_part begun (map begun_as between)
        (part-map begun_as (part-stricter (λ (p : Passage Carried). same_lane p.frame.origin.lane one) (λ p. same_lane p.begun.lane other) passages))

    abbrev Both : Passage Carried → Passage Carried → Type 0
    Both p q = IsBefore p.frame.origin q.frame.origin × IsBefore p.begun q.begun

    between_rise : Rises Both between
    between_rise =
        rises-both (λ (p q : Passage Carried). IsBefore p.frame.origin q.frame.origin) (λ p q. IsBefore p.begun q.begun) between
        (rises-unmapped Before (λ (p : Passage Carried). p.frame) between (rises-part Before frames (deliveries_rise one ordinary)))
        (rises-unmapped Before begun_as between (rises-part Before begun_between (acceptances_rise other other_ordinary)))

    -- a frame delivered on the second lane, and what it is on the first
    record Back (x y : Carried) : Type 0 where
      by : Passage Carried
      there : StandsIn by between
      began : by.begun ≡ x.origin
      is : record x { origin = by.frame.origin } ≡ y

    back_by : (x y : Carried) → x.origin.lane ≡ other → (o : Option (Passage Carried)) → find (leads one x.origin) passages ≡ o
        → option_map (λ passage. record x { origin = passage.frame.origin }) o ≡ Some y → Back x y
    back_by x y on None e f = absurd (none f)
      where
        none : None ≡ Some y → ⊥
        none g = cc
    back_by x y on (Some p) e f =
        let found = found-stands (leads one x.origin) passages p e in
        let parts = and_parts (same_lane p.frame.origin.lane one) (same_origin p.begun x.origin) found.0 in
        let began : p.begun ≡ x.origin = same_origin-true p.begun x.origin parts.1 in
        let ends : p.begun.lane ≡ other = ap (λ (o : Origin). o.lane) began ∙ on in
        record {
          by = p;
          there = stands-filter (goes one other) p passages
              (and_from (same_lane p.frame.origin.lane one) (same_lane p.begun.lane other) parts.0 (subst (λ l. same_lane l other ≡ true) (sym ends) (lane_itself other))) found.1;
          began = began;
          is = same (record x { origin = p.frame.origin }) f;
        }
      where
        same : (z : Carried) → Some z ≡ Some y → z ≡ y
        same z g = cc

    back : (x y : Carried) → StandsIn x (deliveries plan log other) → gone_back passages one x ≡ Some y → Back x y
    back x y s e = back_by x y (delivery_on other x s) (find (leads one x.origin) passages) refl e

    -- it has the same bytes there
    same_bytes : (x : Carried) → StandsIn x (deliveries plan log other) → (p : Passage Carried) → StandsIn p between → p.begun ≡ x.origin → p.frame.bytes ≡ x.bytes
    same_bytes x s p there began =
        let begun_there : StandsIn (numbered (begun_as p)) (accepted plan log other p.begun.session) =
        placed_stands (accepts plan other) other (first_session plan other.pair) log (begun_as p) (stands-part (begun_as p) begun_between (stands-map begun_as p between there)) in
        ap (λ (f : Numbered). f.bytes)
        (number_tells 0 (accepted plan log other x.origin.session) (numbered (begun_as p)) (numbered x) (every_log_is_in_order plan memories made other x.origin.session other_ordinary).accepted_numbers
        (subst (λ (o : Origin). StandsIn (numbered (begun_as p)) (accepted plan log other o.session)) began begun_there) (delivery_accepted other other_ordinary x s)
        (ap (λ (o : Origin). o.number) began))

    pub back_stands : (x y : Carried) → StandsIn x (deliveries plan log other) → gone_back passages one x ≡ Some y → StandsIn y (deliveries plan log one)
    back_stands x y s e =
        let found = back x y s e in
        let p = found.by in
        let there : StandsIn p.frame (deliveries plan log one) = stands-part p.frame frames (stands-map (λ (q : Passage Carried). q.frame) p between found.there) in
        subst (λ z. StandsIn z (deliveries plan log one)) (ap (λ bytes. record { bytes = bytes; origin = p.frame.origin }) (same_bytes x s p found.there found.began) ∙ found.is) there

    pub back_rises : (x z y w : Carried) → StandsIn x (deliveries plan log other) → StandsIn z (deliveries plan log other) → Before x z → gone_back passages one x ≡ Some y → gone_back passages one z ≡ Some w
        → Before y w
    back_rises x z y w s t less e f =
        let p = back x y s e in
        let q = back z w t f in
        elim (compare-rises Both p.by q.by between between_rise p.there q.there) [
          | inl same ↦ absurd (before-another x.origin z.origin less (sym p.began ∙ ap (λ (g : Passage Carried). g.begun) same ∙ q.began))
          | inr order ↦ elim order [
            | inl up ↦ subst (λ (c : Carried). IsBefore y.origin c.origin) q.is (subst (λ (c : Carried). IsBefore c.origin q.by.frame.origin) p.is up.0)
            | inr down ↦ absurd (before-one_way x.origin z.origin less (subst (λ o. IsBefore o x.origin) q.began (subst (λ o. IsBefore q.by.begun o) p.began down.1)))
          ]
        ]

  -- Along all lanes

  module _ (frames : (one other : LaneName) → IsPartOf (gone one other passages) (deliveries plan log one)) (begun : (other : LaneName) → IsPartOf (begun_on other passages) (acceptances plan log other)) where
    path_stands : (lane : LaneName) (others : List LaneName) → AreOrdinary plan (lane ∷ others)
        → AllByRecursion (λ c. StandsIn c (deliveries plan log lane)) (path_back (deliveries plan log) passages lane others) × Rises Before (path_back (deliveries plan log) passages lane others)
    path_stands lane [] ordinary = (each_stands (deliveries plan log lane) (deliveries plan log lane) (part-whole (deliveries plan log lane)), deliveries_rise lane ordinary.0)
    path_stands lane (next ∷ others) ordinary =
        let rest = path_stands next others ordinary.1 in
        let path = path_back (deliveries plan log) passages next others in (
          all-filter_map (gone_back passages lane) (λ c. StandsIn c (deliveries plan log next)) (λ c. StandsIn c (deliveries plan log lane))
              (back_stands lane next ordinary.0 ordinary.1.0 (frames lane next) (begun next)) path rest.0,
          rises-filter_map (gone_back passages lane) (λ c. StandsIn c (deliveries plan log next)) Before Before
              (back_rises lane next ordinary.0 ordinary.1.0 (frames lane next) (begun next)) path rest.0 rest.1,
        )

    distinct : (os : List Origin) → Rises IsBefore os → IsDistinct same_origin os
    unfolding IsDistinct
    distinct [] h = tt
    distinct (o ∷ os) h = (all-weaker (IsBefore o) (λ other. same_origin o other ≡ false) (before-differs o) os h.0, distinct os h.1)

    pub path_order : (lane : LaneName) (others : List LaneName) → AreOrdinary plan (lane ∷ others) → KeepsOrder plan log lane (path_back (deliveries plan log) passages lane others)
    path_order lane others ordinary =
        let path = path_back (deliveries plan log) passages lane others in
        let known = path_stands lane others ordinary in
        let rises : Rises IsBefore (map (λ frame. frame.origin) path) = rises-mapped IsBefore (λ (c : Carried). c.origin) path known.1 in
        record {
          whole =
              all-weaker (λ c. StandsIn c (deliveries plan log lane)) (IsFrom plan log lane)
              (λ c s. record {
                on_lane = delivery_on lane c s;
                delivered_there = placed_stands (delivers lane) lane (first_session plan lane.pair) log c s;
                accepted_there = delivery_accepted lane ordinary.0 c s;
              }) path known.0;
          once = distinct (map (λ frame. frame.origin) path) rises;
          in_order = rises;
        }

-- along all lanes, in the log of the steps that were made on bridges
pub bridge_paths_keep_order : (plan : Plan) (memories : Memories) (steps : List Step) (first : LaneName) (others : List LaneName) → AreOrdinary plan (first ∷ others) →
    let log = log_of plan memories (traced_network plan memories steps).steps in
    KeepsOrder plan log first (path_back (deliveries plan log) (traced_network plan memories steps).passages first others)
bridge_paths_keep_order plan memories steps first others ordinary =
    let net = traced_network plan memories steps in
    path_order plan memories net.steps net.passages
    (λ one other. part-of_part (passages_kept plan memories steps one other).routed (gone one other net.passages) (part-more _ (part-whole (gone one other net.passages))))
    (λ other. (passages_kept plan memories steps other other).begun) first others ordinary
