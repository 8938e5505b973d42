-- Frames counted one session at one place.
use Rattle.std.proofs.Common.{◌≡◌, ◌≢◌, ◌∙◌, ℕ, zero, suc, ◌+◌, ◌<◌, ◌≤◌, ◌==◌, ◌⊎◌, Bool, true, false, List, [], ◌∷◌, ◌++◌, length, get_or, set, map, refl, sym, ap, subst, below_more, inl, inr, arith, if◌then◌else◌}
use Rattle.std.proofs.lemmas.Bool.{cases_eq, cases_lt, eqb-true}
use Rattle.std.proofs.lemmas.List.{get_or-map, get_or-set_other, get_or-set_same, get_or_append_left, get_or_push, length-append, length-map, length-set, map-append, map-set}
use Rattle.fabric_rule.specs.Parts.{SessionCount, count_in, one_more}
use Rattle.fabric_core.specs.Counts.{IsTally}
use Rattle.fabric_core.specs.Sessions.{AreApart, AreFew, AreUpTo, IsNowhere, IsPlaceOf, count_seen, no_count}
use Rattle.fabric_core.specs.declared.counts.OfSession.{OfSession}
use Rattle.fabric_core.specs.declared.counts.SessionCounts.TheInside.{Inside}

same : (a b : ℕ) → a ≡ b → (a == b) ≡ true
same a b e = grind arith

differs : (a b : ℕ) → a ≢ b → (a == b) ≡ false
differs a b h = go (a == b) refl where
  go : (test : Bool) → (a == b) ≡ test → (a == b) ≡ false
  go true e = absurd (h (eqb-true a b e))
  go false e = e

-- in the rest of the counts
nowhere_behind : (one : SessionCount) (counts : List SessionCount) (session n : ℕ) → IsNowhere (one ∷ counts) session (suc n) → IsNowhere counts session n
nowhere_behind one counts session n none = λ k below. none (suc k) (omega arith)

place_behind : (one : SessionCount) (counts : List SessionCount) (session place : ℕ) → IsPlaceOf (one ∷ counts) session (suc place) → IsPlaceOf counts session place
place_behind one counts session place is = record { within = omega (arith, is.within); there = is.there; first = nowhere_behind one counts session place is.first }

-- If a session has a place among the counts, one frame more of it adds one to the count at that place.
pub one_more-there : (counts : List SessionCount) (session place : ℕ) → IsPlaceOf counts session place
    → one_more counts session ≡ set counts place (record { session = session; count = (get_or counts place no_count).count + 1 })
one_more-there [] session place is = absurd (omega (arith, is.within))
one_more-there (one ∷ counts) session zero is =
    ap (λ test. if test then record { session = session; count = one.count + 1 } ∷ counts else one ∷ one_more counts session) (same one.session session is.there)
one_more-there (one ∷ counts) session (suc place) is =
    ap (λ test. if test then record { session = session; count = one.count + 1 } ∷ counts else one ∷ one_more counts session) (differs one.session session (is.first zero (omega arith)))
    ∙ ap (λ rest. one ∷ rest) (one_more-there counts session place (place_behind one counts session place is))

-- If a session has no place among the counts, one frame more of it puts a count of 1 after them.
pub one_more-nowhere : (counts : List SessionCount) (session : ℕ) → IsNowhere counts session (length counts) → one_more counts session ≡ counts ++ record { session = session; count = 1 } ∷ []
one_more-nowhere [] session none = refl
one_more-nowhere (one ∷ counts) session none =
    ap (λ test. if test then record { session = session; count = one.count + 1 } ∷ counts else one ∷ one_more counts session) (differs one.session session (none zero (omega arith)))
    ∙ ap (λ rest. one ∷ rest) (one_more-nowhere counts session (λ k below. none (suc k) (omega arith)))

-- A session that has no place among the counts has 0 frames.
pub count_in-nowhere : (counts : List SessionCount) (session : ℕ) → IsNowhere counts session (length counts) → count_in counts session ≡ 0
count_in-nowhere [] session none = refl
count_in-nowhere (one ∷ counts) session none =
    let here : (if one.session == session then one.count else 0) ≡ 0 = ap (λ test. if test then one.count else 0) (differs one.session session (none zero (omega arith))) in
    omega (arith, here, count_in-nowhere counts session (λ k below. none (suc k) (omega arith)))

apart_behind : (one : SessionCount) (counts : List SessionCount) → AreApart (one ∷ counts) → AreApart counts
apart_behind one counts apart = λ j k before below. apart (suc j) (suc k) (omega arith) (omega arith)

-- If each session is counted at one place, a session has as many frames as the count at its place says.
pub count_in-there : (counts : List SessionCount) (session place : ℕ) → AreApart counts → IsPlaceOf counts session place → count_in counts session ≡ (get_or counts place no_count).count
count_in-there [] session place apart is = absurd (omega (arith, is.within))
count_in-there (one ∷ counts) session zero apart is =
    let here : (if one.session == session then one.count else 0) ≡ one.count = ap (λ test. if test then one.count else 0) (same one.session session is.there) in
    let none : IsNowhere counts session (length counts) = λ k below e. apart zero (suc k) (omega arith) (omega arith) (is.there ∙ sym e) in
    omega (arith, here, count_in-nowhere counts session none)
count_in-there (one ∷ counts) session (suc place) apart is =
    let here : (if one.session == session then one.count else 0) ≡ 0 = ap (λ test. if test then one.count else 0) (differs one.session session (is.first zero (omega arith))) in
    omega (arith, here, count_in-there counts session place (apart_behind one counts apart) (place_behind one counts session place is))

-- The counts as they are kept

seen_at : (counts : List OfSession) (place : ℕ) (one : OfSession) → place < length counts → one ≡ get_or counts place one → get_or (map count_seen counts) place no_count ≡ count_seen one
seen_at counts place one below is = get_or-map count_seen counts place one no_count below ∙ ap count_seen (sym is)

within_seen : (counts : List OfSession) (session place : ℕ) → IsPlaceOf (map count_seen counts) session place → place < length counts
within_seen counts session place is = subst (λ n. place < n) (length-map counts count_seen) is.within

-- A session that no place before this one counts, nor this one itself, is counted at none up to it.
pub nowhere_more : (counts : List OfSession) (session place : ℕ) (none : OfSession) → IsNowhere (map count_seen counts) session place → place < length counts
    → ((get_or counts place none).session ≡ session → ⊥) → IsNowhere (map count_seen counts) session (place + 1)
nowhere_more counts session place none before below differs =
    below_more _ _ before (λ e. differs (sym (ap (λ (one : SessionCount). one.session) (get_or-map count_seen counts place none no_count below)) ∙ e))

-- The count kept at a session's place is the number of its frames, if each session has one place.
pub counted_in : (counts : List OfSession) (session place : ℕ) (one : OfSession) → AreApart (map count_seen counts) → IsPlaceOf (map count_seen counts) session place
    → one ≡ get_or counts place one → one.count ≡ count_in (map count_seen counts) session
counted_in counts session place one apart is at =
    sym (ap (λ (one : SessionCount). one.count) (seen_at counts place one (within_seen counts session place is) at)) ∙ sym (count_in-there (map count_seen counts) session place apart is)

-- A session that none of the kept counts is of has 0 frames.
pub none_in : (counts : List OfSession) (session : ℕ) → IsNowhere (map count_seen counts) session (length counts) → 0 ≡ count_in (map count_seen counts) session
none_in counts session none = sym (count_in-nowhere (map count_seen counts) session (subst (λ n. IsNowhere (map count_seen counts) session n) (sym (length-map counts count_seen)) none))

-- One more at its place

abbrev pub more_of : OfSession → OfSession
more_of one = record { session = one.session; count = one.count + 1 }

-- Adding one to the kept count at a session's place counts one frame more of that session.
pub one_more_at : (counts : List OfSession) (session place : ℕ) (one : OfSession) → IsPlaceOf (map count_seen counts) session place → one ≡ get_or counts place one
    → map count_seen (set counts place (more_of one)) ≡ one_more (map count_seen counts) session
one_more_at counts session place one is at =
    let seen = seen_at counts place one (within_seen counts session place is) at in
    let same : one.session ≡ session = sym (ap (λ (one : SessionCount). one.session) seen) ∙ is.there in
    map-set count_seen counts place (more_of one)
    ∙ ap (λ n. set (map count_seen counts) place (record { session = n; count = one.count + 1 })) same
    ∙ ap (λ n. set (map count_seen counts) place (record { session = session; count = n + 1 })) (sym (ap (λ (one : SessionCount). one.count) seen))
    ∙ sym (one_more-there (map count_seen counts) session place is)

-- A count of 1 after the kept ones counts one frame more of a session that had no place among them.
pub one_more_behind : (counts : List OfSession) (session : ℕ) → IsNowhere (map count_seen counts) session (length counts)
    → map count_seen (counts ++ record { session = session; count = 1 } ∷ []) ≡ one_more (map count_seen counts) session
one_more_behind counts session none =
    map-append count_seen counts (record { session = session; count = 1 } ∷ [])
    ∙ sym (one_more-nowhere (map count_seen counts) session (subst (λ n. IsNowhere (map count_seen counts) session n) (sym (length-map counts count_seen)) none))

-- What is so of all counts stays so, if the count at a place grows

same_sessions : (counts : List SessionCount) (place : ℕ) (one : SessionCount) → place < length counts → one.session ≡ (get_or counts place no_count).session
    → (k : ℕ) → (get_or (set counts place one) k no_count).session ≡ (get_or counts k no_count).session
same_sessions counts place one within same k = by_place (cases_eq k place) where
  by_place : (k ≡ place) ⊎ (k ≡ place → ⊥) → (get_or (set counts place one) k no_count).session ≡ (get_or counts k no_count).session
  by_place (inl e) = subst (λ k. (get_or (set counts place one) k no_count).session ≡ (get_or counts k no_count).session) (sym e) (ap (λ (one : SessionCount). one.session) (get_or-set_same counts place one no_count within) ∙ same)
  by_place (inr differs) = ap (λ (one : SessionCount). one.session) (get_or-set_other counts place k one no_count differs)

-- Sessions stay counted at one place each where a count changes and its session stays.
pub apart_set : (counts : List SessionCount) (place : ℕ) (one : SessionCount) → place < length counts → one.session ≡ (get_or counts place no_count).session → AreApart counts
    → AreApart (set counts place one)
apart_set counts place one within same apart = λ j k before below e.
    apart j k before (subst (λ n. k < n) (length-set counts place one) below) (sym (same_sessions counts place one within same j) ∙ e ∙ same_sessions counts place one within same k)

-- A bound on all counted sessions still holds where a count changes and its session stays.
pub up_to_set : (counts : List SessionCount) (place most : ℕ) (one : SessionCount) → place < length counts → one.session ≡ (get_or counts place no_count).session → AreUpTo counts most
    → AreUpTo (set counts place one) most
up_to_set counts place most one within same up_to = λ k below.
    omega (arith, same_sessions counts place one within same k, up_to k (subst (λ n. k < n) (length-set counts place one) below))

-- Counts of at most n frames become counts of at most n + 1 where one of them is set to n + 1 or less.
pub few_set : (counts : List SessionCount) (place made : ℕ) (one : SessionCount) → place < length counts → one.count ≤ made + 1 → AreFew counts made → AreFew (set counts place one) (made + 1)
few_set counts place made one within fits few = λ k below. by_place k (subst (λ n. k < n) (length-set counts place one) below) (cases_eq k place) where
  by_place : (k : ℕ) → k < length counts → (k ≡ place) ⊎ (k ≡ place → ⊥) → (get_or (set counts place one) k no_count).count ≤ made + 1
  by_place k below (inl e) = subst (λ k. (get_or (set counts place one) k no_count).count ≤ made + 1) (sym e) (subst (λ (one : SessionCount). one.count ≤ made + 1) (sym (get_or-set_same counts place one no_count within)) fits)
  by_place k below (inr differs) = omega (arith, ap (λ (one : SessionCount). one.count) (get_or-set_other counts place k one no_count differs), few k below)

-- and where one more session is counted

at_push : (counts : List SessionCount) (one : SessionCount) (P : SessionCount → Type 0) → ((k : ℕ) → k < length counts → P (get_or counts k no_count)) → P one
    → (k : ℕ) → k < length (counts ++ one ∷ []) → P (get_or (counts ++ one ∷ []) k no_count)
at_push counts one P each last k below = by_place (cases_lt k (length counts)) where
  by_place : (k < length counts) ⊎ (length counts ≤ k) → P (get_or (counts ++ one ∷ []) k no_count)
  by_place (inl before) = subst P (sym (get_or_append_left counts (one ∷ []) no_count k before)) (each k before)
  by_place (inr behind) =
      let there : length counts ≡ k = omega (arith, below, length-append counts (one ∷ [])) in
      subst P (sym (get_or_push counts one no_count k there)) last

-- Sessions stay counted at one place each where one that had no place is added.
pub apart_push : (counts : List SessionCount) (one : SessionCount) → IsNowhere counts one.session (length counts) → AreApart counts → AreApart (counts ++ one ∷ [])
apart_push counts one none apart = λ j k before below. by_place j k before below (cases_lt k (length counts)) where
  by_place : (j k : ℕ) → j < k → k < length (counts ++ one ∷ []) → (k < length counts) ⊎ (length counts ≤ k)
      → (get_or (counts ++ one ∷ []) j no_count).session ≢ (get_or (counts ++ one ∷ []) k no_count).session
  by_place j k before below (inl inside) = λ e.
      let sooner : j < length counts = omega (arith, before, inside) in
      apart j k before inside
      (sym (ap (λ (one : SessionCount). one.session) (get_or_append_left counts (one ∷ []) no_count j sooner)) ∙ e ∙ ap (λ (one : SessionCount). one.session) (get_or_append_left counts (one ∷ []) no_count k inside))
  by_place j k before below (inr behind) = λ e.
      let there : length counts ≡ k = omega (arith, below, behind, length-append counts (one ∷ [])) in
      let sooner : j < length counts = omega (arith, before, there) in
      none j sooner
      (sym (ap (λ (one : SessionCount). one.session) (get_or_append_left counts (one ∷ []) no_count j sooner)) ∙ e ∙ ap (λ (one : SessionCount). one.session) (get_or_push counts one no_count k there))

-- A bound on all counted sessions may grow, and holds with one session added that the grown bound covers.
pub up_to_push : (counts : List SessionCount) (one : SessionCount) (most more : ℕ) → most ≤ more → one.session ≤ more → AreUpTo counts most → AreUpTo (counts ++ one ∷ []) more
up_to_push counts one most more grows fits up_to =
    at_push counts one (λ (one : SessionCount). one.session ≤ more) (λ k below. omega (arith, grows, up_to k below)) fits

-- Counts of at most n frames become counts of at most n + 1 where a count of n + 1 or less is added.
pub few_push : (counts : List SessionCount) (one : SessionCount) (made : ℕ) → one.count ≤ made + 1 → AreFew counts made → AreFew (counts ++ one ∷ []) (made + 1)
few_push counts one made fits few =
    at_push counts one (λ (one : SessionCount). one.count ≤ made + 1) (λ k below. omega (arith, few k below)) fits

-- All that is kept, after one more

-- A tally stays right as the count at a session's place grows by one, and its room for a frame is used up.
pub tally_at : (old new : Inside) (session place : ℕ) (one : OfSession) → IsTally old → old.has_room ≡ true → IsPlaceOf (map count_seen old.counts.items) session place
    → one ≡ get_or old.counts.items place one → new.counts.items ≡ set old.counts.items place (more_of one) → new.most ≡ old.most → new.made ≡ old.made
    → IsTally (record { counts = new.counts; most = new.most; made = new.made + 1; has_room = false })
tally_at old new session place one is room there at counts most made =
    let seen = seen_at old.counts.items place one (within_seen old.counts.items session place there) at in
    let same : one.session ≡ (get_or (map count_seen old.counts.items) place no_count).session = sym (ap (λ (one : SessionCount). one.session) seen) in
    let count : (get_or (map count_seen old.counts.items) place no_count).count ≡ one.count = ap (λ (one : SessionCount). one.count) seen in
    let items : map count_seen new.counts.items ≡ set (map count_seen old.counts.items) place (count_seen (more_of one)) = ap (map count_seen) counts ∙ map-set count_seen old.counts.items place (more_of one) in
    let fits : one.count + 1 ≤ new.made + 1 = omega (arith, is.few place there.within, count, made) in
    record {
      apart = subst AreApart (sym items) (apart_set (map count_seen old.counts.items) place (count_seen (more_of one)) there.within same is.apart);
      most =
          subst (λ counts. AreUpTo counts new.most) (sym items)
          (subst (λ n. AreUpTo (set (map count_seen old.counts.items) place (count_seen (more_of one))) n) (sym most) (up_to_set (map count_seen old.counts.items) place old.most (count_seen (more_of one)) there.within same is.most));
      few =
          subst (λ counts. AreFew counts (new.made + 1)) (sym items)
          (few_set (map count_seen old.counts.items) place new.made (count_seen (more_of one)) there.within fits (subst (λ n. AreFew (map count_seen old.counts.items) n) (sym made) is.few));
      made = omega (arith, is.more room, made);
      room = λ none. absurd (cc none);
      more = λ none. absurd (cc none);
    }

-- A tally stays right as a session without a place is added with a count of 1, and its room for a frame is used up.
pub tally_behind : (old new : Inside) (session : ℕ) → IsTally old → old.has_room ≡ true → IsNowhere (map count_seen old.counts.items) session (length old.counts.items)
    → new.counts.items ≡ old.counts.items ++ record { session = session; count = 1 } ∷ [] → old.most ≤ new.most → session ≤ new.most → new.made ≡ old.made
    → IsTally (record { counts = new.counts; most = new.most; made = new.made + 1; has_room = false })
tally_behind old new session is room none counts grows fits made =
    let one : OfSession = record { session = session; count = 1 } in
    let items : map count_seen new.counts.items ≡ map count_seen old.counts.items ++ count_seen one ∷ [] = ap (map count_seen) counts ∙ map-append count_seen old.counts.items (one ∷ []) in
    let nowhere = subst (λ n. IsNowhere (map count_seen old.counts.items) session n) (sym (length-map old.counts.items count_seen)) none in
    record {
      apart = subst AreApart (sym items) (apart_push (map count_seen old.counts.items) (count_seen one) nowhere is.apart);
      most = subst (λ counts. AreUpTo counts new.most) (sym items) (up_to_push (map count_seen old.counts.items) (count_seen one) old.most new.most grows fits is.most);
      few =
          subst (λ counts. AreFew counts (new.made + 1)) (sym items)
          (few_push (map count_seen old.counts.items) (count_seen one) new.made (omega arith) (subst (λ n. AreFew (map count_seen old.counts.items) n) (sym made) is.few));
      made = omega (arith, is.more room, made);
      room = λ none. absurd (cc none);
      more = λ none. absurd (cc none);
    }
