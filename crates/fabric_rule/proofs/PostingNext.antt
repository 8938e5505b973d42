-- Posting the next write of a lane.
use Rattle.std.proofs.Common.{◌≡◌, ℕ, ◌+◌, ◌-◌, ◌<◌, ◌||◌, Bool, true, false, List, [], ◌∷◌, ◌++◌, length, map, refl, sym, ap, ◌∙◌, subst, inl, inr, ⊎_elim, arith}
use Rattle.std.specs.Prelude.{if◌then◌else◌, not, slice_index_or}
use Rattle.std.specs.List.{AllByRecursion}
use Rattle.std.proofs.lemmas.Bool.{false≢true}
use Rattle.std.proofs.lemmas.List.{append-nil, length-append}
use Rattle.step_kinds.specs.declared.names.Side.{Side}
use Rattle.step_kinds.specs.declared.plan.DevPlan.{DevPlan}
use Rattle.step_kinds.specs.declared.plan.PairPlan.{PairPlan}
use Rattle.step_kinds.specs.declared.steps.Label.{Label}
use Rattle.step_kinds.specs.declared.steps.Step.TheVariants.{Post}
use Rattle.lane_model.specs.Lane.{Entry, GoesDown, data_of, writes_of}
use Rattle.lane_model.specs.declared.Write.TheVariants.{Flag, Bell}
use Rattle.lane_model.specs.Tests.{is_empty_list}
use Rattle.lane_model.specs.declared.Write.{Write}
use Rattle.pair_model.specs.Both.{at_side}
use Rattle.pair_model.specs.DeclaredPlans.{SizesFit}
use Rattle.pair_model.specs.Labels.{label_of, labels_of}
use Rattle.pair_model.specs.Plans.{side_plan}
use Rattle.ledger_model.specs.Ledger.{LanePart, lane_of, with_lane, dev_of, side_of, tally_of}
use Rattle.ledger_model.specs.Outcome.{Outcome}
use Rattle.ledger_model.specs.Sending.{next_begun as next_in_ledger, post_first, post_step, posts_through}
use Rattle.bridge_pair.specs.Bridge.{Bridge}
use Rattle.frame_ring.specs.Port.{Sending, with_sending}
use Rattle.frame_ring.specs.Calls.{port_after_post, first_label, rest_of, let_go, port_post_answer, posted_by}
use Rattle.frame_ring.specs.PortView.{ring_posted}
use Rattle.queue_pair.specs.Queue.{QueueState, with_port}
use Rattle.fabric_rule.specs.Answers.{of_post}
use Rattle.fabric_rule.specs.InPlace.{FitsSlot, IsWriteOf, SendingInPlace, last_entry, fabric_sender_of}
use Rattle.fabric_rule.specs.Parts.{QueuePart, with_bridge, with_queue}
use Rattle.fabric_rule.specs.StandsFor.{PairStands, QueueStands, has_link_forgotten, is_left, sent_of, view_of}
use Rattle.fabric_rule.proofs.NewEntries.{begun_in_place, last-begun, length-begun}
use Rattle.step_kinds.specs.Bits.{has_bit}
use Rattle.step_kinds.specs.Sides.{other_side}
use Rattle.fabric_rule.proofs.Changes.{changes, none_closes, stays}
use Rattle.fabric_rule.proofs.Follows.{Follows, two_same}
use Rattle.fabric_rule.proofs.OneQueue.{Standing, as_it_was, by_bridge, by_queue, kept, part, part_with, port_queue, reads, sender_changes, sent_part, sent_stands, stands_by, then_standing}
use Rattle.fabric_rule.proofs.RingPosts.{label_posts}
use Rattle.fabric_rule.specs.Moves.{Move, move_of}

-- an entry has labels to post
some_labels : (queue n : ℕ) (entry : Entry) → (label : Label) × (rest : List Label) × (labels_of queue n entry ≡ label ∷ rest)
some_labels queue n entry = first (writes_of n entry) (label_of queue entry) (there n entry)
  where
    first : (writes : List Write) (f : Write → Label) → 0 < length writes → (label : Label) × (rest : List Label) × (map f writes ≡ label ∷ rest)
    first [] f some = absurd (omega arith)
    first (write ∷ writes) f some = (f write, map f writes, refl)

    there : (n : ℕ) (entry : Entry) → 0 < length (writes_of n entry)
    there n entry = let l = length-append (data_of n entry) (Flag n ∷ Bell ∷ []) in omega (arith, l)

-- what lets an entry go changes nothing else
let_go_is : (sending : Sending) → let_go sending ≡ record sending { entry = (let_go sending).entry }
let_go_is sending = by_busy (not (is_empty_list sending.todo) || not (is_empty_list sending.waiting)) where
  by_busy : (busy : Bool) → (if busy then sending else record sending { entry = GoesDown }) ≡ record sending { entry = (if busy then sending else record sending { entry = GoesDown }).entry }
  by_busy true = refl
  by_busy false = refl

entry_left : (begun told : ℕ) (entry : Entry) (todo : List Label) (waiting : List Entry) → is_left (record { sent = []; waiting = waiting; todo = todo; told = told }) ≡ true
    → (let_go (record { begun = begun; told = told; entry = entry; todo = todo; waiting = waiting })).entry ≡ entry
entry_left begun told entry [] [] left = absurd (false≢true left)
entry_left begun told entry [] (next ∷ waiting) left = refl
entry_left begun told entry (label ∷ todo) waiting left = refl

module _ {devs : List DevPlan} {plan : PairPlan} {k : ℕ} (now : Standing devs plan k) where
  -- the lane with these entries sent, others waiting, and these labels left to post
  abbrev lane_as : Side → ℕ → List Entry → List Entry → List Label → LanePart
  lane_as side queue sent waiting todo = record (lane_of now.site.pair side queue) { sent = sent; waiting = waiting; todo = todo }

  abbrev sending_as : Side → ℕ → ℕ → Entry → List Entry → List Label → Sending
  sending_as side queue begun entry waiting todo = record { begun = begun; told = (lane_of now.site.pair side queue).told; entry = entry; todo = todo; waiting = waiting }

  abbrev part_as : Side → ℕ → ℕ → Entry → List Entry → List Label → QueuePart
  part_as side queue begun entry waiting todo = sent_part now side queue (let_go (sending_as side queue begun entry waiting todo)) (has_bit (side_of now.site.pair side).closed queue)

  -- the queue once its first label is gone
  posted_queue : (side : Side) (queue begun : ℕ) (entry : Entry) (sent waiting : List Entry) (todo : List Label) → queue < (side_plan plan side).queues → has_link_forgotten now.site.pair.link side ≡ false
      → begun ≡ length sent → (is_left (record { sent = sent; waiting = waiting; todo = todo; told = (lane_of now.site.pair side queue).told }) ≡ true → entry ≡ last_entry (record { sent = sent; waiting = waiting; todo = todo; told = (lane_of now.site.pair side queue).told }))
      → SendingInPlace plan side queue (record { sent = sent; waiting = waiting; todo = todo; told = (lane_of now.site.pair side queue).told })
      → QueueStands devs plan k side queue (has_link_forgotten now.site.pair.link side) (record (view_of now.site.pair side queue) { sends = fabric_sender_of (lane_as side queue sent waiting todo) }) (part_as side queue begun entry waiting todo)
  posted_queue side queue begun entry sent waiting todo among fresh count is in_place =
      let old = stands_by now side queue false among fresh in
      sent_stands now side queue (lane_as side queue sent waiting todo) (let_go (sending_as side queue begun entry waiting todo)) (has_bit (side_of now.site.pair side).closed queue) (has_bit (side_of now.site.pair side).closed queue)
      (part now side queue).flow (part now side queue).counters (part now side queue).accepted (dev_of now.site.pair side queue) (λ session. (tally_of now.site.pair side queue session).accepted) among fresh
      (let_go_is (sending_as side queue begun entry waiting todo) ∙ ap (λ begun. sending_as side queue begun (let_go (sending_as side queue begun_now entry waiting todo)).entry waiting todo) count)
      (λ left. entry_left begun (lane_of now.site.pair side queue).told entry todo waiting left ∙ is left) in_place refl old.stopped refl refl old.counters old.accepted old.stops
    where
      begun_now : ℕ
      begun_now = begun

  abbrev post_made : Side → ℕ → LanePart → Outcome
  post_made side queue lane = post_first (reads now) now.site.pair side queue (next_in_ledger queue lane) (next_in_ledger queue lane).todo

  -- the first of these labels goes out
  abbrev posts_from : Bridge → Side → Entry → List Label → Bridge
  posts_from bridge side entry [] = bridge
  posts_from bridge side entry (label ∷ rest) = ring_posted bridge side entry label

  abbrev post_with : Side → ℕ → QueueState → Move
  post_with side queue q =
      record { answer = of_post (port_post_answer q.port); after = with_bridge (with_queue (kept now) side queue (part_with now side queue (with_port q (port_after_post q.port)))) (posted_by q.port (kept now).bridge) }

  -- the pair then
  sent_as : (side : Side) (queue begun : ℕ) (entry : Entry) (sent waiting : List Entry) (todo : List Label) (more : List Entry) → queue < (side_plan plan side).queues → has_link_forgotten now.site.pair.link side ≡ false → sent ≡ (lane_of now.site.pair side queue).sent ++ more
      → begun ≡ length sent → (is_left (record { sent = sent; waiting = waiting; todo = todo; told = (lane_of now.site.pair side queue).told }) ≡ true → entry ≡ last_entry (record { sent = sent; waiting = waiting; todo = todo; told = (lane_of now.site.pair side queue).told }))
      → SendingInPlace plan side queue (record { sent = sent; waiting = waiting; todo = todo; told = (lane_of now.site.pair side queue).told })
      → PairStands devs plan k (record now.site { pair = with_lane now.site.pair side queue (lane_as side queue sent waiting todo) }) (with_queue (kept now) side queue (part_as side queue begun entry waiting todo))
  sent_as side queue begun entry sent waiting todo more among fresh grown count is in_place =
      sender_changes now side queue more (part_as side queue begun entry waiting todo) among (none_closes now.site.pair.sides side (other_side side) queue) (changes now.site.pair.lanes side queue (lane_as side queue sent waiting todo))
      (stays now.site.pair.devs side (other_side side) queue) (stays now.site.pair.tallies side (other_side side) queue) grown refl (λ session. refl) (posted_queue side queue begun entry sent waiting todo among fresh count is in_place)

  post_one : (side : Side) (queue begun : ℕ) (entry : Entry) (sent waiting : List Entry) (label : Label) (rest : List Label) (more : List Entry) → queue < (side_plan plan side).queues → has_link_forgotten now.site.pair.link side ≡ false → sent ≡ (lane_of now.site.pair side queue).sent ++ more
      → begun ≡ length sent → entry ≡ last_entry (record { sent = sent; waiting = waiting; todo = label ∷ rest; told = (lane_of now.site.pair side queue).told }) → SizesFit plan
      → SendingInPlace plan side queue (record { sent = sent; waiting = waiting; todo = label ∷ rest; told = (lane_of now.site.pair side queue).told })
      → PairStands devs plan k (record now.site { pair = posts_through (reads now) (with_lane now.site.pair side queue (lane_as side queue sent waiting rest)) side label })
      (with_bridge (with_queue (kept now) side queue (part_as side queue begun entry waiting rest)) (ring_posted (kept now).bridge side entry label))
  post_one side queue begun entry sent waiting label rest more among fresh grown count is fits in_place =
      by_bridge now (with_lane now.site.pair side queue (lane_as side queue sent waiting rest)) (with_queue (kept now) side queue (part_as side queue begun entry waiting rest)).queues
      (λ (bridge : Bridge). PairStands devs plan k
      (record now.site { pair = posts_through (reads now) (with_lane now.site.pair side queue (lane_as side queue sent waiting rest)) side label })
      (record (with_queue (kept now) side queue (part_as side queue begun entry waiting rest)) { bridge = ring_posted bridge side entry label })) first
      (label_posts (then_standing now _ _ first) side queue (length sent - 1) entry among fits (subst (λ (entries : List Entry). length sent - 1 < length entries) (sym here) (let some = in_place.todo.0.0 in omega (arith, some)))
      (is ∙ ap (λ (entries : List Entry). slice_index_or entries (length sent - 1) GoesDown) (sym here)) (subst (FitsSlot plan side queue) (sym is) in_place.last) label
      (subst (λ (entry : Entry). IsWriteOf queue (length sent - 1) entry label) (sym is) in_place.todo.0.1))
    where
      first : PairStands devs plan k (record now.site { pair = with_lane now.site.pair side queue (lane_as side queue sent waiting rest) }) (with_queue (kept now) side queue (part_as side queue begun entry waiting rest))
      first =
          sent_as side queue begun entry sent waiting rest more among fresh grown count (λ _. is)
          (record { todo = in_place.todo.1; last = in_place.last; waiting = in_place.waiting; todo_fits = inr fits; waiting_fits = in_place.waiting_fits })

      here : sent_of (at_side (with_lane now.site.pair side queue (lane_as side queue sent waiting rest)).lanes side) queue ≡ sent
      here = ap (λ (l : LanePart). l.sent) (changes now.site.pair.lanes side queue (lane_as side queue sent waiting rest)).here

  -- a queue pair with these labels left to post and these entries waiting
  abbrev queue_as : Side → ℕ → Entry → List Entry → List Label → QueueState
  queue_as side queue entry waiting todo = with_port (port_queue now side queue false) (with_sending (port_queue now side queue false).port (sending_as side queue (length (lane_of now.site.pair side queue).sent) entry waiting todo))

  abbrev PostFollows : Side → ℕ → Entry → List Entry → List Label → Type 0
  PostFollows side queue entry waiting todo = Follows devs plan k now.site (Post k side queue) (post_made side queue (lane_as side queue (lane_of now.site.pair side queue).sent waiting todo)) (post_with side queue (queue_as side queue entry waiting todo))

  module _ (side : Side) (queue : ℕ) (entry : Entry) (among : queue < (side_plan plan side).queues) (fresh : has_link_forgotten now.site.pair.link side ≡ false)
      (in_place : SendingInPlace plan side queue (fabric_sender_of (lane_of now.site.pair side queue))) (is : is_left (fabric_sender_of (lane_of now.site.pair side queue)) ≡ true → entry ≡ last_entry (fabric_sender_of (lane_of now.site.pair side queue))) where
    -- with nothing left the entry is let go
    posts_none : (lane_of now.site.pair side queue).todo ≡ [] → (lane_of now.site.pair side queue).waiting ≡ [] → PostFollows side queue entry [] []
    posts_none none all = (
      refl,
      sender_changes now side queue [] none_part among (none_closes now.site.pair.sides side (other_side side) queue) (stays now.site.pair.lanes side (other_side side) queue) (stays now.site.pair.devs side (other_side side) queue)
          (stays now.site.pair.tallies side (other_side side) queue) (sym (append-nil (lane_of now.site.pair side queue).sent)) refl (λ session. refl) none_stands,
    )
      where
        none_part : QueuePart
        none_part = part_as side queue (length (lane_of now.site.pair side queue).sent) entry [] []

        none_stands : QueueStands devs plan k side queue (has_link_forgotten now.site.pair.link side) (view_of now.site.pair side queue) (part_as side queue (length (lane_of now.site.pair side queue).sent) entry [] [])
        none_stands =
            subst (λ todo. QueueStands devs plan k side queue (has_link_forgotten now.site.pair.link side) (record (view_of now.site.pair side queue) { sends = record { sent = (lane_of now.site.pair side queue).sent; waiting = (lane_of now.site.pair side queue).waiting; todo = todo; told = (lane_of now.site.pair side queue).told } }) (part_as side queue (length (lane_of now.site.pair side queue).sent) entry [] [])) (sym none)
            (subst (λ waiting. QueueStands devs plan k side queue (has_link_forgotten now.site.pair.link side) (record (view_of now.site.pair side queue) { sends = record { sent = (lane_of now.site.pair side queue).sent; waiting = waiting; todo = []; told = (lane_of now.site.pair side queue).told } }) (part_as side queue (length (lane_of now.site.pair side queue).sent) entry [] [])) (sym all)
            (posted_queue side queue (length (lane_of now.site.pair side queue).sent) entry (lane_of now.site.pair side queue).sent [] [] among fresh refl (λ left. absurd (false≢true left)) (record { todo = tt; last = in_place.last; waiting = tt; todo_fits = inl refl; waiting_fits = inl refl })))

    posts_some : (label : Label) (rest : List Label) (waiting : List Entry) → (lane_of now.site.pair side queue).todo ≡ label ∷ rest → (lane_of now.site.pair side queue).waiting ≡ waiting → PostFollows side queue entry waiting (label ∷ rest)
    posts_some label rest waiting some all = (
      refl,
      post_one side queue (length (lane_of now.site.pair side queue).sent) entry (lane_of now.site.pair side queue).sent waiting label rest [] among fresh (sym (append-nil (lane_of now.site.pair side queue).sent)) refl
          (is (ap (λ todo. is_left (record { sent = (lane_of now.site.pair side queue).sent; waiting = (lane_of now.site.pair side queue).waiting; todo = todo; told = (lane_of now.site.pair side queue).told })) some))
          (⊎_elim (λ none. absurd (is_some label rest (sym some ∙ none))) (λ fits. fits) in_place.todo_fits) now_in_place,
    )
      where
        is_some : (label : Label) (rest : List Label) → label ∷ rest ≡ [] → ⊥
        is_some label rest e = cc

        now_in_place : SendingInPlace plan side queue (record { sent = (lane_of now.site.pair side queue).sent; waiting = waiting; todo = label ∷ rest; told = (lane_of now.site.pair side queue).told })
        now_in_place =
            subst (λ todo. SendingInPlace plan side queue (record { sent = (lane_of now.site.pair side queue).sent; waiting = waiting; todo = todo; told = (lane_of now.site.pair side queue).told })) some
            (subst (λ waiting. SendingInPlace plan side queue (record { sent = (lane_of now.site.pair side queue).sent; waiting = waiting; todo = (lane_of now.site.pair side queue).todo; told = (lane_of now.site.pair side queue).told })) all in_place)

    posts_next : (next : Entry) (others : List Entry) → (lane_of now.site.pair side queue).todo ≡ [] → (lane_of now.site.pair side queue).waiting ≡ next ∷ others → PostFollows side queue entry (next ∷ others) []
    posts_next next others none all =
        subst (λ todo. Follows devs plan k now.site (Post k side queue) (post_first (reads now) now.site.pair side queue (lane_as side queue ((lane_of now.site.pair side queue).sent ++ next ∷ []) others todo) todo)
        (record { answer = of_post (first_label todo); after = with_bridge (with_queue (kept now) side queue (part_as side queue (length (lane_of now.site.pair side queue).sent + 1) next others (rest_of todo))) (posts_from (kept now).bridge side next todo) }))
        (sym labels.2) (
          refl,
          post_one side queue (length (lane_of now.site.pair side queue).sent + 1) next ((lane_of now.site.pair side queue).sent ++ next ∷ []) others labels.0 labels.1 (next ∷ []) among fresh refl (sym (length-begun (lane_of now.site.pair side queue).sent next))
              (sym (last-begun queue (fabric_sender_of (lane_of now.site.pair side queue)) next others (lane_of now.site.pair side queue).told)) fits
              (subst (λ todo. SendingInPlace plan side queue (record { sent = (lane_of now.site.pair side queue).sent ++ next ∷ []; waiting = others; todo = todo; told = (lane_of now.site.pair side queue).told })) labels.2
              (begun_in_place plan side queue (fabric_sender_of (lane_of now.site.pair side queue)) next others (lane_of now.site.pair side queue).told fits waits.0 waits.1)),
        )
      where
        labels : (label : Label) × (rest : List Label) × (labels_of queue (length (lane_of now.site.pair side queue).sent) next ≡ label ∷ rest)
        labels = some_labels queue (length (lane_of now.site.pair side queue).sent) next

        is_some : (next : Entry) (others : List Entry) → next ∷ others ≡ [] → ⊥
        is_some next others e = cc

        fits : SizesFit plan
        fits = ⊎_elim (λ empty. absurd (is_some next others (sym all ∙ empty))) (λ fits. fits) in_place.waiting_fits

        waits : AllByRecursion (FitsSlot plan side queue) (next ∷ others)
        waits = subst (AllByRecursion (FitsSlot plan side queue)) all in_place.waiting

    posts_left : (waiting : List Entry) (todo : List Label) → (lane_of now.site.pair side queue).todo ≡ todo → (lane_of now.site.pair side queue).waiting ≡ waiting → PostFollows side queue entry waiting todo
    posts_left waiting (label ∷ rest) is_todo is_waiting = posts_some label rest waiting is_todo is_waiting
    posts_left [] [] is_todo is_waiting = posts_none is_todo is_waiting
    posts_left (next ∷ others) [] is_todo is_waiting = posts_next next others is_todo is_waiting

  post_by : (side : Side) (queue : ℕ) (forgotten : Bool) → queue < (side_plan plan side).queues → has_link_forgotten now.site.pair.link side ≡ forgotten → Follows devs plan k now.site (Post k side queue) (post_step (reads now) now.site.pair side queue) (post_with side queue (port_queue now side queue forgotten))
  post_by side queue true among forgot =
      subst (λ (lane : LanePart). Follows devs plan k now.site (Post k side queue) (post_made side queue lane) (post_with side queue (port_queue now side queue true)))
      (sym (two_same (λ todo waiting. lane_as side queue (lane_of now.site.pair side queue).sent waiting todo) ((stands_by now side queue true among forgot).forgets refl).todo ((stands_by now side queue true among forgot).forgets refl).waiting))
      (refl, as_it_was now side queue true among forgot)
  post_by side queue false among fresh =
      let h = stands_by now side queue false among fresh in
      posts_left side queue (part now side queue).queue.port.sending.entry among fresh h.sending (h.entry refl) (lane_of now.site.pair side queue).waiting (lane_of now.site.pair side queue).todo refl refl

  pub post_follows : (side : Side) (queue : ℕ) → queue < (side_plan plan side).queues → Follows devs plan k now.site (Post k side queue) (post_step (reads now) now.site.pair side queue) (move_of devs (kept now) (Post k side queue))
  post_follows side queue among = by_queue now side queue (λ (q : QueueState). Follows devs plan k now.site (Post k side queue) (post_step (reads now) now.site.pair side queue) (post_with side queue q)) among (λ forgotten. post_by side queue forgotten among)
