-- What a switch does depends on the bytes of its frames alone: with other frames of the same bytes it does the same.
use Rattle.std.proofs.Common.{◌≡◌, ℕ, zero, suc, List, [], ◌∷◌, ◌++◌, Option, Some, None, length, map, drop, refl, sym, ap, ◌∙◌}
use Rattle.std.specs.Prelude.{option_map, replicate, slice_get, slice_set}
use Rattle.std.proofs.Math.ListN.{get_or-map}
use Rattle.std.proofs.lemmas.List.{map-set, map-append, drop-map, length-map}
use Rattle.std.proofs.lemmas.Option.{slice_get-map}
use Rattle.pair_model.specs.Switch.{Switch, after, after_relay, answer_of, arrived, fdb_after, first, flooded, forwarded, frame_answer, joined, list_of, new_switch, relay_answer, sent, without_first}
use Rattle.pair_model.specs.declared.RelayAnswer.{RelayAnswer}
use Rattle.pair_model.specs.declared.RelayAnswer.TheVariants.{Nothing, Short, Filtered, To, Flood}
use Rattle.ledger_laws.specs.Erased.{switch_with_frames}

module _ {F G : Type 0} (change : F → G) where
  list_of-map : (lists : List (List F)) (port : ℕ) → list_of (map (map change) lists) port ≡ map change (list_of lists port)
  list_of-map lists port = get_or-map (map change) lists port []

  joined-map : (lists : List (List F)) (port : ℕ) (frame : F) → map (map change) (joined lists port frame) ≡ joined (map (map change) lists) port (change frame)
  joined-map lists port frame =
      map-set (map change) lists port (list_of lists port ++ frame ∷ [])
      ∙ ap (λ list. slice_set (map (map change) lists) port list)
      (map-append change (list_of lists port) (frame ∷ []) ∙ ap (λ list. list ++ change frame ∷ []) (sym (list_of-map lists port)))

  without_first-map : (lists : List (List F)) (port : ℕ) → map (map change) (without_first lists port) ≡ without_first (map (map change) lists) port
  without_first-map lists port =
      map-set (map change) lists port (drop 1 (list_of lists port))
      ∙ ap (λ list. slice_set (map (map change) lists) port list)
      (sym (drop-map change 1 (list_of lists port)) ∙ ap (drop 1) (sym (list_of-map lists port)))

  each_joined-map : (lists : List (List F)) (frame : F) → map (map change) (map (λ list. list ++ frame ∷ []) lists) ≡ map (λ list. list ++ change frame ∷ []) (map (map change) lists)
  each_joined-map [] frame = refl
  each_joined-map (list ∷ lists) frame =
      ap (λ head. head ∷ map (map change) (map (λ list. list ++ frame ∷ []) lists)) (map-append change list (frame ∷ []))
      ∙ ap (λ rest. (map change list ++ change frame ∷ []) ∷ rest) (each_joined-map lists frame)

  flooded-map : (lists : List (List F)) (port : ℕ) (frame : F) → map (map change) (flooded lists port frame) ≡ flooded (map (map change) lists) port (change frame)
  flooded-map [] port frame = refl
  flooded-map (list ∷ lists) zero frame = ap (λ rest. map change list ∷ rest) (each_joined-map lists frame)
  flooded-map (list ∷ lists) (suc port) frame =
      ap (λ head. head ∷ map (map change) (flooded lists port frame)) (map-append change list (frame ∷ []))
      ∙ ap (λ rest. (map change list ++ change frame ∷ []) ∷ rest) (flooded-map lists port frame)

  forwarded-map : (waiting : List (List F)) (port : ℕ) (frame : F) (answer : RelayAnswer)
      → map (map change) (forwarded waiting port frame answer) ≡ forwarded (map (map change) waiting) port (change frame) answer
  forwarded-map waiting port frame Nothing = refl
  forwarded-map waiting port frame (Short len) = refl
  forwarded-map waiting port frame Filtered = refl
  forwarded-map waiting port frame (To target) = joined-map waiting target frame
  forwarded-map waiting port frame (Flood count) = flooded-map waiting port frame

  pub new-with_frames : (ports : ℕ) → switch_with_frames change (new_switch ports) ≡ new_switch ports
  new-with_frames ports = ap (λ lists. record { inboxes = lists; waiting = lists; fdb = [] }) (none ports)
    where
      none : (n : ℕ) → map (map change) (replicate n []) ≡ replicate n []
      none zero = refl
      none (suc n) = ap (λ lists. [] ∷ lists) (none n)

  pub arrived-with_frames : (switch : Switch F) (port : ℕ) (frame : F) → switch_with_frames change (arrived switch port frame) ≡ arrived (switch_with_frames change switch) port (change frame)
  arrived-with_frames switch port frame =
      ap (λ lists. record { inboxes = lists; waiting = map (map change) switch.waiting; fdb = switch.fdb }) (joined-map switch.inboxes port frame)

  pub sent-with_frames : (switch : Switch F) (port : ℕ) → switch_with_frames change (sent switch port) ≡ sent (switch_with_frames change switch) port
  sent-with_frames switch port =
      ap (λ lists. record { inboxes = map (map change) switch.inboxes; waiting = lists; fdb = switch.fdb }) (without_first-map switch.waiting port)

  pub first-with_frames : (switch : Switch F) (port : ℕ) → first (switch_with_frames change switch) port ≡ option_map change (first switch port)
  first-with_frames switch port = ap (λ list. slice_get list 0) (list_of-map switch.waiting port) ∙ slice_get-map change (list_of switch.waiting port) 0

  relayed-with_frames : (switch : Switch F) (port : ℕ) → slice_get (list_of (map (map change) switch.inboxes) port) 0 ≡ option_map change (slice_get (list_of switch.inboxes port) 0)
  relayed-with_frames switch port = ap (λ list. slice_get list 0) (list_of-map switch.inboxes port) ∙ slice_get-map change (list_of switch.inboxes port) 0

  module _ (bytes_of : F → List ℕ) (other_bytes : G → List ℕ) (same : (frame : F) → other_bytes (change frame) ≡ bytes_of frame) where
    same_answer : (switch : Switch F) (port : ℕ) (frame : F)
        → frame_answer (length (map (map change) switch.waiting)) switch.fdb port (other_bytes (change frame)) ≡ frame_answer (length switch.waiting) switch.fdb port (bytes_of frame)
    same_answer switch port frame =
        ap (λ ports. frame_answer ports switch.fdb port (other_bytes (change frame))) (length-map switch.waiting (map change))
        ∙ ap (frame_answer (length switch.waiting) switch.fdb port) (same frame)

    answer_of-change : (switch : Switch F) (port : ℕ) (o : Option F) → answer_of other_bytes (switch_with_frames change switch) port (option_map change o) ≡ answer_of bytes_of switch port o
    answer_of-change switch port None = refl
    answer_of-change switch port (Some frame) = same_answer switch port frame

    after-change : (switch : Switch F) (port : ℕ) (o : Option F) → switch_with_frames change (after bytes_of switch port o) ≡ after other_bytes (switch_with_frames change switch) port (option_map change o)
    after-change switch port None = refl
    after-change switch port (Some frame) =
        let answer = frame_answer (length switch.waiting) switch.fdb port (bytes_of frame) in
        let fdb = fdb_after switch.fdb port (bytes_of frame) in
        let inboxes = without_first (map (map change) switch.inboxes) port in
        ap (λ lists. record { inboxes = lists; waiting = map (map change) (forwarded switch.waiting port frame answer); fdb = fdb }) (without_first-map switch.inboxes port)
        ∙ ap (λ lists. record { inboxes = inboxes; waiting = lists; fdb = fdb })
        (forwarded-map switch.waiting port frame answer ∙ ap (forwarded (map (map change) switch.waiting) port (change frame)) (sym (same_answer switch port frame)))
        ∙ ap (λ bytes. record {
          inboxes = inboxes;
          waiting = forwarded (map (map change) switch.waiting) port (change frame) (frame_answer (length (map (map change) switch.waiting)) switch.fdb port (other_bytes (change frame)));
          fdb = fdb_after switch.fdb port bytes;
        }) (sym (same frame))

    pub relay_answer-with_frames : (switch : Switch F) (port : ℕ) → relay_answer other_bytes (switch_with_frames change switch) port ≡ relay_answer bytes_of switch port
    relay_answer-with_frames switch port =
        ap (answer_of other_bytes (switch_with_frames change switch) port) (relayed-with_frames switch port) ∙ answer_of-change switch port (slice_get (list_of switch.inboxes port) 0)

    pub after_relay-with_frames : (switch : Switch F) (port : ℕ) → switch_with_frames change (after_relay bytes_of switch port) ≡ after_relay other_bytes (switch_with_frames change switch) port
    after_relay-with_frames switch port =
        after-change switch port (slice_get (list_of switch.inboxes port) 0)
        ∙ ap (after other_bytes (switch_with_frames change switch) port) (sym (relayed-with_frames switch port))
