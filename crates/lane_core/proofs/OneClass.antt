-- Landing by the kinds alone, as the writes of one lane do, which have one traffic class.
use Rattle.std.proofs.Common.{◌≡◌, ℕ, true, ◌⊎◌, List, [], ◌∷◌, map, inl, inr, Some, option_map, slice_get, slice_index, sym, ap, ◌∙◌}
use Rattle.std.specs.List.{All}
use Rattle.std.proofs.lemmas.Bool.{and_parts, eqb-true, or_cases}
use Rattle.std.proofs.lemmas.List.Elements.{All-nil, All-cons}
use Rattle.std.proofs.lemmas.Option.{slice_get-map, get_or_from_slice_get}
use Rattle.order_rules.specs.Order.{Order, relaxed, may_land}
use Rattle.posted_queue.specs.Laws.{lands_by_kind}
use Rattle.posted_queue.proofs.Facade.{may_land-one_class}

one_class : {W : Type 0} (order : W → Order) (class : ℕ) (writes : List W) → ((write : W) → (order write).class ≡ class)
    → All (λ (order : Order). order.class ≡ class) (map order writes)
one_class order class [] same = All-nil (λ (order : Order). order.class ≡ class)
one_class order class (w ∷ writes) same =
    All-cons (λ (order : Order). order.class ≡ class) (order w) (map order writes) (same w) (one_class order class writes same)

-- where all writes are of one class, one that may land is relaxed, or first
pub relaxed_or_first : {W : Type 0} (order : W → Order) (class : ℕ) (writes : List W) (place : ℕ) (write : W) → ((write : W) → (order write).class ≡ class)
    → slice_get writes place ≡ Some write → may_land (map order writes) place ≡ true → ((order write).kind ≡ relaxed) ⊎ (place ≡ 0)
relaxed_or_first order class writes place write same at may =
    let kinds : List ℕ = map (λ (o : Order). o.kind) (map order writes) in
    let lands : lands_by_kind kinds place ≡ true = sym (may_land-one_class (map order writes) class place (one_class order class writes same)) ∙ may in
    let kind_at : slice_get kinds place ≡ Some (order write).kind =
    slice_get-map (λ (o : Order). o.kind) (map order writes) place
    ∙ ap (option_map (λ (o : Order). o.kind)) (slice_get-map order writes place ∙ ap (option_map order) at) in
    let kind_is : slice_index kinds place ≡ (order write).kind = get_or_from_slice_get kinds place (order write).kind 0 kind_at in
    elim (or_cases _ _ (and_parts _ _ lands).1) [
      | inl e ↦ inl (sym kind_is ∙ eqb-true _ _ e)
      | inr e ↦ inr (eqb-true _ _ e)
    ]
