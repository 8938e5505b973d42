use Rattle.std.proofs.Common.{◌≡◌, ℕ, ◌++◌, [], ◌∷◌, Option, Some, None, IsSome, Contains, List, refl, sym, ◌∙◌, ap, subst, ⊎_elim, inl, inr}
use Rattle.std.specs.Global.{Box}
use Rattle.std.specs.Option.{IsSomeAnd}
use Rattle.std.proofs.lemmas.List.Elements.{Contains-append_left, Contains-push, Contains-push_cases}
use Rattle.host_memory.specs.Memory.{Contents}
use Rattle.host_memory.specs.Pages.{page_at}
use Rattle.host_memory.specs.declared.memory.Memory.TheInside.{Inside}
use Rattle.host_memory.proofs.MemoryPages.{bytes_in-same, zeros_added}
use Rattle.host_memory.proofs.PromisedPages.{among_more, no_repeats_more, there_more, still_memory}
use Rattle.host_memory.proofs.memory.Memory.make_page.Goals as goal

is_some_page : (found : Option (Box (List ℕ))) (P : Box (List ℕ) → Type 0) → IsSomeAnd found P → IsSome found
is_some_page None P none = absurd none
is_some_page (Some page) P it = refl

stays_among : (before after : List ℕ) (page : ℕ) → before ≡ after → Contains before page → Contains after page
stays_among before after page same among = let P : List ℕ → Type 0 = λ promised. Contains promised page in subst P same among

pub invariant_of-self : goal.invariant_of-self
invariant_of-self c =
    let now : Inside = record { pages = c.self.inside.pages; promised = c.reserve.new.self; len = c.self.inside.len } in
    still_memory c.self.inside now refl c.reserve.ensures.items (λ number. refl) c.self.invariant

pub invariant_of-self-in_err-put_zeros : goal.invariant_of-self-in_err-put_zeros
invariant_of-self-in_err-put_zeros c =
    let now : Inside = record { pages = c.put_zeros.new.self; promised = c.reserve.new.self; len = c.self.inside.len } in
    still_memory c.self.inside now refl c.reserve.ensures.items c.in_err-put_zeros.ensures.err c.self.invariant

pub returns-in_err-reserve-clause-bytes : goal.returns-in_err-reserve-clause-bytes
returns-in_err-reserve-clause-bytes c = ap (λ (contents : Contents). contents.bytes) c.self.view_is

pub returns-in_err-reserve-clause-stay : goal.returns-in_err-reserve-clause-stay
returns-in_err-reserve-clause-stay c =
    λ other among. stays_among c.args.self.now.promised c.reserve.new.self.items other (sym (c.reserve.ensures.items ∙ ap (λ (contents : Contents). contents.promised) c.self.view_is)) among

pub returns-in_err-reserve-clause-only : goal.returns-in_err-reserve-clause-only
returns-in_err-reserve-clause-only c =
    λ other among. inl (stays_among c.reserve.new.self.items c.args.self.now.promised other (c.reserve.ensures.items ∙ ap (λ (contents : Contents). contents.promised) c.self.view_is) among)

pub returns-in_err-put_zeros-clause-bytes : goal.returns-in_err-put_zeros-clause-bytes
returns-in_err-put_zeros-clause-bytes c =
    bytes_in-same (page_at c.self.inside.pages.groups.items) (page_at c.put_zeros.new.self.groups.items) c.self.inside.len c.in_err-put_zeros.ensures.err
    ∙ ap (λ (contents : Contents). contents.bytes) c.self.view_is

pub returns-in_err-put_zeros-clause-stay : goal.returns-in_err-put_zeros-clause-stay
returns-in_err-put_zeros-clause-stay c =
    λ other among. stays_among c.args.self.now.promised c.reserve.new.self.items other (sym (c.reserve.ensures.items ∙ ap (λ (contents : Contents). contents.promised) c.self.view_is)) among

pub returns-clause-stay : goal.returns-clause-stay
returns-clause-stay c =
    λ other among.
    let seen = c.reserve.ensures.items ∙ ap (λ (contents : Contents). contents.promised) c.self.view_is in
    let pushed : c.push_reserved.new.self.items ≡ c.args.self.now.promised ++ c.args.page ∷ [] = c.push_reserved.ensures.items ∙ ap (λ (xs : List ℕ). xs ++ c.args.page ∷ []) seen in
    stays_among (c.args.self.now.promised ++ c.args.page ∷ []) c.push_reserved.new.self.items other (sym pushed) (Contains-append_left c.args.self.now.promised (c.args.page ∷ []) other among)

pub returns-in_err-put_zeros-clause-only : goal.returns-in_err-put_zeros-clause-only
returns-in_err-put_zeros-clause-only c =
    λ other among.
    inl (stays_among c.reserve.new.self.items c.args.self.now.promised other (c.reserve.ensures.items ∙ ap (λ (contents : Contents). contents.promised) c.self.view_is) among)

pub invariant_of-self-2 : goal.invariant_of-self-2
invariant_of-self-2 c =
    let was = c.self.inside.promised.items in
    let found = page_at c.self.inside.pages.groups.items in
    let new = page_at c.put_zeros.new.self.groups.items in
    let page = c.args.page in
    let pushed : c.push_reserved.new.self.items ≡ was ++ page ∷ [] = c.push_reserved.ensures.items ∙ ap (λ (xs : List ℕ). xs ++ page ∷ []) c.reserve.ensures.items in
    let absent : Contains was page → ⊥ = λ among. c.requires (let P : Contents → Type 0 = λ contents. Contains contents.promised page in subst P c.self.view_is among) in
    record {
      len = c.self.invariant.len;
      distinct = rw pushed (no_repeats_more was page c.self.invariant.distinct absent);
      there = rw pushed (there_more found new was page c.self.invariant.there c.in_ok-put_zeros.ensures.others (is_some_page _ _ c.in_ok-put_zeros.ensures.ok));
      among = rw pushed (among_more found new was page c.self.invariant.among c.in_ok-put_zeros.ensures.others);
    }

pub returns-clause-bytes : goal.returns-clause-bytes
returns-clause-bytes c =
    let found = page_at c.self.inside.pages.groups.items in
    let page = c.args.page in
    let absent : IsSome (found page) → ⊥ = λ there. c.requires (let P : Contents → Type 0 = λ contents. Contains contents.promised page in subst P c.self.view_is (c.self.invariant.among page there)) in
    zeros_added found (page_at c.put_zeros.new.self.groups.items) page absent c.in_ok-put_zeros.ensures.ok c.in_ok-put_zeros.ensures.others c.self.inside.len
    ∙ ap (λ (contents : Contents). contents.bytes) c.self.view_is

pub returns-clause-ok : goal.returns-clause-ok
returns-clause-ok c = rw c.push_reserved.ensures.items (Contains-push _ c.args.page)

pub returns-clause-only : goal.returns-clause-only
returns-clause-only c =
    λ other among.
    let page = c.args.page in
    let pushed : c.push_reserved.new.self.items ≡ c.args.self.now.promised ++ page ∷ [] =
    c.push_reserved.ensures.items ∙ ap (λ (xs : List ℕ). xs ++ page ∷ []) (c.reserve.ensures.items ∙ ap (λ (contents : Contents). contents.promised) c.self.view_is) in
    let P : List ℕ → Type 0 = λ promised. Contains promised other in
    ⊎_elim (λ was. inl was) (λ same. inr (sym same)) (Contains-push_cases c.args.self.now.promised page other (subst P pushed among))
