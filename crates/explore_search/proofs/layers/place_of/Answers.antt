use Rattle.std.proofs.Common.{◌≡◌, ◌∙◌, List, ℕ, ap, arith, nat_cmp, subst, sym, Less, Greater}
use Rattle.std.specs.Cmp.Lexicographic.{slice_cmp}
use Rattle.std.proofs.lemmas.List.{get_or_read}
use Rattle.std.proofs.lemmas.Map.Lookups.{exact_bytes}
use Rattle.explore_search.specs.declared.layers.Branch.{Branch}
use Rattle.explore_search.proofs.Lists.{each_more}
use Rattle.explore_search.proofs.layers.place_of.Goals as goal

pub returns-in-Equal : goal.returns-in-Equal
returns-in-Equal g c = (
  omega arith,
  λ d. ap (λ (branch : Branch g.row.M.Denot). branch.text) (sym (get_or_read c.args.branches.now c.loop-place.place c.index-branches-place.result (omega arith) c.index-branches-place.is d))
      ∙ ap (λ (branch : Branch g.row.M.Denot). branch.text) c.index-branches-place.is ∙ sym c.as_slice.ensures ∙ exact_bytes c.as_slice.result.now c.args.text.now (sym c.in-Equal.ensures),
)

pub returns-in-Greater : goal.returns-in-Greater
returns-in-Greater g c =
    let branch : Branch g.row.M.Denot = c.index-branches-place.result in (
      omega arith,
      c.loop-place.invariant,
      λ d _.
          subst (λ (branch : Branch g.row.M.Denot). slice_cmp nat_cmp branch.text c.args.text.now ≡ Greater)
          (sym c.index-branches-place.is ∙ get_or_read c.args.branches.now c.loop-place.place branch (omega arith) c.index-branches-place.is d)
          (subst (λ (text : List ℕ). slice_cmp nat_cmp text c.args.text.now ≡ Greater) c.as_slice.ensures (sym c.in-Greater.ensures)),
    )

pub loop-place-preserved : goal.loop-place-preserved
loop-place-preserved g c =
    let Below : Branch g.row.M.Denot → _ = λ branch. slice_cmp nat_cmp branch.text c.args.text.now ≡ Less in
    each_more Below Below c.args.branches.now c.loop-place.place c.index-branches-place.result (omega arith) (λ branch is. is) c.loop-place.invariant
    (subst (λ (text : List ℕ). slice_cmp nat_cmp text c.args.text.now ≡ Less) c.as_slice.ensures (sym c.in-Less.ensures))
