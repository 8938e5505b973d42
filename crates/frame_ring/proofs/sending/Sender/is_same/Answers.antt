use Rattle.std.proofs.Common.{◌∙◌, sym}
use Rattle.std.proofs.lemmas.Bool.{false≢true}
use Rattle.std.proofs.lemmas.Bool.Decides.{Decides-eqb}
use Rattle.frame_ring.proofs.SameSenders.{same_progress, same_sending}
use Rattle.frame_ring.proofs.sending.Sender.is_same.Goals as goal
use Rattle.frame_ring.proofs.sending.Sender.is_same.Goals.{then-self-other, else-self-other, then-self-other-2, else-self-other-2}

pub returns-then-self-other-3 : goal.returns-then-self-other-3
returns-then-self-other-3 c =
    let kept = c.self.inside in
    let held = c.other.inside in (
      λ yes. elim c.if-self-other-2.branch [
        | then-self-other-2 w ↦ elim c.if-self-other.branch [
          | then-self-other v ↦
              same_sending kept held c.args.self.now c.args.other.now c.self.invariant c.other.invariant c.self.view_is c.other.view_is c.requires.queue c.requires.largest
              (record {
                begun = v.if-self-other.true;
                told = (Decides-eqb kept.told held.told).0 (sym v.value-is ∙ w.if-self-other-2.true);
                next = (Decides-eqb kept.next held.next).0 (sym w.value-is ∙ c.if-self-other-3.true);
                entries = c.have_same_entries.ensures.0 yes;
              })
          | else-self-other v ↦ absurd (v.if-self-other.false ((Decides-eqb kept.begun held.begun).0 (sym v.value-is ∙ w.if-self-other-2.true)))
        ]
        | else-self-other-2 w ↦ absurd (false≢true (sym (w.value-is ∙ w.if-self-other-2.false) ∙ c.if-self-other-3.true))
      ],
      λ same. c.have_same_entries.ensures.1 (same_progress kept held c.args.self.now c.args.other.now c.self.invariant c.other.invariant c.self.view_is c.other.view_is c.requires.largest same).entries,
    )

pub returns-else-self-other-3 : goal.returns-else-self-other-3
returns-else-self-other-3 c =
    let kept = c.self.inside in
    let held = c.other.inside in (
      λ yes. absurd (false≢true (sym c.if-self-other-3.false ∙ yes)),
      λ same.
          let progress = same_progress kept held c.args.self.now c.args.other.now c.self.invariant c.other.invariant c.self.view_is c.other.view_is c.requires.largest same in
          elim c.if-self-other-2.branch [
            | then-self-other-2 w ↦ w.value-is ∙ (Decides-eqb kept.next held.next).1 progress.next
            | else-self-other-2 w ↦ elim c.if-self-other.branch [
              | then-self-other v ↦ absurd (false≢true (sym w.if-self-other-2.false ∙ v.value-is ∙ (Decides-eqb kept.told held.told).1 progress.told))
              | else-self-other v ↦ absurd (v.if-self-other.false progress.begun)
            ]
          ],
    )
