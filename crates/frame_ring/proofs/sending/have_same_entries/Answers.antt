use Rattle.std.proofs.Common.{◌≡◌, ◌∙◌, ◌*◌, ◌<◌, length, drop, ap, sym, arith}
use Rattle.std.proofs.lemmas.Slice.Eq.{bytes_eq-Decides}
use Rattle.pair_model.specs.Sizes.{pieces_in}
use Rattle.frame_ring.specs.Outgoing.{entries_under}
use Rattle.frame_ring.proofs.Entries.{length-pieces_of}
use Rattle.frame_ring.proofs.SameEntries.{none_and_some, same_frames}
use Rattle.frame_ring.proofs.sending.have_same_entries.Goals as goal

pub bytes_from-requires-clause-among : goal.bytes_from-requires-clause-among
bytes_from-requires-clause-among c =
    let count = ap (λ frame. length (entries_under c.args.largest frame)) c.in-Some-Some.is-0 ∙ length-pieces_of c.args.largest c.in-Some-Some.frame ∙ ap (λ bytes. pieces_in c.args.largest (length bytes)) (sym c.bytes.ensures.value) in
    omega (arith, count, c.requires.here)

pub bytes_from-requires-in-Some-Some-clause-among : goal.bytes_from-requires-in-Some-Some-clause-among
bytes_from-requires-in-Some-Some-clause-among c =
    let count = ap (λ frame. length (entries_under c.args.largest frame)) c.in-Some-Some.is-1 ∙ length-pieces_of c.args.largest c.in-Some-Some.with ∙ ap (λ bytes. pieces_in c.args.largest (length bytes)) (sym c.bytes-in-Some-Some.ensures.value) in
    omega (arith, count, c.requires.there)

pub returns-in-Some-Some : goal.returns-in-Some-Some
returns-in-Some-Some c =
    let some : 0 < c.args.largest = omega (arith, c.requires.some) in
    let same = same_frames c.args.largest c.args.piece c.args.place c.in-Some-Some.frame c.in-Some-Some.with c.args.one.now c.args.other.now some c.in-Some-Some.is-0 c.in-Some-Some.is-1 c.requires.here c.requires.there in
    let front : c.bytes_from.result.now ≡ drop (c.args.largest * c.args.piece) c.in-Some-Some.frame = c.bytes_from.ensures ∙ ap (λ bytes. drop (c.args.largest * c.args.piece) bytes) c.bytes.ensures.value in
    let behind : c.bytes_from-in-Some-Some.result.now ≡ drop (c.args.largest * c.args.place) c.in-Some-Some.with = c.bytes_from-in-Some-Some.ensures ∙ ap (λ bytes. drop (c.args.largest * c.args.place) bytes) c.bytes-in-Some-Some.ensures.value in
    let told = bytes_eq-Decides c.bytes_from.result.now c.bytes_from-in-Some-Some.result.now in (
      λ yes. same.0 (sym front ∙ told.0 (sym c.eq.ensures ∙ yes) ∙ behind),
      λ equal. c.eq.ensures ∙ told.1 (front ∙ same.1 equal ∙ sym behind),
    )

pub returns-in-None-Some : goal.returns-in-None-Some
returns-in-None-Some c = (
  λ no. absurd (cc no),
  λ same. absurd (none_and_some c.args.largest c.args.piece c.args.place c.in-None-Some.field-0-1 c.args.one.now c.args.other.now c.in-None-Some.is-0 c.in-None-Some.is-1 c.requires.here c.requires.there same),
)

pub returns-in-None-Some-2 : goal.returns-in-None-Some-2
returns-in-None-Some-2 c = (
  λ no. absurd (cc no),
  λ same. absurd (none_and_some c.args.largest c.args.place c.args.piece c.in-None-Some.field-0-0 c.args.other.now c.args.one.now c.in-None-Some.is-1 c.in-None-Some.is-0 c.requires.there c.requires.here (sym same)),
)
