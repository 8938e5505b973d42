use Rattle.std.proofs.Common.{◌≡◌, true, false, not, Some, nat_lt, length, ◌∙◌, sym, ap, rules}
use Rattle.std.specs.Str.{bytes_eq}
use Rattle.pair_model.specs.Fdb.{is_multicast, lookup, most_stations, once_learned}
use Rattle.pair_model.proofs.Facade.{known-source, lookup-another, lookup-source}
use Rattle.learn_switch.proofs.TestAnswers.{not-false, not-true, room-for}
use Rattle.learn_switch.proofs.fdb.Fdb.lookup_with.Goals as goal

pub returns-then-ne : goal.returns-then-ne
returns-then-ne c =
    let many : is_multicast c.args.source.now ≡ false = sym c.is_multicast.ensures ∙ c.if-is_multicast.false in
    let differs : not (bytes_eq c.args.address.now c.args.source.now) ≡ true = cc (c.ne.ensures, c.if-ne.true, c.as_slice.ensures, c.as_slice-2.ensures) in
    c.lookup-then-ne.ensures ∙ sym (lookup-another c.args.self.now c.args.source.now c.args.port c.args.address.now many (not-true (bytes_eq c.args.address.now c.args.source.now) differs))

pub returns-in-Some : goal.returns-in-Some
returns-in-Some c =
    let many : is_multicast c.args.source.now ≡ false = sym c.is_multicast.ensures ∙ c.if-is_multicast.false in
    let same : not (bytes_eq c.args.address.now c.args.source.now) ≡ false = cc (c.ne.ensures, c.if-ne.false, c.as_slice.ensures, c.as_slice-2.ensures) in
    let known : lookup c.args.self.now c.args.source.now ≡ Some c.in-Some.field-0 = sym c.lookup-2.ensures ∙ c.in-Some.is in
    sym (lookup-source c.args.self.now c.args.source.now c.args.port c.args.address.now many (not-false (bytes_eq c.args.address.now c.args.source.now) same)
    ∙ known-source (nat_lt (length c.args.self.now) most_stations) (lookup c.args.self.now c.args.source.now) c.in-Some.field-0 c.args.port known)

pub returns-in-None : goal.returns-in-None
returns-in-None c =
    let many : is_multicast c.args.source.now ≡ false = sym c.is_multicast.ensures ∙ c.if-is_multicast.false in
    let same : not (bytes_eq c.args.address.now c.args.source.now) ≡ false = cc (c.ne.ensures, c.if-ne.false, c.as_slice.ensures, c.as_slice-2.ensures) in
    let room : nat_lt (length c.args.self.now) most_stations ≡ true = search (rules, room-for) in
    sym (lookup-source c.args.self.now c.args.source.now c.args.port c.args.address.now many (not-false (bytes_eq c.args.address.now c.args.source.now) same)
    ∙ ap (λ b. once_learned b (lookup c.args.self.now c.args.source.now) c.args.port) room)
