use Rattle.std.proofs.Common.{◌≡◌, length, drop, rules, sym, ◌∙◌}
use Rattle.pair_model.specs.Ethernet.{ethernet_frame, ethernet_header}
use Rattle.learn_switch.proofs.Headers.{destination-of, long-enough, source-of}
use Rattle.learn_switch.proofs.switch.header_of.Goals as goal

pub returns-clause-header : goal.returns-clause-header
returns-clause-header c =
    let header = c.in_ok-header.header in
    let bytes = c.args.frame.now in
    let payload = drop ethernet_header c.bytes.result.now in
    let dst : length header.dst ≡ 6 = search rules in
    let src : length header.src ≡ 6 = search rules in
    let parts : bytes ≡ ethernet_frame header.dst header.src header.kind payload = sym c.bytes.ensures.value ∙ c.in_ok-header.ensures.parts in (
      long-enough bytes header.dst header.src payload header.kind parts dst src,
      destination-of bytes header.dst header.src payload header.kind parts dst,
      source-of bytes header.dst header.src payload header.kind parts dst src,
    )
