use Rattle.std.proofs.Common.{◌≢◌, length, refl, sym, arith}
use Rattle.std.proofs.lemmas.Bool.{eqb-false}
use Rattle.host_memory.specs.Memory.{page_of}
use Rattle.host_memory.proofs.memory.Memory.write.Goals as goal

pub write_on_page-requires-clause-promised : goal.write_on_page-requires-clause-promised
write_on_page-requires-clause-promised c =
    let some : length c.args.bytes.now ≢ 0 = eqb-false (length c.args.bytes.now) 0 (sym c.if-not-is_empty.ensures) in
    c.requires.promised (page_of c.args.at) (c.args.at, omega arith, omega (arith, some), refl)
