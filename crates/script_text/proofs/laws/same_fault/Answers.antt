use Rattle.script_text.proofs.CutInput.{fault_same}
use Rattle.script_text.proofs.laws.same_fault.Goals as goal

pub returns : goal.returns
returns c = fault_same c.args.bytes.now c.args.other.now c.args.end c.requires.fault c.requires.same
