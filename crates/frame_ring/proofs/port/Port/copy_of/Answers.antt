use Rattle.frame_ring.proofs.port.Port.copy_of.Goals as goal

pub invariant_of-result : goal.invariant_of-result
invariant_of-result c = rw (c.copy_of.ensures, c.in_ok-copy_of.ensures, c.in_ok-copy_of-2.ensures) c.self.invariant
