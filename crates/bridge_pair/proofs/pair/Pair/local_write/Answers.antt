use Rattle.bridge_pair.proofs.pair.Pair.local_write.Goals as goal

pub write-requires-clause-promised : goal.write-requires-clause-promised
write-requires-clause-promised c = rw (c.in-A.is, ← c.self.view_is) at c.requires.promised

pub write-requires-in-B-clause-promised : goal.write-requires-in-B-clause-promised
write-requires-in-B-clause-promised c = rw (c.in-B.is, ← c.self.view_is) at c.requires.promised
