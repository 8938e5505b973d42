use Rattle.bridge_pair.proofs.pair.Pair.set_local_word.Goals as goal

pub set_word-requires-clause-promised : goal.set_word-requires-clause-promised
set_word-requires-clause-promised c = rw (c.in-A.is, ← c.self.view_is) at c.requires.promised

pub set_word-requires-in-B-clause-promised : goal.set_word-requires-in-B-clause-promised
set_word-requires-in-B-clause-promised c = rw (c.in-B.is, ← c.self.view_is) at c.requires.promised
