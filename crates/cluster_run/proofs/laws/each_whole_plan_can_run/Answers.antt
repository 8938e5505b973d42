use Rattle.cluster_run.proofs.laws.each_whole_plan_can_run.Goals as goal

pub returns : goal.returns
returns c plan whole = record {
  few_pairs = whole.declared.few_pairs;
  pairs = whole.declared.pairs;
  traffic = whole.traffic;
  few_frames = whole.few_frames;
  few_bytes = whole.few_bytes;
  few_breaks = whole.few_breaks;
}
