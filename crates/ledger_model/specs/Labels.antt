-- The posted writes of a pair by their labels.
pub use Rattle.pair_model.specs.Labels.{label_of, labels_of, write_of, label_index_of, writes_among, indexes_among}
