-- A frame cut into pieces.
pub use Rattle.pair_model.specs.Pieces.{piece_of, pieces_of}
