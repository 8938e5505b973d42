pub mod LaterFrames
