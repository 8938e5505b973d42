mod Headers
mod LongFrames
mod SameStations
mod TestAnswers
