pub mod FinishedPixels
