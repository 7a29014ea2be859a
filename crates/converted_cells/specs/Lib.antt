pub mod ConvertedCells
