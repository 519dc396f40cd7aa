pub mod KeptCells
