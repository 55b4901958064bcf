-- Laws of the table, and what the proof of `row_of` cites
pub mod Table
pub mod SizeVectors
