pub mod WorkedPairs
