pub mod Pair
pub mod PairLaws
