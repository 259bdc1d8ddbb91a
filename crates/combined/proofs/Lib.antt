pub mod PairCode
