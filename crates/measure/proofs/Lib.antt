pub mod NearestLaws
