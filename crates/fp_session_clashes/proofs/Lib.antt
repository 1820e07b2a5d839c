pub mod RefinedPoints
