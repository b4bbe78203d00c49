-- Tables of cases: what solving answers and leaves.
pub mod Solving
