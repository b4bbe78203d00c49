-- Tables of cases: document 01's starred ones, more for the controller, two notices in either order, and gates that hold.
pub mod Starred
pub mod Orders
pub mod Gates
