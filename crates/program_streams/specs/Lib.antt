pub mod Printed
pub mod Sums
