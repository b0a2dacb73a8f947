pub mod Canonical
pub mod Digits
pub mod FirstDigits
pub mod KeptInPlace
pub mod NumberRows
pub mod NumbersLemmas
