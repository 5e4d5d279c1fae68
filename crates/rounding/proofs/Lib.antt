-- What rounding means has these proofs: Meets proves the list of specs/Meets.antt, Distance what `Closer` says, Relative how far rounding moves a number, and the others lead there.
pub mod Numbers
pub mod Distance
pub mod Neighbours
pub mod Values
pub mod Limit
pub mod Located
pub mod Overflow
pub mod LocatedRounded
pub mod Unique
pub mod Rounds
pub mod Meets
pub mod Relative
