-- Laws of a record in lent numbers.
pub mod Lending
