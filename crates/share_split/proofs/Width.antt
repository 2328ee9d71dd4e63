-- widths that are powers of two
pub mod Powers
-- the width is the lesser of two, by the formula of the standard
pub mod Laws
