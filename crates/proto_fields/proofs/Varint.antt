-- the bytes of a varint, and how many there are
pub mod Bytes
-- the laws of the shortest one: it states its number, its last byte is marked, and none is shorter
pub mod Laws
-- varints of any length, at the front of bytes
pub mod Read
-- how great a number so many bytes state
pub mod Powers
-- shortest varints, at the front of bytes
pub mod Shortest
