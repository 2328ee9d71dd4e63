-- a share is its parts, one behind another, and zeros
pub mod Share
-- how many shares so many bytes take
pub mod Count
-- the later shares of a blob, one by one
pub mod Later
-- where units start in their text
pub mod Starts
-- where the content of a share stands in the text
pub mod Places
-- the later compact shares, one by one
pub mod LaterCompact
-- compact shares are as many as counted, and are shares
pub mod UnitLaws
-- the shares of a blob are as many as counted, and are shares
pub mod BlobLaws
-- what the reserved bytes of a share state
pub mod ReservedLaws
