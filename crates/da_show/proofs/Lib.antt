mod BriefText
mod HexDigits
mod Pieces
mod JsonLaws
