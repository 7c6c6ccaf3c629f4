-- Start with `Authorities`: the host and the port of a URL. `Spaces` is about the tags of DD_TAGS, `Groups` about control
-- groups, and `KeptTexts` about external data.
pub mod Authorities
pub mod Groups
pub mod KeptTexts
pub mod Spaces
