-- Start with `SendingLemmas`: what an option changes in a builder, and what the builder then sends. The answers of
-- `send` and of `build` need nothing else.
pub mod SendingLemmas
