-- Start with `Address`, the only lemmas: if a resolver meets `IsResolvedBy` after some lookups, it does after one more.
pub mod Address
