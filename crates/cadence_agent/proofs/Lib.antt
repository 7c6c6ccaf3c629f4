-- Start with `DefaultTags`, the only lemmas: the tags of the environment, added to settings one after the other.
pub mod DefaultTags
