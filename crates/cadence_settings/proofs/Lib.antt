-- Start with `calls.CallOptions`: what each option adds to the metric of a call, and the draft of its line.
-- `calls.FreeTexts` is about strict settings.
pub mod calls
