-- What lets a flush return Ok without a flush of another sink.

-- This sink holds no text. Other modules can't unfold it. The default body of a flush has it, because that body calls
-- `holds_nothing`, and no other body does. So the flush of a client or of a wrapping sink can't return Ok by itself.
pub NothingIsHeld : Type 0
NothingIsHeld = Unit {0}

-- only for the proof of `holds_nothing`
pub nothing_is_held : NothingIsHeld
unfolding NothingIsHeld
nothing_is_held = tt
