use Rattle.cadence_words.proofs.text.read_text.Goals as goal

pub returns-in-Set : goal.returns-in-Set
returns-in-Set c = rw c.in-Set.is c.read_member.ensures

pub returns-in-Gauge : goal.returns-in-Gauge
returns-in-Gauge c = rw c.in-Gauge.is c.read_change.ensures
