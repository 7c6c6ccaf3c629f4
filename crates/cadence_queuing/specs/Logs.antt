-- The names of the logs of a queue, its worker and the sink that it feeds.
use Rattle.cadence_stage.specs.Names.{LogNames}
use Rattle.cadence_stage.specs.OwnLog.{name_of}
use Rattle.cadence_queuing.specs.declared.logs.WorkerLogs.{WorkerLogs}

abbrev pub names_of : {A : Type 0} → WorkerLogs A → LogNames
names_of l = record {
  accepted = name_of l.queue.accepted;
  taken = l.queue.taken.name;
  ended = name_of l.queue.ended;
  fed = l.feed.name;
}
