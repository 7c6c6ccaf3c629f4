-- What became of the texts that a queue accepted, and of the lines that a packer was given.
use Rattle.std.specs.Prelude.{◌≡◌, false, List, length}
use Rattle.cadence_queue.specs.QueueModel.{Exit}
use Rattle.cadence_queue.specs.QueuePast.{texts_taken}
use Rattle.cadence_queue.specs.QueueState.{drops}
use Rattle.cadence_queue.specs.declared.policy.QueuePolicy.{QueuePolicy}
use Rattle.cadence_flow.specs.Packed.{IsPacked}
use Rattle.cadence_flow.specs.Packer.{Packer}
use Rattle.cadence_flow.specs.declared.recorded_writer.RecordedWriter.{RecordedWriter}
use Rattle.cadence_stage.specs.Call.{Call}
use Rattle.cadence_stage.specs.Past.{taken_in}

-- The queue is at its end. Each accepted text was taken or was dropped, and those that were taken were taken in order. A queue that refuses texts
-- when it is full has dropped none.
pub record AreDelivered {T : Type 0} (policy : QueuePolicy) (accepted taken : List T) : Type 0 where
  pub exits : List Exit
  pub each : length exits ≡ length accepted
  pub takes : taken ≡ texts_taken exits accepted
  pub all : drops policy ≡ false → taken ≡ accepted

-- The packer took just the lines of these calls that were answered with a number. So the packets that its writer took,
-- joined, and then the held text are the frames of these lines, in order.
pub record IsPackedOf {W : Type 0} (p : Packer (RecordedWriter W)) (calls : List Call) : Type 0 where
  pub past : List Call
  pub packed : IsPacked p past
  pub took : taken_in past ≡ taken_in calls
