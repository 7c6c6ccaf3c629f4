use Rattle.cadence_settings.specs.CallData.{line_of_data}
use Rattle.cadence_schedule.proofs.running.Running.step.Goals as goal

pub returns-in-Take-clause-queue : goal.returns-in-Take-clause-queue
returns-in-Take-clause-queue g c = rw c.in-Take.is (c.take.ensures.queue (line_of_data c.args.settings.now))

pub returns-in-Hand-clause-queue : goal.returns-in-Hand-clause-queue
returns-in-Hand-clause-queue g c = rw c.in-Hand.is (c.hand.ensures.queue (line_of_data c.args.settings.now))

pub returns-in-Flush-clause-queue : goal.returns-in-Flush-clause-queue
returns-in-Flush-clause-queue g c = rw c.in-Flush.is (c.flush.ensures.queue (line_of_data c.args.settings.now))

pub returns-in-Stop-clause-queue : goal.returns-in-Stop-clause-queue
returns-in-Stop-clause-queue g c = rw c.in-Stop.is (c.stop.ensures.queue (line_of_data c.args.settings.now))

pub returns-in-Call-clause-leads : goal.returns-in-Call-clause-leads
returns-in-Call-clause-leads g c = rw c.in-Call.is c.call.ensures.same

pub returns-in-Take-clause-leads : goal.returns-in-Take-clause-leads
returns-in-Take-clause-leads g c = rw c.in-Take.is c.take.ensures.same

pub returns-in-Hand-clause-leads : goal.returns-in-Hand-clause-leads
returns-in-Hand-clause-leads g c = rw c.in-Hand.is c.hand.ensures.leads

pub returns-in-Flush-clause-leads : goal.returns-in-Flush-clause-leads
returns-in-Flush-clause-leads g c = rw c.in-Flush.is c.flush.ensures.leads

pub returns-in-Stop-clause-leads : goal.returns-in-Stop-clause-leads
returns-in-Stop-clause-leads g c = rw c.in-Stop.is c.stop.ensures.same
