-- A pointer to sums may go to another thread, because what the sums own may go there.
use denote.Struct.Struct.{exits_of}
use denote.Struct.Owning.{shape, fields, to}
use denote.Param.Send.{IsSend, AllSend, owning_send, struct_send, sendable}
use Rattle.std_alloc.proofs.SendSync.{quiet}
use Rattle.std_heap.proofs.Global.TheSendSync as handle
use Rattle.cadence_c.proofs.AsBox.{crosses}
use Rattle.cadence_c.specs.contracts.sums_handle.Sums as owned
use Rattle.cadence_c.proofs.sums_handle.Sums.TheSendSync.{the_send as sends}
use Rattle.cadence_c.specs.contracts.sums_handle.SumsPointer.{the_row, the_type}

pub send : IsSend the_row
send =
    let all : AllSend (fields the_type) = (search sendable, (handle.the_field_send, tt)) in
    owning_send the_type all (λ d. crosses owned.the_row sends d.alloc d.at d.sums)
    (λ k. quiet (to the_type) (exits_of k (fields the_type)) ((struct_send (shape the_type) all).leaving k))
