use Rattle.std.proofs.lemmas.List.Elements.{All-weaker}
use Rattle.cadence_text.specs.OneReading.{IsClear, IsFreeOfSeparators}
use Rattle.cadence_schedule.proofs.packets.PacketMetrics.{reads_as}
use Rattle.cadence_schedule.proofs.laws.packets_read_one_way.Goals as goal

pub returns : goal.returns
returns c =
    let once = c.packet_reads_one_way.ensures in
    let weaker = All-weaker IsFreeOfSeparators IsClear c.free_is_clear.ensures in
    record {
      clear = reads_as IsClear once;
      free = reads_as IsFreeOfSeparators (λ xs ys packet hx hy. once xs ys packet (weaker xs hx) (weaker ys hy));
    }
