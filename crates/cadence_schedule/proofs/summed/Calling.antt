-- Which lines and flushes the aggregator gives to the packer in each of its calls.
use Rattle.std.proofs.Common.{◌≡◌, ℕ, List, [], ◌∷◌, ◌++◌, Ok, Err, Result, length, refl, sym, ap, ◌∙◌, subst, inl, inr, ⊎_elim}
use Rattle.std.proofs.lemmas.List.{append-nil}
use Rattle.cadence_aggregate.proofs.Observed.{same_of}
use Rattle.cadence_aggregate.specs.Aggregate.{held}
use Rattle.cadence_aggregate.specs.Server.{Sample, IsSummary}
use Rattle.cadence_aggregating.specs.Says.{LineSays}
use Rattle.cadence_errors.specs.declared.SinkError.{SinkError}
use Rattle.cadence_flow.specs.Writer.{PacketHistory, WriterKind}
use Rattle.cadence_schedule.specs.Asked.{AsksFlush, WritesThen}
use Rattle.cadence_schedule.specs.Leads.{LeadsSink, SinkPacks, lines_by, sent_by}
use Rattle.cadence_schedule.specs.Led.{packs_joined}
use Rattle.cadence_schedule.specs.PackedRuns.{PacksCounted, view_of}
use Rattle.cadence_stage.specs.Call.{Call, Flush, Line}
use Rattle.cadence_schedule.specs.SumsCalls.{SumsCall}
use Rattle.cadence_schedule.specs.declared.packer_sink.PackerSink.{PackerSink}
use Rattle.cadence_schedule.specs.declared.packed_sums.PackedSums.{PackedSums}

asks_flush : (result : Result (Unit {0}) SinkError) (asked : List Call) → WritesThen asked (Flush result) → AsksFlush result asked
asks_flush (Ok done) asked then = then
asks_flush (Err e) asked then = inr then

module _ {P A : Type 0} (kind : P → WriterKind) (history : P → PacketHistory) (old new : PackedSums P A) where
  -- A line was added.
  pub added : (line : List ℕ) (n : ℕ) (said : Sample) → LeadsSink kind history old.sink (Ok tt) new.sink → LineSays line said
      → IsSummary ((sent_by old.sink ++ held old.lines.aggregator) ++ said ∷ []) (sent_by new.sink ++ held new.lines.aggregator)
      → n ≡ length line → SumsCall kind history old (Line line (Ok n)) new
  added line n said leads says sum whole =
      record { whole = (whole, tt); asked = leads.asked; asks = leads.asks; packs = leads.packs; said = said ∷ []; says = (says, tt); summary = sum; flushed = λ never. cc }

  -- A line was not added.
  pub not_added : (line : List ℕ) (e : SinkError) → LeadsSink kind history old.sink (Err e) new.sink
      → IsSummary (sent_by old.sink ++ held old.lines.aggregator) (sent_by new.sink ++ held new.lines.aggregator) → SumsCall kind history old (Line line (Err e)) new
  not_added line e leads sum = record {
    whole = tt;
    asked = leads.asked;
    asks = leads.asks;
    packs = leads.packs;
    said = [];
    says = tt;
    summary = subst (λ xs. IsSummary xs (sent_by new.sink ++ held new.lines.aggregator)) (sym (append-nil (sent_by old.sink ++ held old.lines.aggregator))) sum;
    flushed = λ never. cc;
  }

  -- A flush failed before the packer was flushed.
  pub not_flushed : (e : SinkError) → LeadsSink kind history old.sink (Err e) new.sink
      → sent_by new.sink ++ held new.lines.aggregator ≡ sent_by old.sink ++ held old.lines.aggregator → SumsCall kind history old (Flush (Err e)) new
  not_flushed e leads same = record {
    whole = tt;
    asked = leads.asked;
    asks = inl leads.asks;
    packs = leads.packs;
    said = [];
    says = tt;
    summary = same_of _ _ (append-nil (sent_by old.sink ++ held old.lines.aggregator) ∙ sym same);
    flushed = λ never. cc;
  }

  module _ (s : PackerSink P A) (result : Result (Unit {0}) SinkError) (only : new.sink ≡ record s { packing = new.sink.packing }) where
    -- The packer was flushed, or its flush failed.
    pub flushed_both : LeadsSink kind history old.sink (Ok tt) s → sent_by s ++ held new.lines.aggregator ≡ sent_by old.sink ++ held old.lines.aggregator
        → held new.lines.aggregator ≡ [] → PacksCounted kind history s.packing (Flush result) new.sink.packing → SumsCall kind history old (Flush result) new
    flushed_both leads same none step =
        let flush : SinkPacks kind history s new.sink (Flush result ∷ []) = record {
          lines = ap (λ (x : PackerSink P A). lines_by x) only ∙ sym (append-nil (lines_by s));
          sends = (view_of new.sink.packing, ⊎_elim (λ packs. packs) (λ full. absurd full.0) step.packs, refl);
        } in
        record {
          whole = tt;
          asked = leads.asked ++ Flush result ∷ [];
          asks = asks_flush result (leads.asked ++ Flush result ∷ []) (leads.asked, leads.asks, refl);
          packs = packs_joined kind history old.sink s new.sink leads.asked (Flush result ∷ []) leads.packs flush;
          said = [];
          says = tt;
          summary = same_of _ _ (append-nil (sent_by old.sink ++ held old.lines.aggregator) ∙ sym same
              ∙ ap (λ xs. xs ++ held new.lines.aggregator) (sym (ap (λ (x : PackerSink P A). sent_by x) only)));
          flushed = λ done. none;
        }
