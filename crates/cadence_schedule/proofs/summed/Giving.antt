-- What one line from the aggregator changes in the packer: the packer kept the line, or it refused it.
use Rattle.std.proofs.Common.{◌≡◌, ℕ, List, [], ◌∷◌, ◌++◌, Ok, Err, inl, inr, map, refl, sym, ap, ◌∙◌, ⊎_elim}
use Rattle.std.proofs.lemmas.List.{append-nil, map-append}
use Rattle.cadence_stage.specs.OwnLog.{items_of}
use Rattle.cadence_aggregating.specs.Notes.{line_of_note}
use Rattle.cadence_aggregating.specs.declared.note.Note.{Note}
use Rattle.cadence_errors.specs.declared.SinkError.{SinkError}
use Rattle.cadence_flow.specs.Writer.{PacketHistory, WriterKind}
use Rattle.cadence_schedule.specs.Leads.{LeadsSink, lines_by}
use Rattle.cadence_schedule.specs.PackedRuns.{PacksCounted, view_of}
use Rattle.cadence_stage.specs.Call.{Line}
use Rattle.cadence_schedule.specs.declared.packer_sink.PackerSink.{PackerSink}

module _ {P A : Type 0} (kind : P → WriterKind) (history : P → PacketHistory) (old new : PackerSink P A) where
  -- A line was kept.
  pub line_kept : (text : List ℕ) (n : ℕ) (note : Note) → PacksCounted kind history old.packing (Line text (Ok n)) new.packing
      → items_of new.notes ≡ items_of old.notes ++ note ∷ [] → text ≡ line_of_note note → LeadsSink kind history old (Ok tt) new
  line_kept text n note step notes text_is = record {
    asked = Line text (Ok n) ∷ [];
    asks = refl;
    packs = record {
      lines = ap (map line_of_note) notes ∙ map-append line_of_note (items_of old.notes) (note ∷ []) ∙ ap (λ t. lines_by old ++ t ∷ []) (sym text_is);
      sends = (view_of new.packing, ⊎_elim (λ packs. packs) (λ full. absurd full.0) step.packs, refl);
    };
  }

  -- A line was refused.
  pub line_refused : (text : List ℕ) (e : SinkError) → PacksCounted kind history old.packing (Line text (Err e)) new.packing
      → items_of new.notes ≡ items_of old.notes → LeadsSink kind history old (Err e) new
  line_refused text e step notes =
      let same : lines_by new ≡ lines_by old ++ [] = ap (map line_of_note) notes ∙ sym (append-nil (lines_by old)) in
      ⊎_elim
      (λ send. record {
        asked = Line text (Err e) ∷ [];
        asks = inl (refl, refl);
        packs = record { lines = same; sends = (view_of new.packing, send, refl) };
      })
      (λ full. record { asked = []; asks = inr (refl, full.0.0); packs = record { lines = same; sends = full.1 } })
      step.packs
