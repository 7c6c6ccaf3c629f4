-- What a packer takes: nothing between a state and itself, and between two steps what it took in both.
use Rattle.std.proofs.Common.{List, ℕ, [], ◌++◌, sym, refl, ap, ap₂, ◌∙◌}
use Rattle.std.proofs.lemmas.List.{append_assoc, append-nil}
use Rattle.std.proofs.lemmas.List.Concat.{flat_map-append}
use Rattle.cadence_flow.specs.Frame.{frame, stream}
use Rattle.cadence_flow.specs.Packer.{Packer, packer_state, whole_text}
use Rattle.cadence_flow.specs.Writer.{PacketHistory, WriterKind}
use Rattle.cadence_send.specs.Sent.{TakesLines}

module _ {W : Type 0} (kind : W → WriterKind) (history : W → PacketHistory) where
  pub takes_none : (p : Packer W) → TakesLines kind history p p []
  takes_none p = record { same_kind = refl; same_format = refl; text = λ reports whole. sym (append-nil (whole_text (packer_state history p))) }

  pub takes_more : (p q r : Packer W) (lines others : List (List ℕ)) → TakesLines kind history p q lines
      → TakesLines kind history q r others → TakesLines kind history p r (lines ++ others)
  takes_more p q r lines others h k = record {
    same_kind = k.same_kind ∙ h.same_kind;
    same_format = k.same_format ∙ h.same_format;
    text = λ reports whole.
        k.text (ap (λ (x : WriterKind). x.reports) h.same_kind ∙ reports) (ap (λ (x : WriterKind). x.takes_whole) h.same_kind ∙ whole)
        ∙ ap₂ (λ t f. t ++ stream f others) (h.text reports whole) h.same_format
        ∙ append_assoc (whole_text (packer_state history p)) (stream p.format lines) (stream p.format others)
        ∙ ap (λ s. whole_text (packer_state history p) ++ s) (sym (flat_map-append (frame p.format) lines others));
  }
