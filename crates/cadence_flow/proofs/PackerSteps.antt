-- A packer that was called once more is one that was called so.
use Rattle.std.proofs.Common.{◌≡◌, ℕ, true, false, List, [], ◌∷◌, ◌++◌, Some, Result, Ok, Err, MatchResult, OnOk, is_ok}
use Rattle.std.proofs.Common.{ap, sym, ◌∙◌, subst, refl}
use Rattle.std.proofs.lemmas.Bool.{false≢true}
use Rattle.std.proofs.lemmas.List.{append-nil}
use Rattle.std.proofs.lemmas.List.Elements.{All-nil}
use Rattle.cadence_errors.specs.declared.SinkError.{SinkError}
use Rattle.cadence_stage.specs.Call.{Call, Line, Flush}
use Rattle.cadence_flow.specs.Cut.{IsPacketRun, bytes_taken}
use Rattle.cadence_flow.specs.Frame.{Format, taken_stream}
use Rattle.cadence_flow.specs.Offers.{FlushesOffers, IsShort, WritesOffers}
use Rattle.cadence_flow.specs.Packed.{IsPacked}
use Rattle.cadence_flow.specs.Packer.{Packer, FlushesHeld, WritesLine, added_by}
use Rattle.cadence_stage.specs.Past.{is_flush, taken_in}
use Rattle.cadence_flow.specs.RecordedWriter.{offers_of, recorded_history, recorded_kind}
use Rattle.cadence_flow.specs.Writer.{PacketHistory, WriterKind}
use Rattle.cadence_flow.specs.declared.recorded_writer.RecordedWriter.{RecordedWriter}
use Rattle.cadence_flow.proofs.CutLemmas.{stream_more}
use Rattle.cadence_flow.proofs.PackerCut.{PackerCut, cut_flushes, cut_writes}
use Rattle.cadence_stage.proofs.Pasts.{flush_more, taken_more}

stream_line : (format : Format) (past : List Call) (line : List ℕ) (r : Result ℕ SinkError)
    → taken_stream format (taken_in past) ++ added_by format line r ≡ taken_stream format (taken_in (past ++ Line line r ∷ []))
stream_line format past line (Ok n) = sym (ap (taken_stream format) (taken_more past (Line line (Ok n))) ∙ stream_more format (taken_in past) line n)
stream_line format past line (Err e) = append-nil _ ∙ ap (taken_stream format) (sym (taken_more past (Line line (Err e)) ∙ append-nil _))

no_line : (past : List Call) (r : Result (Unit {0}) SinkError) → taken_in past ≡ taken_in (past ++ Flush r ∷ [])
no_line past r = sym (taken_more past (Flush r) ∙ append-nil _)

emptied : {P : Type 0} (r : Result (Unit {0}) SinkError) → OnOk r P → is_flush (Flush r) ≡ true → P
emptied (Ok done) p is = p
emptied (Err e) p is = absurd (false≢true is)

-- a packer that was not called yet
pub packed_none : {W : Type 0} (p : Packer (RecordedWriter W)) → p.held ≡ [] → offers_of p.writer ≡ [] → IsPacked p []
packed_none p none_held none_offered =
    record {
      stream = ap (λ o. bytes_taken o ++ p.held) none_offered ∙ none_held;
      cut = record {
        runs = [];
        shorts = [];
        lines = [];
        each = All-nil (IsPacketRun p.format);
        all_short = All-nil IsShort;
        all_offers = none_offered;
        all_lines = refl;
        rest = none_held;
      };
      flushed = λ _. none_held;
    }

module _ {W : Type 0} (kind : W → WriterKind) (history : W → PacketHistory) (old new : Packer (RecordedWriter W)) where
  line_cut : (past : List Call) (line : List ℕ) (r : Result ℕ SinkError)
      → MatchResult r (λ n. PackerCut new (taken_in past ++ (line, n) ∷ [])) (λ e. PackerCut new (taken_in past))
      → PackerCut new (taken_in (past ++ Line line r ∷ []))
  line_cut past line (Ok n) cut = subst (PackerCut new) (sym (taken_more past (Line line (Ok n)))) cut
  line_cut past line (Err e) cut = subst (PackerCut new) (sym (taken_more past (Line line (Err e)) ∙ append-nil _)) cut

  -- a packer that was given one more line
  pub packed_line : (line : List ℕ) (r : Result ℕ SinkError) → WritesLine (recorded_kind kind) (recorded_history history) old new line r
      → WritesOffers old.format (Some (offers_of old.writer)) (Some (offers_of new.writer)) old.held new.held line r
      → (past : List Call) → IsPacked old past → IsPacked new (past ++ Line line r ∷ [])
  packed_line line r w offered past was =
      record {
        stream = w.writes.text refl ∙ ap (λ l. l ++ added_by old.format line r) was.stream ∙ stream_line old.format past line r
            ∙ ap (λ f. taken_stream f (taken_in (past ++ Line line r ∷ []))) (sym w.same_format);
        cut = line_cut past line r (cut_writes kind history old new (taken_in past) line r w offered was.cut);
        flushed = λ is. absurd (false≢true (sym (flush_more false past (Line line r)) ∙ is));
      }

  -- a packer that was flushed once more
  pub packed_flush : (r : Result (Unit {0}) SinkError) → FlushesHeld (recorded_kind kind) (recorded_history history) old new r
      → FlushesOffers (Some (offers_of old.writer)) (Some (offers_of new.writer)) old.held (is_ok r)
      → (past : List Call) → IsPacked old past → IsPacked new (past ++ Flush r ∷ [])
  packed_flush r f offered past was =
      record {
        stream = f.flushes.text refl ∙ was.stream ∙ ap (λ f. taken_stream f (taken_in past)) (sym f.same_format)
            ∙ ap (taken_stream new.format) (no_line past r);
        cut = subst (PackerCut new) (no_line past r) (cut_flushes kind history old new (taken_in past) r f offered was.cut);
        flushed = λ is. emptied r f.flushes.empties (sym (flush_more false past (Flush r)) ∙ is);
      }
