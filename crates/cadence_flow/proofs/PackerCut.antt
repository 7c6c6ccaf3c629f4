-- What the calls of a recorded packer do to the cut of its offers.
use Rattle.std.proofs.Common.{◌≡◌, ℕ, ◌+◌, Bool, true, false, List, [], ◌∷◌, ◌++◌, Some, Result, Ok, Err, MatchResult, is_ok, OnOk, length}
use Rattle.std.proofs.Common.{ap, sym, ◌∙◌, subst, refl, ⊎_elim}
use Rattle.std.proofs.lemmas.Bool.{cases_lt}
use Rattle.std.proofs.lemmas.List.{append-nil}
use Rattle.cadence_errors.specs.declared.SinkError.{SinkError}
use Rattle.cadence_flow.specs.Frame.{size_of, is_oversize}
use Rattle.cadence_flow.specs.Offers.{FlushesOffers, WritesOffers}
use Rattle.cadence_flow.specs.Packer.{Packer, FlushesHeld, WritesLine}
use Rattle.cadence_flow.specs.Writer.{PacketHistory, WriterKind}
use Rattle.cadence_flow.specs.Cut.{IsCut}
use Rattle.cadence_flow.specs.RecordedWriter.{offers_of, recorded_history, recorded_kind}
use Rattle.cadence_flow.specs.declared.recorded_writer.RecordedWriter.{RecordedWriter}
use Rattle.cadence_flow.proofs.CutLemmas.{cut_flush, write_held, write_closes, write_alone, write_fails}

module _ {W : Type 0} where
  -- The offers of the packer are cut from the lines that it accepted.
  abbrev pub PackerCut : Packer (RecordedWriter W) → List (List ℕ × ℕ) → Type 0
  PackerCut p accepted = IsCut p.format (offers_of p.writer) accepted p.held

module _ {W : Type 0} (kind : W → WriterKind) (history : W → PacketHistory) (old new : Packer (RecordedWriter W)) where
  ok_emptied : {A : Type 0} (r : Result A SinkError) (rest : List ℕ) → OnOk r (rest ≡ []) → is_ok r ≡ true → rest ≡ []
  ok_emptied (Ok a) rest none ok = none
  ok_emptied (Err e) rest none ok = absurd cc

  in_format : (accepted : List (List ℕ × ℕ)) → new.format ≡ old.format → IsCut old.format (offers_of new.writer) accepted new.held
      → PackerCut new accepted
  in_format accepted same cut = subst (λ f. IsCut f (offers_of new.writer) accepted new.held) (sym same) cut

  -- A flush keeps the cut.
  pub cut_flushes : {A : Type 0} (accepted : List (List ℕ × ℕ)) (r : Result A SinkError)
      → FlushesHeld (recorded_kind kind) (recorded_history history) old new r
      → FlushesOffers (Some (offers_of old.writer)) (Some (offers_of new.writer)) old.held (is_ok r) → PackerCut old accepted → PackerCut new accepted
  cut_flushes accepted r f offered cut =
      in_format accepted f.same_format
      (cut_flush old.format (offers_of old.writer) (offers_of new.writer) accepted old.held new.held (is_ok r) cut offered
      (ok_emptied r new.held f.flushes.empties) (f.flushes.text refl))

  module _ (accepted : List (List ℕ × ℕ)) (line : List ℕ) where
    written : (r : Result ℕ SinkError) → WritesLine (recorded_kind kind) (recorded_history history) old new line r
        → WritesOffers old.format (Some (offers_of old.writer)) (Some (offers_of new.writer)) old.held new.held line r
        → (over : Bool) → is_oversize old.format line ≡ over → PackerCut old accepted
        → MatchResult r (λ n. PackerCut new (accepted ++ (line, n) ∷ [])) (λ e. PackerCut new accepted)
    written (Ok n) w offered true over cut =
        in_format (accepted ++ (line, n) ∷ []) w.same_format
        (write_alone old.format (offers_of old.writer) (offers_of new.writer) accepted old.held new.held line cut n over w.writes.count.within
        (offered.alone over) (w.writes.alone over).held (w.writes.text refl))
    written (Err e) w offered true over cut =
        in_format accepted w.same_format
        (write_fails old.format (offers_of old.writer) (offers_of new.writer) accepted old.held new.held line cut (offered.refused over)
        (w.writes.text refl))
    written (Ok n) w offered false within cut = ⊎_elim
        (λ more.
        in_format (accepted ++ (line, n) ∷ []) w.same_format
        (write_closes old.format (offers_of old.writer) (offers_of new.writer) accepted old.held new.held line cut n within
        (offered.closes more within) (w.writes.goes_first more within).held (w.writes.text refl)))
        (λ fits.
        let is = w.only_held fits in
        in_format (accepted ++ (line, n) ∷ []) w.same_format
        (write_held old.format (offers_of old.writer) (offers_of new.writer) accepted old.held new.held line cut n within
        (ap (λ p. offers_of p.writer) is) (ap (λ p. p.held) is)))
        (cases_lt old.format.capacity (length old.held + size_of old.format line))
    written (Err e) w offered false within cut = ⊎_elim
        (λ more.
        in_format accepted w.same_format
        (cut_flush old.format (offers_of old.writer) (offers_of new.writer) accepted old.held new.held false cut
        (offered.closes more within) (λ no. absurd cc) (w.writes.text refl
        ∙ append-nil _)))
        (λ fits. absurd (let no = (w.writes.fits fits).count in cc))
        (cases_lt old.format.capacity (length old.held + size_of old.format line))

    -- A write keeps the cut, with one more line if it returned a count.
    pub cut_writes : (r : Result ℕ SinkError) → WritesLine (recorded_kind kind) (recorded_history history) old new line r
        → WritesOffers old.format (Some (offers_of old.writer)) (Some (offers_of new.writer)) old.held new.held line r → PackerCut old accepted
        → MatchResult r (λ n. PackerCut new (accepted ++ (line, n) ∷ [])) (λ e. PackerCut new accepted)
    cut_writes r w offered cut = written r w offered _ refl cut
