-- Lines that leave sums, and that a packer takes.
use Rattle.std.proofs.Common.{◌≡◌, ℕ, List, [], ◌∷◌, ◌++◌, sym, ap, ◌∙◌, subst, take}
use Rattle.std.proofs.lemmas.List.{append-nil}
use Rattle.std.proofs.Math.Logic.{∥∥₁_map}
use Rattle.cadence_aggregating.specs.Summed.{AddsQuietly, accepted_in, gone_in, waiting_in}
use Rattle.cadence_flow.specs.Writer.{PacketHistory, WriterKind}
use Rattle.cadence_send.specs.Sent.{TakesLines}
use Rattle.cadence_send.specs.Summed.{GivesToPacker, TakesSummed, gives_more, packer_below, sums_of}
use Rattle.cadence_send.specs.declared.summed.SummedPacker.{SummedPacker}

-- If no line waits before a line is added, and none after, the packer stays as it is.
pub adds_quietly : {T A : Type 0} (line : List ℕ) (p q r t : SummedPacker T A) → (waiting_in (sums_of p) ≡ [] → q ≡ p)
    → packer_below r ≡ packer_below q
    → AddsQuietly (sums_of q) line (waiting_in (sums_of q)) (waiting_in (sums_of r)) → (waiting_in (sums_of r) ≡ [] → t ≡ r)
    → waiting_in (sums_of p) ≡ [] → AddsQuietly (sums_of p) line (packer_below p) (packer_below t)
adds_quietly line p q r t first kept quiet last none =
    ∥∥₁_map (subst (λ x. AddsQuietly (sums_of x) line (waiting_in (sums_of x)) (waiting_in (sums_of r))) (first none) quiet)
    (λ s. (s.0, s.1, λ to_hold can. ap (λ x. packer_below x) (last (s.2 to_hold can ∙ none)) ∙ kept ∙ ap (λ x. packer_below x) (first none)))

module _ {T A : Type 0} (kind : T → WriterKind) (history : T → PacketHistory) where
  -- If the packer takes no line and no more lines are gone, no line left the sums.
  pub gives_kept : (p q : SummedPacker T A) → gone_in (sums_of q) ≡ gone_in (sums_of p)
      → TakesLines kind history (packer_below p) (packer_below q) [] → GivesToPacker kind history p q
  gives_kept p q same kept = record { given = []; gone = same ∙ sym (append-nil (gone_in (sums_of p))); packed = kept }

  -- The first line that waits leaves the sums, and the packer takes it.
  pub gives_first : (p q : SummedPacker T A) (line : List ℕ) → take 1 (waiting_in (sums_of p)) ≡ line ∷ []
      → gone_in (sums_of q) ≡ gone_in (sums_of p) ++ take 1 (waiting_in (sums_of p))
      → TakesLines kind history (packer_below p) (packer_below q) (line ∷ []) → GivesToPacker kind history p q
  gives_first p q line first gone takes = record { given = line ∷ []; gone = gone ∙ ap (λ l. gone_in (sums_of p) ++ l) first; packed = takes }

  -- Lines left the sums, and nothing else.
  pub summed_kept : (p q : SummedPacker T A) → GivesToPacker kind history p q → accepted_in (sums_of q) ≡ accepted_in (sums_of p)
      → TakesSummed kind history p q []
  summed_kept p q gives same = record { accepted = same ∙ sym (append-nil (accepted_in (sums_of p))); gives = gives }

  -- Lines were accepted between two times at which lines left the sums.
  pub summed_between : (lines : List (List ℕ)) (p q r t : SummedPacker T A) → GivesToPacker kind history p q
      → accepted_in (sums_of q) ≡ accepted_in (sums_of p) → gone_in (sums_of r) ≡ gone_in (sums_of q)
      → TakesLines kind history (packer_below q) (packer_below r) [] → accepted_in (sums_of r) ≡ accepted_in (sums_of q) ++ lines
      → GivesToPacker kind history r t → accepted_in (sums_of t) ≡ accepted_in (sums_of r) → TakesSummed kind history p t lines
  summed_between lines p q r t first before gone none more last after = record {
    accepted = after ∙ more ∙ ap (λ l. l ++ lines) before;
    gives = gives_more kind history p r t (gives_more kind history p q r first (gives_kept q r gone none)) last;
  }

  -- The packer sent what it held, and nothing else happened.
  pub summed_sent : (lines : List (List ℕ)) (p q r : SummedPacker T A) → TakesSummed kind history p q lines
      → accepted_in (sums_of r) ≡ accepted_in (sums_of q) → gone_in (sums_of r) ≡ gone_in (sums_of q)
      → TakesLines kind history (packer_below q) (packer_below r) [] → TakesSummed kind history p r lines
  summed_sent lines p q r h same gone kept = record {
    accepted = same ∙ h.accepted;
    gives = gives_more kind history p q r h.gives (gives_kept q r gone kept);
  }
