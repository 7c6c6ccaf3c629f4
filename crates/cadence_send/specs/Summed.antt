-- What sums over a packer take.
use Rattle.std.specs.Prelude.{◌≡◌, ℕ, List, [], ◌++◌}
use Rattle.std.proofs.Common.{sym, ap, ◌∙◌}
use Rattle.std.proofs.lemmas.List.{append_assoc, append-nil}
use Rattle.cadence_aggregating.specs.Past.{Summarizes}
use Rattle.cadence_aggregating.specs.Summed.{accepted_in, gone_in, held_in, waiting_in}
use Rattle.cadence_aggregating.specs.declared.summed.SummedLines.{SummedLines}
use Rattle.cadence_flow.specs.Packer.{Packer}
use Rattle.cadence_flow.specs.Writer.{PacketHistory, WriterKind}
use Rattle.cadence_send.specs.Sent.{TakesLines}
use Rattle.cadence_send.specs.Takes.{takes_more, takes_none}
use Rattle.cadence_send.specs.declared.summed.SummedPacker.{SummedPacker}

module _ {T A : Type 0} where
  -- the sums
  abbrev pub sums_of : SummedPacker T A → SummedLines
  sums_of p = p.sums

  -- the packer
  abbrev pub packer_below : SummedPacker T A → Packer T
  packer_below p = p.lines

  -- Nothing is held, neither by the sums nor by the packer.
  pub record IsAllSent (p : SummedPacker T A) : Type 0 where
    pub held : held_in (sums_of p) ≡ []
    pub waiting : waiting_in (sums_of p) ≡ []
    pub packed : (packer_below p).held ≡ []

  -- What left the sums and what waits, with what is held, is a summary of the accepted lines.
  abbrev pub HoldsSummary : SummedPacker T A → Type 0
  HoldsSummary p = ∥ Summarizes (accepted_in (sums_of p)) (gone_in (sums_of p) ++ waiting_in (sums_of p)) (held_in (sums_of p)) ∥₁

  module _ (kind : T → WriterKind) (history : T → PacketHistory) where
    -- Some lines left the sums, and the packer took them, in order.
    pub record GivesToPacker (old new : SummedPacker T A) : Type 0 where
      pub given : List (List ℕ)
      pub gone : gone_in (sums_of new) ≡ gone_in (sums_of old) ++ given
      pub packed : TakesLines kind history (packer_below old) (packer_below new) given

    -- The sums accepted these lines, and gave lines to the packer.
    pub record TakesSummed (old new : SummedPacker T A) (lines : List (List ℕ)) : Type 0 where
      pub accepted : accepted_in (sums_of new) ≡ accepted_in (sums_of old) ++ lines
      pub gives : GivesToPacker old new

    pub gives_none : (p : SummedPacker T A) → GivesToPacker p p
    gives_none p = record { given = []; gone = sym (append-nil (gone_in (sums_of p))); packed = takes_none kind history (packer_below p) }

    pub gives_more : (p q r : SummedPacker T A) → GivesToPacker p q → GivesToPacker q r → GivesToPacker p r
    gives_more p q r h k = record {
      given = h.given ++ k.given;
      gone = k.gone ∙ ap (λ g. g ++ k.given) h.gone ∙ append_assoc (gone_in (sums_of p)) h.given k.given;
      packed = takes_more kind history (packer_below p) (packer_below q) (packer_below r) h.given k.given h.packed k.packed;
    }

    pub summed_none : (p : SummedPacker T A) → TakesSummed p p []
    summed_none p = record { accepted = sym (append-nil (accepted_in (sums_of p))); gives = gives_none p }

    pub summed_more : (p q r : SummedPacker T A) (lines others : List (List ℕ)) → TakesSummed p q lines → TakesSummed q r others
        → TakesSummed p r (lines ++ others)
    summed_more p q r lines others h k = record {
      accepted = k.accepted ∙ ap (λ a. a ++ others) h.accepted ∙ append_assoc (accepted_in (sums_of p)) lines others;
      gives = gives_more p q r h.gives k.gives;
    }
