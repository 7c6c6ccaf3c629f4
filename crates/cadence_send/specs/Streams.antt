-- What became of the lines of a stream.
use Rattle.std.specs.Prelude.{◌≡◌, ℕ, List, ◌++◌}
use Rattle.std.specs.List.{concat}
use Rattle.cadence_stage.specs.OwnLog.{items_of}
use Rattle.cadence_flow.specs.Frame.{stream}
use Rattle.cadence_flow.specs.Packer.{Packer}
use Rattle.cadence_flow.specs.Writer.{PacketHistory, history_of}
use Rattle.cadence_send.specs.Losses.{Fate, fates_of, losses_of, packets_in}
use Rattle.cadence_send.specs.Sent.{AreLinesOf}
use Rattle.cadence_send.specs.declared.lasting.LastingWriter.{LastingWriter}
use Rattle.cadence_send.specs.declared.board.Losses.{Losses}
use Rattle.cadence_words.specs.declared.defaults.Defaults.{Defaults}
use Rattle.cadence_flow.specs.RecordedWriter.{packets_of}

module _ {T E A : Type 0} where
  -- the writer below
  abbrev pub writer_below : LastingWriter T E A → T
  writer_below w = w.inner

  -- how many packets and lines the writer counted
  abbrev pub losses_in : LastingWriter T E A → Losses
  losses_in w = w.losses

  -- the packets that the writer was given, the oldest first, each with whether it was lost
  abbrev pub fates_in : LastingWriter T E A → List Fate
  fates_in w = fates_of (packets_of w.given) (items_of w.are_lost)

  -- the history of the writer: the packets that it was given, also the lost ones
  abbrev pub given_history : LastingWriter T E A → PacketHistory
  given_history w = history_of (packets_in (fates_in w)) w.refusals

  -- the text that the packer was given: the packets, sent or lost, joined, and then the text that is held
  abbrev pub given_text : Packer (LastingWriter T E A) → List ℕ
  given_text p = concat (packets_in (fates_in p.writer)) ++ p.held

  -- What became of these texts: their lines are in packets, of which each was sent or lost and counted, or they are held.
  pub record Accounts {Z : Type 0} (d : Defaults Z) (old new : Packer (LastingWriter T E A)) (texts : List (List ℕ)) : Type 0 where
    -- the lines of the texts that ask for a metric, in order
    pub lines : List (List ℕ)
    pub are : AreLinesOf d texts lines
    -- these lines, and nothing else, came to the packets and the held text
    pub whole : given_text new ≡ given_text old ++ stream old.format lines
    -- the counts are those of the packets that are lost
    pub counts : losses_in new.writer ≡ losses_of (fates_in new.writer)

  -- What became of the first of these texts. None of the others was taken.
  pub record AccountsFirst {Z : Type 0} (d : Defaults Z) (old new : Packer (LastingWriter T E A)) (texts : List (List ℕ)) : Type 0 where
    pub front : List (List ℕ)
    pub rest : List (List ℕ)
    pub cut : texts ≡ front ++ rest
    pub accounts : Accounts d old new front
