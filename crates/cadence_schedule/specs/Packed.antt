-- What holds of the packets of a run, by what its packer was given.
use Rattle.std.specs.Prelude.{◌≡◌, ℕ, ◌+◌, ◌%◌, ◌^◌, ◌≤◌, List, ◌++◌, true, length, map}
use Rattle.std.specs.List.{AllByRecursion, concat}
use Rattle.cadence_flow.specs.Frame.{size_of, stream, taken_stream}
use Rattle.cadence_flow.specs.Writer.{PacketHistory, Extends}
use Rattle.cadence_schedule.specs.Headline.{Given, ReportsWhole, AreSumsBetween, packets_of_run}
use Rattle.cadence_schedule.specs.Packets.{ArePacketsOf}
use Rattle.cadence_schedule.specs.Plan.{groups_of, IsTight, IsFewest, NoGroupHasRoom}
use Rattle.cadence_schedule.specs.Replies.{MayFail}
use Rattle.cadence_schedule.specs.Report.{Outcome}
use Rattle.cadence_stage.specs.Call.{Call}
use Rattle.cadence_stage.specs.Past.{taken_in}
use Rattle.cadence_schedule.specs.Calls.{errors_of, marks_from, refusals_from, texts_in}

-- the lines that a packer kept of what it was given
abbrev pub lines_in : List Call → List (List ℕ)
lines_in all = texts_in (taken_in all)

module _ {W A : Type 0} (history : W → PacketHistory) (given : Given A) (outcome : Outcome W A) where
  -- What the headline says of kept lines holds of the lines that the packer was given and kept.
  pub record ArePacked (all : List Call) : Type 0 where
    pub stream : ReportsWhole given.kind → concat (packets_of_run history given outcome) ++ outcome.held ≡ stream given.format (lines_in all)
    pub cut : ReportsWhole given.kind
        → ArePacketsOf given.format (marks_from 0 all) (refusals_from 0 all) (lines_in all) outcome.cut
        (packets_of_run history given outcome) outcome.held
    pub late : ReportsWhole given.kind
        → NoGroupHasRoom given.format.capacity (marks_from 0 all ++ refusals_from 0 all)
        (groups_of outcome.cut (map (size_of given.format) (lines_in all)))
    -- If the writer refused nothing in the run, no group had room for the line after it, unless a flush ended the
    -- group; and no other cut that ends a group at every flush has fewer groups.
    pub tight : ReportsWhole given.kind → (history outcome.writer).refusals ≡ given.before.refusals
        → IsTight given.format.capacity (marks_from 0 all) (map (size_of given.format) (lines_in all)) outcome.cut
    pub fewest : ReportsWhole given.kind → (history outcome.writer).refusals ≡ given.before.refusals
        → IsFewest given.format.capacity (marks_from 0 all) (map (size_of given.format) (lines_in all)) outcome.cut
    -- Each error of a line or of a flush is one that the writer may give. There were as many errors as packets that the
    -- writer refused in the run, modulo 2 to the 64.
    pub causes : AllByRecursion (MayFail given.kind.may_give given.kind.takes_whole) (errors_of all)
    pub errors : given.kind.takes_whole ≡ true
        → (history outcome.writer).refusals % 2 ^ 64 ≡ (given.before.refusals + length (errors_of all)) % 2 ^ 64
    -- of an oversize line, its first bytes that were counted, also over a writer with short counts
    pub taken : given.kind.reports ≡ true
        → concat (packets_of_run history given outcome) ++ outcome.held ≡ taken_stream given.format (taken_in all)
    pub earlier : given.kind.reports ≡ true → Extends given.before (history outcome.writer)
    pub stats : given.kind.reports ≡ true → AreSumsBetween given.before (history outcome.writer) outcome.stats
    pub within : length outcome.held ≤ given.format.capacity
