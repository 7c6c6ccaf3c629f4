-- What is promised of a run: the headline (`HasHeadline`), and further facts (`IsAccounted`). The contract of
-- `run_schedule_with` cites both.
use Rattle.std.specs.Prelude.{◌≡◌, ℕ, ◌+◌, ◌%◌, ◌^◌, ◌≤◌, List, [], ◌++◌, Option, Bool, true, All, codes, length, map, drop, string_bytes}
use Rattle.std.specs.List.{concat, zip}
use Rattle.std.specs.Option.{option_map}
use Rattle.cadence_text.specs.Line.{line_of}
use Rattle.cadence_text.specs.Metric.{Metric}
use Rattle.cadence_text.specs.OneReading.{IsClear, IsFreeOfSeparators}
use Rattle.cadence_text.specs.Representable.{IsRepresentable}
use Rattle.cadence_flow.specs.Frame.{Format, size_of, stream, taken_stream}
use Rattle.cadence_flow.specs.Writer.{PacketHistory, WriterKind, Extends}
use Rattle.cadence_queue.specs.declared.policy.QueuePolicy.{QueuePolicy}
use Rattle.cadence_flow.specs.declared.stats.SinkStats.{SinkStats}
use Rattle.cadence_settings.specs.declared.call.Call.{Call}
use Rattle.cadence_schedule.specs.declared.steps.Step.{Step}
use Rattle.cadence_settings.specs.CallData.{metric_of_data}
use Rattle.cadence_schedule.specs.RunHistory.{Turn, accepted, taken_count, dropped_count, left_count, kept, kept_counts, in_hand}
use Rattle.cadence_schedule.specs.RunHistory.{is_stopped, error_count, marks, refusals}
use Rattle.cadence_schedule.specs.Packets.{ArePacketsOf, ReadsAs}
use Rattle.cadence_schedule.specs.Plan.{groups_of, IsFewest, NoGroupHasRoom}
use Rattle.cadence_schedule.specs.Replies.{MayReplyAfter}
use Rattle.cadence_schedule.specs.Report.{Outcome}
use Rattle.cadence_settings.specs.Settings.{Settings, clears_texts}

-- The writer reports its packets, and it takes each packet whole or refuses it.
abbrev pub ReportsWhole : WriterKind → Type 0
ReportsWhole kind = (kind.reports ≡ true) × (kind.takes_whole ≡ true)

-- what a run is given: the metric of each call, whether the settings keep separators out of texts (because they refuse
-- or clean them), the writer's kind and its history before the run, the packer's capacity and ending, the queue's
-- capacity and policy, and the steps
pub record Given (A : Type 0) : Type 0 where
  pub metric_of : Call A → Option Metric
  pub clears : Bool
  pub kind : WriterKind
  pub before : PacketHistory
  pub format : Format
  pub queue : Option ℕ
  pub policy : QueuePolicy
  pub steps : List (Step A)

-- what a run is given, from the settings of the client and the writer itself
abbrev pub given_of : {W A : Type 0} → (W → WriterKind) → (W → PacketHistory) → Settings → ℕ → List ℕ → Option ℕ → QueuePolicy
    → List (Step A) → W → Given A
given_of kind history settings capacity ending queue policy steps writer =
    record {
      metric_of = metric_of_data settings;
      clears = clears_texts settings;
      kind = kind writer;
      before = history writer;
      format = record { capacity = capacity; ending = ending };
      queue = queue;
      policy = policy;
      steps = steps;
    }

-- the line of a call, or none if a duration of it passes 64 bits or the settings don't allow the call
abbrev pub line_by : {A : Type 0} → Given A → Call A → Option (List ℕ)
line_by given call = option_map line_of (given.metric_of call)

-- the packets that a writer took between two histories of it
abbrev pub packets_between : PacketHistory → PacketHistory → List (List ℕ)
packets_between before after = drop (length before.packets) after.packets

-- The sums are those of what a writer took and refused between two histories of it, modulo 2 to the 64.
pub record AreSumsBetween (before after : PacketHistory) (sums : SinkStats) : Type 0 where
  pub bytes_sent : sums.bytes_sent ≡ length (concat (packets_between before after)) % 2 ^ 64
  pub packets_sent : sums.packets_sent ≡ length (packets_between before after) % 2 ^ 64
  pub bytes_dropped : (before.refused_bytes + sums.bytes_dropped) % 2 ^ 64 ≡ after.refused_bytes % 2 ^ 64
  pub packets_dropped : (before.refusals + sums.packets_dropped) % 2 ^ 64 ≡ after.refusals % 2 ^ 64

module _ {W A : Type 0} (history : W → PacketHistory) (given : Given A) (outcome : Outcome W A) where
  -- the steps, each with its reply
  abbrev pub turns_of : List (Turn A)
  turns_of = zip given.steps outcome.replies

  -- the packets that the writer took during the run
  abbrev pub packets_of_run : List (List ℕ)
  packets_of_run = packets_between given.before (history outcome.writer)

  -- the kept lines: those that were handed on with the result Ok
  abbrev pub kept_of : List (List ℕ)
  kept_of = kept (line_by given) turns_of

  -- the marks: how many lines were kept before each flush that returned Ok
  abbrev pub marks_of : List ℕ
  marks_of = marks (line_by given) turns_of

  -- Each reply has its stated cause, and the queue, its counts and the hand are left as the steps and replies say.
  pub record HasReplies : Type 0 where
    pub one_each : length outcome.replies ≡ length given.steps
    pub causes : MayReplyAfter (line_by given) given.kind.may_give given.kind.takes_whole given.format given.queue given.policy [] turns_of
    pub waiting : map string_bytes outcome.queue.waiting ≡ drop (left_count turns_of) (accepted (line_by given) turns_of)
    pub submitted : outcome.queue.submitted ≡ length (accepted (line_by given) turns_of)
    pub drained : outcome.queue.drained ≡ taken_count turns_of
    pub dropped : outcome.queue.dropped ≡ dropped_count turns_of
    pub stopped : outcome.queue.stopped ≡ is_stopped turns_of
    pub capacity : outcome.queue.capacity ≡ given.queue
    pub policy : outcome.queue.policy ≡ given.policy
    pub in_hand : outcome.in_hand ≡ in_hand (line_by given) turns_of

  -- The headline speaks of any list of metric calls, worker steps, flushes and stops. The packets and then the held
  -- text are the lines of those accepted calls that were handed on and kept, in the order of acceptance. Each line has
  -- its ending, except that an oversize line is alone in its packet and has none. No line is split. Each refusal has
  -- its stated cause and leaves no byte. If the writer refused nothing, no cut that ends at every flush has fewer
  -- packets.
  pub record HasHeadline : Type 0 where
    -- Over a writer that reports its packets and takes each whole or refuses it: the packets of the run, joined, and
    -- then the held text are byte for byte the frames of the kept lines, in order. A kept line is that of an accepted
    -- call whose hand returned Ok. Its frame is the line and the ending, or the line alone if that passes the capacity.
    pub stream : ReportsWhole given.kind → concat packets_of_run ++ outcome.held ≡ stream given.format kept_of
    -- Over such a writer: the packets, and then the held text, are the kept lines, divided as the cut of the report
    -- says. Each consists of whole frames, and is within the capacity unless it is an oversize line alone. A packet
    -- ends at each flush that returned Ok.
    pub cut : ReportsWhole given.kind
        → ArePacketsOf given.format marks_of (refusals (line_by given) turns_of) kept_of outcome.cut packets_of_run outcome.held
    -- Over every writer: each reply is one that the steps and replies before it allow. The first accepted lines were
    -- taken or dropped, and the others wait. The queue's counts are the numbers of lines accepted, taken and dropped,
    -- and it has the capacity and the policy that were given. The line in hand is the one that was taken and not handed
    -- on.
    pub replies : HasReplies
    -- Over a writer that takes each packet whole or refuses it: as many hands and flushes returned an error as the
    -- writer refused packets in the run, modulo 2 to the 64.
    pub errors : given.kind.takes_whole ≡ true
        → (history outcome.writer).refusals % 2 ^ 64 ≡ (given.before.refusals + error_count turns_of) % 2 ^ 64
    -- Over a writer that reports its packets and takes each whole, if it refused nothing in the run: no packet could
    -- have had one more line, unless a flush came after it. And no other cut of the kept lines that ends a packet at
    -- every flush has fewer packets. The held text counts as a packet if it is not empty.
    pub fewest : ReportsWhole given.kind → (history outcome.writer).refusals ≡ given.before.refusals
        → NoGroupHasRoom given.format.capacity marks_of (groups_of outcome.cut (map (size_of given.format) kept_of))
        × IsFewest given.format.capacity marks_of (map (size_of given.format) kept_of) outcome.cut

  -- What is promised besides the headline, about refusals, short counts, sums, earlier packets, and what a listener
  -- reads.
  pub record IsAccounted : Type 0 where
    -- Over a writer that reports its packets and takes each whole or refuses it, refusals included: no group could have
    -- had one line more, except one that a flush or a refused line came after.
    pub late : ReportsWhole given.kind
        → NoGroupHasRoom given.format.capacity (marks_of ++ refusals (line_by given) turns_of)
        (groups_of outcome.cut (map (size_of given.format) kept_of))
    -- Over a writer that reports its packets, short counts included: the packets of the run, joined, and then the held
    -- text are the frames of the kept lines, in order; of an oversize line whose hand returned Ok(n), its first n
    -- bytes. Over a writer that takes each packet whole, n is the length of the line, and this is `stream` of the
    -- headline.
    pub taken : given.kind.reports ≡ true → concat packets_of_run ++ outcome.held ≡ taken_stream given.format (kept_counts (line_by given) turns_of)
    -- Over every writer, the held text is within the packer's capacity.
    pub held : length outcome.held ≤ given.format.capacity
    -- The sums of the report are those of what the writer took and refused in the run.
    pub stats : given.kind.reports ≡ true → AreSumsBetween given.before (history outcome.writer) outcome.stats
    -- The packets that the writer had taken before the run come first in its history.
    pub earlier : given.kind.reports ≡ true → Extends given.before (history outcome.writer)
    -- The kept metrics have texts in UTF-8, numbers that a `Decimal` holds, and times of 64 bits.
    pub representable : All IsRepresentable (kept given.metric_of turns_of)
    -- With the newline as ending, and kept metrics that are free of separators: a listener reads the kept metrics, and
    -- no others.
    pub one_reading : ReportsWhole given.kind → given.format.ending ≡ codes "\n" → All IsFreeOfSeparators (kept given.metric_of turns_of)
        → ReadsAs IsFreeOfSeparators (kept given.metric_of turns_of) packets_of_run outcome.held
    -- With the newline as ending, and kept metrics that are clear, so that tags may have colons after their keys: the
    -- packets and the held text can be read as the kept metrics, and as no other clear metrics.
    pub clear_reading : ReportsWhole given.kind → given.format.ending ≡ codes "\n" → All IsClear (kept given.metric_of turns_of)
        → ReadsAs IsClear (kept given.metric_of turns_of) packets_of_run outcome.held
    -- If the settings keep separators out of texts, the kept metrics are clear, whatever texts the calls have: no text
    -- of them has a separator, except colons after the keys of tags.
    pub cleared : given.clears ≡ true → All IsClear (kept given.metric_of turns_of)
    -- With the newline as ending and such settings, the packets and the held text can be read as the kept metrics, and
    -- as no other clear metrics, whatever texts the calls have.
    pub cleared_reading : ReportsWhole given.kind → given.format.ending ≡ codes "\n" → given.clears ≡ true
        → ReadsAs IsClear (kept given.metric_of turns_of) packets_of_run outcome.held
