-- What the packer of a run shows at its end, by what it was given.
use Rattle.std.proofs.Common.{◌≡◌, ℕ, ◌^◌, ◌<◌, ◌≤◌, List, [], ◌∷◌, ◌++◌, Option, Ok, Err, Vec, true, length, map, refl, sym, ap, ◌∙◌, subst, arith, ⊎_elim}
use Rattle.std.specs.List.{AllByRecursion, concat}
use Rattle.std.proofs.lemmas.List.{append-nil, append_assoc}
use Rattle.std.proofs.lemmas.List.Folds.{concat-append}
use Rattle.cadence_flow.specs.Frame.{Format, size_of, stream, taken_stream}
use Rattle.cadence_flow.specs.Packer.{new_packer}
use Rattle.cadence_flow.specs.Sums.{counted_kind, zero_sums}
use Rattle.cadence_flow.specs.Writer.{PacketHistory, WriterKind}
use Rattle.cadence_flow.specs.declared.io.counting.CountingWriter.{CountingWriter}
use Rattle.cadence_queue.specs.declared.policy.QueuePolicy.{QueuePolicy}
use Rattle.cadence_settings.specs.Settings.{Settings}
use Rattle.cadence_schedule.specs.Packed.{ArePacked}
use Rattle.cadence_schedule.specs.Headline.{given_of, packets_between, ReportsWhole}
use Rattle.cadence_schedule.specs.Laws.{LeastPackets}
use Rattle.cadence_schedule.specs.Packets.{ArePacketsOf}
use Rattle.cadence_schedule.specs.PackedRuns.{PackedState, Packs, PacksCounted, AllMovePacker, IsUncounted, packed_state, room_of, view_of}
use Rattle.cadence_schedule.specs.Plan.{IsTight, NoGroupHasRoom, groups_of}
use Rattle.cadence_schedule.specs.RunOutcome.{outcome_after}
use Rattle.cadence_stage.specs.Call.{Call, Flush, Line}
use Rattle.cadence_stage.specs.Past.{taken_in}
use Rattle.cadence_aggregate.specs.Led.{AllLead}
use Rattle.cadence_schedule.specs.Calls.{errors_of, marks_from, refusals_from, texts_in}
use Rattle.cadence_schedule.specs.declared.packing.Packing.{Packing}
use Rattle.cadence_schedule.specs.declared.running.Running.{Running}
use Rattle.cadence_schedule.specs.declared.steps.Reply.{Reply}
use Rattle.cadence_schedule.specs.declared.steps.Step.{Step}
use Rattle.cadence_schedule.proofs.headline.FinishedRun.{between_is, goes_on, joined_groups, joined_packets, none_counted, run_sums}
use Rattle.cadence_schedule.proofs.packets.CutLengths.{shown, shown_late}
use Rattle.cadence_schedule.proofs.packets.CutSoFar.{no_lines}
use Rattle.cadence_schedule.proofs.packets.PackedLines.{AreFilled, CutAfter, Moved, cut_all, extends_all, moved, text_all}
use Rattle.cadence_schedule.proofs.packets.Refusing.{MayAnswer, answers_all, causes_all, none_refused, refused_all}

module _ {P A : Type 0} (kind : P → WriterKind) (history : P → PacketHistory) where
  counted_or_full : (p : Packing P A) (call : Call) → length (call ∷ []) ≤ room_of p → IsUncounted p call → ⊥
  counted_or_full p (Line line (Ok n)) some full = full
  counted_or_full p (Line line (Err e)) some (memory, none) = absurd (omega (arith, some, none))
  counted_or_full p (Flush done) some full = full

  packs_with_room : (s t : Packing P A) (call : Call) → length (call ∷ []) ≤ room_of s → PacksCounted kind history s call t
      → Packs kind history (view_of s) call (view_of t)
  packs_with_room s t call some step = ⊎_elim (λ packs. packs) (λ full. absurd (counted_or_full s call some full.0)) step.packs

  -- If the cut has room to count each line, the packer answered each call.
  pub all_packed : (calls : List Call) (s t : Packing P A) → length calls ≤ room_of s → AllLead (PacksCounted kind history) s calls t
      → AllLead (Packs kind history) (view_of s) calls (view_of t)
  all_packed [] s t room same = ap view_of same
  all_packed (call ∷ calls) s t room (mid, first, more) = (
    view_of mid,
    packs_with_room s mid call (omega (arith, room)) first,
    all_packed calls mid t (omega (arith, room, first.room)) more,
  )

module _ {W A : Type 0} (kind_of : W → WriterKind) (history_of : W → PacketHistory) (settings : Settings) (capacity : ℕ) (ending : List ℕ)
    (queue : Option ℕ) (policy : QueuePolicy) (steps : List (Step A)) (writer : W) where
  abbrev pub counted : CountingWriter W → WriterKind
  counted w = counted_kind (kind_of w.inner) (history_of w.inner) w.stats

  abbrev pub inner : CountingWriter W → PacketHistory
  inner w = history_of w.inner

  -- The packer is before its first line.
  pub record IsNew (first : Packing (CountingWriter W) A) : Type 0 where
    pub packer : first.packer ≡ new_packer (record { inner = writer; stats = zero_sums }) capacity ending
    pub cut : first.cut.items ≡ []

  abbrev format : Format
  format = record { capacity = capacity; ending = ending }

  abbrev before : PacketHistory
  before = history_of writer

  abbrev pub kind : WriterKind
  kind = counted_kind (kind_of writer) (history_of writer) zero_sums

  module _ (first last : Packing (CountingWriter W) A) (new : IsNew first) (all : List Call) (led : AllLead (Packs counted inner) (view_of first) all (view_of last)) where
    abbrev now : PackedState
    now = packed_state inner (view_of last)

    moves : Moved counted inner (view_of first) (view_of last) all
    moves = moved counted inner all (view_of first) (view_of last) led

    kind_is : counted first.packer.writer ≡ kind
    kind_is = ap (λ p. counted p.writer) new.packer

    sends : AllMovePacker kind format (record { cut = []; history = before; held = [] }) all now
    sends =
        subst (λ x. AllMovePacker kind format x all now) (λ i. record { cut = new.cut i; history = inner (new.packer i).writer; held = (new.packer i).held })
        (subst (λ f. AllMovePacker kind f (packed_state inner (view_of first)) all now) (ap (λ p. p.format) new.packer)
        (subst (λ k. AllMovePacker k first.packer.format (packed_state inner (view_of first)) all now) kind_is moves.all))

    -- Each answer of the packer has its cause.
    pub answers : AllByRecursion (MayAnswer kind format) all
    answers = answers_all kind format all _ now sends

    module _ (filled : AreFilled (taken_in all)) (most : ℕ) (few : length (taken_in all) ≤ most) (few_errors : length (errors_of all) ≤ most)
        (short : most < 2 ^ 64) where
      cut_after : (reports : kind.reports ≡ true) (whole : kind.takes_whole ≡ true)
          → CutAfter kind format reports whole before.packets (marks_from 0 all) (refusals_from 0 all) (texts_in (taken_in all)) now
      cut_after reports whole =
          cut_all kind format reports whole before.packets all [] [] [] (record { cut = []; history = before; held = [] }) now sends filled (omega (arith, few, short))
          (record { packets = []; groups = []; since = sym (append-nil before.packets); plan_is = refl; cut = no_lines format })

      packed_cut : ReportsWhole (kind_of writer)
          → ArePacketsOf format (marks_from 0 all) (refusals_from 0 all) (texts_in (taken_in all)) now.cut (packets_between before now.history) now.held
      packed_cut whole =
          let b = cut_after whole.0 whole.1 in
          subst (λ p. ArePacketsOf format (marks_from 0 all) (refusals_from 0 all) (texts_in (taken_in all)) now.cut p now.held)
          (sym (between_is before now.history b.packets b.since))
          (subst (λ p. ArePacketsOf format (marks_from 0 all) (refusals_from 0 all) (texts_in (taken_in all)) p b.packets now.held) (sym b.plan_is)
          (shown format (marks_from 0 all) (refusals_from 0 all) (texts_in (taken_in all)) b.groups b.packets now.held b.cut))

      packed_late : ReportsWhole (kind_of writer)
          → NoGroupHasRoom capacity (marks_from 0 all ++ refusals_from 0 all) (groups_of now.cut (map (size_of format) (texts_in (taken_in all))))
      packed_late whole =
          let b = cut_after whole.0 whole.1 in
          subst (λ p. NoGroupHasRoom capacity (marks_from 0 all ++ refusals_from 0 all) (groups_of p (map (size_of format) (texts_in (taken_in all)))))
          (sym b.plan_is)
          (shown_late format (marks_from 0 all) (refusals_from 0 all) (texts_in (taken_in all)) b.groups b.packets now.held b.cut)

      no_error : (kind_of writer).takes_whole ≡ true → now.history.refusals ≡ before.refusals → length (errors_of all) ≡ 0
      no_error whole none =
          none_counted now.history.refusals before.refusals (length (errors_of all)) most none (refused_all kind format whole all _ now sends) few_errors short

      packed_tight : ReportsWhole (kind_of writer) → now.history.refusals ≡ before.refusals
          → IsTight capacity (marks_from 0 all) (map (size_of format) (texts_in (taken_in all))) now.cut
      packed_tight whole none = record {
        admissible = (packed_cut whole).admissible;
        no_later = subst (λ e. NoGroupHasRoom capacity e (groups_of now.cut (map (size_of format) (texts_in (taken_in all)))))
            (ap (λ r. marks_from 0 all ++ r) (none_refused 0 all (no_error whole.1 none)) ∙ append-nil (marks_from 0 all)) (packed_late whole);
      }

      packed_taken : (kind_of writer).reports ≡ true
          → concat (packets_between before now.history) ++ now.held ≡ taken_stream format (taken_in all)
      packed_taken reports =
          let (more, e) = extends_all kind format reports all _ now sends in
          let text : concat before.packets ++ (concat more ++ now.held) ≡ concat before.packets ++ taken_stream format (taken_in all) =
          sym (append_assoc (concat before.packets) (concat more) now.held)
          ∙ ap (λ t. t ++ now.held) (sym (concat-append before.packets more) ∙ ap concat (sym e))
          ∙ text_all kind format reports all _ now sends
          ∙ ap (λ t. t ++ taken_stream format (taken_in all)) (append-nil (concat before.packets)) in
          ap (λ p. concat p ++ now.held) (between_is before now.history more e)
          ∙ goes_on (concat before.packets) (concat more ++ now.held) (taken_stream format (taken_in all)) text

      packed_stream : ReportsWhole (kind_of writer)
          → concat (packets_between before now.history) ++ now.held ≡ stream format (texts_in (taken_in all))
      packed_stream whole =
          let b = cut_after whole.0 whole.1 in
          ap (λ p. concat p ++ now.held) (between_is before now.history b.packets b.since)
          ∙ sym (joined_packets b.packets now.held) ∙ ap concat b.cut.into ∙ joined_groups format b.groups ∙ ap (stream format) b.cut.all

      -- the packets, the held text, the errors and the sums, for any state of the queue
      pub packed : {S : Type 0} (run : Running S A) (replies : Vec Reply A) → LeastPackets → length now.held ≤ last.packer.format.capacity
          → last.packer.writer.stats.bytes_sent < 2 ^ 64 → last.packer.writer.stats.packets_sent < 2 ^ 64
          → ArePacked history_of (given_of kind_of history_of settings capacity ending queue policy steps writer) (outcome_after run last replies) all
      packed run replies least bound bytes packets = record {
        stream = packed_stream;
        cut = packed_cut;
        late = packed_late;
        tight = packed_tight;
        fewest = λ whole none. least _ _ _ _ (packed_tight whole none);
        causes = causes_all kind format all answers;
        errors = λ whole. refused_all kind format whole all _ now sends;
        taken = packed_taken;
        earlier = λ reports. extends_all kind format reports all _ now sends;
        stats = λ reports.
            run_sums (kind_of writer) (kind_of last.packer.writer.inner) before now.history last.packer.writer.stats (moves.same_kind ∙ kind_is)
            reports (extends_all kind format reports all _ now sends) bytes packets;
        within = subst (λ (f : Format). length now.held ≤ f.capacity) (moves.same_format ∙ ap (λ p. p.format) new.packer) bound;
      }
