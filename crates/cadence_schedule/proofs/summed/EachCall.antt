-- What all calls of the sums before a packer did: to what they hold, and to the packer.
use Rattle.std.proofs.Common.{◌≡◌, ◌-◌, ℕ, Bool, List, [], ◌∷◌, ◌++◌, Option, Ok, Err, Some, slice_get, true, length, refl, sym, ap, ◌∙◌, subst, arith, inl}
use Rattle.std.proofs.Math.Numerals.{sub-one}
use Rattle.std.specs.List.{AllByRecursion, AllZip}
use Rattle.std.proofs.lemmas.List.Concat.{flat_map-append}
use Rattle.std.proofs.lemmas.List.{append-nil, append_assoc, map-append}
use Rattle.cadence_aggregate.specs.Aggregate.{held}
use Rattle.cadence_aggregate.specs.Server.{Sample, IsSummary}
use Rattle.cadence_aggregate.proofs.Observed.{same_more, same_trans}
use Rattle.cadence_aggregating.proofs.Records.{zip_append}
use Rattle.cadence_aggregating.specs.Past.{SumsUp}
use Rattle.cadence_aggregating.specs.Says.{LineSays}
use Rattle.cadence_errors.specs.declared.SinkError.{SinkError}
use Rattle.cadence_flow.specs.Frame.{Format}
use Rattle.cadence_flow.specs.Writer.{PacketHistory, WriterKind}
use Rattle.cadence_queue.specs.declared.policy.QueuePolicy.{QueuePolicy}
use Rattle.cadence_settings.specs.declared.call.Call.{Call}
use Rattle.cadence_schedule.specs.Asked.{AskAll, Asks, AsksCall}
use Rattle.cadence_schedule.specs.Leads.{SinkPacks, sent_by}
use Rattle.cadence_schedule.specs.Led.{packs_joined, packs_none}
use Rattle.cadence_schedule.specs.Moves.{QueueState, Moves, Goes, given_in}
use Rattle.cadence_schedule.specs.RunHistory.{Turn}
use Rattle.cadence_stage.specs.Call.{Flush, Line}
use Rattle.cadence_stage.specs.Call as stage
use Rattle.cadence_stage.specs.Past.{ends_by_flush, is_flush, taken_by, taken_in}
use Rattle.cadence_aggregate.specs.Led.{AllLead}
use Rattle.cadence_schedule.specs.Calls.{texts_in}
use Rattle.cadence_schedule.specs.SumsCalls.{SumsCall}
use Rattle.cadence_schedule.specs.declared.packed_sums.PackedSums.{PackedSums}
use Rattle.cadence_schedule.specs.declared.steps.Step.TheVariants as step
use Rattle.cadence_schedule.specs.declared.steps.Reply.TheVariants as reply
use Rattle.cadence_schedule.proofs.packets.Refusing.{MayAnswer}

-- Lines were accepted, and others were handed on.
past_step : (accepted lines : List (List ℕ)) (added sent sent' before after : List Sample) → SumsUp accepted sent before
    → AllZip LineSays lines added → IsSummary ((sent ++ before) ++ added) (sent' ++ after) → SumsUp (accepted ++ lines) sent' after
past_step accepted lines added sent sent' before after (said, zip, sum) says step =
    (said ++ added, zip_append accepted lines said added zip says, same_trans _ _ _ (same_more said (sent ++ before) added sum) step)

-- The calls, in order, asked all of this.
abbrev AskEach : List stage.Call → List stage.Call → Type 0
AskEach [] all = all ≡ []
AskEach (call ∷ calls) all = (asked rest : List stage.Call) × (all ≡ asked ++ rest) × AsksCall call asked × AskEach calls rest

each_joined : (xs ys all : List stage.Call) → AskEach (xs ++ ys) all → (asked rest : List stage.Call) × (all ≡ asked ++ rest) × AskEach xs asked × AskEach ys rest
each_joined [] ys all each = ([], all, refl, refl, each)
each_joined (x ∷ xs) ys all (now, later, are, asks, more) =
    let (asked, rest, split, first, second) = each_joined xs ys later more in
    (now ++ asked, rest, are ∙ ap (λ zs. now ++ zs) split ∙ sym (append_assoc now asked rest), (now, asked, refl, asks, first), second)

only_one : (call : stage.Call) (all : List stage.Call) → AskEach (call ∷ []) all → AsksCall call all
only_one call all (asked, rest, are, asks, none) = subst (AsksCall call) (sym (are ∙ ap (λ xs. asked ++ xs) none ∙ append-nil asked)) asks

ends_joined : (before : Bool) (xs ys : List stage.Call) → ends_by_flush before (xs ++ ys) ≡ ends_by_flush (ends_by_flush before xs) ys
ends_joined before [] ys = refl
ends_joined before (x ∷ xs) ys = ends_joined (is_flush x) xs ys

module _ {A : Type 0} (line_of : Call A → Option (List ℕ)) (queue : Option ℕ) (policy : QueuePolicy) where
  asks_turn : (old : QueueState) (t : Turn A) (new : QueueState) (all : List stage.Call) → Moves line_of queue policy old t new
      → AskEach (given_in t old.in_hand) all → Asks t all
  asks_turn old (step.Hand, reply.Handed result) new all ((line, some), same) each =
      only_one (Line line result) all (subst (λ hand. AskEach (given_in {A = A} (step.Hand, reply.Handed result) hand) all) some each)
  asks_turn old (step.Flush, reply.Flushed result) new all same each = only_one (Flush result) all each
  asks_turn old t new all move each = each

  -- If the last turn is a flush that succeeded, so is the last call.
  pub ends_in_flush : (before : Bool) (turns : List (Turn A)) (old new : QueueState) (given : List stage.Call) → Goes line_of queue policy old turns given new
      → slice_get turns (length turns - 1) ≡ Some (step.Flush, reply.Flushed (Ok tt)) → ends_by_flush before given ≡ true
  ends_in_flush before [] old new given goes last = cc
  ends_in_flush before (t ∷ []) old new given (mid, rest, are, first, (none, same)) last =
      let is : t ≡ (step.Flush, reply.Flushed (Ok tt)) = cc in
      subst (λ gs. ends_by_flush before gs ≡ true) (sym (are ∙ ap (λ (x : Turn A). given_in x old.in_hand ++ rest) is))
      (subst (λ gs. ends_by_flush true gs ≡ true) (sym none) refl)
  ends_in_flush before (t ∷ u ∷ ts) old new given (mid, rest, are, first, later) last =
      let now = ends_by_flush before (given_in t old.in_hand) in
      subst (λ gs. ends_by_flush before gs ≡ true) (sym are)
      (ends_joined before (given_in t old.in_hand) rest ∙ ends_in_flush now (u ∷ ts) mid new rest later (rw sub-one (rw sub-one at last)))

  -- The steps asked what the calls asked that they made.
  pub ask_all : (turns : List (Turn A)) (old new : QueueState) (given all : List stage.Call) → Goes line_of queue policy old turns given new
      → AskEach given all → AskAll turns all
  ask_all [] old new given all (none, same) each = subst (λ xs. AskEach xs all) none each
  ask_all (t ∷ turns) old new given all (mid, rest, are, first, later) each =
      let (asked, others, split, now, then) = each_joined (given_in t old.in_hand) rest all (subst (λ xs. AskEach xs all) are each) in
      (asked, others, split, asks_turn old t mid asked first now, ask_all turns mid new rest others later then)

module _ {P A : Type 0} (kind : P → WriterKind) (history : P → PacketHistory) where
  pub record Summed (first s : PackedSums P A) (accepted : List (List ℕ)) (calls : List stage.Call) : Type 0 where
    pub all : List stage.Call
    pub asked : AskEach calls all
    pub packs : SinkPacks kind history first.sink s.sink all
    pub past : SumsUp (accepted ++ texts_in (taken_in calls)) (sent_by s.sink) (held s.lines.aggregator)

  -- All calls keep that what was sent and what is held is a summary of the accepted lines.
  pub summed : (calls : List stage.Call) (accepted : List (List ℕ)) (s s' : PackedSums P A) → SumsUp accepted (sent_by s.sink) (held s.lines.aggregator)
      → AllLead (SumsCall kind history) s calls s' → Summed s s' accepted calls
  summed [] accepted s s' past same = subst (λ x. Summed s x accepted []) (sym same) (record {
    all = [];
    asked = refl;
    packs = packs_none kind history s.sink;
    past = subst (λ ls. SumsUp ls (sent_by s.sink) (held s.lines.aggregator)) (sym (append-nil accepted)) past;
  })
  summed (call ∷ calls) accepted s s' past (mid, one, rest) =
      let lines : List (List ℕ) = texts_in (taken_in (call ∷ [])) in
      let r = summed calls (accepted ++ lines) mid s'
      (past_step accepted lines one.said (sent_by s.sink) (sent_by mid.sink) (held s.lines.aggregator) (held mid.lines.aggregator) past one.says one.summary) rest in
      let texts : texts_in (taken_in (call ∷ calls)) ≡ lines ++ texts_in (taken_in calls) =
      ap texts_in (flat_map-append taken_by (call ∷ []) calls) ∙ map-append (λ (k : List ℕ × ℕ). k.0) (taken_in (call ∷ [])) (taken_in calls) in
      record {
        all = one.asked ++ r.all;
        asked = (one.asked, r.all, refl, one.asks, r.asked);
        packs = packs_joined kind history s.sink mid.sink s'.sink one.asked r.all one.packs r.packs;
        past = subst (λ ls. SumsUp ls (sent_by s'.sink) (held s'.lines.aggregator))
            (append_assoc accepted lines (texts_in (taken_in calls)) ∙ ap (λ ls. accepted ++ ls) (sym texts)) r.past;
      }

  -- If the last call is a flush that succeeded, nothing is held.
  pub flushed_in : (before : Bool) (calls : List stage.Call) (s s' : PackedSums P A) → (before ≡ true → held s.lines.aggregator ≡ [])
      → AllLead (SumsCall kind history) s calls s' → ends_by_flush before calls ≡ true → held s'.lines.aggregator ≡ []
  flushed_in before [] s s' none same ends = subst (λ (x : PackedSums P A). held x.lines.aggregator ≡ []) (sym same) (none ends)
  flushed_in before (call ∷ calls) s s' none (mid, one, rest) ends = flushed_in (is_flush call) calls mid s' one.flushed rest ends

  -- Sums take a whole line or refuse it, and a refusal may have any error.
  pub any_answer : (answering : WriterKind) (format : Format) → ((e : SinkError) → answering.may_give e ≡ true) → (calls : List stage.Call)
      (s s' : PackedSums P A) → AllLead (SumsCall kind history) s calls s' → AllByRecursion (MayAnswer answering format) calls
  any_answer answering format any [] s s' same = tt
  any_answer answering format any (Line line (Ok n) ∷ calls) s s' (mid, one, rest) =
      let count : n ≡ length line = one.whole.0 in
      (record { within = omega (arith, count); fits = λ small. count; whole = λ whole. count }, any_answer answering format any calls mid s' rest)
  any_answer answering format any (Line line (Err e) ∷ calls) s s' (mid, one, rest) = (inl (any e), any_answer answering format any calls mid s' rest)
  any_answer answering format any (Flush (Ok done) ∷ calls) s s' (mid, one, rest) = (tt, any_answer answering format any calls mid s' rest)
  any_answer answering format any (Flush (Err e) ∷ calls) s s' (mid, one, rest) = (inl (any e), any_answer answering format any calls mid s' rest)
