-- Runs over a packet log with a newline after each line, and the metrics that are read from their packets.
use Rattle.std.specs.Prelude.{◌≡◌, ℕ, true, List, [], ◌∷◌, ◌++◌, Option, All, codes}
use Rattle.cadence_text.specs.Metric.{Metric, no_enrichment}
use Rattle.cadence_text.specs.OneReading.{IsFreeOfSeparators}
use Rattle.cadence_flow.specs.Log.{LogState, has_no_short, log_history, log_kind, new_log}
use Rattle.cadence_flow.specs.declared.io.packet_log.Answer.{Answer}
use Rattle.cadence_schedule.specs.declared.steps.Step.{Step}
use Rattle.cadence_schedule.specs.Headline.{Given, given_of, HasHeadline, IsAccounted, turns_of}
use Rattle.cadence_schedule.specs.RunHistory.{kept}
use Rattle.cadence_queue.specs.declared.policy.QueuePolicy.TheVariants.{Refuse}
use Rattle.cadence_schedule.specs.Report.{Outcome}
use Rattle.cadence_settings.specs.Settings.{Settings}
use Rattle.cadence_read.specs.Listed.{AreListed}

-- The log has no packets and no refusals yet, and none of its answers is short.
abbrev pub IsNewWhole : LogState → Type 0
IsNewWhole log = (script : List Answer) × (log ≡ new_log script) × (has_no_short script ≡ true)

-- The metric has neither external data nor a cardinality.
abbrev pub IsBare : Metric → Type 0
IsBare metric = metric.enrichment ≡ no_enrichment

module _ {A : Type 0} where
  -- the input of the run, as the headline sees it
  abbrev pub given_to : Settings → ℕ → Option ℕ → List (Step A) → LogState → Given A
  given_to settings capacity queue steps log = given_of log_kind log_history settings capacity (codes "\n") queue Refuse steps log

  -- The run has all properties that are promised of runs.
  pub record IsRun (given : Given A) (outcome : Outcome LogState A) : Type 0 where
    pub headline : HasHeadline log_history given outcome
    pub beside : IsAccounted log_history given outcome

  -- the packets of the log, and last the held text
  abbrev pub texts_of_run : Outcome LogState A → List (List ℕ)
  texts_of_run outcome = outcome.writer.packets ++ outcome.held ∷ []

  -- the metrics of the kept calls, in order: the calls that were accepted, and whose lines were handed on and not
  -- refused
  abbrev pub kept_metrics : Given A → Outcome LogState A → List Metric
  kept_metrics given outcome = kept given.metric_of (turns_of log_history given outcome)

  -- The packets of the run are not those of any metrics. If the log was new and none of its answers was short, then a
  -- kept metric has a separator, external data or a cardinality.
  abbrev pub IsUnreadable : LogState → Given A → Type 0
  IsUnreadable log given =
      (outcome : Outcome LogState A) × IsRun given outcome
      × ((metrics : List Metric) → AreListed (texts_of_run outcome) metrics → ⊥)
      × (IsNewWhole log → All IsFreeOfSeparators (kept_metrics given outcome) → All IsBare (kept_metrics given outcome) → ⊥)
