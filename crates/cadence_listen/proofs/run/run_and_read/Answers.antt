use Rattle.std.proofs.Common.{rules, ◌≡◌, ◌∙◌, sym, ap, ap₂, subst, map, ◌++◌, ◌∷◌, [], Err, ℕ, List, Vec}
use Rattle.cadence_text.specs.Metric.{Metric}
use Rattle.cadence_text.specs.Owned.{metrics_of}
use Rattle.cadence_flow.specs.Log.{LogState}
use Rattle.cadence_schedule.specs.Report.{outcome_of}
use Rattle.cadence_read.specs.Faults.{not_metrics}
use Rattle.cadence_read.specs.Listed.{AreListed}
use Rattle.cadence_listen.specs.RunRead.{IsRun, given_to, kept_metrics, texts_of_run}
use Rattle.cadence_listen.proofs.RunReads.{kept_listed}
use Rattle.cadence_listen.proofs.run.run_and_read.Goals as goal

pub returns-in_err-metrics-clause-refused : goal.returns-in_err-metrics-clause-refused
returns-in_err-metrics-clause-refused g c e =
    let outcome = outcome_of c.in-Ok.report in
    let given = given_to c.args.settings.now c.args.capacity c.args.queue c.args.steps.now c.args.log in
    let items = λ (packet : Vec ℕ g.row.A.Denot). packet.items in
    let texts : map items c.packets.result.now ++ c.held.result.now ∷ [] ≡ texts_of_run (outcome_of c.in-Ok.report) =
    ap₂ (λ ps h. ps ++ h ∷ []) (c.packets.ensures
    ∙ ap (λ (l : LogState). l.packets) c.writer.ensures) c.held.ensures in
    let run : IsRun given (outcome_of c.in-Ok.report) = record { headline = c.in-Ok.ensures.headline.0; beside = c.in-Ok.ensures.headline.1 } in
    let is : c.from_residual-in_err-metrics.result ≡ Err c.in_err-metrics.field-0.0 = search rules in
    let fault : c.in_err-metrics.field-0.0 ≡ not_metrics = cc (e, is) in
    let none =
    λ (metrics : List Metric) (h : AreListed (texts_of_run (outcome_of c.in-Ok.report)) metrics). c.in_err-metrics.ensures.refused
    (ap Err fault) metrics (subst (λ ts. AreListed ts metrics) (sym texts) h) in (
      outcome,
      run,
      none,
      λ new free bare. none (kept_metrics given outcome) (kept_listed c.args.settings.now c.args.capacity c.args.queue c.args.steps.now
          c.args.log outcome new run free bare),
    )

pub returns-clause-read : goal.returns-clause-read
returns-clause-read g c =
    let items = λ (packet : Vec ℕ g.row.A.Denot). packet.items in
    let texts : map items c.packets.result.now ++ c.held.result.now ∷ [] ≡ texts_of_run (outcome_of c.in-Ok.report) =
    ap₂ (λ ps h. ps ++ h ∷ []) (c.packets.ensures
    ∙ ap (λ (l : LogState). l.packets) c.writer.ensures) c.held.ensures in
    subst (λ ts. AreListed ts (metrics_of c.in_ok-metrics.metrics)) texts c.in_ok-metrics.ensures.found

pub returns-clause-kept : goal.returns-clause-kept
returns-clause-kept g c new free bare =
    let outcome = outcome_of c.in-Ok.report in
    let given = given_to c.args.settings.now c.args.capacity c.args.queue c.args.steps.now c.args.log in
    let items = λ (packet : Vec ℕ g.row.A.Denot). packet.items in
    let texts : map items c.packets.result.now ++ c.held.result.now ∷ [] ≡ texts_of_run (outcome_of c.in-Ok.report) =
    ap₂ (λ ps h. ps ++ h ∷ []) (c.packets.ensures
    ∙ ap (λ (l : LogState). l.packets) c.writer.ensures) c.held.ensures in
    let run : IsRun given (outcome_of c.in-Ok.report) = record { headline = c.in-Ok.ensures.headline.0; beside = c.in-Ok.ensures.headline.1 } in
    let kept = kept_listed c.args.settings.now c.args.capacity c.args.queue c.args.steps.now c.args.log outcome new run free bare in
    sym (c.in_ok-metrics.ensures.only (kept_metrics given outcome) (subst (λ ts. AreListed ts (kept_metrics given outcome)) (sym texts) kept))
