use Rattle.std.proofs.Common.{subst, rules, ◌≡◌, string_bytes}
use Rattle.std.specs.Prelude.{map}
use Rattle.std.specs.List.{fold}
use Rattle.cadence_value.specs.Values.{Converts, numbers_of}
use Rattle.cadence_settings.specs.Call.{chosen, metric_of_call, plain_call}
use Rattle.cadence_settings.specs.CallData.{call_of, choice_of, kind_of_value, numbers_of_data}
use Rattle.cadence_settings.proofs.calls.CallOptions.{makes_metric-fold, metric_fails}
use Rattle.cadence_settings.proofs.settings.ClientSettings.record_of.Goals as goal

pub returns-in-Err : goal.returns-in-Err
returns-in-Err g c =
    let settings = c.args.self.now in
    let call = c.args.call.now in
    metric_fails (λ ns. metric_of_call settings (call_of call ns)) (numbers_of_data settings call) c.value_of.result c.in-Err.error c.in-Err.is
    c.value_of.ensures

pub returns : goal.returns
returns g c =
    let call = c.args.call.now in
    let made : c.in_ok-metric.metric ≡ metric_of_call c.args.self.now (plain_call (kind_of_value call.value) (string_bytes call.key)
    (numbers_of c.in-Ok.value)) = search rules in
    let all : c.set_all.new.metric ≡ fold chosen c.in_ok-metric.metric (map choice_of call.options.items) = search rules in
    makes_metric-fold c.args.self.now (kind_of_value call.value) (string_bytes call.key) (map choice_of call.options.items)
    (numbers_of_data c.args.self.now call)
    c.in-Ok.value c.in_ok-metric.metric c.set_all.new.metric
    (subst (λ r. Converts (numbers_of_data c.args.self.now call) r) c.in-Ok.is c.value_of.ensures) made all
