use Rattle.std.proofs.Common.{◌≡◌, ◌∙◌, ap, false, map, rules, sym, true, string_bytes}
use Rattle.std.specs.Prelude.{◌&&◌}
use Rattle.std.specs.List.{list_all}
use Rattle.std.proofs.lemmas.Bool.{and_left}
use Rattle.std.proofs.lemmas.List.{take_all}
use Rattle.std.proofs.lemmas.List.Folds.{list_all-map, list_all_at}
use Rattle.cadence_settings.specs.Call.{is_clear_choice}
use Rattle.cadence_settings.specs.CallData.{choice_of}
use Rattle.cadence_text.specs.FreeTexts.{is_free_text}
use Rattle.cadence_settings.proofs.call.Call.is_clear.Goals as goal

pub returns-then-not-is_clear : goal.returns-then-not-is_clear
returns-then-not-is_clear g c =
    let options = c.args.self.now.options.items in
    let one = c.option-item.result in
    let unfree : is_clear_choice (choice_of one) ≡ false = search rules in
    let all = c.deref-option-items.result.now in
    let found : list_all (λ option. is_clear_choice (choice_of option)) all ≡ false =
    list_all_at (λ option. is_clear_choice (choice_of option)) all c.loop-option.option-index one c.loop-option-test.true
    (ap (λ option. is_clear_choice (choice_of option)) (sym c.option-item.is) ∙ unfree) in
    sym (and_left (list_all is_clear_choice (map choice_of options)) (is_free_text (string_bytes c.args.self.now.key))
    (list_all-map is_clear_choice choice_of options ∙ (ap (list_all (λ option. is_clear_choice (choice_of option)))
    (sym c.deref-option-items.ensures.value) ∙ found)))

pub returns : goal.returns
returns g c =
    let options = c.args.self.now.options.items in
    let all = c.deref-option-items.result.now in
    let each : list_all is_clear_choice (map choice_of options) ≡ true =
    list_all-map is_clear_choice choice_of options
    ∙ (ap (list_all (λ option. is_clear_choice (choice_of option))) (sym c.deref-option-items.ensures.value)
    ∙ (sym (ap (list_all (λ option. is_clear_choice (choice_of option))) (take_all c.loop-option.option-index all c.loop-option-test.false))
    ∙ c.loop-option.invariant)) in
    let key : c.text_is_free.result ≡ is_free_text (string_bytes c.args.self.now.key) = search rules in
    key ∙ ap (λ b. b && is_free_text (string_bytes c.args.self.now.key)) (sym each)
