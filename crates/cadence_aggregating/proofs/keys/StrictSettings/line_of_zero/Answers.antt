use Rattle.std.proofs.Common.{◌≡◌, ◌∙◌, ap, false, map, rules, string_bytes, subst, sym, true}
use Rattle.std.specs.List.{fold, list_all}
use Rattle.cadence_settings.specs.Call.{chosen, metric_for, plain_call}
use Rattle.cadence_settings.specs.Settings.{HasSeparator}
use Rattle.cadence_text.specs.Draft.{draft_of}
use Rattle.cadence_text.specs.FreeTexts.{is_clear_tag, is_free_text}
use Rattle.cadence_text.specs.Record.{tag_of}
use Rattle.cadence_aggregating.specs.Contexts.{MayFailFor, sent_tag, zeros}
use Rattle.cadence_aggregating.proofs.Keyed.{tagged_clear, tags_fail, zero_of_tagged}
use Rattle.cadence_aggregating.proofs.keys.StrictSettings.line_of_zero.Goals as goal

pub returns-then-not-tags_are_clear-clause-refused : goal.returns-then-not-tags_are_clear-clause-refused
returns-then-not-tags_are_clear-clause-refused c =
    let tags = map tag_of c.args.tags.now in
    let unclear : list_all is_clear_tag tags ≡ false = search rules in
    let invalid : HasSeparator c.from.result = search rules in
    subst (λ b. MayFailFor b c.from.result) (sym (tagged_clear c.args.self.now.settings c.args.kind c.args.key.now tags))
    (tags_fail (list_all is_clear_tag tags) (is_free_text c.args.key.now) c.from.result unclear invalid)

pub returns-clause-line : goal.returns-clause-line
returns-clause-line c =
    let own = c.args.self.now in
    let s = own.settings in
    let kind = c.args.kind in
    let key = c.args.key.now in
    let tags = map tag_of c.args.tags.now in
    let first = metric_for s (plain_call kind key zeros) in
    let clear : list_all is_clear_tag tags ≡ true = search rules in
    let begun : c.in-Ok.draft ≡ draft_of first =
    c.in-Ok.ensures.draft ∙ ap (λ ns. draft_of (metric_for s (plain_call kind key ns))) c.requires in
    let with_tags : c.add_tags.new.draft ≡ draft_of (fold chosen first (map (sent_tag s.cleaned) tags)) =
    c.in_ok-add_tags.ensures first begun ∙ ap (λ b. draft_of (fold chosen first (map (sent_tag b) tags))) c.is_cleaned.ensures.cleaned in
    zero_of_tagged s kind key tags (string_bytes c.in_ok-line.line) c.strict_calls_are_clear.ensures own.strict
    (c.is_strict.ensures.clear (c.is_strict.ensures.strict ∙ own.strict)) clear c.in-Ok.ensures.allowed
    (c.in_ok-line.ensures.metric (fold chosen first (map (sent_tag s.cleaned) tags)) with_tags)
