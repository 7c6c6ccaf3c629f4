use Rattle.std.proofs.Common.{map, rules, string_bytes, subst}
use Rattle.cadence_text.specs.Record.{tag_of}
use Rattle.cadence_aggregating.specs.Contexts.{tagged_call}
use Rattle.cadence_aggregating.specs.Keys.{IsKeyOfLine, SaysNeither}
use Rattle.cadence_aggregating.proofs.Keyed.{does_either, key_for, tags_untimed}
use Rattle.cadence_aggregating.proofs.keys.StrictSettings.key_of.Goals as goal

pub returns-in-Some-clause-key : goal.returns-in-Some-clause-key
returns-in-Some-clause-key c =
    let s = c.args.self.now.settings in
    let tags = map tag_of c.args.tags.now in
    let line = string_bytes c.in_ok-line.line in
    let key = c.in-Some.key in
    let is : IsKeyOfLine line key = subst (λ t. IsKeyOfLine t key) c.deref.ensures (search rules) in
    key_for s (tagged_call c.args.kind c.args.key.now tags) line c.in_ok-line.ensures.line key is

pub returns-clause-refused : goal.returns-clause-refused
returns-clause-refused c =
    let s = c.args.self.now.settings in
    let tags = map tag_of c.args.tags.now in
    let line = string_bytes c.in_ok-line.line in
    let neither : SaysNeither line = subst SaysNeither c.deref.ensures (search rules) in
    absurd (does_either s (tagged_call c.args.kind c.args.key.now tags) line c.in_ok-line.ensures.line c.requires.kind (tags_untimed tags) neither)
