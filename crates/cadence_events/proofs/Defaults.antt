-- The lines of clients that have default tags and a default container.
use Rattle.std.proofs.Common.{◌≡◌, ℕ, List, [], ◌∷◌, ◌++◌, Option, Some, None, Ok, Err, ap, ap₂, append_assoc, refl, sym, ◌∙◌}
use Rattle.std.specs.List.{flat_map}
use Rattle.std.specs.Option.{option_or}
use Rattle.std.specs.Prelude.{IfOk, Result, String, string_bytes}
use Rattle.std.proofs.lemmas.List.{append-nil}
use Rattle.std.proofs.lemmas.List.Concat.{flat_map-append}
use Rattle.cadence_errors.specs.declared.input_error.InputError.{InputError}
use Rattle.cadence_text.specs.Line.{tag_text, tags_field}
use Rattle.cadence_text.specs.Metric.{Tag}
use Rattle.cadence_events.specs.declared.refusal.Unfit.{Unfit}
use Rattle.cadence_events.specs.Escapes.{escaped}
use Rattle.cadence_events.specs.Event.{Event, IsCutByLengths, event_line, event_line_with, event_text, event_with}
use Rattle.cadence_events.specs.Fields.{tags_after}
use Rattle.cadence_events.specs.Refusals.{MakesLine}
use Rattle.cadence_events.specs.ServiceCheck.{ServiceCheck, check_line, check_line_with, check_text, check_with}
use Rattle.cadence_events.proofs.Lengths.{cut_by_lengths}

-- The field of tags that come after default tags is that of all of them.
tags_together : (ds ts : List Tag) → tags_after (tags_field ds) ts ≡ tags_field (ds ++ ts)
tags_together [] [] = refl
tags_together [] (t ∷ ts) = refl
tags_together (d ∷ ds) [] = ap tags_field (sym (append-nil (d ∷ ds)))
tags_together (d ∷ ds) (t ∷ ts) =
    let comma : Tag → List ℕ = λ tag. 44 ∷ tag_text tag in
    ap (λ rest. 124 ∷ 35 ∷ rest) (append_assoc (tag_text d) (flat_map comma ds) (flat_map comma (t ∷ ts))
    ∙ ap (λ rest. tag_text d ++ rest) (sym (flat_map-append comma ds (t ∷ ts))))

-- The same for the text of default tags.
pub tags_known : (text : List ℕ) (ts ds : List Tag) → text ≡ tags_field ds → tags_after text ts ≡ tags_field (ds ++ ts)
tags_known text ts ds is = ap (λ t. tags_after t ts) is ∙ tags_together ds ts

-- How default tags, the first tag and the others come together.
pub joined_after : (defaults between between' first others rest : List ℕ) → between' ≡ between
    → defaults ++ ((between' ++ first) ++ (others ++ rest)) ≡ (defaults ++ (between ++ (first ++ others))) ++ rest
joined_after defaults between between' first others rest is =
    ap (λ b. defaults ++ ((b ++ first) ++ (others ++ rest))) is
    ∙ ap (λ text. defaults ++ text) (append_assoc between first (others ++ rest)
    ∙ ap (λ text. between ++ text) (sym (append_assoc first others rest))
    ∙ sym (append_assoc between (first ++ others) rest))
    ∙ sym (append_assoc defaults (between ++ (first ++ others)) rest)

no_default : (own : Option (List ℕ)) → option_or own None ≡ own
no_default None = refl
no_default (Some text) = refl

pub event_defaults : (e : Event) (text : List ℕ) (container : Option (List ℕ)) (ds : List Tag) → text ≡ tags_field ds
    → event_line_with text container e ≡ event_line (event_with ds container e)
unfolding event_text
event_defaults e text container ds is =
    ap (λ tags. event_text (record e { container = option_or e.container container }) tags)
    (tags_known text e.tags ds is)

pub check_defaults : (c : ServiceCheck) (text : List ℕ) (container : Option (List ℕ)) (ds : List Tag) → text ≡ tags_field ds
    → check_line_with text container c ≡ check_line (check_with ds container c)
unfolding check_text
check_defaults c text container ds is =
    ap (λ tags. check_text (record c { container = option_or c.container container }) tags)
    (tags_known text c.tags ds is)

-- Without defaults it is the line of the event itself.
pub event_alone : (e : Event) → event_line_with [] None e ≡ event_line e
event_alone e = ap₂ (λ container tags. event_text (record e { container = container }) tags) (no_default e.container) (tags_together [] e.tags)

pub check_alone : (c : ServiceCheck) → check_line_with [] None c ≡ check_line c
check_alone c = ap₂ (λ container tags. check_text (record c { container = container }) tags) (no_default c.container) (tags_together [] c.tags)

-- If a line was made, it can be cut by its lengths.
pub made_is_cut : {Z : Type 0} (e : Event) (why : Option Unfit) (r : Result (String Z) (InputError Unfit)) → MakesLine why (event_line e) r
    → IfOk r (λ line. IsCutByLengths (escaped e.title) (escaped e.text) (string_bytes line))
made_is_cut e None (Ok text) h = cut_by_lengths e (string_bytes text) h
made_is_cut e None (Err x) h = tt
made_is_cut e (Some why) (Ok text) h = absurd h
made_is_cut e (Some why) (Err x) h = tt
