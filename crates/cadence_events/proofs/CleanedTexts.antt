-- Cleaned texts: how a text is cut at its first separator, that cleaned events and service checks are never refused, and
-- that those which aren't cleaned stay as they are.
use Rattle.std.proofs.Common.{◌≡◌, ◌≢◌, ℕ, List, [], ◌∷◌, ◌++◌, map, cond, refl, sym, ap, ap₂, ◌∙◌}
use Rattle.std.proofs.Common.{Bool, true, false, Option, Some, None}
use Rattle.std.specs.Prelude.{All, ◌==◌, ◌||◌, not, if◌then◌else◌}
use Rattle.std.specs.List.{AllByRecursion, list_all, list_any}
use Rattle.std.specs.Option.{option_map}
use Rattle.std.proofs.lemmas.Bool.{and_from, cond-false, ne_eqb}
use Rattle.std.proofs.lemmas.List.{map-append}
use Rattle.std.proofs.lemmas.List.Elements.{recursion_from_All}
use Rattle.cadence_text.specs.Cleaned.{cleaned_byte, cleaned_text, container_as as any_as, tag_as}
use Rattle.cadence_text.specs.FreeTexts.{is_clear_tag, is_free_if_any, is_no_separator, is_no_tag_end}
use Rattle.cadence_text.specs.Metric.{Tag}
use Rattle.cadence_text.specs.OneReading.{IsFreeText, IsNoSeparator}
use Rattle.cadence_text.proofs.grammar.Cleaned.{tag_passes, text_passes}
use Rattle.cadence_text.proofs.grammar.FreeTexts.{no_separator, no_separator_from, no_tag_end, no_tag_end_from}
use Rattle.cadence_events.specs.declared.refusal.Unfit.{Unfit}
use Rattle.cadence_events.specs.declared.refusal.Unfit.TheVariants as unfit
use Rattle.cadence_events.specs.Cleaned.{barless, barless_byte, check_as, common_as, event_as, message_as}
use Rattle.cadence_events.specs.Event.{Event, event_line, event_line_with, event_sharing}
use Rattle.cadence_events.specs.Lined.{Common}
use Rattle.cadence_events.specs.Refusals.{check_refusal, event_refusal, first_failed, has_no_bar}
use Rattle.cadence_events.specs.ServiceCheck.{ServiceCheck, check_line, check_line_with, check_sharing}
use Rattle.cadence_events.proofs.Defaults.{check_alone, event_alone}

is_false : (p : Bool) → (p ≡ true → ⊥) → p ≡ false
is_false true h = absurd (h refl)
is_false false h = refl

-- A separator is cleaned, but for a colon after a key.
pub gone : (b : ℕ) → (IsNoSeparator b → ⊥) → 95 ≡ cleaned_byte false b
unfolding cleaned_byte
gone b h = sym (ap (λ s. cond s b 95) (is_false (is_no_separator b) (λ t. h (no_separator b t))))

pub gone_after_key : (b : ℕ) → (IsNoSeparator b → ⊥) → b ≢ 58 → 95 ≡ cleaned_byte true b
unfolding cleaned_byte
gone_after_key b h other =
    sym (ap (λ s. cond s b 95) (is_false (is_no_tag_end b) (λ t. (let (comma, bar, newline) = no_tag_end b t in h (other, comma, bar, newline)))))

pub colon_kept : 58 ≡ cleaned_byte true 58
unfolding cleaned_byte is_no_tag_end
colon_kept = refl

-- A byte that is no separator stays.
kept : (after_key : Bool) (b : ℕ) → IsNoSeparator b → cleaned_byte after_key b ≡ b
unfolding cleaned_byte
kept true b (colon, comma, bar, newline) = ap (λ s. cond s b 95) (no_tag_end_from b (comma, bar, newline))
kept false b h = ap (λ s. cond s b 95) (no_separator_from b h)

all_kept : (after_key : Bool) (text : List ℕ) → AllByRecursion IsNoSeparator text → map (cleaned_byte after_key) text ≡ text
all_kept after_key [] h = refl
all_kept after_key (b ∷ text) h = ap₂ (λ x xs. x ∷ xs) (kept after_key b h.0) (all_kept after_key text h.1)

pub cleaned_plain : (after_key : Bool) (text : List ℕ) → IsFreeText text → cleaned_text after_key text ≡ text
unfolding cleaned_text
cleaned_plain after_key text h = all_kept after_key text (recursion_from_All IsNoSeparator text h)

-- A text that is cut at its first separator.
pub cleaned_cut : (after_key : Bool) (text front rest : List ℕ) (mark : ℕ) → text ≡ front ++ mark ∷ rest → IsFreeText front
    → cleaned_text after_key text ≡ front ++ cleaned_byte after_key mark ∷ cleaned_text after_key rest
unfolding cleaned_text
cleaned_cut after_key text front rest mark e h =
    ap (map (cleaned_byte after_key)) e ∙ map-append (cleaned_byte after_key) front (mark ∷ rest)
    ∙ ap (λ t. t ++ map (cleaned_byte after_key) (mark ∷ rest)) (cleaned_plain after_key front h)

bars_kept : (text : List ℕ) → AllByRecursion (λ b. b ≢ 124) text → map barless_byte text ≡ text
bars_kept [] h = refl
bars_kept (b ∷ text) h = ap₂ (λ x xs. x ∷ xs) (cond-false (b == 124) 95 b (ne_eqb b 124 h.0)) (bars_kept text h.1)

pub barless_plain : (text : List ℕ) → All (λ b. b ≢ 124) text → barless text ≡ text
unfolding barless
barless_plain text h = bars_kept text (recursion_from_All (λ b. b ≢ 124) text h)

-- A message that is cut at its first bar.
pub barless_cut : (text front rest : List ℕ) → text ≡ front ++ 124 ∷ rest → All (λ b. b ≢ 124) front → barless text ≡ front ++ 95 ∷ barless rest
unfolding barless
barless_cut text front rest e h =
    ap (map barless_byte) e ∙ map-append barless_byte front (124 ∷ rest) ∙ ap (λ t. t ++ 95 ∷ map barless_byte rest) (barless_plain front h)

-- Cleaned texts pass their tests.
any_fits : (text : Option (List ℕ)) → is_free_if_any (any_as true text) ≡ true
any_fits None = refl
any_fits (Some text) = text_passes text

tags_fit : (tags : List Tag) → list_all is_clear_tag (map (tag_as true) tags) ≡ true
tags_fit [] = refl
tags_fit (t ∷ tags) = and_from (is_clear_tag (tag_as true t)) (list_all is_clear_tag (map (tag_as true) tags)) (tag_passes t) (tags_fit tags)

no_bar : (is_bar : Bool) (b : ℕ) → (b == 124) ≡ is_bar → ((if is_bar then 95 else b) == 124) ≡ false
no_bar true b h = refl
no_bar false b h = h

no_bars : (text : List ℕ) → list_any (λ b. b == 124) (map barless_byte text) ≡ false
no_bars [] = refl
no_bars (b ∷ text) = ap₂ (λ x y. x || y) (no_bar (b == 124) b refl) (no_bars text)

message_fits : (message : Option (List ℕ)) → has_no_bar (option_map (message_as true) message) ≡ true
unfolding barless
message_fits None = refl
message_fits (Some text) = ap not (no_bars text)

five_pass : (a b c d e : Bool) (v w x y z : Unfit) → a ≡ true → b ≡ true → c ≡ true → d ≡ true → e ≡ true
    → first_failed ((a, v) ∷ (b, w) ∷ (c, x) ∷ (d, y) ∷ (e, z) ∷ []) ≡ None
five_pass a b c d e v w x y z ha hb hc hd he =
    ap (λ t. first_failed ((t, v) ∷ (b, w) ∷ (c, x) ∷ (d, y) ∷ (e, z) ∷ [])) ha ∙ ap (λ t. first_failed ((t, w) ∷ (c, x) ∷ (d, y) ∷ (e, z) ∷ [])) hb
    ∙ ap (λ t. first_failed ((t, x) ∷ (d, y) ∷ (e, z) ∷ [])) hc ∙ ap (λ t. first_failed ((t, y) ∷ (e, z) ∷ [])) hd
    ∙ ap (λ t. first_failed ((t, z) ∷ [])) he

pub event_fits : (c : Common) (e : Event) → event_refusal (event_sharing (common_as true c) (event_as true e)) ≡ None
event_fits c e =
    five_pass _ _ _ _ _ unfit.Host unfit.AggregationKey unfit.SourceType unfit.Tags unfit.Container (any_fits c.host) (any_fits e.key)
    (any_fits e.source) (tags_fit c.tags) (any_fits c.container)

pub check_fits : (c : Common) (check : ServiceCheck) → check_refusal (check_sharing (common_as true c) (check_as true check)) ≡ None
check_fits c check =
    five_pass _ _ _ _ _ unfit.Name unfit.Host unfit.Tags unfit.Container unfit.Message (text_passes check.name) (any_fits c.host)
    (tags_fit c.tags) (any_fits c.container) (message_fits check.message)

-- What isn't cleaned stays as it is.
same_tags : (tags : List Tag) → map (tag_as false) tags ≡ tags
same_tags [] = refl
same_tags (t ∷ tags) = ap (λ ts. t ∷ ts) (same_tags tags)

same_message : (message : Option (List ℕ)) → option_map (message_as false) message ≡ message
same_message None = refl
same_message (Some text) = refl

pub same_common : (c : Common) → common_as false c ≡ c
same_common c = ap (λ tags. record c { tags = tags }) (same_tags c.tags)

pub same_event : (e : Event) → event_as false e ≡ e
same_event e = ap (λ tags. record e { tags = tags }) (same_tags e.tags)

pub same_check : (c : ServiceCheck) → check_as false c ≡ c
same_check c = ap₂ (λ tags message. record c { tags = tags; message = message }) (same_tags c.tags) (same_message c.message)

-- Without defaults and as it is, it has the line of the event itself.
pub event_plain : (e : Event) → event_line_with [] None (event_as false e) ≡ event_line e
event_plain e = ap (λ x. event_line_with [] None x) (same_event e) ∙ event_alone e

pub check_plain : (c : ServiceCheck) → check_line_with [] None (check_as false c) ≡ check_line c
check_plain c = ap (λ x. check_line_with [] None x) (same_check c) ∙ check_alone c
