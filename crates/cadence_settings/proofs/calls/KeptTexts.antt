-- The tags that settings keep, from their texts.
use Rattle.std.proofs.Common.{◌≡◌, ◌∙◌, ℕ, Bool, true, false, List, [], ◌∷◌, ◌++◌, Option, String, ap, ap₂, map, refl, sym}
use Rattle.std.proofs.lemmas.List.{map-append}
use Rattle.cadence_text.specs.Owned.{tag_of_owned}
use Rattle.std.specs.Prelude.{if◌then◌else◌}
use Rattle.cadence_text.specs.Cleaned.{cleaned_tag, cleaned_text, tag_as, text_as}
use Rattle.cadence_text.specs.Metric.{keyed, unkeyed}

pub kept_keyed : (cleaned : Bool) (key text : List ℕ)
    → keyed (text_as cleaned key) (if cleaned then cleaned_text true text else text) ≡ tag_as cleaned (keyed key text)
kept_keyed true key text = refl
kept_keyed false key text = refl

pub kept_unkeyed : (cleaned : Bool) (text : List ℕ) → unkeyed (text_as cleaned text) ≡ tag_as cleaned (unkeyed text)
kept_unkeyed true text = refl
kept_unkeyed false text = refl

-- One more tag of a list is cleaned.
pub tag_added : {Z : Type 0} (made new taken more : List (Option (String Z) × String Z)) (one tag : Option (String Z) × String Z)
    → new ≡ made ++ one ∷ [] → more ≡ taken ++ tag ∷ [] → tag_of_owned one ≡ cleaned_tag (tag_of_owned tag)
    → map tag_of_owned made ≡ map cleaned_tag (map tag_of_owned taken)
    → map tag_of_owned new ≡ map cleaned_tag (map tag_of_owned more)
tag_added made new taken more one tag is next same before =
    ap (map tag_of_owned) is ∙ map-append tag_of_owned made (one ∷ [])
    ∙ ap₂ (λ a b. a ++ b ∷ []) before same
    ∙ sym (ap (λ l. map cleaned_tag (map tag_of_owned l)) next ∙ ap (map cleaned_tag) (map-append tag_of_owned taken (tag ∷ []))
    ∙ map-append cleaned_tag (map tag_of_owned taken) (tag_of_owned tag ∷ []))
