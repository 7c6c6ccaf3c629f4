-- Settings to which tags are added one after the other.
use Rattle.std.proofs.Common.{◌≡◌, ◌||◌, not, ◌+◌, ◌<◌, ◌≤◌, ℕ, List, [], ◌∷◌, ◌++◌, ◌∙◌, false}
use Rattle.std.proofs.Common.{Result, Ok, Err, ap, append_assoc, get_or, length, map, subst, sym, take}
use Rattle.std.proofs.lemmas.List.{map-append, take_all, take_more}
use Rattle.cadence_errors.specs.Errors.{Makes}
use Rattle.cadence_errors.specs.declared.MetricError.{MetricError}
use Rattle.cadence_text.specs.Cleaned.{tag_as}
use Rattle.cadence_text.specs.Metric.{Tag}
use Rattle.cadence.specs.Shown.{Changes}
use Rattle.cadence_text.specs.FreeTexts.{is_clear_tag}
use Rattle.cadence_settings.specs.Settings.{FailsFor, Settings, allows_tag, with_default_tag}
use Rattle.cadence_agent.specs.Shown.{with_tags}

-- Settings that take all texts as they are take one more tag after these, unless memory runs out.
pub makes_more : (s : Settings) (tags : List Tag) (tag : Tag) (mid new : Result Settings MetricError)
    → s.strict ≡ false → s.cleaned ≡ false → Makes (with_tags s tags) mid
    → Changes mid (λ s. allows_tag s tag) (λ s. with_default_tag s tag) new
    → Makes (with_tags s (tags ++ tag ∷ [])) new
makes_more s tags tag (Err e) new free uncleaned made change = subst (Makes (with_tags s (tags ++ tag ∷ []))) (sym change) made
makes_more s tags tag (Ok m) (Ok n) free uncleaned made change =
    change.1 ∙ ap (λ before. with_default_tag before tag) made
    ∙ ap (λ is_cleaned. record s { tags = (s.tags ++ tags) ++ tag_as is_cleaned tag ∷ [] }) uncleaned
    ∙ ap (λ all. record s { tags = all }) (append_assoc s.tags tags (tag ∷ []))
makes_more s tags tag (Ok m) (Err e) free uncleaned made change =
    let failed : FailsFor (allows_tag (with_tags s tags) tag) e = subst (λ m. FailsFor (allows_tag m tag) e) made change in
    subst (λ strict. FailsFor (not strict || is_clear_tag tag) e) free failed

-- If the tags before it were added, each as `f` converts it, and then the next tag, then the tags up to this one were added.
pub makes_next : {Y : Type 0} (f : Y → Tag) (tags : List Y) (k : ℕ) (y : Y) (tag : Tag) (s : Settings) (mid new : Result Settings MetricError)
    → k < length tags → y ≡ get_or tags k y → tag ≡ f y → s.strict ≡ false → s.cleaned ≡ false
    → Makes (with_tags s (map f (take k tags))) mid
    → Changes mid (λ s. allows_tag s tag) (λ s. with_default_tag s tag) new → Makes (with_tags s (map f (take (k + 1) tags))) new
makes_next f tags k y tag s mid new inside is same free uncleaned before change =
    let next : take (k + 1) tags ≡ take k tags ++ y ∷ [] = take_more tags k y inside ∙ ap (λ z. take k tags ++ z ∷ []) (sym is) in
    let more : map f (take (k + 1) tags) ≡ map f (take k tags) ++ tag ∷ [] =
    ap (map f) next ∙ map-append f (take k tags) (y ∷ []) ∙ ap (λ t. map f (take k tags) ++ t ∷ []) (sym same) in
    subst (λ all. Makes (with_tags s all) new) (sym more) (makes_more s (map f (take k tags)) tag mid new free uncleaned before change)

-- If as many tags were added as the list has, then all its tags were added.
pub makes_all : {Y : Type 0} (f : Y → Tag) (tags : List Y) (k : ℕ) (s : Settings) (new : Result Settings MetricError) → length tags ≤ k
    → Makes (with_tags s (map f (take k tags))) new → Makes (with_tags s (map f tags)) new
makes_all f tags k s new whole before = subst (λ all. Makes (with_tags s (map f all)) new) (take_all k tags whole) before
