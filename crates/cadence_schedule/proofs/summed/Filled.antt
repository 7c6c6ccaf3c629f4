-- No line that was handed on is empty, and they are no more than the accepted lines.
use Rattle.std.proofs.Common.{◌≡◌, ◌≢◌, ℕ, ◌≤◌, List, [], ◌∷◌, ◌++◌, length, map, sym, ap, ◌∙◌, subst, arith}
use Rattle.std.specs.List.{AllByRecursion, AllZip}
use Rattle.std.proofs.lemmas.List.{length-append, length-map, map-append}
use Rattle.cadence_schedule.specs.Calls.{texts_in}
use Rattle.cadence_aggregate.specs.Server.{Sample, amount, level, member, timing, unclear, other, others}
use Rattle.cadence_aggregate.proofs.Observed.{others-append}
use Rattle.cadence_aggregating.specs.Past.{Summarizes}
use Rattle.cadence_aggregating.specs.Printed.{line_saying}
use Rattle.cadence_aggregating.specs.Says.{LineSays, MetricSays}
use Rattle.cadence_aggregating.proofs.Saying.{says_some}
use Rattle.cadence_schedule.proofs.packets.PackedLines.{AreFilled}
use Rattle.cadence_schedule.proofs.headline.QueuedRun.{texts_filled}

abbrev AllFilled : List (List ℕ) → Type 0
AllFilled lines = AllByRecursion (λ (line : List ℕ). line ≢ []) lines

front_filled : (xs ys : List (List ℕ)) → AllFilled (xs ++ ys) → AllFilled xs
front_filled [] ys h = tt
front_filled (x ∷ xs) ys (h, hs) = (h, front_filled xs ys hs)

others_filled : (lines : List (List ℕ)) (said : List Sample) → AllZip LineSays lines said → AllFilled lines → AllFilled (map line_saying (others said))
others_filled [] [] zip filled = tt
others_filled [] (s ∷ said) zip filled = absurd zip
others_filled (line ∷ lines) [] zip filled = absurd zip
others_filled (line ∷ lines) (amount c n ∷ said) (says, zip) (some, filled) = others_filled lines said zip filled
others_filled (line ∷ lines) (level c v ∷ said) (says, zip) (some, filled) = others_filled lines said zip filled
others_filled (line ∷ lines) (member l ∷ said) (says, zip) (some, filled) = others_filled lines said zip filled
others_filled (line ∷ lines) (timing c t ∷ said) (says, zip) (some, filled) = others_filled lines said zip filled
others_filled (line ∷ lines) (unclear l ∷ said) (says, zip) (some, filled) =
    ((λ none. some (sym says.0 ∙ none)), others_filled lines said zip filled)
others_filled (line ∷ lines) (other l ∷ said) (says, zip) (some, filled) =
    ((λ none. some (sym says.0 ∙ none)), others_filled lines said zip filled)

metric_filled : (line : List ℕ) (said : Sample) → MetricSays line said → line ≢ []
metric_filled line said says none = absurd (omega (arith, says_some line said says, ap (λ l. length l) none))

sent_filled : (lines : List (List ℕ)) (said : List Sample) → AllZip LineSays lines said → AllFilled (map line_saying (others said)) → AllFilled lines
sent_filled [] [] zip filled = tt
sent_filled [] (s ∷ said) zip filled = absurd zip
sent_filled (line ∷ lines) [] zip filled = absurd zip
sent_filled (line ∷ lines) (amount c n ∷ said) (says, zip) filled = (metric_filled line (amount c n) says, sent_filled lines said zip filled)
sent_filled (line ∷ lines) (level c v ∷ said) (says, zip) filled = (metric_filled line (level c v) says, sent_filled lines said zip filled)
sent_filled (line ∷ lines) (member l ∷ said) (says, zip) filled = (metric_filled line (member l) says, sent_filled lines said zip filled)
sent_filled (line ∷ lines) (timing c t ∷ said) (says, zip) filled = (metric_filled line (timing c t) says, sent_filled lines said zip filled)
sent_filled (line ∷ lines) (unclear l ∷ said) (says, zip) (some, filled) =
    ((λ none. some (says.0 ∙ none)), sent_filled lines said zip filled)
sent_filled (line ∷ lines) (other l ∷ said) (says, zip) (some, filled) =
    ((λ none. some (says.0 ∙ none)), sent_filled lines said zip filled)

pub kept_filled : (accepted : List (List ℕ)) (kept : List (List ℕ × ℕ)) (held : List Sample) → AllFilled accepted → Summarizes accepted (texts_in kept) held
    → AreFilled kept
kept_filled accepted kept held filled (sent, says, (said, zip, sum)) =
    let rest : others said ≡ others sent ++ others held = sum.rest ∙ others-append sent held in
    let both : map line_saying (others said) ≡ map line_saying (others sent) ++ map line_saying (others held) =
    ap (map line_saying) rest ∙ map-append line_saying (others sent) (others held) in
    let all : AllFilled (map line_saying (others sent)) =
    front_filled (map line_saying (others sent)) (map line_saying (others held)) (subst AllFilled both (others_filled accepted said zip filled)) in
    texts_filled kept (sent_filled (texts_in kept) sent says all)

zip_length : (lines : List (List ℕ)) (said : List Sample) → AllZip LineSays lines said → length lines ≡ length said
zip_length [] [] zip = omega arith
zip_length [] (s ∷ said) zip = absurd zip
zip_length (line ∷ lines) [] zip = absurd zip
zip_length (line ∷ lines) (s ∷ said) (says, zip) = omega (arith, zip_length lines said zip)

pub no_more_kept : (accepted : List (List ℕ)) (kept : List (List ℕ × ℕ)) (held : List Sample) → Summarizes accepted (texts_in kept) held
    → length kept ≤ length accepted
no_more_kept accepted kept held (sent, says, (said, zip, sum)) =
    let fewer = sum.fewer in
    omega (arith, zip_length accepted said zip, zip_length (texts_in kept) sent says, length-append sent held, length-map kept (λ (k : List ℕ × ℕ). k.0))
