-- What calls of a packer, or of sums before one, amount to.
use Rattle.std.specs.Prelude.{ℕ, ◌+◌, List, [], ◌∷◌, Ok, Err, map}
use Rattle.cadence_errors.specs.declared.SinkError.{SinkError}
use Rattle.cadence_stage.specs.Call.{Call, Flush, Line}

-- the texts of a list of texts with counts
abbrev pub texts_in : List (List ℕ × ℕ) → List (List ℕ)
texts_in counted = map (λ text. text.0) counted

-- the marks, if this many lines were kept before: how many lines were kept before each flush that was answered with Ok
abbrev pub marks_from : ℕ → List Call → List ℕ
marks_from place [] = []
marks_from place (Line line (Ok n) ∷ xs) = marks_from (place + 1) xs
marks_from place (Line line (Err e) ∷ xs) = marks_from place xs
marks_from place (Flush (Ok done) ∷ xs) = place ∷ marks_from place xs
marks_from place (Flush (Err e) ∷ xs) = marks_from place xs

-- the places of refusals, if this many lines were kept before: how many lines were kept before each refused line
abbrev pub refusals_from : ℕ → List Call → List ℕ
refusals_from place [] = []
refusals_from place (Line line (Ok n) ∷ xs) = refusals_from (place + 1) xs
refusals_from place (Line line (Err e) ∷ xs) = place ∷ refusals_from place xs
refusals_from place (Flush result ∷ xs) = refusals_from place xs

-- the errors with which lines or flushes were refused, in order
abbrev pub errors_of : List Call → List SinkError
errors_of [] = []
errors_of (Line line (Ok n) ∷ xs) = errors_of xs
errors_of (Line line (Err e) ∷ xs) = e ∷ errors_of xs
errors_of (Flush (Ok done) ∷ xs) = errors_of xs
errors_of (Flush (Err e) ∷ xs) = e ∷ errors_of xs
