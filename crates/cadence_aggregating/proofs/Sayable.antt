-- What is sent is what its line says, because it is made of what lines said.
use Rattle.std.proofs.Common.{◌≡◌, ◌<◌, inl, inr, ℕ, ℤ, List, [], ◌∷◌, length, refl, sym, ap, subst, ◌∙◌, arith, eqb}
use Rattle.std.specs.Int.RustNames.{FitsSigned}
use Rattle.std.specs.List.{AllByRecursion, AllZip}
use Rattle.std.proofs.lemmas.List.Elements.{All-from_recursion, recursion_from_All}
use Rattle.std.proofs.lemmas.List.Splits.{length-slice_split}
use mir.Syntax.{w64}
use Rattle.cadence_aggregate.specs.Server.{Sample, amount, level, member, timing, unclear, other, values_in, IsSummary}
use Rattle.cadence_read.proofs.ValuesRead.{whole_is_decimal}
use Rattle.cadence_read.specs.Values.{IsNumberText}
use Rattle.cadence_value.specs.Number.{number_text, whole}
use Rattle.cadence_value.proofs.spelling.OwnText.{own_text}
use Rattle.cadence_aggregating.specs.Printed.{line_saying}
use Rattle.cadence_aggregating.specs.Says.{LineSays, MaySetGauge, MetricSays}
use Rattle.cadence_aggregating.proofs.Among.{Among, HasValue, amount_shown, amount_found, level_shown, level_found, member_shown, member_found, other_shown, unclear_shown, rest_found, timing_shown, timing_found, is, is_level}

-- The line that says this says just this.
abbrev pub IsSayable : Sample → Type 0
IsSayable said = LineSays (line_saying said) said

-- The numbers of a counter's line fit 64 bits.
abbrev pub IsSized : Sample → Type 0
IsSized (amount c n) = FitsSigned w64 n
IsSized (level c v) = Unit {0}
IsSized (member l) = Unit {0}
IsSized (timing c t) = Unit {0}
IsSized (unclear l) = Unit {0}
IsSized (other l) = Unit {0}

-- another sum of the same context
another_sum : (line c : List ℕ) (k n : ℤ) → MetricSays line (amount c k) → FitsSigned w64 n → IsSayable (amount c n)
another_sum line c k n (context, fits, number) small =
    let text = number_text (whole n) in
    (context, small, (text, refl, own_text text (whole n) (whole_is_decimal n small) refl))

-- what a line says is said by its own text
pub said_sayable : (line : List ℕ) (s : Sample) → LineSays line s → IsSayable s
said_sayable line (amount c n) (context, fits, number) = another_sum line c n n (context, fits, number) fits
said_sayable line (level c v) (context, its, numbers) = (context, refl, numbers)
said_sayable line (member l) (same, (c, text, context, its, is)) = (refl, (c, text, context, same ∙ its, is))
said_sayable line (timing c t) (kinds, its, numbers) = (kinds, refl, numbers)
said_sayable line (unclear l) (same, none, marked) = (refl, λ said h. none said (subst (λ t. MetricSays t said) same h), subst MaySetGauge (sym same) marked)
said_sayable line (other l) (same, none, unmarked) = (refl, λ said h. none said (subst (λ t. MetricSays t said) same h), λ h. unmarked (subst MaySetGauge same h))

pub all_said : (lines : List (List ℕ)) (came : List Sample) → AllZip LineSays lines came → (s : Sample) → Among s came → IsSayable s
all_said [] [] h s among = absurd among
all_said [] (x ∷ came) h s among = absurd h
all_said (line ∷ lines) [] h s among = absurd among
all_said (line ∷ lines) (x ∷ came) (here, rest) s (inl same) = subst IsSayable same (said_sayable line x here)
all_said (line ∷ lines) (x ∷ came) (here, rest) s (inr later) = all_said lines came rest s later

module _ (P : List ℕ → Type 0) where
  among_all : (xs : List (List ℕ)) → AllByRecursion P xs → (x : List ℕ) → Among x xs → P x
  among_all [] h x among = absurd among
  among_all (y ∷ xs) (h, hs) x (inl same) = subst P same h
  among_all (y ∷ xs) (h, hs) x (inr later) = among_all xs hs x later

  all_among : (xs : List (List ℕ)) → ((x : List ℕ) → Among x xs → P x) → AllByRecursion P xs
  all_among [] each = tt
  all_among (y ∷ xs) each = (each y (inl refl), all_among xs (λ x among. each x (inr among)))

pub first_value : (t : List ℕ) → (x : List ℕ) × Among x (values_in t)
first_value t = (elim (values_in t) as (λ vs. values_in t ≡ vs → (x : List ℕ) × Among x vs) [
  | [] ↦ λ e. absurd (omega (arith, ap (λ vs. length vs) e, length-slice_split (λ b. eqb b 58) t))
  | x ∷ xs ↦ λ e. (x, inl refl)
]) refl

module _ (came sent : List Sample) (same : IsSummary came sent) (said : (s : Sample) → Among s came → IsSayable s) where
  pub value_came : (c t x : List ℕ) → Among (timing c t) sent → Among x (values_in t) → HasValue c x came
  value_came c t x among value = timing_found c x came (subst (λ n. 0 < n) (sym (same.timings (is c) x)) (timing_shown c t x sent among value))

  sayable_timing : (c t : List ℕ) → Among (timing c t) sent → IsSayable (timing c t)
  sayable_timing c t among =
      let numbers : AllByRecursion IsNumberText (values_in t) = all_among IsNumberText (values_in t) (λ x value.
      let (u, there, its) = value_came c t x among value in
      let (kinds, whole, all) = said (timing c u) there in
      among_all IsNumberText (values_in u) (recursion_from_All IsNumberText (values_in u) all) x its) in
      let (x, value) = first_value t in
      let (u, there, its) = value_came c t x among value in
      let (kinds, whole, all) = said (timing c u) there in
      (kinds, refl, All-from_recursion IsNumberText (values_in t) numbers)

  -- each of what was sent is what its line says
  pub sayable : (s : Sample) → Among s sent → IsSized s → IsSayable s
  sayable (amount c n) among fits =
      let (k, there) = amount_found c came (same.counters (is c) ∙ amount_shown c n sent among) in
      another_sum (line_saying (amount c k)) c k n (said (amount c k) there) fits
  sayable (level c v) among fits = said (level c v) (level_found c v came (same.values (is_level c v) (level_shown c v sent among)))
  sayable (member l) among fits = said (member l) (member_found l came (same.members (is l) ∙ member_shown l sent among))
  sayable (timing c t) among fits = sayable_timing c t among
  sayable (unclear l) among fits = said (unclear l) (rest_found (unclear l) came (subst (Among (unclear l)) (sym same.rest) (unclear_shown l sent among)))
  sayable (other l) among fits = said (other l) (rest_found (other l) came (subst (Among (other l)) (sym same.rest) (other_shown l sent among)))
