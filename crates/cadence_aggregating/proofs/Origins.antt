-- Where the lines come from that an aggregator sends.
use Rattle.std.proofs.Common.{◌≡◌, ◌<◌, ◌≤◌, inl, inr, ℕ, ◌+◌, ◌^◌, ◌/◌, ℤ, pos, negsuc, List, [], ◌∷◌, ◌++◌, length, map, refl, sym, ap, subst, ◌∙◌, arith, lit<, unsigned_abs}
use Rattle.std.specs.Prelude.{All, Contains}
use Rattle.std.specs.Int.RustNames.{FitsSigned}
use Rattle.std.specs.List.{AllByRecursion, AllZip}
use Rattle.std.proofs.lemmas.List.{length-append}
use Rattle.std.proofs.lemmas.List.Elements.{All-from_recursion, recursion_from_All, Contains-append_left, Contains-append_right, Contains-push}
use Rattle.std.proofs.Math.Nat.{div-le_self}
use mir.Syntax.{w64}
use Rattle.cadence_aggregate.specs.Server.{Sample, amount, level, member, timing, unclear, other, IsSummary}
use Rattle.cadence_text.specs.declared.line.MetricType.TheVariants.{Counter}
use Rattle.cadence_value.specs.Number.{decimal_text, number_text, whole}
use Rattle.cadence_value.proofs.digits.Digits.{length-decimal_text-le}
use Rattle.cadence_value.proofs.digits.NumberText.{sign, sign-pos, unsigned_text}
use Rattle.cadence_aggregating.specs.Notes.{line_of_note, sample_of_note}
use Rattle.cadence_aggregate.specs.Within.{AreWithin, StayWithin}
use Rattle.cadence_aggregate.proofs.Within.{within_parts}
use Rattle.cadence_aggregating.specs.Origins.{ComesFrom, HasContext, IsMadeOf, IsNoLonger}
use Rattle.cadence_aggregating.specs.Past.{SumsUpWithin}
use Rattle.cadence_aggregating.specs.Printed.{before_bar, from_bar, spliced, line_saying}
use Rattle.cadence_aggregating.specs.Says.{LineSays}
use Rattle.cadence_aggregating.specs.declared.note.Note.{Note}
use Rattle.cadence_aggregating.proofs.Among.{Among, amount_found, amount_shown, level_found, level_shown, member_found, member_shown, rest_found, other_shown, unclear_shown, is, is_level}
use Rattle.cadence_aggregating.proofs.Records.{among_left, among_mapped, sized}
use Rattle.cadence_aggregating.proofs.Sayable.{IsSized, all_said, first_value, sayable, value_came}
use Rattle.cadence_aggregating.proofs.Spliced.{cut_whole}

contained : {X : Type 0} (x : X) (xs : List X) → Among x xs → Contains xs x
contained x [] h = absurd h
contained x (y ∷ xs) (inl same) = subst (Contains (y ∷ xs)) same (Contains-append_left (y ∷ []) xs y (Contains-push [] y))
contained x (y ∷ xs) (inr later) = Contains-append_right (y ∷ []) xs x (contained x xs later)

-- one of the lines says this
abbrev Said : List (List ℕ) → Sample → Type 0
Said lines s = (line : List ℕ) × Among line lines × LineSays line s

said_by_line : (lines : List (List ℕ)) (said : List Sample) → AllZip LineSays lines said → (s : Sample) → Among s said → Said lines s
said_by_line [] [] h s among = absurd among
said_by_line [] (x ∷ said) h s among = absurd h
said_by_line (line ∷ lines) [] h s among = absurd among
said_by_line (line ∷ lines) (x ∷ said) (here, rest) s (inl same) = (line, inl refl, subst (LineSays line) same here)
said_by_line (line ∷ lines) (x ∷ said) (here, rest) s (inr later) =
    let (old, among, says) = said_by_line lines said rest s later in
    (old, inr among, says)

-- a line that says the value of a gauge, a member of a set or itself is the text of what it says
level_text : (line c v : List ℕ) → LineSays line (level c v) → spliced c v ≡ line
level_text line c v (context, its, numbers) = sym its

-- the sizes of a counter's line
size_abs : (z : ℤ) → FitsSigned w64 z → unsigned_abs z ≤ 2 ^ 63
size_abs (pos n) h = omega (arith, h.sfits)
size_abs (negsuc n) h = omega (arith, h.sfits)

size_sign : (z : ℤ) → length (sign z) ≤ 1
size_sign (pos n) = omega (arith, ap (λ t. length t) (sign-pos n))
size_sign (negsuc n) = omega arith

size_whole : (n : ℤ) → FitsSigned w64 n → length (number_text (whole n)) ≤ 20
size_whole n fits =
    let size = unsigned_abs n in
    let small : size / 10 ^ 0 < 10 ^ 19 = omega (arith, size_abs n fits, div-le_self size (10 ^ 0)) in
    omega (
      arith,
      length-append (sign n) (unsigned_text size 0),
      length-append (decimal_text (size / 10 ^ 0)) [],
      size_sign n,
      length-decimal_text-le 19 (size / 10 ^ 0) (lit< tt) small,
    )

size_spliced : (context values : List ℕ) → length (spliced context values) ≡ length context + length values + 1
size_spliced context values =
    let front = before_bar context in
    let fields = from_bar context in
    omega (
      arith,
      length-append front (58 ∷ (values ++ fields)),
      length-append values fields,
      length-append front fields,
      ap (λ t. length t) (cut_whole context),
    )

-- the line of a timer, a histogram or a distribution is its context, a colon and its values
timing_size : (line c t : List ℕ) → LineSays line (timing c t) → length line ≡ length c + length t + 1
timing_size line c t (kinds, its, numbers) = ap (λ l. length l) its ∙ size_spliced c t

-- the values of accepted lines are within what those lines are within
accepted_within : (most : ℕ) (lines : List (List ℕ)) (said : List Sample) → AllZip LineSays lines said
    → AllByRecursion (λ line. length line ≤ most) lines → AreWithin most said
accepted_within most [] [] zip short = tt
accepted_within most [] (x ∷ said) zip short = absurd zip
accepted_within most (line ∷ lines) [] zip short = absurd zip
accepted_within most (line ∷ lines) (amount c n ∷ said) (here, rest) (first, later) = accepted_within most lines said rest later
accepted_within most (line ∷ lines) (level c v ∷ said) (here, rest) (first, later) = accepted_within most lines said rest later
accepted_within most (line ∷ lines) (member c ∷ said) (here, rest) (first, later) = accepted_within most lines said rest later
accepted_within most (line ∷ lines) (timing c t ∷ said) (here, rest) (first, later) =
    (subst (λ n. n ≤ most) (timing_size line c t here) first, accepted_within most lines said rest later)
accepted_within most (line ∷ lines) (unclear l ∷ said) (here, rest) (first, later) = accepted_within most lines said rest later
accepted_within most (line ∷ lines) (other l ∷ said) (here, rest) (first, later) = accepted_within most lines said rest later

-- each line of values among others is within what all are within
one_within : (most : ℕ) (said : List Sample) (c t : List ℕ) → Among (timing c t) said → AreWithin most said → length c + length t + 1 ≤ most
one_within most [] c t among within = absurd among
one_within most (x ∷ said) c t (inl same) within = (subst (λ s. AreWithin most (s ∷ [])) same (within_parts most (x ∷ []) said within).0).0
one_within most (x ∷ said) c t (inr later) within = one_within most said c t later (within_parts most (x ∷ []) said within).1

module _ (limit : ℕ) (accepted : List (List ℕ)) (came sent : List Sample) (zip : AllZip LineSays accepted came) (same : IsSummary came sent) (stay : StayWithin limit came sent) where
  -- what was sent is what its line says, as the record shows
  says_itself : (s : Sample) → Among s sent → IsSized s → LineSays (line_saying s) s
  says_itself = sayable came sent same (all_said accepted came zip)

  -- the context of a line that is accepted
  accepted_context : (c values line : List ℕ) → Among line accepted → line ≡ spliced c values → HasContext accepted c
  accepted_context c values line here its = (values, subst (Contains accepted) its (contained line accepted here))

  sum_made : (c : List ℕ) (n : ℤ) → Among (amount c n) sent → FitsSigned w64 n → IsMadeOf limit accepted (line_saying (amount c n))
  sum_made c n among fits =
      let (k, there) = amount_found c came (same.counters (is c) ∙ amount_shown c n sent among) in
      let (old, here, (context, small, (number, its, says))) = said_by_line accepted came zip (amount c k) there in
      let size : length (spliced c (number_text (whole n))) ≤ length c + 21 = omega (arith, size_spliced c (number_text (whole n)), size_whole n fits) in
      record {
        kind = Counter;
        context = c;
        values = number_text (whole n);
        is = context;
        whole = refl;
        accepted_before = accepted_context c number old here its;
        size = inl (refl, size);
      }

  values_within : (c t : List ℕ) → Among (timing c t) sent → IsNoLonger limit accepted (line_saying (timing c t))
  values_within c t among most least short =
      let within = stay most least (accepted_within most accepted came zip (recursion_from_All (λ line. length line ≤ most) accepted short)) in
      omega (arith, one_within most sent c t among within, size_spliced c t)

  values_made : (c t : List ℕ) → Among (timing c t) sent → IsMadeOf limit accepted (line_saying (timing c t))
  values_made c t among =
      let (x, value) = first_value t in
      let (u, there, value') = value_came came sent same (all_said accepted came zip) c t x among value in
      let (old, here, ((kind, timed, context), its, numbers)) = said_by_line accepted came zip (timing c u) there in
      record {
        kind = kind;
        context = c;
        values = t;
        is = context;
        whole = refl;
        accepted_before = accepted_context c u old here its;
        size = inr (timed, values_within c t among);
      }

  unchanged : (s : Sample) → Said accepted s → ((line : List ℕ) → LineSays line s → line_saying s ≡ line) → ComesFrom limit accepted (line_saying s)
  unchanged s (line, here, says) text = inl (subst (Contains accepted) (sym (text line says)) (contained line accepted here))

  origin : (s : Sample) → Among s sent → IsSized s → ComesFrom limit accepted (line_saying s)
  origin (amount c n) among fits = inr (sum_made c n among fits)
  origin (level c v) among fits =
      let there = level_found c v came (same.values (is_level c v) (level_shown c v sent among)) in
      unchanged (level c v) (said_by_line accepted came zip (level c v) there) (λ line says. level_text line c v says)
  origin (member l) among fits =
      let there = member_found l came (same.members (is l) ∙ member_shown l sent among) in
      unchanged (member l) (said_by_line accepted came zip (member l) there) (λ line (whole, rest). whole)
  origin (timing c t) among fits = inr (values_made c t among)
  origin (unclear l) among fits =
      let there = rest_found (unclear l) came (subst (Among (unclear l)) (sym same.rest) (unclear_shown l sent among)) in
      unchanged (unclear l) (said_by_line accepted came zip (unclear l) there) (λ line (whole, none, marked). whole)
  origin (other l) among fits =
      let there = rest_found (other l) came (subst (Among (other l)) (sym same.rest) (other_shown l sent among)) in
      unchanged (other l) (said_by_line accepted came zip (other l) there) (λ line (whole, none, unmarked). whole)

all_from : (limit : ℕ) (accepted : List (List ℕ)) (notes : List Note) → ((note : Note) → Among note notes → ComesFrom limit accepted (line_of_note note))
    → AllByRecursion (ComesFrom limit accepted) (map line_of_note notes)
all_from limit accepted [] each = tt
all_from limit accepted (note ∷ notes) each = (each note (inl refl), all_from limit accepted notes (λ n among. each n (inr among)))

-- where the lines of the record come from
pub comes_from : (limit : ℕ) (accepted : List (List ℕ)) (notes : List Note) (held : List Sample) → SumsUpWithin limit accepted (map sample_of_note notes) held
    → All (ComesFrom limit accepted) (map line_of_note notes)
comes_from limit accepted notes held (came, zip, same, stay) =
    let sent = map sample_of_note notes in
    let each : (note : Note) → Among note notes → ComesFrom limit accepted (line_of_note note) = λ note among.
    subst (ComesFrom limit accepted) (sym note.printed)
    (origin limit accepted came (sent ++ held) zip same stay (sample_of_note note)
    (among_left (sample_of_note note) sent held (among_mapped sample_of_note note notes among)) (sized note)) in
    All-from_recursion (ComesFrom limit accepted) (map line_of_note notes) (all_from limit accepted notes each)
