-- A sign and digits denote one number, and zeros at the end of the places do not change it.
use Rattle.std.proofs.Common.{◌≡◌, ◌≢◌, ℕ, zero, suc, ◌+◌, ◌-◌, ◌*◌, ◌/◌, ◌%◌, ◌^◌, ◌<◌, ◌≤◌, ℤ, pos, negsuc, ◌*ℤ◌, List, [], ◌∷◌, ◌++◌}
use Rattle.std.proofs.Common.{length, replicate, take, refl, sym, ap, ◌∙◌, ap₂, subst, arith, get_or, unsigned_abs, Bool, true, false}
use Rattle.std.proofs.Common.{not, ◌||◌, eqb, Result, Ok, Err, ◌⊎◌, inl, inr}
use Rattle.std.specs.Prelude.{All, FitsSigned, None, codes, if◌then◌else◌}
use Rattle.std.specs.Result.{result_ok}
use mir.Syntax.{w128}
use Rattle.std.specs.Int.{is_negative}
use Rattle.std.specs.Char.{digit_value}
use Rattle.std.specs.Str.Parse.{digits_value, AllDigits, IsNumeral}
use Rattle.std.proofs.lemmas.Bool.{ne_eqb}
use Rattle.std.proofs.lemmas.Int.Digits.{digits_value_more}
use Rattle.std.proofs.lemmas.List.{append-nil, length-append, length-replicate, take_all}
use Rattle.std.proofs.lemmas.List.Elements.{recursion_from_All}
use Rattle.std.proofs.lemmas.Nat.{mod-mul-add, pow-add}
use Rattle.std.proofs.lemmas.Str.{digit_value_digit}
use Rattle.std.proofs.lemmas.Str.Parse.{digit_at}
use Rattle.std.proofs.Math.Nat.{pow-succ', mul_left_comm, mul_assoc, add-mul}
use Rattle.cadence_value.specs.declared.decimal.read.ParseDecimalError.{ParseDecimalError}
use Rattle.cadence_value.specs.declared.decimal.read.ParseDecimalError.TheVariants.{NotANumber, TooManyPlaces, TooLarge}
use Rattle.cadence_value.specs.Digits.{joined_digits, signed_integer, digits_number, digits_text, dotted, ArePlain, AreSigned, EndsPlain, HasParts}
use Rattle.cadence_value.specs.Digits.{ReadsDigits}
use Rattle.cadence_value.specs.Number.{Number, number, decimal_text, number_text, is_lowest, IsDecimal}
use Rattle.cadence_value.specs.DenotedNumber.{Denotes, ReadsDecimal}
use Rattle.cadence_value.specs.PrintedNumber.{ReadsNatural, ReadsNumber}
use Rattle.cadence_value.proofs.lists.SplitTexts.{Lacks, lacks_no}
use Rattle.cadence_value.proofs.digits.Digits.{text_numeral}
use Rattle.cadence_value.proofs.digits.NumberText.{numeral, number_once, places_of, places_text-suc, unsigned_text}
use Rattle.cadence_value.proofs.reading.DigitRuns.{after_append, digits_join, digits_split, zeros_digits, zeros_value}
use Rattle.cadence_value.proofs.reading.DigitsRead.{text_of_digits, text_plain}
use Rattle.cadence_value.proofs.reading.NumberRead.{plain_text, has_dot, dot_sum, dotted_text, has_sign, not_below}
use Rattle.cadence_value.proofs.digits.PowersOfTen.{neg_product}

-- A signed number has the magnitude and the sign that it was made of.
pub abs_signed : (below : Bool) (n : ℕ) → unsigned_abs (signed_integer below n) ≡ n
abs_signed false n = refl
abs_signed true zero = refl
abs_signed true (suc n) = refl

pub side_signed : (below : Bool) (n : ℕ) → (below ≡ true → 0 < n) → is_negative (signed_integer below n) ≡ below
side_signed false n some = not_below n
side_signed true zero some = absurd (omega (arith, some refl))
side_signed true (suc n) some = refl

pub not_zero : (below : Bool) (n : ℕ) → ((below ≡ true) × (n ≡ 0 → ⊥)) ⊎ (below ≡ false) → below ≡ true → 0 < n
not_zero below zero (inl (_, other)) is = absurd (other refl)
not_zero below (suc n) (inl (_, other)) is = omega arith
not_zero below n (inr above) is = let bad : true ≡ false = sym is ∙ above in absurd cc

scaled : (below : Bool) (n y : ℕ) → signed_integer below (n * y) ≡ signed_integer below n *ℤ pos y
scaled false n y = refl
scaled true n y = sym (neg_product n y)

-- Digits without a needless zero are the digits that are written of their value.
whole_text : (w : List ℕ) → IsNumeral 10 w → (1 < length w → get_or w 0 0 ≢ 48) → decimal_text (digits_value 10 w) ≡ w
whole_text [] (some, digits) first = absurd (omega arith)
whole_text (d ∷ ds) (some, digits) first = text_of_digits d ds digits (λ e. one ds (λ more. first (omega arith) e))
  where
    one : (ds : List ℕ) → (0 < length ds → ⊥) → length ds ≡ 0
    one [] h = refl
    one (e ∷ es) h = absurd (h (omega arith))

size_whole : (w : List ℕ) → joined_digits w [] ≡ digits_value 10 w
size_whole w = omega arith

unsigned_shown : (w f : List ℕ) → ArePlain w f → unsigned_text (joined_digits w f) (length f) ≡ w ++ dotted f
unsigned_shown w [] plain =
    plain_text (joined_digits w []) ∙ ap decimal_text (size_whole w) ∙ whole_text w plain.whole plain.first ∙ sym (append-nil w)
unsigned_shown w (d ∷ ds) plain =
    dotted_text (digits_value 10 w) w (d ∷ ds) (whole_text w plain.whole plain.first) (omega arith, plain.fraction)

pub digits_shown : (below : Bool) (w f : List ℕ) → AreSigned below w f → number_text (digits_number below w f) ≡ digits_text below w f
digits_shown below w f h =
    ap₂ (λ b n. (if b then codes "-" else []) ++ unsigned_text n (length f)) (side_signed below (joined_digits w f) h.nonzero)
    (abs_signed below (joined_digits w f))
    ∙ ap (λ t. (if below then codes "-" else []) ++ t) (unsigned_shown w f h.plain)

-- A number's text has no needless zero in front.
numeral_first : (n : ℕ) (w : List ℕ) → decimal_text n ≡ w → 1 < length w → get_or w 0 0 ≢ 48
numeral_first n w e long zero_first =
    absurd (omega (arith, long, ap (λ t. length t) e, text_plain n (ap (λ t. get_or t 0 0) e ∙ zero_first)))

unsigned_dot : (n p : ℕ) (w f : List ℕ) → All (λ b. b ≢ 46) w → unsigned_text n p ≡ w ++ 46 ∷ f
    → ArePlain w f × (joined_digits w f ≡ n) × (0 < length f)
unsigned_dot n p w f plain e =
    let parts = has_dot n p w f plain e in
    let a = n / 10 ^ p in
    let same : digits_value 10 w ≡ a = ap (digits_value 10) (sym parts.whole) ∙ (text_numeral a).1 in (
      record { whole = subst (IsNumeral 10) parts.whole (numeral a); first = numeral_first a w parts.whole; fraction = parts.digits.1 },
      ap (λ x. x * 10 ^ length f + digits_value 10 f) same ∙ dot_sum n p a w f parts parts.whole,
      omega (arith, parts.some, parts.count),
    )

unsigned_whole : (n p : ℕ) (w : List ℕ) → All (λ b. b ≢ 46) w → unsigned_text n p ≡ w → ArePlain w [] × (joined_digits w [] ≡ n)
unsigned_whole n zero w plain e =
    let same : decimal_text n ≡ w = sym (plain_text n) ∙ e in (
      record { whole = subst (IsNumeral 10) same (numeral n); first = numeral_first n w same; fraction = tt },
      size_whole w ∙ ap (digits_value 10) (sym same) ∙ (text_numeral n).1,
    )
unsigned_whole n (suc q) w plain e =
    absurd (lacks_no 46 (decimal_text (n / 10 ^ suc q)) (places_of n (suc q)) (subst (Lacks 46) (sym e
    ∙ ap (λ t. decimal_text (n / 10 ^ suc q) ++ t) (places_text-suc n q)) (recursion_from_All (λ b. b ≢ 46) w plain)))

positive : (below : Bool) (z : ℤ) → is_negative z ≡ below → below ≡ true → 0 < unsigned_abs z
positive below (pos n) side is = let bad : false ≡ true = sym (not_below n) ∙ side ∙ is in absurd cc
positive below (negsuc n) side is = omega arith

-- If a number has these digits before the dot, they are plain and their value is the number. If no number of 128 bits has
-- them, they aren't both plain and of a value of 128 bits.
pub read_plain : (w f : List ℕ) (n : ℕ) → decimal_text n ≡ w → AllDigits 10 f → ArePlain w f × (digits_value 10 w ≡ n)
read_plain w f n e digits = (
  record { whole = subst (IsNumeral 10) e (numeral n); first = numeral_first n w e; fraction = digits },
  ap (digits_value 10) (sym e) ∙ (text_numeral n).1,
)

pub plain_whole : (w f : List ℕ) → ArePlain w f → digits_value 10 w < 2 ^ 128 → ReadsNatural w None → ⊥
plain_whole w f plain small none = none (digits_value 10 w) (small, whole_text w plain.whole plain.first)

pub signed_dot : (n : Number) (below : Bool) (w f unsigned text : List ℕ) → text ≡ (if below then codes "-" else []) ++ unsigned
    → (below ≡ false → get_or text 0 0 ≢ 45) → All (λ b. b ≢ 46) w → unsigned ≡ w ++ 46 ∷ f → number_text n ≡ text
    → AreSigned below w f × (0 < length f)
signed_dot n below w f unsigned text whole first plain cut e =
    let (side, rest) = has_sign below unsigned text n.mantissa n.places whole first e in
    let (digits, size, some) = unsigned_dot (unsigned_abs n.mantissa) n.places w f plain (rest ∙ cut) in
    (record { plain = digits; nonzero = λ is. omega (arith, size, positive below n.mantissa side is) }, some)

pub signed_whole : (n : Number) (below : Bool) (w text : List ℕ) → text ≡ (if below then codes "-" else []) ++ w
    → (below ≡ false → get_or text 0 0 ≢ 45) → All (λ b. b ≢ 46) w → number_text n ≡ text → AreSigned below w []
signed_whole n below w text whole first plain e =
    let (side, rest) = has_sign below w text n.mantissa n.places whole first e in
    let (digits, size) = unsigned_whole (unsigned_abs n.mantissa) n.places w plain rest in
    record { plain = digits; nonzero = λ is. omega (arith, size, positive below n.mantissa side is) }

pub dotted_some : (f : List ℕ) → 0 < length f → dotted f ≡ 46 ∷ f
dotted_some [] some = absurd (omega arith)
dotted_some (d ∷ ds) some = refl

pub whole_le : (w f : List ℕ) → digits_value 10 w ≤ joined_digits w f
whole_le w f = omega (arith, le_scaled (digits_value 10 w) (length f))
  where
    le_scaled : (a k : ℕ) → a ≤ a * 10 ^ k
    le_scaled a zero = omega arith
    le_scaled a (suc k) = omega (arith, le_scaled a k, ap (λ x. a * x) (pow-succ' 10 k), mul_left_comm a 10 (10 ^ k))

size_zeros : (w g : List ℕ) (k : ℕ) → joined_digits w (g ++ replicate k 48) ≡ joined_digits w g * 10 ^ k
size_zeros w g k =
    let a = digits_value 10 w in
    let count : length (g ++ replicate k 48) ≡ length g + k = length-append g (replicate k 48) ∙ ap (λ j. length g + j) (length-replicate k 48) in
    let power : 10 ^ length (g ++ replicate k 48) ≡ 10 ^ length g * 10 ^ k = ap (λ j. 10 ^ j) count ∙ pow-add 10 (length g) k in
    ap₂ (λ x y. a * x + y) power (after_append 0 g (replicate k 48) ∙ zeros_value (digits_value 10 g) k) ∙ ap (λ x. x + digits_value 10 g * 10 ^ k) (sym (mul_assoc a (10 ^ length g) (10 ^ k)))
    ∙ sym (add-mul (a * 10 ^ length g) (digits_value 10 g) (10 ^ k))

some_factor : (n y : ℕ) → 0 < n * y → 0 < n
some_factor zero y h = absurd (omega arith)
some_factor (suc n) y h = omega arith

some_product : (n k : ℕ) → 0 < n → 0 < n * 10 ^ k
some_product n zero h = omega arith
some_product n (suc k) h =
    omega (arith, some_product n k h, ap (λ x. n * x) (pow-succ' 10 k), mul_left_comm n 10 (10 ^ k))

signed_zeros : (below : Bool) (w g : List ℕ) (k : ℕ) → AreSigned below w g → AreSigned below w (g ++ replicate k 48)
signed_zeros below w g k h = record {
  plain = record { whole = h.plain.whole; first = h.plain.first; fraction = digits_join g (replicate k 48) h.plain.fraction (zeros_digits k) };
  nonzero = λ is. omega (arith, size_zeros w g k, some_product (joined_digits w g) k (h.nonzero is));
}

signed_cut : (below : Bool) (w g : List ℕ) (k : ℕ) → AreSigned below w (g ++ replicate k 48) → AreSigned below w g
signed_cut below w g k h = record {
  plain = record { whole = h.plain.whole; first = h.plain.first; fraction = (digits_split g (replicate k 48) h.plain.fraction).0 };
  nonzero = λ is. some_factor (joined_digits w g) (10 ^ k) (omega (arith, size_zeros w g k, h.nonzero is));
}

-- The last digit after the dot is the last one of the digits as one whole number.
last_rest : (w f : List ℕ) → AllDigits 10 f → 0 < length f → joined_digits w f % 10 + 48 ≡ get_or f (length f - 1) 0
last_rest w [] digits some = absurd (omega arith)
last_rest w (d ∷ ds) digits some =
    let k = length ds in
    let c = get_or (d ∷ ds) k 0 in
    let range = digit_at (d ∷ ds) k digits (omega arith) in
    let byte : digit_value c + 48 ≡ c = digit_value_digit c range in
    let whole : take (k + 1) (d ∷ ds) ≡ d ∷ ds = take_all (k + 1) (d ∷ ds) (omega arith) in
    let last : digits_value 10 (d ∷ ds) ≡ digits_value 10 (take k (d ∷ ds)) * 10 + digit_value c = ap (digits_value 10) (sym whole)
    ∙ digits_value_more 10 (d ∷ ds) k (omega arith) in
    let a = digits_value 10 w in
    let x = digits_value 10 (take k (d ∷ ds)) in
    let power : a * 10 ^ suc k ≡ a * 10 ^ k * 10 = omega (arith, ap (λ y. a * y) (pow-succ' 10 k), mul_left_comm a 10 (10 ^ k)) in
    let sum : joined_digits w (d ∷ ds) ≡ (a * 10 ^ k + x) * 10 + digit_value c = omega (arith, power, last) in
    let rest : joined_digits w (d ∷ ds) % 10 ≡ digit_value c = ap (λ y. y % 10) sum
    ∙ mod-mul-add (a * 10 ^ k + x) 10 (digit_value c) (omega (arith, byte, range.1)) in
    let at : length (d ∷ ds) - 1 ≡ k = omega arith in
    omega (arith, rest, byte, ap (λ j. get_or (d ∷ ds) j 0) at)

-- If the last digit after the dot is not 0, the digits as one whole number are not a multiple of ten.
last_digit : (w f : List ℕ) → AllDigits 10 f → EndsPlain f → 0 < length f → (joined_digits w f % 10 ≡ 0 → ⊥)
last_digit w f digits ends some none = ends some (omega (arith, last_rest w f digits some, none))

pub some_size : (w f : List ℕ) → ArePlain w f → EndsPlain f → 0 < length f → 0 < joined_digits w f
some_size w f plain ends some = at (joined_digits w f) (last_digit w f plain.fraction ends some)
  where
    at : (n : ℕ) → (n % 10 ≡ 0 → ⊥) → 0 < n
    at zero h = absurd (h (omega arith))
    at (suc n) h = omega arith

pub ends_lowest : (below : Bool) (w f : List ℕ) → ArePlain w f → EndsPlain f → is_lowest (signed_integer below (joined_digits w f)) (length f) ≡ true
ends_lowest below w [] plain ends = refl
ends_lowest below w (d ∷ ds) plain ends =
    let n = joined_digits w (d ∷ ds) in
    let some : eqb (length (d ∷ ds)) 0 ≡ false = ne_eqb (length (d ∷ ds)) 0 (λ e. omega arith) in
    let other : eqb (unsigned_abs (signed_integer below n) % 10) 0 ≡ false =
    ne_eqb _ 0 (λ e. last_digit w (d ∷ ds) plain.fraction ends (omega arith) (ap (λ m. m % 10) (sym (abs_signed below n))
    ∙ e)) in
    ap₂ (λ a b. a || not b) some other

-- Digits, with or without zeros at the end of the places, denote the same number.
pub says_digits : (below : Bool) (w f g text : List ℕ) (k : ℕ) → f ≡ g ++ replicate k 48 → EndsPlain g → AreSigned below w g
    → digits_text below w f ≡ text → Denotes text (digits_number below w g)
says_digits below w f g text k zeros ends signed e =
    let size : joined_digits w f ≡ joined_digits w g * 10 ^ k = ap (joined_digits w) zeros ∙ size_zeros w g k in
    let count : length f - length g ≡ k = omega (arith, ap (λ t. length t) zeros, length-append g (replicate k 48), length-replicate {A = ℕ} k 48) in
    let all : AreSigned below w f = subst (AreSigned below w) (sym zeros) (signed_zeros below w g k signed) in
    record {
      mantissa = signed_integer below (joined_digits w f);
      places = length f;
      shown = digits_shown below w f all ∙ e;
      lowest = record {
        fewer = omega (arith, ap (λ t. length t) zeros, length-append g (replicate k 48));
        same = ap (signed_integer below) size ∙ scaled below (joined_digits w g) (10 ^ k)
            ∙ ap (λ j. signed_integer below (joined_digits w g) *ℤ pos (10 ^ j)) (sym count);
        lowest = ends_lowest below w g signed.plain ends;
      };
    }

pub reads_text : (below : Bool) (w f g text : List ℕ) (k : ℕ) (r : Result Number ParseDecimalError) → f ≡ g ++ replicate k 48 → EndsPlain g
    → HasParts text below w f → ReadsDigits below w g r → ReadsDecimal text r
reads_text below w f g text k (Ok n) zeros ends parts (signed, decimal, same) =
    (decimal, subst (Denotes text) (sym same) (says_digits below w f g text k zeros ends signed parts.shown))
reads_text below w f g text k (Err NotANumber) zeros ends parts none = λ n said.
    none (signed_cut below w g k (subst (AreSigned below w) zeros (parts.only (number said.mantissa said.places) said.shown)))
reads_text below w f g text k (Err TooManyPlaces) zeros ends parts (signed, many) =
    (digits_number below w g, says_digits below w f g text k zeros ends signed parts.shown, many)
reads_text below w f g text k (Err TooLarge) zeros ends parts (signed, few, large) =
    (digits_number below w g, says_digits below w f g text k zeros ends signed parts.shown, few, large)

-- The last decimal place of a lowest form is not 0.
pub last_place : (z : ℤ) (p : ℕ) → 0 < p → is_lowest z p ≡ true → unsigned_abs z % 10 ≡ 0 → ⊥
last_place z p some lowest none =
    let no_whole : eqb p 0 ≡ false = ne_eqb p 0 (λ e. omega (arith, e, some)) in
    let both : (false || not (eqb 0 0)) ≡ true = ap₂ (λ a n. a || not (eqb n 0)) (sym no_whole) (sym none) ∙ lowest in
    absurd cc

module _ (text : List ℕ) (below : Bool) (w f : List ℕ) (parts : HasParts text below w f) (n : Number) (is : IsDecimal n)
    (e : number_text n ≡ text) where
  -- A number that prints as the text is the one that the parts denote.
  same_number : n ≡ digits_number below w f
  same_number = number_once n (digits_number below w f) (e ∙ sym parts.shown ∙ sym (digits_shown below w f (parts.only n e)))

  -- The text of a decimal has no zero at the end of its places.
  pub printed_plain : EndsPlain f
  printed_plain some zero_last =
      let last : joined_digits w f % 10 ≡ 0 = omega (arith, last_rest w f (parts.only n e).plain.fraction some, zero_last) in
      let lowest : is_lowest (signed_integer below (joined_digits w f)) (length f) ≡ true =
      ap (λ m. is_lowest m.mantissa m.places) (sym same_number) ∙ is.lowest in
      last_place (signed_integer below (joined_digits w f)) (length f) some lowest (ap (λ m. m % 10) (abs_signed below (joined_digits w f)) ∙ last)

  -- If there is a reason why no decimal has the digits, no decimal prints as the text.
  none_printed : (why : ParseDecimalError) → ReadsDigits below w f (Err why) → ⊥
  none_printed NotANumber none = none (parts.only n e)
  none_printed TooManyPlaces (signed, many) = absurd (omega (arith, is.places, many, ap (λ m. m.places) same_number))
  none_printed TooLarge (signed, few, large) = large (subst (λ m. FitsSigned w128 m.mantissa) same_number is.mantissa)

-- The digits of a text are read as the decimal that prints as the text.
pub printed : (text : List ℕ) (below : Bool) (w f : List ℕ) (r : Result Number ParseDecimalError) → HasParts text below w f
    → ReadsDigits below w f r → ReadsNumber text (result_ok r)
printed text below w f (Ok n) parts (signed, decimal, same) = (decimal, ap number_text same ∙ digits_shown below w f signed ∙ parts.shown)
printed text below w f (Err why) parts none = λ n is. none_printed text below w f parts n is.0 is.1 why none
