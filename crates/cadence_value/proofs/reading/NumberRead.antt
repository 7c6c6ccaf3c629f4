-- Reading a number's text: the sign, the whole part and the digits after the dot are determined by the text.
use Rattle.std.proofs.Common.{◌≡◌, ◌≢◌, ℕ, zero, suc, ◌+◌, ◌-◌, ◌*◌, ◌/◌, ◌%◌, ◌^◌, ◌<◌, ◌≤◌, ℤ, pos, negsuc, List, [], ◌∷◌, ◌++◌, length}
use Rattle.std.proofs.Common.{refl, sym, ap, ◌∙◌, ap₂, subst, arith, get_or, unsigned_abs, Bool, true, false}
use Rattle.std.specs.Prelude.{All, FitsSigned, codes, if◌then◌else◌}
use Rattle.std.specs.Int.{is_negative}
use Rattle.std.specs.Str.Parse.{digits_value, AllDigits, IsNumeral}
use mir.Syntax.{w128}
use Rattle.std.proofs.lemmas.Grind.{common_steps}
use Rattle.std.proofs.lemmas.Int.Digits.{digits_value-lt}
use Rattle.std.proofs.lemmas.List.{append-nil}
use Rattle.std.proofs.lemmas.List.Elements.{recursion_from_All}
use Rattle.std.proofs.lemmas.Nat.{div-mul-add, mod-mul-add, div-add-mod'}
use Rattle.std.proofs.lemmas.Str.Parse.{digit_from_value}
use Rattle.cadence_value.specs.Number.{decimal_text, places_text, padded_digits}
use Rattle.cadence_value.proofs.lists.SplitTexts.{Lacks, lacks_no, cut_at}
use Rattle.cadence_value.proofs.digits.Digits.{decimal_text_once}
use Rattle.cadence_value.proofs.digits.NumberText.{numeral, places_of, places_text-suc, length-places_of, places_value, digits_zeros, sign}
use Rattle.cadence_value.proofs.digits.NumberText.{sign-pos, no_minus, unsigned_text}
use Rattle.cadence_value.proofs.reading.DigitsRead.{filled_digits}

digits_lack_dot : (ds : List ℕ) → AllDigits 10 ds → Lacks 46 ds
digits_lack_dot [] h = tt
digits_lack_dot (d ∷ ds) (h, hs) = ((λ e. absurd (omega (arith, (digit_from_value d h).0))), digits_lack_dot ds hs)

-- The text of a magnitude without places is the digits of the whole number.
pub plain_text : (n : ℕ) → unsigned_text n 0 ≡ decimal_text n
plain_text n = let one : n / 10 ^ 0 ≡ n = omega arith in append-nil (decimal_text (n / 10 ^ 0)) ∙ ap decimal_text one

-- The magnitude `n` has `p` places, `w` is the text of its whole part, and `f` has its digits after the dot.
pub record HasDot (n p : ℕ) (w f : List ℕ) : Type 0 where
  pub some : 0 < p
  pub count : length f ≡ p
  pub whole : decimal_text (n / 10 ^ p) ≡ w
  pub digits : IsNumeral 10 f
  pub value : digits_value 10 f ≡ n % 10 ^ p

pub has_dot : (n p : ℕ) (w f : List ℕ) → All (λ b. b ≢ 46) w → unsigned_text n p ≡ w ++ 46 ∷ f → HasDot n p w f
has_dot n zero w f plain e =
    absurd (lacks_no 46 w f (subst (Lacks 46) (sym (plain_text n) ∙ e) (digits_lack_dot (decimal_text n) (numeral n).1)))
has_dot n (suc q) w f plain e =
    let p = suc q in
    let front : AllDigits 10 (decimal_text (n / 10 ^ p)) = (numeral (n / 10 ^ p)).1 in
    let text : decimal_text (n / 10 ^ p) ++ (46 ∷ places_of n p) ≡ w ++ (46 ∷ f) =
    ap (λ t. decimal_text (n / 10 ^ p) ++ t) (sym (places_text-suc n q))
    ∙ e in
    let (whole, rest) =
    cut_at 46 (decimal_text (n / 10 ^ p)) w (46 ∷ places_of n p) (46 ∷ f) (digits_lack_dot (decimal_text (n / 10 ^ p)) front)
    (recursion_from_All (λ b. b ≢ 46) w plain) refl refl text in
    let places : places_of n p ≡ f = cc rest in
    let count : length f ≡ p = ap (λ t. length t) (sym places) ∙ length-places_of n q in
    let digits : AllDigits 10 (places_of n p) =
    digits_zeros (p - length (decimal_text (n % 10 ^ p))) (decimal_text (n % 10 ^ p)) (numeral (n % 10 ^ p)).1 in
    record {
      some = omega arith;
      count = count;
      whole = whole;
      digits = (omega (arith, count), subst (AllDigits 10) places digits);
      value = ap (digits_value 10) (sym places) ∙ places_value n p;
    }

-- The whole part and the digits after the dot add up to the number.
pub dot_sum : (n p a : ℕ) (w f : List ℕ) → HasDot n p w f → decimal_text a ≡ w → a * 10 ^ length f + digits_value 10 f ≡ n
dot_sum n p a w f parts e =
    let same : a ≡ n / 10 ^ p = decimal_text_once a (n / 10 ^ p) (e ∙ sym parts.whole) in
    ap₂ (λ x k. x * 10 ^ k + digits_value 10 f) same parts.count ∙ ap (λ x. n / 10 ^ p * 10 ^ p + x) parts.value ∙ div-add-mod' n (10 ^ p)

pub dotted_text : (a : ℕ) (w f : List ℕ) → decimal_text a ≡ w → IsNumeral 10 f
    → unsigned_text (a * 10 ^ length f + digits_value 10 f) (length f) ≡ w ++ 46 ∷ f
dotted_text a w [] e (some, digits) = absurd (omega arith)
dotted_text a w (d ∷ ds) e (some, digits) =
    let p = length (d ∷ ds) in
    let v = digits_value 10 (d ∷ ds) in
    let n = a * 10 ^ length (d ∷ ds) + digits_value 10 (d ∷ ds) in
    let small : v < 10 ^ p = digits_value-lt 10 (d ∷ ds) digits in
    let whole : n / 10 ^ p ≡ a = div-mul-add a (10 ^ p) v small in
    let rest : n % 10 ^ p ≡ v = mod-mul-add a (10 ^ p) v small in
    ap₂ (λ x t. decimal_text x ++ t) whole (places_text-suc n (length ds) ∙ ap (λ x. 46 ∷ padded_digits (length (d ∷ ds)) (decimal_text x)) rest
    ∙ ap (λ t. 46 ∷ t) (filled_digits (d ∷ ds) digits some))
    ∙ ap (λ t. t ++ (46 ∷ d ∷ ds)) e

pub fits_size : (z : ℤ) → FitsSigned w128 z → unsigned_abs z ≤ 2 ^ 127
fits_size (pos n) h = omega (arith, h.sfits)
fits_size (negsuc n) h = omega (arith, h.sfits)

pub not_below : (n : ℕ) → is_negative (pos n) ≡ false
not_below n = grind (arith, common_steps)

-- A number's text is a minus or nothing, and then the text of its magnitude.
pub has_sign : (below : Bool) (digits text : List ℕ) (z : ℤ) (p : ℕ) → text ≡ (if below then codes "-" else []) ++ digits
    → (below ≡ false → get_or text 0 0 ≢ 45) → sign z ++ unsigned_text (unsigned_abs z) p ≡ text
    → (is_negative z ≡ below) × (unsigned_text (unsigned_abs z) p ≡ digits)
has_sign true digits text (pos n) p whole first e =
    absurd (no_minus (decimal_text (n / 10 ^ p)) (places_text n p) digits (numeral (n / 10 ^ p)) (ap (λ t. t ++ unsigned_text n p) (sym (sign-pos n))
    ∙ e ∙ whole))
has_sign true digits text (negsuc n) p whole first e =
    let rest : unsigned_text (suc n) p ≡ digits = cc in
    (refl, rest)
has_sign false digits text (pos n) p whole first e =
    (not_below n, ap (λ t. t ++ unsigned_text n p) (sym (sign-pos n)) ∙ e ∙ whole)
has_sign false digits text (negsuc n) p whole first e =
    absurd (first refl (ap (λ t. get_or t 0 0) (sym e)))
