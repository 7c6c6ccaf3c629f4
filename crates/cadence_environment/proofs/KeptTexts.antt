-- External data: bytes that stay are the bytes of the characters that stay, and can be the text of a field.
use Rattle.std.proofs.Common.{◌≡◌, ◌∙◌, ◌==◌, ◌<◌, ◌≤◌, ◌⊎◌, ◌∷◌, ◌++◌, [], ℕ, Bool, true, false, List, ap, cond, inl, inr, length, get_or, refl, subst, suc, sym, arith}
use Rattle.std.specs.Prelude.{filter, not}
use Rattle.std.specs.Char.{is_ascii_control}
use Rattle.std.specs.List.{list_all}
use Rattle.std.proofs.Math.Utf8.{encode, encodes}
use Rattle.std.proofs.lemmas.Bool.{and_from, and_parts, cases_lt, ne_eqb}
use Rattle.std.proofs.lemmas.Bool.Decides.{nat_tests}
use Rattle.std.proofs.lemmas.List.{append-nil}
use Rattle.std.proofs.lemmas.List.Elements.{filter-append}
use Rattle.std.proofs.lemmas.Str.{encode_ascii, inside_one}
use Rattle.cadence_text.specs.FreeTexts.{ends_no_field, is_field_text}
use Rattle.cadence_environment.specs.ExternalData.{external_of, stays}

-- A byte that stays ends no field.
stays_inside : (b : ℕ) → stays b ≡ true → ends_no_field b ≡ true
unfolding ends_no_field
stays_inside b h =
    let (bar, other) = and_parts (not (b == 124)) (not (is_ascii_control b)) h in
    let newline : b ≡ 10 → false ≡ true = λ e. subst (λ x. not (is_ascii_control x) ≡ true) e other in
    and_from (not (b == 124)) (not (b == 10)) bar (ap not (ne_eqb b 10 (λ e. let wrong : false ≡ true = newline e in absurd cc)))

one_kept : (s : Bool) (b : ℕ) (kept : List ℕ) → (s ≡ true → ends_no_field b ≡ true) → list_all ends_no_field kept ≡ true
    → list_all ends_no_field (cond s (b ∷ kept) kept) ≡ true
one_kept true b kept f h = and_from (ends_no_field b) (list_all ends_no_field kept) (f refl) h
one_kept false b kept f h = h

all_kept : (text : List ℕ) → list_all ends_no_field (filter stays text) ≡ true
all_kept [] = refl
all_kept (b ∷ text) = one_kept (stays b) b (filter stays text) (stays_inside b) (all_kept text)

-- What stays can be the text of a field.
pub external_is_field : (text : List ℕ) → is_field_text (external_of text) ≡ true
unfolding is_field_text
external_is_field text = all_kept text

-- A byte that isn't ASCII stays.
high_stays : (b : ℕ) → 128 ≤ b → stays b ≡ true
high_stays b h = grind (arith, nat_tests)

-- A list of such bytes stays as it is.
high_all : (bs : List ℕ) → ((k : ℕ) → k < length bs → 128 ≤ get_or bs k 0) → filter stays bs ≡ bs
high_all [] high = refl
high_all (b ∷ bs) high =
    ap (λ s. cond s (b ∷ filter stays bs) (filter stays bs)) (high_stays b (high 0 (omega arith)))
    ∙ ap (λ t. b ∷ t) (high_all bs (λ k inside. high (suc k) (omega arith)))

at_least : (c : ℕ) → 128 ≤ c → (k : ℕ) → ((get_or (encode c) k 0 < 128) ⊎ (128 ≤ get_or (encode c) k 0)) → k < length (encode c)
    → 128 ≤ get_or (encode c) k 0
at_least c h k (inl low) inside =
    let same : c ≡ get_or (encode c) k 0 = inside_one c [] (encode c) k (sym (append-nil (encode c))) inside low in
    absurd (omega (arith, same, low, h))
at_least c h k (inr high) inside = high

-- The bytes of a character all stay, or none does.
one_character : (c : ℕ) → ((c < 128) ⊎ (128 ≤ c)) → filter stays (encode c) ≡ cond (stays c) (encode c) []
one_character c (inl low) = subst (λ t. filter stays t ≡ cond (stays c) t []) (sym (encode_ascii c low)) refl
one_character c (inr high) =
    high_all (encode c) (λ k inside. at_least c high k (cases_lt (get_or (encode c) k 0) 128) inside)
    ∙ sym (ap (λ s. cond s (encode c) []) (high_stays c high))

one_more : (s : Bool) (c : ℕ) (cs : List ℕ) → cond s (encode c) [] ++ encodes cs ≡ encodes (cond s (c ∷ cs) cs)
one_more true c cs = refl
one_more false c cs = refl

-- The bytes that stay are those of the characters that stay.
pub filter-encodes : (cs : List ℕ) → filter stays (encodes cs) ≡ encodes (filter stays cs)
filter-encodes [] = refl
filter-encodes (c ∷ cs) =
    filter-append stays (encode c) (encodes cs)
    ∙ ap (λ t. t ++ filter stays (encodes cs)) (one_character c (cases_lt c 128))
    ∙ ap (λ t. cond (stays c) (encode c) [] ++ t) (filter-encodes cs)
    ∙ one_more (stays c) c (filter stays cs)
