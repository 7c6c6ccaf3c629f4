-- Texts that split in one way only: at the first element that fails a test, at the first separator, or at every
-- separator.
use Rattle.std.proofs.Common.{◌≡◌, ◌≢◌, ℕ, List, [], ◌∷◌, ◌++◌, Bool, true, false, refl, sym, ap, ◌∙◌, eqb, not, map}
use Rattle.std.specs.List.{AllByRecursion, join_with_byte}
use Rattle.std.proofs.lemmas.List.{append-nil}
use Rattle.std.proofs.lemmas.Bool.{not_from_true, not_from_false, ne_eqb, eq-eqb}

-- The list is empty, or its first element fails the test.
abbrev pub Stops : {X : Type 0} → (X → Bool) → List X → Type 0
Stops p [] = Unit {0}
Stops p (x ∷ xs) = p x ≡ false

abbrev pub Passes : {X : Type 0} → (X → Bool) → List X → Type 0
Passes p xs = AllByRecursion (λ x. p x ≡ true) xs

-- A list splits in one way into a front that passes the test and a rest that begins with an element that fails it.
pub cut_once : {X : Type 0} (p : X → Bool) (xs ys s t : List X) → Passes p xs → Passes p ys → Stops p s → Stops p t → xs ++ s ≡ ys ++ t
    → (xs ≡ ys) × (s ≡ t)
cut_once p [] [] s t px py ps pt e = (refl, e)
cut_once p [] (y ∷ ys) [] t px py ps pt e = absurd cc
cut_once p [] (y ∷ ys) (a ∷ s) t px py ps pt e = absurd (let h : a ≡ y = cc in let k : true ≡ false = sym (py.0) ∙ ap p (sym h) ∙ ps in cc)
cut_once p (x ∷ xs) [] s [] px py ps pt e = absurd cc
cut_once p (x ∷ xs) [] s (b ∷ t) px py ps pt e = absurd (let h : x ≡ b = cc in let k : true ≡ false = sym (px.0) ∙ ap p h ∙ pt in cc)
cut_once p (x ∷ xs) (y ∷ ys) s t px py ps pt e =
    let head : x ≡ y = cc in
    let rest : xs ++ s ≡ ys ++ t = cc in
    let (same, tail) = cut_once p xs ys s t px.1 py.1 ps pt rest in
    (cc, tail)

-- No element is `c`.
abbrev pub Lacks : ℕ → List ℕ → Type 0
Lacks c xs = AllByRecursion (λ b. b ≢ c) xs

-- The list is empty or begins with `c`.
abbrev pub Begins : ℕ → List ℕ → Type 0
Begins c [] = Unit {0}
Begins c (x ∷ xs) = x ≡ c

passes_lacks : (c : ℕ) (xs : List ℕ) → Lacks c xs → Passes (λ b. not (eqb b c)) xs
passes_lacks c [] h = tt
passes_lacks c (x ∷ xs) (h, hs) = (not_from_false (eqb x c) (ne_eqb x c h), passes_lacks c xs hs)

stops_begins : (c : ℕ) (xs : List ℕ) → Begins c xs → Stops (λ b. not (eqb b c)) xs
stops_begins c [] h = tt
stops_begins c (x ∷ xs) h = not_from_true (eqb x c) (eq-eqb x c h)

-- A list splits in one way at its first `c`.
pub cut_at : (c : ℕ) (xs ys s t : List ℕ) → Lacks c xs → Lacks c ys → Begins c s → Begins c t → xs ++ s ≡ ys ++ t → (xs ≡ ys) × (s ≡ t)
cut_at c xs ys s t hx hy hs ht e =
    cut_once (λ b. not (eqb b c)) xs ys s t (passes_lacks c xs hx) (passes_lacks c ys hy) (stops_begins c s hs) (stops_begins c t ht) e

pub lacks_no : (c : ℕ) (s t : List ℕ) → Lacks c (s ++ (c ∷ t)) → ⊥
lacks_no c [] t h = h.0 refl
lacks_no c (a ∷ s) t h = lacks_no c s t h.1

-- A list splits in one way into pieces without `c` that are joined by `c`, if there is at least one piece.
pub join_once : (c : ℕ) (x y : List ℕ) (xs ys : List (List ℕ)) → AllByRecursion (Lacks c) (x ∷ xs) → AllByRecursion (Lacks c) (y ∷ ys)
    → join_with_byte c (x ∷ xs) ≡ join_with_byte c (y ∷ ys) → ◌≡◌ {A = List (List ℕ)} (x ∷ xs) (y ∷ ys)
join_once c x y [] [] hx hy e = cc
join_once c x y [] (y' ∷ ys) hx hy e =
    let (same, rest) = cut_at c x y [] (c ∷ join_with_byte c (y' ∷ ys)) hx.0 hy.0 tt refl (append-nil x ∙ e) in absurd cc
join_once c x y (x' ∷ xs) [] hx hy e =
    let (same, rest) = cut_at c x y (c ∷ join_with_byte c (x' ∷ xs)) [] hx.0 hy.0 refl tt (e ∙ sym (append-nil y)) in absurd cc
join_once c x y (x' ∷ xs) (y' ∷ ys) (hx, hxs) (hy, hys) e =
    let (same, rest) = cut_at c x y (c ∷ join_with_byte c (x' ∷ xs)) (c ∷ join_with_byte c (y' ∷ ys)) hx hy refl refl e in
    let tail : join_with_byte c (x' ∷ xs) ≡ join_with_byte c (y' ∷ ys) = cc in
    let pieces : ◌≡◌ {A = List (List ℕ)} (x' ∷ xs) (y' ∷ ys) = join_once c x' y' xs ys hxs hys tail in
    cc

-- If a function gives different results for different good values, mapping it over lists of good values does so too.
pub map_once : {X Y : Type 0} (Good : X → Type 0) (f : X → Y) → ((a b : X) → Good a → Good b → f a ≡ f b → a ≡ b) → (xs ys : List X)
    → AllByRecursion Good xs → AllByRecursion Good ys → map f xs ≡ map f ys → xs ≡ ys
map_once Good f once [] [] hx hy e = refl
map_once Good f once [] (y ∷ ys) hx hy e = absurd cc
map_once Good f once (x ∷ xs) [] hx hy e = absurd cc
map_once Good f once (x ∷ xs) (y ∷ ys) (hx, hxs) (hy, hys) e =
    let head : f x ≡ f y = cc in
    let tail : map f xs ≡ map f ys = cc in
    let same : x ≡ y = once x y hx hy head in
    let rest : xs ≡ ys = map_once Good f once xs ys hxs hys tail in
    cc

pub each_weaker : {X : Type 0} (P Q : X → Type 0) → ((x : X) → P x → Q x) → (xs : List X) → AllByRecursion P xs → AllByRecursion Q xs
each_weaker P Q weaker [] h = tt
each_weaker P Q weaker (x ∷ xs) (h, hs) = (weaker x h, each_weaker P Q weaker xs hs)

pub each_mapped : {X Y : Type 0} (f : X → Y) (P : X → Type 0) (Q : Y → Type 0) → ((x : X) → P x → Q (f x)) → (xs : List X)
    → AllByRecursion P xs → AllByRecursion Q (map f xs)
each_mapped f P Q gives [] h = tt
each_mapped f P Q gives (x ∷ xs) (h, hs) = (gives x h, each_mapped f P Q gives xs hs)

pub each_image : {X Y : Type 0} (f : X → Y) (Q : Y → Type 0) → ((x : X) → Q (f x)) → (xs : List X) → AllByRecursion Q (map f xs)
each_image f Q gives [] = tt
each_image f Q gives (x ∷ xs) = (gives x, each_image f Q gives xs)

pub each_append : {X : Type 0} (P : X → Type 0) (xs ys : List X) → AllByRecursion P xs → AllByRecursion P ys → AllByRecursion P (xs ++ ys)
each_append P [] ys hx hy = hy
each_append P (x ∷ xs) ys (h, hx) hy = (h, each_append P xs ys hx hy)

-- If the separator and each byte of the pieces have a property, each byte of the joined pieces has it.
pub each_joined : (P : ℕ → Type 0) (c : ℕ) → P c → (xs : List (List ℕ)) → AllByRecursion (AllByRecursion P) xs
    → AllByRecursion P (join_with_byte c xs)
each_joined P c h [] hx = tt
each_joined P c h (x ∷ []) (hx, hxs) = hx
each_joined P c h (x ∷ y ∷ xs) (hx, hxs) = each_append P x (c ∷ join_with_byte c (y ∷ xs)) hx (h, each_joined P c h (y ∷ xs) hxs)
