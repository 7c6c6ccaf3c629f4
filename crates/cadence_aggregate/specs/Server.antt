-- What a server knows after it read lines: for each counter its total, for each gauge its value, for each set its
-- members, for each timer how often each value came, and every other line as it came.
use Rattle.std.specs.Prelude.{◌≡◌, ◌==◌, ◌≤◌, ◌+◌, length, count_by, nat_eq, nat_lt, ℕ, ℤ, pos, ◌+ℤ◌, Bool, true, false, not, ◌||◌, ◌&&◌, if◌then◌else◌, List, [], ◌∷◌, ◌++◌}
use Rattle.std.specs.Cmp.Lexicographic.{pointwise}
use Rattle.std.specs.List.{slice_split}

-- What a line says. A context is a line without its values, so it has the name, the kind and all other fields.
-- `amount`: the counter of this context is raised by this number. `level`: the gauge of this context has this value.
-- `member`: this line is of a member of a set. `timing`: the timer, histogram or distribution of this context has these
-- values, with a colon between each two. `unclear`: a line that may set a gauge, though nothing says which one, or to what.
-- `other`: any other line.
pub data Sample : Type 0 where
  amount : List ℕ → ℤ → Sample
  level : List ℕ → List ℕ → Sample
  member : List ℕ → Sample
  timing : List ℕ → List ℕ → Sample
  unclear : List ℕ → Sample
  other : List ℕ → Sample

-- whether the value of a gauge is plain: it begins with a digit. A server may read a value with a sign as a change.
abbrev pub is_plain : List ℕ → Bool
is_plain [] = false
is_plain (first ∷ text) = not (nat_lt first 48) && nat_lt first 58

-- What may set a gauge. `set_to`: a line of this gauge, with this value. `set_by`: this line, which may be one of any gauge.
pub data Setting : Type 0 where
  set_to : List ℕ → Setting
  set_by : List ℕ → Setting

-- whether what the gauge was before no longer matters
abbrev pub replaces : Setting → Bool
replaces (set_to value) = is_plain value
replaces (set_by line) = false

-- the settings of a gauge after later ones: those replace the earlier ones if they begin with a plain value, and come
-- after them otherwise
abbrev pub later : List Setting → List Setting → List Setting
later first [] = first
later first (setting ∷ settings) = if replaces setting then setting ∷ settings else first ++ setting ∷ settings

-- the values of a timer's text
abbrev pub values_in : List ℕ → List (List ℕ)
values_in text = slice_split (λ byte. byte == 58) text

-- how often the text has this value
abbrev pub times_in : List ℕ → List ℕ → ℕ
times_in x text = count_by (pointwise nat_eq x) (values_in text)

-- What a server knows, after these lines, of the contexts that it takes for one. A server may take several contexts for
-- one, for example two that have the same tags in another order.
module _ (ours : List ℕ → Bool) where
  -- by how much the counter was raised
  abbrev pub total : List Sample → ℤ
  total [] = pos 0
  total (amount c n ∷ xs) = (if ours c then n else pos 0) +ℤ total xs
  total (level c v ∷ xs) = total xs
  total (member c ∷ xs) = total xs
  total (timing c t ∷ xs) = total xs
  total (unclear l ∷ xs) = total xs
  total (other l ∷ xs) = total xs

  -- whether the counter was raised at all, be it by 0
  abbrev pub has_amount : List Sample → Bool
  has_amount [] = false
  has_amount (amount c n ∷ xs) = ours c || has_amount xs
  has_amount (level c v ∷ xs) = has_amount xs
  has_amount (member c ∷ xs) = has_amount xs
  has_amount (timing c t ∷ xs) = has_amount xs
  has_amount (unclear l ∷ xs) = has_amount xs
  has_amount (other l ∷ xs) = has_amount xs

  -- what may have set the gauge, from its last plain value on
  abbrev pub gauge : List Sample → List Setting
  gauge [] = []
  gauge (amount c n ∷ xs) = gauge xs
  gauge (level c v ∷ xs) = later (if ours c then set_to v ∷ [] else []) (gauge xs)
  gauge (member c ∷ xs) = gauge xs
  gauge (timing c t ∷ xs) = gauge xs
  gauge (unclear l ∷ xs) = later (set_by l ∷ []) (gauge xs)
  gauge (other l ∷ xs) = gauge xs

  -- whether the set has one of these members
  abbrev pub has_member : List Sample → Bool
  has_member [] = false
  has_member (amount c n ∷ xs) = has_member xs
  has_member (level c v ∷ xs) = has_member xs
  has_member (member c ∷ xs) = ours c || has_member xs
  has_member (timing c t ∷ xs) = has_member xs
  has_member (unclear l ∷ xs) = has_member xs
  has_member (other l ∷ xs) = has_member xs

  -- how often the timer has this value
  abbrev pub times : List ℕ → List Sample → ℕ
  times x [] = 0
  times x (amount c n ∷ xs) = times x xs
  times x (level c v ∷ xs) = times x xs
  times x (member c ∷ xs) = times x xs
  times x (timing c t ∷ xs) = (if ours c then times_in x t else 0) + times x xs
  times x (unclear l ∷ xs) = times x xs
  times x (other l ∷ xs) = times x xs

-- whether a gauge was set to a value that passes a test of its context and of the value
abbrev pub has_level : (List ℕ → List ℕ → Bool) → List Sample → Bool
has_level passes [] = false
has_level passes (amount c n ∷ xs) = has_level passes xs
has_level passes (level c v ∷ xs) = passes c v || has_level passes xs
has_level passes (member c ∷ xs) = has_level passes xs
has_level passes (timing c t ∷ xs) = has_level passes xs
has_level passes (unclear l ∷ xs) = has_level passes xs
has_level passes (other l ∷ xs) = has_level passes xs

-- the other lines, and those that may set a gauge, in order
abbrev pub others : List Sample → List Sample
others [] = []
others (amount c n ∷ xs) = others xs
others (level c v ∷ xs) = others xs
others (member c ∷ xs) = others xs
others (timing c t ∷ xs) = others xs
others (unclear l ∷ xs) = unclear l ∷ others xs
others (other l ∷ xs) = other l ∷ others xs

-- The second list may be sent in place of the first: a server knows the same after both, whatever contexts it takes for
-- one, and whichever gauge it takes an unclear line to set. The second has no value of a gauge that the first doesn't
-- have, and no more lines.
pub record IsSummary (xs ys : List Sample) : Type 0 where
  pub totals : (ours : List ℕ → Bool) → total ours xs ≡ total ours ys
  pub counters : (ours : List ℕ → Bool) → has_amount ours xs ≡ has_amount ours ys
  pub gauges : (ours : List ℕ → Bool) → gauge ours xs ≡ gauge ours ys
  pub members : (ours : List ℕ → Bool) → has_member ours xs ≡ has_member ours ys
  pub timings : (ours : List ℕ → Bool) (x : List ℕ) → times ours x xs ≡ times ours x ys
  pub rest : others xs ≡ others ys
  pub values : (passes : List ℕ → List ℕ → Bool) → has_level passes ys ≡ true → has_level passes xs ≡ true
  pub fewer : length ys ≤ length xs
