-- A context cut at its first bar, and the line in which values are put there.
use Rattle.std.proofs.Common.{◌≡◌, ℕ, ℤ, ◌+◌, List, [], ◌∷◌, ◌++◌, length, take, drop, true, false, cond, eqb, refl, sym, ap, ap₂, ◌∙◌, arith}
use Rattle.std.proofs.lemmas.Bool.{ne_eqb}
use Rattle.std.proofs.lemmas.List.{append-nil, take_at, drop_at, drop-drop}
use Rattle.cadence_value.proofs.lists.SplitTexts.{Lacks}
use Rattle.cadence_aggregate.specs.Server.{amount, level, timing}
use Rattle.cadence_read.specs.Cuts.{AreFields}
use Rattle.cadence_value.specs.Number.{number_text, whole}
use Rattle.cadence_aggregating.specs.Noted.{around, within, noted}
use Rattle.cadence_aggregating.specs.declared.note.Kind.TheVariants.{Amount, Level, Timing}
use Rattle.cadence_aggregating.specs.Printed.{before_bar, from_bar, spliced, line_saying}

pub before_found : (front rest : List ℕ) → Lacks 124 front → before_bar (front ++ 124 ∷ rest) ≡ front
before_found [] rest h = refl
before_found (byte ∷ front) rest h = rw (ne_eqb byte 124 h.0) (ap (λ t. byte ∷ t) (before_found front rest h.1))

pub from_found : (front rest : List ℕ) → Lacks 124 front → from_bar (front ++ 124 ∷ rest) ≡ 124 ∷ rest
from_found [] rest h = refl
from_found (byte ∷ front) rest h = rw (ne_eqb byte 124 h.0) (from_found front rest h.1)

before_none : (text : List ℕ) → Lacks 124 text → before_bar text ≡ text
before_none [] h = refl
before_none (byte ∷ text) h = rw (ne_eqb byte 124 h.0) (ap (λ t. byte ∷ t) (before_none text h.1))

from_none : (text : List ℕ) → Lacks 124 text → from_bar text ≡ []
from_none [] h = refl
from_none (byte ∷ text) h = rw (ne_eqb byte 124 h.0) (from_none text h.1)

-- a text that is cut before its first bar
pub field_cut : (text front fields : List ℕ) → text ≡ front ++ fields → Lacks 124 front → AreFields fields → (before_bar text ≡ front) × (from_bar text ≡ fields)
field_cut text front [] whole h are = let same : text ≡ front = whole ∙ append-nil front in rw same (before_none front h, from_none front h)
field_cut text front (byte ∷ bytes) whole h are =
    let same : text ≡ front ++ 124 ∷ bytes = whole ∙ ap (λ b. front ++ b ∷ bytes) are in
    rw same (rw are (before_found front bytes h, from_found front bytes h))

-- both parts make the whole
pub cut_whole : (context : List ℕ) → before_bar context ++ from_bar context ≡ context
cut_whole [] = refl
cut_whole (byte ∷ context) = elim (eqb byte 124) as (λ b. cond b [] (byte ∷ before_bar context) ++ cond b (byte ∷ context) (from_bar context) ≡ byte ∷ context) [
  | true ↦ refl
  | false ↦ ap (λ t. byte ∷ t) (cut_whole context)
]

dropped : (name middle rest : List ℕ) (n m : ℕ) → length name ≡ n → length middle ≡ m → drop (n + m) (name ++ (middle ++ rest)) ≡ rest
dropped name middle rest n m first second =
    sym (drop-drop m n (name ++ (middle ++ rest))) ∙ ap (drop m) (drop_at name (middle ++ rest) n first) ∙ drop_at middle rest m second

-- the parts of a line that are known by their lengths
pub around_spliced : (context values : List ℕ) (name size : ℕ) → name ≡ length (before_bar context) → size ≡ length values → around name size (spliced context values) ≡ context
around_spliced context values name size is_name is_size =
    let front = before_bar context in
    let fields = from_bar context in
    let rest = 58 ∷ (values ++ fields) in
    let one : take name (front ++ rest) ≡ front = take_at front rest name (sym is_name) in
    let long : length (58 ∷ values) ≡ 1 + size = omega (arith, is_size) in
    let skip : drop (name + (1 + size)) (front ++ rest) ≡ fields = dropped front (58 ∷ values) fields name (1 + size) (sym is_name) long in
    let same : name + 1 + size ≡ name + (1 + size) = omega arith in
    ap₂ (λ a b. a ++ b) one (ap (λ n. drop n (front ++ rest)) same ∙ skip) ∙ cut_whole context

pub within_spliced : (context values : List ℕ) (name size : ℕ) → name ≡ length (before_bar context) → size ≡ length values → within name size (spliced context values) ≡ values
within_spliced context values name size is_name is_size =
    let front = before_bar context in
    let fields = from_bar context in
    ap (take size) (dropped front (58 ∷ []) (values ++ fields) name 1 (sym is_name) refl) ∙ take_at values fields size (sym is_size)

-- what a note says of a line, and that it prints as the line
module _ (text context : List ℕ) (name size : ℕ) (is_name : name ≡ length (before_bar context)) where
  module _ (by : ℤ) (written : text ≡ spliced context (number_text (whole by))) (is_size : size ≡ length (number_text (whole by))) where
    pub amount_noted : noted Amount by name size text ≡ amount context by
    amount_noted = ap (λ t. amount (around name size t) by) written ∙ ap (λ c. amount c by) (around_spliced context (number_text (whole by)) name size is_name is_size)

    pub amount_printed : text ≡ line_saying (noted Amount by name size text)
    amount_printed = written ∙ ap line_saying (sym amount_noted)

  module _ (by : ℤ) (values : List ℕ) (written : text ≡ spliced context values) (is_size : size ≡ length values) where
    pub level_noted : noted Level by name size text ≡ level context values
    level_noted =
        ap (λ t. level (around name size t) (within name size t)) written
        ∙ ap₂ level (around_spliced context values name size is_name is_size) (within_spliced context values name size is_name is_size)

    pub level_printed : text ≡ line_saying (noted Level by name size text)
    level_printed = written ∙ ap line_saying (sym level_noted)

    pub timing_noted : noted Timing by name size text ≡ timing context values
    timing_noted =
        ap (λ t. timing (around name size t) (within name size t)) written
        ∙ ap₂ timing (around_spliced context values name size is_name is_size) (within_spliced context values name size is_name is_size)

    pub timing_printed : text ≡ line_saying (noted Timing by name size text)
    timing_printed = written ∙ ap line_saying (sym timing_noted)
