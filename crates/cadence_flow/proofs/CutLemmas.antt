-- How a cut with short counts (`IsCut`) grows: by a held line, by a flush, and by an oversize line that goes out alone.
use Rattle.std.proofs.Common.{◌≡◌, ℕ, ◌<◌, ◌≤◌, Bool, true, false, if◌then◌else◌, List, [], ◌∷◌, ◌++◌, Option, Some, None, Ok, length, map}
use Rattle.std.proofs.Common.{take, ap, sym, ◌∙◌, subst, refl, append_assoc, ◌⊎◌, ⊎_elim, inl, inr}
use Rattle.std.specs.Prelude.{All}
use Rattle.std.specs.List.{concat, flat_map}
use Rattle.std.proofs.Math.Nat.{eq-or-lt_of_le}
use Rattle.std.proofs.lemmas.List.{append-nil, append_cancel_left, append_cancel_right, map-append}
use Rattle.std.proofs.lemmas.List.Elements.{All-nil, All-push, All-append}
use Rattle.std.proofs.lemmas.List.Folds.{concat-append}
use Rattle.std.proofs.lemmas.Grind.{flat_map-append}
use Rattle.cadence_flow.specs.Frame.{Format, frame_of, is_oversize, taken_stream}
use Rattle.cadence_flow.specs.Offers.{IsShort, IsOffered, FlushesOffers}
use Rattle.cadence_flow.specs.Cut.{Run, IsPacketRun, IsCut, bytes_taken, offers_in}

-- a list of offers, or of accepted lines with their counts
abbrev Pairs : Type 0
Pairs = List (List ℕ × ℕ)

bytes_taken-append : (a b : Pairs) → bytes_taken (a ++ b) ≡ bytes_taken a ++ bytes_taken b
bytes_taken-append a b = ap concat (map-append (λ p. take p.1 p.0) a b) ∙ concat-append (map (λ p. take p.1 p.0) a) (map (λ p. take p.1 p.0) b)

bytes_taken-one : (packet : List ℕ) (n : ℕ) → bytes_taken ((packet, n) ∷ []) ≡ take n packet
bytes_taken-one packet n = append-nil (take n packet)

pub stream_more : (format : Format) (lines : Pairs) (line : List ℕ) (n : ℕ)
    → taken_stream format (lines ++ (line, n) ∷ []) ≡ taken_stream format lines ++ frame_of format line n
stream_more format lines line n =
    flat_map-append (λ (k : List ℕ × ℕ). frame_of format k.0 k.1) lines ((line, n) ∷ [])
    ∙ ap (λ l. taken_stream format lines ++ l) (append-nil (frame_of format line n))

module _ (format : Format) (offers accepted : Pairs) (held : List ℕ) (cut : IsCut format offers accepted held) where
  -- A cut stays a cut if one more line is held.
  pub cut_held : (line : List ℕ) (n : ℕ) → IsCut format offers (accepted ++ (line, n) ∷ []) (held ++ frame_of format line n)
  cut_held line n =
      record {
        runs = cut.runs;
        shorts = cut.shorts;
        lines = cut.lines ++ (line, n) ∷ [];
        each = cut.each;
        all_short = cut.all_short;
        all_offers = cut.all_offers;
        all_lines = ap (λ l. l ++ (line, n) ∷ []) cut.all_lines ∙ append_assoc (flat_map (λ run. run.lines) cut.runs) cut.lines ((line, n) ∷ []);
        rest = sym (append_assoc (bytes_taken cut.shorts) held (frame_of format line n)) ∙ ap (λ l. l ++ frame_of format line n) cut.rest
            ∙ sym (stream_more format cut.lines line n);
      }

  -- A cut stays a cut if the writer took some of the held text in short counts.
  cut_shorts : (more : Pairs) (rest : List ℕ) → All IsShort more → bytes_taken more ++ rest ≡ held → IsCut format (offers ++ more) accepted rest
  cut_shorts more rest short text =
      record {
        runs = cut.runs;
        shorts = cut.shorts ++ more;
        lines = cut.lines;
        each = cut.each;
        all_short = All-append IsShort cut.shorts more cut.all_short short;
        all_offers = ap (λ o. o ++ more) cut.all_offers ∙ append_assoc (flat_map offers_in cut.runs) cut.shorts more;
        all_lines = cut.all_lines;
        rest = ap (λ l. l ++ rest) (bytes_taken-append cut.shorts more) ∙ append_assoc (bytes_taken cut.shorts) (bytes_taken more) rest
            ∙ ap (λ l. bytes_taken cut.shorts ++ l) text ∙ cut.rest;
      }

  -- A cut stays a cut if the writer took all of the held text: in short counts, and then one packet that it took whole.
  cut_whole : (more : Pairs) (last : List ℕ) → All IsShort more → bytes_taken (more ++ (last, length last) ∷ []) ≡ held
      → IsCut format (offers ++ (more ++ (last, length last) ∷ [])) accepted []
  cut_whole more last short text =
      let run : Run = record { shorts = cut.shorts ++ more; last = last; lines = cut.lines } in
      let whole = (last, length last) ∷ [] in
      let is_run : IsPacketRun format run = record {
        all_short = All-append IsShort cut.shorts more cut.all_short short;
        frames = ap bytes_taken (append_assoc cut.shorts more whole) ∙ bytes_taken-append cut.shorts (more ++ whole)
            ∙ ap (λ l. bytes_taken cut.shorts ++ l) text ∙ cut.rest;
      } in
      record {
        runs = cut.runs ++ run ∷ [];
        shorts = [];
        lines = [];
        each = All-push (IsPacketRun format) cut.runs run cut.each is_run;
        all_short = All-nil IsShort;
        all_offers = ap (λ o. o ++ (more ++ whole)) cut.all_offers ∙ append_assoc (flat_map offers_in cut.runs) cut.shorts (more ++ whole)
            ∙ ap (λ o. flat_map offers_in cut.runs ++ o) (sym (append_assoc cut.shorts more whole) ∙ sym (append-nil (offers_in run)))
            ∙ sym (flat_map-append offers_in cut.runs (run ∷ [])) ∙ sym (append-nil _);
        all_lines = cut.all_lines ∙ ap (λ o. flat_map (λ r. r.lines) cut.runs ++ o) (sym (append-nil cut.lines))
            ∙ sym (flat_map-append (λ r. r.lines) cut.runs (run ∷ [])) ∙ sym (append-nil _);
        rest = refl;
      }

-- The bytes that the writer took in the later offers are those that left the held text.
gone : (offers more : Pairs) (held rest : List ℕ) → bytes_taken (offers ++ more) ++ rest ≡ bytes_taken offers ++ held
    → bytes_taken more ++ rest ≡ held
gone offers more held rest text =
    append_cancel_left (bytes_taken offers) (bytes_taken more ++ rest) held (sym (append_assoc (bytes_taken offers) (bytes_taken more) rest)
    ∙ ap (λ l. l ++ rest) (sym (bytes_taken-append offers more)) ∙ text)

-- A cut stays a cut after a flush, whether the flush succeeded or not.
pub cut_flush : (format : Format) (offers after accepted : Pairs) (held rest : List ℕ) (ok : Bool) → IsCut format offers accepted held
    → FlushesOffers (Some offers) (Some after) held ok → (ok ≡ true → rest ≡ []) → bytes_taken after ++ rest ≡ bytes_taken offers ++ held
    → IsCut format after accepted rest
cut_flush format offers after accepted [] rest ok cut flushed emptied text =
    let same : after ≡ offers = cc in
    let none : rest ≡ [] = append_cancel_left (bytes_taken offers) rest [] (ap (λ o. bytes_taken o ++ rest) (sym same) ∙ text) in
    subst (λ o. IsCut format o accepted rest) (sym same) (subst (λ r. IsCut format offers accepted r) (sym none) cut)
cut_flush format offers after accepted (b ∷ held) rest true cut (more, last, short, is) emptied text =
    let new : after ≡ offers ++ (more ++ (last, length last) ∷ []) = cc in
    let none = emptied refl in
    let all = gone offers (more ++ (last, length last) ∷ []) (b ∷ held) rest (ap (λ o. bytes_taken o ++ rest) (sym new) ∙ text) in
    let sent : bytes_taken (more ++ (last, length last) ∷ []) ≡ b ∷ held = sym (append-nil _)
    ∙ ap (λ r. bytes_taken (more ++ (last, length last) ∷ []) ++ r) (sym none) ∙ all in
    subst (λ o. IsCut format o accepted rest) (sym new) (subst (λ r. IsCut format (offers ++ (more ++ (last, length last) ∷ [])) accepted r)
    (sym none) (cut_whole format offers accepted (b ∷ held) cut more last short sent))
cut_flush format offers after accepted (b ∷ held) rest false cut (more, short, is) emptied text =
    let new : after ≡ offers ++ more = cc in
    subst (λ o. IsCut format o accepted rest) (sym new) (cut_shorts format offers accepted (b ∷ held) cut more rest short
    (gone offers more (b ∷ held) rest (ap (λ o. bytes_taken o ++ rest) (sym new)
    ∙ text)))

module _ (format : Format) (offers accepted : Pairs) (line : List ℕ) (over : is_oversize format line ≡ true) where
  frame_over : (n : ℕ) → frame_of format line n ≡ take n line
  frame_over n = ap (λ (b : Bool). if b then take n line else line ++ format.ending) over

  -- A cut stays a cut after an oversize line of which only a part was taken.
  alone_short : (n : ℕ) → IsCut format offers accepted [] → n < length line → IsCut format (offers ++ (line, n) ∷ []) (accepted ++ (line, n) ∷ []) []
  alone_short n cut less =
      let held = cut_held format offers accepted [] cut line n in
      cut_shorts format offers (accepted ++ (line, n) ∷ []) (frame_of format line n) held ((line, n) ∷ []) []
      (All-push IsShort [] (line, n) (All-nil IsShort) less) (append-nil _
      ∙ bytes_taken-one line n ∙ sym (frame_over n))

  -- A cut stays a cut after an oversize line that was taken whole.
  alone_whole : IsCut format offers accepted [] → IsCut format (offers ++ (line, length line) ∷ []) (accepted ++ (line, length line) ∷ []) []
  alone_whole cut =
      let held = cut_held format offers accepted [] cut line (length line) in
      cut_whole format offers (accepted ++ (line, length line) ∷ []) (frame_of format line (length line)) held [] line (All-nil IsShort)
      (bytes_taken-one line (length line)
      ∙ sym (frame_over (length line)))

  pub cut_alone : (n : ℕ) → IsCut format offers accepted [] → n ≤ length line
      → IsCut format (offers ++ (line, n) ∷ []) (accepted ++ (line, n) ∷ []) []
  cut_alone n cut most =
      ⊎_elim (λ e. subst (λ k. IsCut format (offers ++ (line, k) ∷ []) (accepted ++ (line, k) ∷ []) []) (sym e) (alone_whole cut))
      (λ less. alone_short n cut less) (eq-or-lt_of_le most)

-- A cut stays a cut after a write. Each of the four lemmas below is about one way in which the write ends.
module _ (format : Format) (offers after accepted : Pairs) (held rest line : List ℕ) (cut : IsCut format offers accepted held) where
  frame_within : (n : ℕ) → is_oversize format line ≡ false → frame_of format line n ≡ line ++ format.ending
  frame_within n within = ap (λ (b : Bool). if b then take n line else line ++ format.ending) within

  -- The line fitted and was held.
  pub write_held : (n : ℕ) → is_oversize format line ≡ false → after ≡ offers → rest ≡ held ++ (line ++ format.ending)
      → IsCut format after (accepted ++ (line, n) ∷ []) rest
  write_held n within same is =
      subst (λ o. IsCut format o (accepted ++ (line, n) ∷ []) rest) (sym same)
      (subst (λ r. IsCut format offers (accepted ++ (line, n) ∷ []) r) (ap (λ f. held ++ f) (frame_within n within)
      ∙ sym is) (cut_held format offers accepted held cut line n))

  -- The held text went first, and then the line was held.
  pub write_closes : (n : ℕ) → is_oversize format line ≡ false → FlushesOffers (Some offers) (Some after) held true
      → rest ≡ line ++ format.ending → bytes_taken after ++ rest ≡ (bytes_taken offers ++ held) ++ frame_of format line n
      → IsCut format after (accepted ++ (line, n) ∷ []) rest
  write_closes n within flushed is text =
      let frame = frame_within n within in
      let out : bytes_taken after ≡ bytes_taken offers ++ held = append_cancel_right (bytes_taken after) (bytes_taken offers ++ held) rest (text
      ∙ ap (λ f. (bytes_taken offers ++ held) ++ f) (frame ∙ sym is)) in
      let closed = cut_flush format offers after accepted held [] true cut flushed (λ _. refl) (append-nil (bytes_taken after) ∙ out) in
      subst (λ r. IsCut format after (accepted ++ (line, n) ∷ []) r) (frame ∙ sym is) (cut_held format after accepted [] closed line n)

  -- The held text went first, and then the oversize line went out alone.
  pub write_alone : (n : ℕ) → is_oversize format line ≡ true → n ≤ length line
      → ((mid : Option Pairs) × FlushesOffers (Some offers) mid held true × IsOffered mid (Some after) line (Ok n)) → rest ≡ []
      → bytes_taken after ++ rest ≡ (bytes_taken offers ++ held) ++ frame_of format line n
      → IsCut format after (accepted ++ (line, n) ∷ []) rest
  write_alone n over most (None, flushed, step) none text = absurd (none_flushed held flushed)
    where
      none_flushed : (h : List ℕ) → FlushesOffers (Some offers) None h true → ⊥
      none_flushed [] flushed = cc
      none_flushed (b ∷ bs) (more, last, short, is) = cc
  write_alone n over most (Some mid, flushed, step) none text =
      let new : after ≡ mid ++ (line, n) ∷ [] = cc in
      let frame = frame_over format offers accepted line over n in
      let split : bytes_taken after ≡ bytes_taken mid ++ take n line = ap bytes_taken new ∙ bytes_taken-append mid ((line, n) ∷ [])
      ∙ ap (λ l. bytes_taken mid ++ l) (bytes_taken-one line n) in
      let all : bytes_taken after ≡ (bytes_taken offers ++ held) ++ take n line = sym (append-nil (bytes_taken after))
      ∙ ap (λ r. bytes_taken after ++ r) (sym none) ∙ text ∙ ap (λ f. (bytes_taken offers ++ held) ++ f) frame in
      let out : bytes_taken mid ≡ bytes_taken offers ++ held =
      append_cancel_right (bytes_taken mid) (bytes_taken offers ++ held) (take n line) (sym split ∙ all) in
      let closed = cut_flush format offers mid accepted held [] true cut flushed (λ _. refl) (append-nil (bytes_taken mid) ∙ out) in
      subst (λ o. IsCut format o (accepted ++ (line, n) ∷ []) rest) (sym new)
      (subst (λ r. IsCut format (mid ++ (line, n) ∷ []) (accepted ++ (line, n) ∷ []) r) (sym none)
      (cut_alone format mid accepted line over n closed most))

  -- The call returned an error: the flush failed, or the oversize line was refused.
  pub write_fails : (FlushesOffers (Some offers) (Some after) held false ⊎ (FlushesOffers (Some offers) (Some after) held true × (rest ≡ [])))
      → bytes_taken after ++ rest ≡ (bytes_taken offers ++ held) ++ [] → IsCut format after accepted rest
  write_fails (inl flushed) text = cut_flush format offers after accepted held rest false cut flushed (λ no. absurd cc) (text ∙ append-nil _)
  write_fails (inr (flushed, none)) text = cut_flush format offers after accepted held rest true cut flushed (λ _. none) (text ∙ append-nil _)
