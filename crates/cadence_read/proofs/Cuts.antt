-- The parts of a line of any client.
use Rattle.std.proofs.Common.{◌≡◌, ◌≢◌, ℕ, List, [], ◌∷◌, ◌++◌, sym, ap₂, ◌∙◌, subst, refl}
use Rattle.std.specs.Prelude.{All}
use Rattle.std.proofs.lemmas.List.{append_assoc}
use Rattle.std.proofs.lemmas.List.Elements.{All-from_recursion, recursion_from_All}
use Rattle.cadence_value.proofs.lists.SplitTexts.{Lacks, cut_at, each_append, lacks_no}
use Rattle.cadence_read.specs.Cuts.{AreFields, IsCut, Parts, line_of_parts}

pub lacks : (c : ℕ) (text : List ℕ) → All (λ byte. byte ≢ c) text → Lacks c text
lacks c text h = recursion_from_All (λ byte. byte ≢ c) text h

-- the part of a line before its first bar
abbrev pub head_of : Parts → List ℕ
head_of p = p.name ++ 58 ∷ p.values

pub head_lacks : (line : List ℕ) (p : Parts) → IsCut line p → Lacks 124 (head_of p)
head_lacks line p h =
    each_append (λ byte. byte ≢ 124) p.name (58 ∷ p.values) (lacks 124 p.name h.name) (λ e. cc, lacks 124 p.values h.values)

pub headed : (p : Parts) → line_of_parts p ≡ head_of p ++ 124 ∷ (p.kind ++ p.fields)
headed p = sym (append_assoc p.name (58 ∷ p.values) (124 ∷ (p.kind ++ p.fields)))

-- A line without a bar is none of a metric.
pub no_bar : (line : List ℕ) (p : Parts) → All (λ byte. byte ≢ 124) line → IsCut line p → ⊥
no_bar line p none h = lacks_no 124 (head_of p) (p.kind ++ p.fields) (subst (Lacks 124) (h.whole ∙ headed p) (lacks 124 line none))

-- A line without a colon before its first bar is none of a metric.
pub no_colon : (line head others : List ℕ) (p : Parts) → line ≡ head ++ 124 ∷ others → All (λ byte. byte ≢ 124) head
    → All (λ byte. byte ≢ 58) head → IsCut line p → ⊥
no_colon line head others p whole bar none h =
    let (same, rest) = cut_at 124 head (head_of p) (124 ∷ others) (124 ∷ (p.kind ++ p.fields)) (lacks 124 head bar) (head_lacks line p h) refl refl
    (sym whole ∙ h.whole ∙ headed p) in
    lacks_no 58 p.name p.values (subst (Lacks 58) same (lacks 58 head none))

pub lacks_both : (c : ℕ) (xs ys : List ℕ) → Lacks c (xs ++ ys) → Lacks c xs × Lacks c ys
lacks_both c [] ys h = (tt, h)
lacks_both c (x ∷ xs) ys (h, hs) = let (front, back) = lacks_both c xs ys hs in ((h, front), back)

-- What is cut at the first bar, at the first colon before it and at the next bar are the parts of the line.
pub found : (line head others : List ℕ) (p : Parts) → line ≡ head ++ 124 ∷ others → All (λ byte. byte ≢ 124) head → head ≡ head_of p
    → All (λ byte. byte ≢ 58) p.name → others ≡ p.kind ++ p.fields → All (λ byte. byte ≢ 124) p.kind → AreFields p.fields → IsCut line p
found line head others p whole bar named colon cut kind fields =
    let both = lacks_both 124 p.name (58 ∷ p.values) (subst (Lacks 124) named (lacks 124 head bar)) in
    record {
      whole = whole ∙ ap₂ (λ h o. h ++ 124 ∷ o) named cut ∙ sym (headed p);
      colon = colon;
      name = All-from_recursion (λ byte. byte ≢ 124) p.name both.0;
      values = All-from_recursion (λ byte. byte ≢ 124) p.values both.1.1;
      kind = kind;
      fields = fields;
    }
