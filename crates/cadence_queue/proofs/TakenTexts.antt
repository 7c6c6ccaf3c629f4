-- The texts that a taker moved, those that it returned, and those that it still has.
use Rattle.std.proofs.Common.{rules, ◌≡◌, List, [], ◌∷◌, ◌++◌, length, sym, ap, ◌∙◌}
use Rattle.std.proofs.lemmas.List.{append-nil, append_cancel_left}

-- If it has none, it returned all.
pub none_left : {T : Type 0} (moved given left : List T) → moved ≡ given ++ left → length left ≡ 0 → moved ≡ given
none_left moved given [] whole none = whole ∙ append-nil given
none_left moved given (x ∷ xs) whole none = absurd (search (rules, none))

-- If it returned all, it has none.
pub all_given : {T : Type 0} (moved given left : List T) → moved ≡ given ++ left → moved ≡ given → length left ≡ 0
all_given moved given left whole same = ap length (append_cancel_left given left [] (sym whole ∙ same ∙ sym (append-nil given)))
