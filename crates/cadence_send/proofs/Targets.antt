-- Addresses: texts that are split at their last colon.
use Rattle.std.proofs.Common.{◌≡◌, ℕ, ◌<◌, List, ◌∷◌, ◌++◌, length, take, drop, Option, Some, None, sym, ap, ◌∙◌, true, lit<}
use Rattle.std.specs.Prelude.{is_some}
use Rattle.std.specs.Str.Pattern.{RFindsChar, SplitsAroundMatch}
use Rattle.std.proofs.lemmas.Bool.{false≢true}
use Rattle.std.proofs.lemmas.List.{take-append-drop}
use Rattle.std.proofs.lemmas.Str.Pattern.{drop_at_char}
use Rattle.cadence_value.specs.Finds.{Finds}
use Rattle.cadence_environment.specs.Destinations.{IsPort}
use Rattle.cadence_send.specs.Target.{IsTarget}

cut_last : (text host rest : List ℕ) → SplitsAroundMatch (RFindsChar 58) text host rest → text ≡ host ++ 58 ∷ rest
cut_last text host rest cut =
    sym (take-append-drop cut.0 text) ∙ ap (λ l. take cut.0 text ++ l) (drop_at_char 58 text cut.0 cut.1 cut.2.1 (lit< tt))
    ∙ ap (λ l. l ++ 58 ∷ drop cut.1 text) (sym cut.3) ∙ ap (λ l. host ++ 58 ∷ l) (sym cut.4)

-- A host that is not empty, a colon and a port are an address.
pub target_found : (text host rest : List ℕ) (port : Option ℕ) → SplitsAroundMatch (RFindsChar 58) text host rest → 0 < length host
    → Finds (IsPort rest) port → is_some port ≡ true → IsTarget text
target_found text host rest None cut some found is = absurd (false≢true is)
target_found text host rest (Some port) cut some found is =
    record { host = host; rest = rest; port = port; whole = cut_last text host rest cut; some = some; is = found }
