-- Variables of the environment that have the same texts, and what a call says of them.
use Rattle.std.proofs.Common.{◌≡◌, ℕ, Bool, List, [], ◌∷◌, ◌++◌, Option, Some, None, ap, refl, cond, ◌&&◌, ◌||◌}
use Rattle.std.specs.Prelude.{codes}
use Rattle.std.specs.List.{flat_map}
use Rattle.std.specs.Str.{bytes_eq}
use Rattle.cadence_environment.specs.EnvironmentFaults.{IsRefusedVariable}
use Rattle.cadence_environment.specs.TagTexts.{has_bytes, is_overridden, listed_tags, own_tag, pieces_of, tag_of_text, tags_said, trimmed}
use Rattle.cadence_errors.specs.declared.input_error.InputError.{InputError}
use Rattle.cadence_errors.specs.declared.input_error.InputError.TheVariants.{Unusable, OutOfMemory}
use Rattle.cadence_environment.specs.declared.variables.Variable.{Variable}
use Rattle.cadence_environment.specs.declared.variables.Variables.{Variables}
use Rattle.cadence_c.specs.Environment.{IsNamed, Names}

-- Whether a key is overridden depends on the texts of three variables.
same_overridden : (v w : Variables) → v.env.now ≡ w.env.now → v.service.now ≡ w.service.now → v.version.now ≡ w.version.now → (key : Option (List ℕ))
    → is_overridden v key ≡ is_overridden w key
same_overridden v w e s n None = refl
same_overridden v w e s n (Some key) = λ i.
    (bytes_eq key (codes "env") && has_bytes (e i)) || ((bytes_eq key (codes "service") && has_bytes (s i))
    || (bytes_eq key (codes "version") && has_bytes (n i)))

-- So do the tags of a text.
same_listed : (v w : Variables) → v.env.now ≡ w.env.now → v.service.now ≡ w.service.now → v.version.now ≡ w.version.now → (text : List ℕ)
    → listed_tags v text ≡ listed_tags w text
same_listed v w e s n [] = refl
same_listed v w e s n (c ∷ cs) =
    ap (λ (b : Bool). cond b [] (tag_of_text (c ∷ cs) ∷ [])) (same_overridden v w e s n (tag_of_text (c ∷ cs)).key)

-- Variables with the same texts say the same tags.
pub same_tags : (v w : Variables) → v.env.now ≡ w.env.now → v.service.now ≡ w.service.now → v.version.now ≡ w.version.now → v.tags.now ≡ w.tags.now
    → v.entity_id.now ≡ w.entity_id.now → tags_said v ≡ tags_said w
same_tags v w e s n t d = λ i.
    own_tag (codes "env") (e i) ++ (own_tag (codes "service") (s i) ++ (own_tag (codes "version") (n i)
    ++ (flat_map (λ piece. same_listed v w e s n (trimmed piece) i) (pieces_of (t i)) ++ own_tag (codes "dd.internal.entity_id") (d i))))

-- The number of a variable that an error names is that of a variable that is set and that no other one overrides.
pub is_named : (e : InputError Variable) (v : Variables) (n : ℕ) → Names e n → IsRefusedVariable v e → IsNamed v n
is_named (Unusable variable) v n names read = (variable, names, read)
is_named OutOfMemory v n names read = absurd names
