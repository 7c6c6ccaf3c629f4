-- What follows from a fact of a result.
use Rattle.std.proofs.Common.{Result, Ok, Err, IfOk}
use Rattle.std.specs.Prelude.{OnErr}

module _ {T E : Type 0} where
  pub if_ok_more : {P Q : T → Type 0} (r : Result T E) → ((x : T) → P x → Q x) → IfOk r P → IfOk r Q
  if_ok_more (Ok x) more was = more x was
  if_ok_more (Err e) more was = tt

  pub on_err_more : {P Q : Type 0} (r : Result T E) → (P → Q) → OnErr r P → OnErr r Q
  on_err_more (Ok x) more was = tt
  on_err_more (Err e) more was = more was
