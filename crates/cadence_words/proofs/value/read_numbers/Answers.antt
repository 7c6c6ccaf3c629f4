use Rattle.std.proofs.Common.{rules, ◌≡◌, ◌⊎◌, length, ap, ◌∙◌, sym, subst, inl, inr, Err}
use Rattle.std.specs.List.{AllZip}
use Rattle.cadence_words.specs.Asked.{IsNumberWord, IsValueWord, AllowsSeveral}
use Rattle.cadence_value.specs.Values.{numbers_of}
use Rattle.cadence_words.proofs.WordByWord.{hands_on, items_found, single_found, single_none, texts, too_many}
use Rattle.cadence_words.proofs.value.read_numbers.Goals as goal
use Rattle.cadence_words.proofs.value.read_numbers.Goals.{else-len-ne1-via-then-len-ne1+else-not-allows_several, else-len-ne1-via-else-len-ne1}

pub returns-in-Some : goal.returns-in-Some
returns-in-Some g c =
    subst (IsValueWord c.args.kind c.args.word.now) (sym c.single_value.ensures)
    (single_found c.args.kind c.args.word.now c.in-Some.number (search rules) c.in-Some.ensures)

pub returns-in-None : goal.returns-in-None
returns-in-None g c ns h = single_none c.args.kind c.args.word.now ns (search rules) c.in-None.ensures h

pub returns-then-not-allows_several : goal.returns-then-not-allows_several
returns-then-not-allows_several g c ns h =
    too_many c.args.kind c.args.word.now c.in_ok-items.items.items ns c.in_ok-items.ensures (search rules) (λ packs. absurd (search (rules, packs))) h

pub returns-in_err-numbers : goal.returns-in_err-numbers
returns-in_err-numbers g c =
    let is : c.from_residual-in_err-numbers.result ≡ Err c.in_err-numbers.field-0.0 = search rules in
    let same : c.deref.result.now ≡ c.in_ok-items.items.items = search rules in
    hands_on (IsValueWord c.args.kind c.args.word.now) numbers_of (AllZip (IsNumberWord c.args.kind) (texts c.deref.result.now)) _
    c.in_err-numbers.field-0.0 is
    (λ ns h. (
      ns,
      subst (λ ws. AllZip (IsNumberWord c.args.kind) ws ns) (sym (ap texts same
          ∙ c.in_ok-items.ensures)) h.each,
    )) c.in_err-numbers.ensures

pub returns : goal.returns
returns g c =
    let same : c.deref.result.now ≡ c.in_ok-items.items.items = search rules in
    let few : AllowsSeveral c.args.kind ⊎ (length c.in_ok-items.items.items ≡ 1) = elim c.else-len-ne1.branch [
      | else-len-ne1-via-then-len-ne1+else-not-allows_several w ↦ inl (search rules)
      | else-len-ne1-via-else-len-ne1 w ↦ inr (search rules)
    ] in
    items_found c.args.kind c.args.word.now c.in_ok-items.items.items c.in_ok-numbers.numbers.items c.in_ok-items.ensures
    (subst (λ ws. AllZip (IsNumberWord c.args.kind) (texts ws) c.in_ok-numbers.numbers.items) same c.in_ok-numbers.ensures) few
