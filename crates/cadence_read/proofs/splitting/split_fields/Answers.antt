use Rattle.std.proofs.Common.{rules, arith, ◌≡◌, ◌≢◌, ◌∷◌, ◌++◌, ap, ◌∙◌, sym, List, ℕ, [], None, Some}
use Rattle.std.specs.Option.{option_copied}
use Rattle.cadence_read.specs.LineTexts.{field_parts, parts_of_texts, pieces_left, line_texts}
use Rattle.cadence_read.proofs.LineParts.{fields_once, lacks_bar, none_left, plain_colon, taken_fields}
use Rattle.cadence_read.proofs.Pieces.{pieces-named}
use Rattle.cadence_read.proofs.splitting.split_fields.Goals as goal

other : ◌≢◌ {A = ℕ} 58 124
other e = absurd (omega arith)

pub returns-in_err-fields-clause-texts : goal.returns-in_err-fields-clause-texts
returns-in_err-fields-clause-texts c =
    let none : c.from_residual.result ≡ None = search rules in
    let left : option_copied c.split_piece.result.1 ≡ None = search rules in
    let front = c.args.name.now ++ 58 ∷ c.split_piece.result.0.now in
    let named =
    pieces-named 124 c.args.name.now c.args.rest.now c.split_piece.result.0.now (pieces_left 124 (option_copied c.split_piece.result.1))
    (lacks_bar c.args.name.now c.requires) other c.split_piece.ensures in
    rw none (λ texts is.
    let both : ◌≡◌ {A = List (List ℕ)} ((texts.name ++ (58 ∷ texts.numbers)) ∷ (texts.kind ∷ field_parts texts)) (front ∷ []) = is.1 ∙ named
    ∙ ap (λ o. front ∷ pieces_left 124 o) left in
    absurd cc)

pub returns-then-is_none-clause-texts : goal.returns-then-is_none-clause-texts
returns-then-is_none-clause-texts c =
    let front = c.args.name.now ++ 58 ∷ c.split_piece.result.0.now in
    let kind = c.split_piece-2.result.0.now in
    let some : option_copied c.split_piece.result.1 ≡ Some c.in_ok-fields.field-0.now = search rules in
    let none : option_copied c.split_piece-2.result.1 ≡ None = search rules in
    let named =
    pieces-named 124 c.args.name.now c.args.rest.now c.split_piece.result.0.now (pieces_left 124 (option_copied c.split_piece.result.1))
    (lacks_bar c.args.name.now c.requires) other c.split_piece.ensures in
    let parts = named ∙ ap (λ rest. front ∷ rest) (ap (pieces_left 124) some ∙ c.split_piece-2.ensures) in (
      rw c.plain_texts.ensures.name (plain_colon c.args.name.now c.requires),
      ap parts_of_texts c.plain_texts.ensures.texts
          ∙ sym (parts ∙ ap (λ o. front ∷ kind ∷ pieces_left 124 o) none),
    )

pub returns-then-is_some-clause-texts : goal.returns-then-is_some-clause-texts
returns-then-is_some-clause-texts c texts (plain, e) =
    let front = c.args.name.now ++ 58 ∷ c.split_piece.result.0.now in
    let kind = c.split_piece-2.result.0.now in
    let some : option_copied c.split_piece.result.1 ≡ Some c.in_ok-fields.field-0.now = search rules in
    let named =
    pieces-named 124 c.args.name.now c.args.rest.now c.split_piece.result.0.now (pieces_left 124 (option_copied c.split_piece.result.1))
    (lacks_bar c.args.name.now c.requires) other c.split_piece.ensures in
    let parts = named ∙ ap (λ rest. front ∷ rest) (ap (pieces_left 124) some ∙ c.split_piece-2.ensures) in
    let both : ◌≡◌ {A = List (List ℕ)} ((texts.name ++ (58 ∷ texts.numbers)) ∷ (texts.kind ∷ field_parts texts))
    (front ∷ (kind ∷ pieces_left 124 (option_copied c.split_piece-2.result.1))) = e
    ∙ parts in
    let fields : field_parts texts ≡ pieces_left 124 (option_copied c.split_piece-2.result.1) = cc both in
    let same =
    fields_once texts (pieces_left 124 (option_copied c.split_piece-2.result.1))
    (pieces_left 124 (option_copied c.take_marked.result.1)) (pieces_left 124 (option_copied c.take_marked-2.result.1))
    (pieces_left 124 (option_copied c.take_marked-3.result.1)) (pieces_left 124 (option_copied c.take_marked-4.result.1))
    (option_copied c.take_marked.result.0) (option_copied c.take_marked-2.result.0) (option_copied c.take_marked-3.result.0)
    (option_copied c.take_marked-4.result.0)
    c.take_marked.ensures c.take_marked-2.ensures c.take_marked-3.ensures c.take_marked-4.ensures fields in
    let none : option_copied c.take_marked-4.result.1 ≡ None = none_left 124 (option_copied c.take_marked-4.result.1) same.none in
    absurd (search (rules, none))

pub returns-clause-texts : goal.returns-clause-texts
returns-clause-texts c =
    let front = c.args.name.now ++ 58 ∷ c.split_piece.result.0.now in
    let kind = c.split_piece-2.result.0.now in
    let some : option_copied c.split_piece.result.1 ≡ Some c.in_ok-fields.field-0.now = search rules in
    let none : option_copied c.take_marked-4.result.1 ≡ None = search rules in
    let named =
    pieces-named 124 c.args.name.now c.args.rest.now c.split_piece.result.0.now (pieces_left 124 (option_copied c.split_piece.result.1))
    (lacks_bar c.args.name.now c.requires) other c.split_piece.ensures in
    let parts = named ∙ ap (λ rest. front ∷ rest) (ap (pieces_left 124) some ∙ c.split_piece-2.ensures) in
    let fields =
    taken_fields (line_texts (record {
      name = c.args.name;
      numbers = c.split_piece.result.0;
      kind = c.split_piece-2.result.0;
      rate =
          c.take_marked.result.0;
      tags = c.take_marked-2.result.0;
      container = c.take_marked-3.result.0;
      time = c.take_marked-4.result.0;
    }))
    (pieces_left 124 (option_copied c.split_piece-2.result.1)) (pieces_left 124 (option_copied c.take_marked.result.1))
    (pieces_left 124 (option_copied c.take_marked-2.result.1)) (pieces_left 124 (option_copied c.take_marked-3.result.1))
    (pieces_left 124 (option_copied c.take_marked-4.result.1))
    c.take_marked.ensures c.take_marked-2.ensures c.take_marked-3.ensures c.take_marked-4.ensures (ap (pieces_left 124) none) in
    (plain_colon c.args.name.now c.requires, ap (λ fs. front ∷ kind ∷ fs) fields ∙ sym parts)
