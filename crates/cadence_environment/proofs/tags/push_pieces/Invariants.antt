use Rattle.std.proofs.Common.{◌≡◌, ◌++◌, map, take}
use Rattle.std.specs.List.{flat_map}
use Rattle.cadence_text.specs.Owned.{tag_of_owned}
use Rattle.cadence_environment.specs.TagTexts.{piece_tags}
use Rattle.cadence_environment.proofs.tags.push_pieces.Given as goal

abbrev pub invariant-loop-piece : goal.invariant-loop-piece
invariant-loop-piece g l =
    map tag_of_owned l.tags.items
    ≡ map tag_of_owned l.initial.tags.items ++ flat_map (piece_tags l.variables) (map (λ w. w.now) (take l.piece-index l.pieces))
