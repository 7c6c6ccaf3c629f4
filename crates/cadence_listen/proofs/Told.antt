-- Whether a server can read the lines of a packet.
use Rattle.std.proofs.Common.{◌≡◌, ℕ, List, Bool, true, false}
use Rattle.std.specs.List.{AllByRecursion}
use Rattle.cadence_listen.specs.Filters.{HasOne}
use Rattle.cadence_listen.specs.Readable.{IsReadable, IsUnreadable}

-- What is known of all texts once some of them are left: if all before were readable, then all are if those that are left
-- are. Otherwise one isn't.
pub record Knows (all left : List (List ℕ)) (whole : Bool) : Type 0 where
  pub yes : whole ≡ true → AllByRecursion IsReadable left → AllByRecursion IsReadable all
  pub no : whole ≡ false → HasOne IsUnreadable all
  pub later : HasOne IsUnreadable left → HasOne IsUnreadable all
