-- What the builder of an aggregating sink sets.
use Rattle.std.specs.NonZero.{non_zero_usize_get}
use Rattle.std.specs.Prelude.{ℕ, ◌==◌, if◌then◌else◌, Bool, false, Option, None}
use Rattle.std.specs.declared.time.Duration.{Duration}
use Rattle.cadence_aggregating.specs.declared.builder.AggregatingMetricSinkBuilder.{AggregatingMetricSinkBuilder}

-- the number, or 1 in place of 0
abbrev pub at_least_one : ℕ → ℕ
at_least_one n = if n == 0 then 1 else n

-- The options of an aggregating sink, but for its handler.
pub record SumsOptions : Type 0 where
  -- how many contexts of each kind are held
  pub contexts : ℕ
  -- the most bytes of a line that is held
  pub line : ℕ
  -- whether values are packed
  pub packed : Bool
  -- after which time the sink is flushed by its thread, or none if it has no thread
  pub period : Option Duration

-- the options of a builder that has no setting
abbrev pub no_options : SumsOptions
no_options = record { contexts = 4096; line = 512; packed = false; period = None }

-- the options that a builder has
abbrev pub options_of : {H : Type 0} → AggregatingMetricSinkBuilder H → SumsOptions
options_of b =
    record {
      contexts = non_zero_usize_get b.limits.most_contexts;
      line = b.limits.most_bytes;
      packed = b.limits.packs_values;
      period = b.period;
    }
