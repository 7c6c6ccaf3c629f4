-- The draft that the fields of a `DraftLine` represent.
use Rattle.std.specs.Prelude.{ℕ, ◌<◌, ◌≤◌, List, ◌++◌, Option, None, All, length, take, drop}
use Rattle.std.specs.Option.{option_copied}
use Rattle.std.specs.Str.{IsUtf8}
use Rattle.cadence_text.specs.declared.line.draft.head.Head.{Head}
use Rattle.cadence_text.specs.declared.line.draft.DraftLine.TheInside.{Inside}
use Rattle.cadence_text.specs.Cleaned.{container_as}
use Rattle.cadence_text.specs.Draft.{Draft, head_text}
use Rattle.cadence_text.specs.Metric.{no_enrichment}
use Rattle.cadence_text.specs.Record.{enrichment_of}
use Rattle.cadence_value.specs.Number.{IsDecimal}
use Rattle.cadence_value.specs.Values.{numbers_of}

-- the text of a head: the name is the prefix followed by the key, and the Rust type of the numbers makes no difference
abbrev pub text_of_head : {Z : Type 0} → Head Z → List ℕ
text_of_head h = head_text (h.prefix.now ++ h.key.now) (numbers_of h.value) h.kind

-- The name of the head is in UTF-8, and each of its numbers could be a `Decimal`.
pub record IsRepresentableHead {Z : Type 0} (h : Head Z) : Type 0 where
  pub name : IsUtf8 (h.prefix.now ++ h.key.now)
  pub numbers : All IsDecimal (numbers_of h.value)

-- the draft of the text of a head, a text of tags and a container id, without other options
abbrev pub plain_draft : List ℕ → List ℕ → Option (List ℕ) → Draft
plain_draft head tags container = record {
  head = head;
  tags = tags;
  rate = None;
  container = container;
  enrichment = no_enrichment;
  time = None;
}

-- the draft of a head, a text of tags and a container id, without other options
abbrev pub draft_of_head : {Z : Type 0} → Head Z → List ℕ → Option (List ℕ) → Draft
draft_of_head head tags container = plain_draft (text_of_head head) tags container

-- the draft of a `DraftLine`, which stores the head and the tags as one text, and how long the head is
abbrev pub draft_of_inside : {Z : Type 0} → Inside Z → Draft
draft_of_inside d = record {
  head = take d.head d.line.bytes.items;
  tags = drop d.head d.line.bytes.items;
  rate = d.rate;
  container = container_as d.is_cleaned (option_copied d.container);
  enrichment = enrichment_of d.enrichment;
  time = d.time;
}

-- A head can end at this place of the text: it is not empty, and the texts on both sides of the place are in UTF-8.
abbrev pub IsCutAt : ℕ → List ℕ → Type 0
IsCutAt head items = (0 < head) × (head ≤ length items) × ∥ IsUtf8 (take head items) × IsUtf8 (drop head items) ∥₁
